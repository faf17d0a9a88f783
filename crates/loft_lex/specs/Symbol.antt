-- What a grammar sees of a token: what it is, and where it begins.
use Rattle.std.specs.Prelude.{ℕ, List, map, slice_range, ℤ, Option, Some, None}
use Rattle.loft_lex.specs.Word.{word_of}
use Rattle.loft_lex.specs.Sign.{sign_of}
use Rattle.loft_lex.specs.Fits.{between_quotes}
use Rattle.loft_lex.specs.declared.word.Word.{Word as LanguageWord}
use Rattle.loft_lex.specs.declared.sign.Sign.{Sign as LanguageSign}
use Rattle.loft_lex.specs.declared.token.Token.{Token}
use Rattle.loft_lex.specs.declared.token.TokenKind.{TokenKind}
use Rattle.loft_lex.specs.declared.token.TokenKind.TheVariants.{Name, Word, Number, Text, Sign}

-- A name with its bytes, a word, a number with its value, a text with the bytes between its quotes, a sign.
-- No token of a text is `Unreadable` (`lex`): its bytes are the word or sign that its kind says.
pub data What : Type 0 where
  Named : List ℕ → What
  Keyword : LanguageWord → What
  Numeral : ℤ → What
  Quoted : List ℕ → What
  Mark : LanguageSign → What
  Unreadable : What

-- a symbol of the grammar, and the offset of its first byte
pub record Symbol : Type 0 where
  pub at : ℕ
  pub what : What

-- the word, where there is one
abbrev pub keyword : Option LanguageWord → What
keyword (Some word) = Keyword word
keyword None = Unreadable

-- the sign, where there is one
abbrev pub mark : Option LanguageSign → What
mark (Some sign) = Mark sign
mark None = Unreadable

-- what bytes of this kind are
abbrev pub what_of : TokenKind → List ℕ → What
what_of Name bytes = Named bytes
what_of Word bytes = keyword (word_of bytes)
what_of (Number value) bytes = Numeral value
what_of Text bytes = Quoted (between_quotes bytes)
what_of Sign bytes = mark (sign_of bytes)

-- what a token of the text is, and where it begins
abbrev pub symbol_of : List ℕ → Token → Symbol
symbol_of text t = record { at = t.from; what = what_of t.kind (slice_range text t.from t.to) }

-- the symbols of a text's tokens
abbrev pub symbols : List ℕ → List Token → List Symbol
symbols text ts = map (symbol_of text) ts
