-- The bytes of a word or a sign spell one.
use Rattle.std.proofs.Common.{◌≡◌, ◌≢◌, ℕ, true, Option, Some, None, is_some, List, All}
use Rattle.std.proofs.lemmas.Bool.{false≢true}
use Rattle.std.proofs.lemmas.List.Elements.{All-map}
use Rattle.loft_lex.specs.Word.{word_of}
use Rattle.loft_lex.specs.Sign.{sign_of}
use Rattle.loft_lex.specs.Fits.{Fits, IsOfKind}
use Rattle.loft_lex.specs.Symbol.{Unreadable, keyword, mark, what_of, symbol_of, symbols}
use Rattle.loft_lex.specs.declared.word.Word.{Word as LanguageWord}
use Rattle.loft_lex.specs.declared.sign.Sign.{Sign as LanguageSign}
use Rattle.loft_lex.specs.declared.token.Token.{Token}
use Rattle.loft_lex.specs.declared.token.TokenKind.{TokenKind}
use Rattle.loft_lex.specs.declared.token.TokenKind.TheVariants.{Name, Word, Number, Text, Sign}

word_readable : (found : Option LanguageWord) → is_some found ≡ true → keyword found ≢ Unreadable
word_readable (Some word) some = λ e. cc
word_readable None some = absurd (false≢true some)

sign_readable : (found : Option LanguageSign) → is_some found ≡ true → mark found ≢ Unreadable
sign_readable (Some sign) some = λ e. cc
sign_readable None some = absurd (false≢true some)

readable : (kind : TokenKind) (bytes : List ℕ) → IsOfKind kind bytes → what_of kind bytes ≢ Unreadable
readable Name bytes fits = λ e. cc
readable Word bytes fits = word_readable (word_of bytes) fits
readable (Number value) bytes fits = λ e. cc
readable Text bytes fits = λ e. cc
readable Sign bytes fits = sign_readable (sign_of bytes) fits

pub all_readable : (text : List ℕ) (ts : List Token) → All (Fits text) ts → All (λ s. s.what ≢ Unreadable) (symbols text ts)
all_readable text ts fits = All-map (λ s. s.what ≢ Unreadable) (symbol_of text) ts (λ k d inside. readable _ _ (fits k d inside).kind)
