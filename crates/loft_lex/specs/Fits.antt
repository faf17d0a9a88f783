-- What the bytes of a token are (docs/LANGUAGE.md, "Tokens").
use Rattle.std.specs.Prelude.{◌≡◌, ℕ, ◌-◌, ◌<◌, ◌≤◌, ◌++◌, Bool, not, nat_le, ◌&&◌, List, [], ◌∷◌, length, take, drop, slice_range, IsTrue, pos, ℤ}
use Rattle.std.specs.List.{list_all}
use Rattle.loft_lex.specs.Bytes.{is_digit, is_letter, is_name_byte, is_text_byte, begins, value_of, max_number}
use Rattle.loft_lex.specs.Word.{is_word}
use Rattle.loft_lex.specs.Sign.{is_sign}
use Rattle.loft_lex.specs.declared.token.Token.{Token}
use Rattle.loft_lex.specs.declared.token.TokenKind.{TokenKind}
use Rattle.loft_lex.specs.declared.token.TokenKind.TheVariants.{Name, Word, Number, Text, Sign}

-- a letter or `_`, then letters, digits and `_`; at most 64 bytes, and no word of the language
abbrev pub is_name : List ℕ → Bool
is_name bytes = begins is_letter bytes && list_all is_name_byte bytes && nat_le (length bytes) 64 && not (is_word bytes)

-- at most 120 bytes that may stand in a text
abbrev pub is_text : List ℕ → Bool
is_text bytes = list_all is_text_byte bytes && nat_le (length bytes) 120

-- the bytes between the quotes
abbrev pub between_quotes : List ℕ → List ℕ
between_quotes bytes = take (length bytes - 2) (drop 1 bytes)

-- a quote, a text and a quote
pub record IsQuoted (bytes : List ℕ) : Type 0 where
  pub quotes : bytes ≡ 34 ∷ (between_quotes bytes ++ 34 ∷ [])
  pub inside : IsTrue (is_text (between_quotes bytes))

-- one or more digits that spell the value, which is small enough
pub record IsNumber (value : ℤ) (bytes : List ℕ) : Type 0 where
  pub first : IsTrue (begins is_digit bytes)
  pub digits : IsTrue (list_all is_digit bytes)
  pub spelled : value ≡ pos (value_of bytes)
  pub small : value_of bytes ≤ max_number

-- the bytes are what the kind says
abbrev pub IsOfKind : TokenKind → List ℕ → Type 0
IsOfKind Name bytes = IsTrue (is_name bytes)
IsOfKind Word bytes = IsTrue (is_word bytes)
IsOfKind (Number value) bytes = IsNumber value bytes
IsOfKind Text bytes = IsQuoted bytes
IsOfKind Sign bytes = IsTrue (is_sign bytes)

-- the token lies within the text, and its bytes are what its kind says
pub record Fits (text : List ℕ) (t : Token) : Type 0 where
  pub some : t.from < t.to
  pub within : t.to ≤ length text
  pub kind : IsOfKind t.kind (slice_range text t.from t.to)
