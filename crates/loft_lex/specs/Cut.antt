-- The page of the language as a relation: how a text is cut into blanks, comments and tokens (docs/LANGUAGE.md, "Tokens").
use Rattle.std.specs.Prelude.{ℕ, ◌+◌, ◌<◌, ◌++◌, Bool, ◌||◌, ◌==◌, List, [], ◌∷◌, length, Ok, Err, IsTrue, codes}
use Rattle.std.specs.Bool.{IsFalse}
use Rattle.std.specs.List.{list_all}
use Rattle.std.specs.Str.{bytes_eq}
use Rattle.loft_lex.specs.Bytes.{is_blank, is_digit, is_letter, is_name_byte, is_comment_byte, is_text_byte, begins, value_of, max_number}
use Rattle.loft_lex.specs.Sign.{is_sign}
use Rattle.loft_lex.specs.Fits.{is_text, IsOfKind}
use Rattle.loft_lex.specs.Tokens.{Found, moved, with_token}
use Rattle.loft_lex.specs.declared.token.TokenKind.{TokenKind}
use Rattle.loft_lex.specs.declared.token.TokenKind.TheVariants.{Name, Word, Number, Text, Sign}
use Rattle.loft_lex.specs.declared.token.LexError.TheVariants.{BadByte, OpenText, LongName, LongText, BadNumber}

-- the byte after the sign makes a longer one of it, or a comment
abbrev pub lengthens : List ℕ → ℕ → Bool
lengthens sign b = is_sign (sign ++ b ∷ []) || bytes_eq (sign ++ b ∷ []) (codes "//")

-- the token goes as far as it can: the rest doesn't go on with it
abbrev pub IsWhole : TokenKind → List ℕ → List ℕ → Type 0
IsWhole Name bytes rest = IsFalse (begins is_name_byte rest)
IsWhole Word bytes rest = IsFalse (begins is_name_byte rest)
IsWhole (Number value) bytes rest = IsFalse (begins is_name_byte rest)
IsWhole Text bytes rest = Unit {0}
IsWhole Sign bytes rest = IsFalse (begins (lengthens bytes) rest)

-- what may begin a blank, a name, a number or a text
abbrev pub begins_other : ℕ → Bool
begins_other b = is_blank b || is_letter b || is_digit b || b == 34

-- a text is cut into tokens up to its end, or up to its first fault
pub data Cut : List ℕ → Found → Type 0 where
  nothing : Cut [] (Ok [])
  blank : (b : ℕ) (rest : List ℕ) (found : Found) → IsTrue (is_blank b) → Cut rest found → Cut (b ∷ rest) (moved 1 found)
  comment : (line rest : List ℕ) (found : Found) → IsTrue (list_all is_comment_byte line) → IsFalse (begins is_comment_byte rest) → Cut rest found → Cut (47 ∷ 47 ∷ (line ++ rest)) (moved (2 + length line) found)
  token : (kind : TokenKind) (bytes rest : List ℕ) (found : Found) → IsOfKind kind bytes → IsWhole kind bytes rest → Cut rest found → Cut (bytes ++ rest) (with_token (record { kind = kind; from = 0; to = length bytes }) (moved (length bytes) found))
  long_name : (bytes rest : List ℕ) → IsTrue (begins is_letter bytes) → IsTrue (list_all is_name_byte bytes) → 64 < length bytes → Cut (bytes ++ rest) (Err (LongName 0))
  large_number : (digits rest : List ℕ) → IsTrue (begins is_digit digits) → IsTrue (list_all is_digit digits) → IsFalse (begins is_digit rest) → max_number < value_of digits → Cut (digits ++ rest) (Err (BadNumber 0))
  number_and_letter : (digits rest : List ℕ) → IsTrue (begins is_digit digits) → IsTrue (list_all is_digit digits) → IsTrue (begins is_letter rest) → Cut (digits ++ rest) (Err (BadNumber 0))
  long_text : (inside rest : List ℕ) → IsTrue (list_all is_text_byte inside) → 120 < length inside → Cut (34 ∷ (inside ++ rest)) (Err (LongText 0))
  text_to_end : (inside : List ℕ) → IsTrue (is_text inside) → Cut (34 ∷ inside) (Err (OpenText 0))
  text_to_line_feed : (inside rest : List ℕ) → IsTrue (is_text inside) → Cut (34 ∷ (inside ++ 10 ∷ rest)) (Err (OpenText 0))
  bad_byte_inside : (inside : List ℕ) (b : ℕ) (rest : List ℕ) → IsTrue (is_text inside) → IsFalse (is_text_byte b || b == 34 || b == 10) → Cut (34 ∷ (inside ++ b ∷ rest)) (Err (BadByte (1 + length inside)))
  bad_byte : (b : ℕ) (rest : List ℕ) → IsFalse (begins_other b) → IsFalse (is_sign (b ∷ [])) → IsFalse (begins (lengthens (b ∷ [])) rest) → Cut (b ∷ rest) (Err (BadByte 0))
