-- What stands at the front of a text (docs/LANGUAGE.md, "Tokens").
use Rattle.std.specs.Prelude.{ℕ, ◌+◌, nat_lt, ◌==◌, ◌||◌, ◌&&◌, List, [], ◌∷◌, take, drop, if◌then◌else◌, pos}
use Rattle.std.specs.List.{prefix_len}
use Rattle.loft_lex.specs.Bytes.{is_blank, is_digit, is_letter, is_name_byte, is_comment_byte, is_text_byte, begins, value_of, max_number}
use Rattle.loft_lex.specs.Word.{is_word}
use Rattle.loft_lex.specs.Sign.{is_sign}
use Rattle.loft_lex.specs.declared.token.TokenKind.{TokenKind}
use Rattle.loft_lex.specs.declared.token.TokenKind.TheVariants.{Name, Word, Number, Text, Sign}
use Rattle.loft_lex.specs.declared.token.LexError.{LexError}
use Rattle.loft_lex.specs.declared.token.LexError.TheVariants.{BadByte, OpenText, LongName, LongText, BadNumber}

-- A gap and a token take the first byte and so many more; the offset of a fault counts from the front.
pub data Front : Type 0 where
  Gap : ℕ → Front
  Piece : TokenKind → ℕ → Front
  Fault : LexError → Front

-- a letter and the name bytes after it: at most 64, a word where they spell one, else a name
unfoldable pub name_front : ℕ → List ℕ → Front
name_front b bs =
    let more = prefix_len is_name_byte bs in
    if nat_lt 64 (more + 1) then Fault (LongName 0)
    else (if is_word (b ∷ take more bs) then Piece Word more else Piece Name more)

-- a digit and those after it: not too large, and no letter follows
unfoldable pub number_front : ℕ → List ℕ → Front
number_front b bs =
    let more = prefix_len is_digit bs in
    let value = value_of (b ∷ take more bs) in
    if nat_lt max_number value || begins is_letter (drop more bs) then Fault (BadNumber 0)
    else Piece (Number (pos value)) more

-- what ends a text whose inside is so long: the closing quote; a line feed and the end leave it open
unfoldable pub text_end : ℕ → List ℕ → Front
text_end inside [] = Fault (OpenText 0)
text_end inside (b ∷ bs) =
    if b == 34 then Piece Text (inside + 1)
    else (if b == 10 then Fault (OpenText 0) else Fault (BadByte (inside + 1)))

-- after a quote: at most 120 bytes that may stand in a text, and what ends it
unfoldable pub text_front : List ℕ → Front
text_front bs =
    let inside = prefix_len is_text_byte bs in
    if nat_lt 120 inside then Fault (LongText 0) else text_end inside (drop inside bs)

-- a sign of one byte
unfoldable pub sign_of_one : ℕ → Front
sign_of_one b = if is_sign (b ∷ []) then Piece Sign 0 else Fault (BadByte 0)

-- the longest sign: of two bytes where these are one, else of one
unfoldable pub sign_front : ℕ → List ℕ → Front
sign_front b [] = sign_of_one b
sign_front b (c ∷ cs) = if is_sign (b ∷ c ∷ []) then Piece Sign 1 else sign_of_one b

-- A blank is a gap, and so is a comment, which goes from `//` to the line's end.
unfoldable pub front : ℕ → List ℕ → Front
front b bs =
    if is_blank b then Gap 0
    else (if b == 47 && begins (λ c. c == 47) bs then Gap (prefix_len is_comment_byte bs)
    else (if is_letter b then name_front b bs
    else (if is_digit b then number_front b bs
    else (if b == 34 then text_front bs
    else sign_front b bs))))

-- what stands at the front of a text that isn't empty
abbrev pub front_of : List ℕ → Front
front_of [] = Gap 0
front_of (b ∷ bs) = front b bs
