-- What is said of single words (docs/COMMANDS.md, "Words").
use Rattle.std.specs.Prelude.{ℕ, Bool, true, false, not, ◌==◌, nat_le, ◌&&◌, List, [], ◌∷◌, map, Option, Some, None, String, string_bytes, codes, if◌then◌else◌}
use Rattle.std.specs.List.{list_any, before_first, after_first}
use Rattle.std.specs.Str.{all_ascii_digits, bytes_eq}
use Rattle.std.specs.Str.Parse.{digits_value}

-- words as bytes
abbrev pub words_of : {A : Type 0} → List (String A) → List (List ℕ)
words_of words = map string_bytes words

-- an option begins with '-'
abbrev pub is_option : List ℕ → Bool
is_option [] = false
is_option (b ∷ bs) = b == 45

-- the options that have no value
abbrev pub is_flag : List ℕ → Bool
is_flag word = bytes_eq word (codes "--run")

abbrev pub is_equals_sign : ℕ → Bool
is_equals_sign b = b == 61

-- `name=value` has its value in the same word
abbrev pub has_value : List ℕ → Bool
has_value word = list_any is_equals_sign word

-- what stands before the first '='
abbrev pub name_in : List ℕ → List ℕ
name_in word = before_first is_equals_sign word

-- what stands after it
abbrev pub value_in : List ℕ → List ℕ
value_in word = after_first is_equals_sign word

-- a file's name isn't empty, and isn't "-"
abbrev pub is_file_name : List ℕ → Bool
is_file_name [] = false
is_file_name (b ∷ []) = not (b == 45)
is_file_name (b ∷ c ∷ bs) = true

-- a number is one or more digits
abbrev pub is_number : List ℕ → Bool
is_number [] = false
is_number (b ∷ bs) = all_ascii_digits (b ∷ bs)

-- the number from 1 to the most that a word spells
abbrev pub number_in : ℕ → List ℕ → Option ℕ
number_in most word =
    let n = digits_value 10 word in
    if is_number word && nat_le 1 n && nat_le n most then Some n else None
