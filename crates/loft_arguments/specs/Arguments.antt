-- What the words after a command's name say (docs/COMMANDS.md, "Words").
use Rattle.std.specs.Prelude.{ℕ, Bool, true, not, List, [], ◌∷◌, map, codes, Option, Some, None, if◌then◌else◌}
use Rattle.std.specs.Option.{option_map}
use Rattle.std.specs.List.{filter_map, list_any, list_all}
use Rattle.std.specs.Str.{bytes_eq}
use Rattle.loft_arguments.specs.Words.{is_option, is_flag, has_value, name_in, value_in}

pub data Argument : Type 0 where
  -- a word that is no option, as a file's name
  Plain : (word : List ℕ) → Argument
  -- an option with its value; the name has its dashes
  Given : (name value : List ℕ) → Argument
  -- an option that has no value
  Flag : (name : List ℕ) → Argument

abbrev pub one_more : Argument → Option (List Argument) → Option (List Argument)
one_more argument rest = option_map (λ more. argument ∷ more) rest

-- What words say: the first `--` ends the options, and the value of an option is what its word has after the '=', or else
-- the next word; a flag has none.
abbrev mutual
  pub arguments : List (List ℕ) → Option (List Argument)
  arguments [] = Some []
  arguments (word ∷ words) =
      if bytes_eq word (codes "--") then Some (map Plain words)
      else (if not (is_option word) then one_more (Plain word) (arguments words)
      else (if has_value word then one_more (Given (name_in word) (value_in word)) (arguments words)
      else (if is_flag word then one_more (Flag word) (arguments words)
      else value_first word words)))

  -- the same of the words after an option, where the first of them is its value
  pub value_first : List ℕ → List (List ℕ) → Option (List Argument)
  value_first name [] = None
  value_first name (value ∷ words) = if is_option value then None else one_more (Given name value) (arguments words)

abbrev pub plain_word : Argument → Option (List ℕ)
plain_word (Plain word) = Some word
plain_word (Given name value) = None
plain_word (Flag name) = None

abbrev pub value_for : List ℕ → Argument → Option (List ℕ)
value_for name (Plain word) = None
value_for name (Given other value) = if bytes_eq other name then Some value else None
value_for name (Flag other) = None

abbrev pub flag_for : List ℕ → Argument → Option (List ℕ)
flag_for name (Plain word) = None
flag_for name (Given other value) = None
flag_for name (Flag other) = if bytes_eq other name then Some other else None

abbrev pub is_among : (options flags : List (List ℕ)) → Argument → Bool
is_among options flags (Plain word) = true
is_among options flags (Given name value) = list_any (λ other. bytes_eq name other) options
is_among options flags (Flag name) = list_any (λ other. bytes_eq name other) flags

-- the words that are no options
abbrev pub plain_words : List Argument → List (List ℕ)
plain_words given = filter_map plain_word given

-- the values of the option with this name
abbrev pub values : List ℕ → List Argument → List (List ℕ)
values name given = filter_map (value_for name) given

-- how often the flag with this name is given
abbrev pub flags_of : List ℕ → List Argument → List (List ℕ)
flags_of name given = filter_map (flag_for name) given

-- each option with a value, and each flag, has one of these names
abbrev pub has_only : (options flags : List (List ℕ)) → List Argument → Bool
has_only options flags given = list_all (is_among options flags) given
