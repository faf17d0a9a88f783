-- What words say, gathered so that each command finds what it takes: at most two words that are no options, each option once
-- at most, and the flag.
use Rattle.std.specs.Prelude.{ℕ, Bool, ◌&&◌, List, [], ◌∷◌, codes, Option, Some, None, is_none, if◌then◌else◌, option_and_then}
use Rattle.std.specs.Option.{option_map, option_copied}
use Rattle.std.specs.Str.{bytes_eq}
use Rattle.loft_arguments.specs.declared.argument.Argument.{Argument as ArgumentInMemory}
use Rattle.loft_arguments.specs.declared.argument.Argument.TheVariants as argument
use Rattle.loft_arguments.specs.declared.parts.Parts.{Parts as PartsInMemory}
use Rattle.loft_arguments.specs.declared.parts.PlainWords.{PlainWords as PlainInMemory}
use Rattle.loft_arguments.specs.declared.parts.PlainWords.TheVariants as plain
use Rattle.loft_arguments.specs.Arguments.{Argument, Plain, Given, Flag, arguments}

abbrev pub argument_of : ArgumentInMemory → Argument
argument_of (argument.Plain word) = Plain word.now
argument_of (argument.Given name value) = Given name.now value.now
argument_of (argument.Flag name) = Flag name.now

-- the words that are no options, in their order
abbrev pub plain_of : PlainInMemory → List (List ℕ)
plain_of plain.Nothing = []
plain_of (plain.One word) = word.now ∷ []
plain_of (plain.Two word other) = word.now ∷ other.now ∷ []

-- the words that are no options, the values of the options of a run, the flag `--run`, and the value of `--only`
pub record Parts : Type 0 where
  pub plain : List (List ℕ)
  pub instants : Option (List ℕ)
  pub budget : Option (List ℕ)
  pub block : Option (List ℕ)
  pub workers : Option (List ℕ)
  pub run : Option (List ℕ)
  pub only : Option (List ℕ)

abbrev pub parts_of : PartsInMemory → Parts
parts_of p = record {
  plain = plain_of p.plain;
  instants = option_copied p.instants;
  budget = option_copied p.budget;
  block = option_copied p.block;
  workers = option_copied p.workers;
  run = option_copied p.run;
  only = option_copied p.only;
}

abbrev pub no_parts : Parts
no_parts = record { plain = []; instants = None; budget = None; block = None; workers = None; run = None; only = None }

-- a value where there was none
abbrev pub first_value : Option (List ℕ) → List ℕ → Option (List ℕ)
first_value None value = Some value
first_value (Some before) value = None

-- one word more, where there were fewer than two
abbrev pub next_word : List (List ℕ) → List ℕ → Option (List (List ℕ))
next_word [] word = Some (word ∷ [])
next_word (first ∷ []) word = Some (first ∷ word ∷ [])
next_word (first ∷ second ∷ more) word = None

-- one argument more
abbrev pub with_argument : Argument → Parts → Option Parts
with_argument (Plain word) p = option_map (λ words. record p { plain = words }) (next_word p.plain word)
with_argument (Given name value) p =
    if bytes_eq name (codes "--instants") then option_map (λ v. record p { instants = Some v }) (first_value p.instants value)
    else (if bytes_eq name (codes "--budget") then option_map (λ v. record p { budget = Some v }) (first_value p.budget value)
    else (if bytes_eq name (codes "--block") then option_map (λ v. record p { block = Some v }) (first_value p.block value)
    else (if bytes_eq name (codes "--workers") then option_map (λ v. record p { workers = Some v }) (first_value p.workers value)
    else (if bytes_eq name (codes "--only") then option_map (λ v. record p { only = Some v }) (first_value p.only value)
    else None))))
with_argument (Flag name) p =
    if bytes_eq name (codes "--run") then option_map (λ v. record p { run = Some v }) (first_value p.run name) else None

abbrev pub with_arguments : Parts → List Argument → Option Parts
with_arguments p [] = Some p
with_arguments p (argument ∷ more) = option_and_then (λ q. with_arguments q more) (with_argument argument p)

-- what words say, beside what was gathered before them
abbrev pub with_words : Parts → List (List ℕ) → Option Parts
with_words p words = option_and_then (with_arguments p) (arguments words)

-- no option of a run is given
abbrev pub has_no_run_options : Parts → Bool
has_no_run_options p = is_none p.instants && is_none p.budget && is_none p.block && is_none p.workers

-- no option is given
abbrev pub has_no_options : Parts → Bool
has_no_options p = has_no_run_options p && is_none p.run && is_none p.only
