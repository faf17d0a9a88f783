-- What the words after the program's name ask for (docs/COMMANDS.md, "Words").
use Rattle.std.specs.Prelude.{ℕ, Bool, true, false, ◌&&◌, List, [], ◌∷◌, codes, Option, Some, None, if◌then◌else◌, option_and_then}
use Rattle.std.specs.Option.{option_map}
use Rattle.std.specs.Str.{bytes_eq}
use Rattle.loft_base.specs.declared.options.RunOptions.{RunOptions}
use Rattle.loft_base.specs.declared.options.TheConstants.{MAX_INSTANTS, MAX_BUDGET, MAX_BLOCK, MAX_WORKERS}
use Rattle.loft_gen.specs.declared.source.TheConstants.{GENERATED_MAX}
use Rattle.loft_arguments.specs.declared.defaults.TheConstants.{DEFAULT_INSTANTS, DEFAULT_BUDGET, DEFAULT_BLOCK, DEFAULT_WORKERS}
use Rattle.loft_arguments.specs.Words.{is_file_name, number_in}
use Rattle.loft_arguments.specs.Arguments.{Argument, arguments, plain_words, values, flags_of, has_only}

-- a command that reads a source or a listing, and nothing else
pub data FileCommand : Type 0 where
  -- run the source in this file
  Run : (file : List ℕ) (options : RunOptions) → FileCommand
  -- run the code of the listing in this file
  Exec : (file : List ℕ) (options : RunOptions) → FileCommand
  -- show the source in this file in its canonical text
  Show : (file : List ℕ) → FileCommand
  -- check the source in this file
  Check : (file : List ℕ) → FileCommand
  -- compile the source in this file, and list its code
  Compile : (file : List ℕ) → FileCommand
  -- tell the step bounds of the modules of the source in this file
  Bound : (file : List ℕ) → FileCommand
  -- show the program that the text with locks in this file stands for
  Expand : (file : List ℕ) → FileCommand

pub data Command : Type 0 where
  -- read one file
  OfFile : FileCommand → Command
  -- replay the report in a file by the source in another one: the whole report, or the block of this scheduler
  Replay : (source report : List ℕ) (only : Option (List ℕ)) → Command
  -- write the source of this number
  Gen : (number : ℕ) → Command
  -- run the source of this number, and tell the summary
  GenRun : (number : ℕ) → Command

abbrev pub file_of : FileCommand → List ℕ
file_of (Run file options) = file
file_of (Exec file options) = file
file_of (Show file) = file
file_of (Check file) = file
file_of (Compile file) = file
file_of (Bound file) = file
file_of (Expand file) = file

-- the files that a command reads, in this order
abbrev pub files_of : Command → List (List ℕ)
files_of (OfFile c) = file_of c ∷ []
files_of (Replay source report only) = source ∷ report ∷ []
files_of (Gen number) = []
files_of (GenRun number) = []

-- the file, where there is exactly one word that is no option
abbrev pub only_file : List (List ℕ) → Option (List ℕ)
only_file [] = None
only_file (word ∷ []) = if is_file_name word then Some word else None
only_file (word ∷ other ∷ more) = None

-- what is asked of two files, where there are exactly two words that are no options
abbrev pub of_two_files : {A : Type 0} → (List ℕ → List ℕ → Option A) → List (List ℕ) → Option A
of_two_files ask [] = None
of_two_files ask (word ∷ []) = None
of_two_files ask (word ∷ other ∷ []) = if is_file_name word && is_file_name other then ask word other else None
of_two_files ask (word ∷ other ∷ third ∷ more) = None

-- the number from 1 to the most, where there is exactly one such word
abbrev pub only_number : (most : ℕ) → List (List ℕ) → Option ℕ
only_number most [] = None
only_number most (word ∷ []) = number_in most word
only_number most (word ∷ other ∷ more) = None

-- the number from 1 to the most that an option's only value spells, and the default where the option isn't given
abbrev pub number_of : (most default : ℕ) → List (List ℕ) → Option ℕ
number_of most default [] = Some default
number_of most default (value ∷ []) = number_in most value
number_of most default (value ∷ other ∷ more) = None

-- the value of an option that is given at most once, if it is given
abbrev pub value_of : List (List ℕ) → Option (Option (List ℕ))
value_of [] = Some None
value_of (value ∷ []) = Some (Some value)
value_of (value ∷ other ∷ more) = None

-- whether a flag is given, at most once
abbrev pub flag_of : List (List ℕ) → Option Bool
flag_of [] = Some false
flag_of (flag ∷ []) = Some true
flag_of (flag ∷ other ∷ more) = None

-- the options of a run, where each of its numbers is one
abbrev pub options_from : (instants budget block workers : Option ℕ) → Option RunOptions
options_from (Some instants) (Some budget) (Some block) (Some workers) =
    Some (record { limits = record { instants = instants; budget = budget; block = block }; workers = workers })
options_from _ _ _ _ = None

abbrev pub run_names : List (List ℕ)
run_names = codes "--instants" ∷ codes "--budget" ∷ codes "--block" ∷ codes "--workers" ∷ []

abbrev pub only_name : List (List ℕ)
only_name = codes "--only" ∷ []

abbrev pub run_flag : List (List ℕ)
run_flag = codes "--run" ∷ []

abbrev pub run_options : List Argument → Option RunOptions
run_options given = options_from
    (number_of MAX_INSTANTS DEFAULT_INSTANTS (values (codes "--instants") given))
    (number_of MAX_BUDGET DEFAULT_BUDGET (values (codes "--budget") given))
    (number_of MAX_BLOCK DEFAULT_BLOCK (values (codes "--block") given))
    (number_of MAX_WORKERS DEFAULT_WORKERS (values (codes "--workers") given))

-- what is asked for, where no other options with values and no other flags are given than these
abbrev pub taking : {A : Type 0} → (options flags : List (List ℕ)) → List Argument → Option A → Option A
taking options flags given asked = if has_only options flags given then asked else None

-- a file and the options of a run
abbrev pub with_options : (List ℕ → RunOptions → FileCommand) → List Argument → Option FileCommand
with_options make given = option_and_then (λ file. option_map (make file) (run_options given)) (only_file (plain_words given))

-- a file alone
abbrev pub of_file : (List ℕ → FileCommand) → List Argument → Option FileCommand
of_file make given = option_map make (only_file (plain_words given))

-- the number of a source, which may be run
abbrev pub gen_with : ℕ → Bool → Command
gen_with number run = if run then GenRun number else Gen number

abbrev pub gen : List Argument → Option Command
gen given = option_and_then (λ number. option_map (gen_with number) (flag_of (flags_of (codes "--run") given))) (only_number GENERATED_MAX (plain_words given))

-- a source and a report, and perhaps the name of a scheduler
abbrev pub replay : List Argument → Option Command
replay given = of_two_files (λ source report. option_map (Replay source report) (value_of (values (codes "--only") given))) (plain_words given)

-- The table of the commands: the name, the options with values and the flags that it takes, and what else it needs.
-- These read one file ..
abbrev pub file_command_named : List ℕ → List Argument → Option FileCommand
file_command_named word given =
    if bytes_eq word (codes "run") then taking run_names [] given (with_options Run given)
    else (if bytes_eq word (codes "exec") then taking run_names [] given (with_options Exec given)
    else (if bytes_eq word (codes "show") then taking [] [] given (of_file Show given)
    else (if bytes_eq word (codes "check") then taking [] [] given (of_file Check given)
    else (if bytes_eq word (codes "compile") then taking [] [] given (of_file Compile given)
    else (if bytes_eq word (codes "bound") then taking [] [] given (of_file Bound given)
    else (if bytes_eq word (codes "expand") then taking [] [] given (of_file Expand given) else None))))))

-- .. and these others, or none
abbrev pub command_named : List ℕ → List Argument → Option Command
command_named word given =
    if bytes_eq word (codes "gen") then taking [] run_flag given (gen given)
    else (if bytes_eq word (codes "replay") then taking only_name [] given (replay given)
    else option_map OfFile (file_command_named word given))

-- the command of some words; all other words are refused
abbrev pub command : List (List ℕ) → Option Command
command [] = None
command (word ∷ words) = option_and_then (command_named word) (arguments words)
