-- What each command makes of the parts that were gathered.
use Rattle.std.specs.Prelude.{ℕ, ◌&&◌, List, [], ◌∷◌, codes, Option, Some, None, is_none, is_some, if◌then◌else◌, option_and_then}
use Rattle.std.specs.Option.{option_map}
use Rattle.std.specs.Str.{bytes_eq}
use Rattle.loft_base.specs.declared.options.RunOptions.{RunOptions}
use Rattle.loft_base.specs.declared.options.TheConstants.{MAX_INSTANTS, MAX_BUDGET, MAX_BLOCK, MAX_WORKERS}
use Rattle.loft_gen.specs.declared.source.TheConstants.{GENERATED_MAX}
use Rattle.loft_arguments.specs.declared.defaults.TheConstants.{DEFAULT_INSTANTS, DEFAULT_BUDGET, DEFAULT_BLOCK, DEFAULT_WORKERS}
use Rattle.loft_arguments.specs.Command.{FileCommand, Run, Exec, Show, Check, Compile, Bound, Expand, Command, OfFile, Replay, only_file, of_two_files, only_number, number_of, options_from, gen_with}
use Rattle.loft_arguments.specs.Parts.{Parts, has_no_run_options, has_no_options}

abbrev pub option_list : {A : Type 0} → Option A → List A
option_list None = []
option_list (Some x) = x ∷ []

abbrev pub run_options_from : Parts → Option RunOptions
run_options_from p = options_from
    (number_of MAX_INSTANTS DEFAULT_INSTANTS (option_list p.instants))
    (number_of MAX_BUDGET DEFAULT_BUDGET (option_list p.budget))
    (number_of MAX_BLOCK DEFAULT_BLOCK (option_list p.block))
    (number_of MAX_WORKERS DEFAULT_WORKERS (option_list p.workers))

-- the options of a run, where no other option is given
abbrev pub only_options_from : Parts → Option RunOptions
only_options_from p = if is_none p.run && is_none p.only then run_options_from p else None

abbrev pub run_from : (List ℕ → RunOptions → FileCommand) → Parts → Option FileCommand
run_from make p = option_and_then (λ file. option_map (make file) (only_options_from p)) (only_file p.plain)

abbrev pub file_from : Parts → Option (List ℕ)
file_from p = if has_no_options p then only_file p.plain else None

abbrev pub file_command_from : List ℕ → Parts → Option FileCommand
file_command_from word p =
    if bytes_eq word (codes "run") then run_from Run p
    else (if bytes_eq word (codes "exec") then run_from Exec p
    else (if bytes_eq word (codes "show") then option_map Show (file_from p)
    else (if bytes_eq word (codes "check") then option_map Check (file_from p)
    else (if bytes_eq word (codes "compile") then option_map Compile (file_from p)
    else (if bytes_eq word (codes "bound") then option_map Bound (file_from p)
    else (if bytes_eq word (codes "expand") then option_map Expand (file_from p) else None))))))

-- the word, where one is given
abbrev pub only_word : List (List ℕ) → Option (List ℕ)
only_word [] = None
only_word (word ∷ []) = Some word
only_word (word ∷ other ∷ more) = None

-- the number of a source, where no option with a value is given
abbrev pub number_from : Parts → Option ℕ
number_from p = if has_no_run_options p && is_none p.only then only_number GENERATED_MAX p.plain else None

abbrev pub gen_from : Parts → Option Command
gen_from p = option_map (λ number. gen_with number (is_some p.run)) (number_from p)

-- a source and a report with the value of `--only`, where no other option is given
abbrev pub replay_from : Parts → Option Command
replay_from p =
    if has_no_run_options p && is_none p.run then of_two_files (λ source report. Some (Replay source report p.only)) p.plain else None

abbrev pub command_from : List ℕ → Parts → Option Command
command_from word p =
    if bytes_eq word (codes "gen") then gen_from p
    else (if bytes_eq word (codes "replay") then replay_from p else option_map OfFile (file_command_from word p))
