-- The numbers of a command have their ranges.
use Rattle.std.proofs.Common.{◌≡◌, ℕ, ◌≤◌, arith, Bool, true, false, List, [], ◌∷◌, refl, subst, Option, Some, None}
use Rattle.std.specs.Prelude.{codes, ◌&&◌, nat_le, if◌then◌else◌, option_and_then}
use Rattle.std.specs.Option.{option_map}
use Rattle.std.specs.Str.{bytes_eq}
use Rattle.std.specs.Str.Parse.{digits_value}
use Rattle.std.proofs.lemmas.Bool.Decides.{nat_tests}
use Rattle.loft_base.specs.declared.options.RunOptions.{RunOptions}
use Rattle.loft_base.specs.declared.options.TheConstants.{MAX_INSTANTS, MAX_BUDGET, MAX_BLOCK, MAX_WORKERS}
use Rattle.loft_arguments.specs.declared.defaults.TheConstants.{DEFAULT_INSTANTS, DEFAULT_BUDGET, DEFAULT_BLOCK, DEFAULT_WORKERS}
use Rattle.loft_arguments.specs.Words.{is_file_name, is_number, number_in}
use Rattle.loft_gen.specs.declared.source.TheConstants.{GENERATED_MAX}
use Rattle.loft_arguments.specs.Arguments.{Argument, arguments, plain_words, values, flags_of, has_only}
use Rattle.loft_arguments.specs.Command.{FileCommand, Run, Exec, Show, Check, Compile, Bound, Expand, Command, OfFile, Replay, only_file, of_two_files, only_number, number_of, value_of, flag_of, options_from, run_names, only_name, run_flag, run_options, taking, with_options, of_file, gen_with, gen, replay, file_command_named, command_named, command}
use Rattle.loft_base.specs.Options.{AreInRange}
use Rattle.loft_arguments.specs.Ranges.{KeepsRanges, IsInRanges}

number_in_range : (most n : ℕ) (word : List ℕ) → number_in most word ≡ Some n → (1 ≤ n) × (n ≤ most)
number_in_range most n word is = go (is_number word) (nat_le 1 (digits_value 10 word)) (nat_le (digits_value 10 word) most) refl refl is
  where
    go : (a b c : Bool) → nat_le 1 (digits_value 10 word) ≡ b → nat_le (digits_value 10 word) most ≡ c
        → (if a && b && c then Some (digits_value 10 word) else None) ≡ Some n → (1 ≤ n) × (n ≤ most)
    go true true true low high same =
        let value : digits_value 10 word ≡ n = cc in
        let P : ℕ → Type 0 = λ (v : ℕ). (1 ≤ v) × (v ≤ most) in
        subst P value (grind (arith, nat_tests), grind (arith, nat_tests))
    go true true false low high same = absurd cc
    go true false c low high same = absurd cc
    go false b c low high same = absurd cc

number_of_range : (most default n : ℕ) (values : List (List ℕ)) → 1 ≤ default → default ≤ most → number_of most default values ≡ Some n → (1 ≤ n) × (n ≤ most)
number_of_range most default n [] low high is = let same : default ≡ n = cc in (omega arith, omega arith)
number_of_range most default n (value ∷ []) low high is = number_in_range most n value is
number_of_range most default n (value ∷ other ∷ more) low high is = absurd cc

options_range : (a b c d : Option ℕ) (options : RunOptions)
    → ((n : ℕ) → a ≡ Some n → (1 ≤ n) × (n ≤ MAX_INSTANTS)) → ((n : ℕ) → b ≡ Some n → (1 ≤ n) × (n ≤ MAX_BUDGET))
    → ((n : ℕ) → c ≡ Some n → (1 ≤ n) × (n ≤ MAX_BLOCK)) → ((n : ℕ) → d ≡ Some n → (1 ≤ n) × (n ≤ MAX_WORKERS))
    → options_from a b c d ≡ Some options → AreInRange options
options_range None b c d options i u k w is = absurd cc
options_range (Some n) None c d options i u k w is = absurd cc
options_range (Some n) (Some m) None d options i u k w is = absurd cc
options_range (Some n) (Some m) (Some l) None options i u k w is = absurd cc
options_range (Some n) (Some m) (Some l) (Some j) options i u k w is =
    let same : record { limits = record { instants = n; budget = m; block = l }; workers = j } ≡ options = cc in
    let P : RunOptions → Type 0 = λ (o : RunOptions). AreInRange o in
    subst P same (record { limits = record { instants = i n refl; budget = u m refl; block = k l refl }; workers = w j refl })

run_options_range : (given : List Argument) (options : RunOptions) → run_options given ≡ Some options → AreInRange options
run_options_range given options is = options_range _ _ _ _ options
    (λ n e. number_of_range MAX_INSTANTS DEFAULT_INSTANTS n (values (codes "--instants") given) (omega arith) (omega arith) e)
    (λ n e. number_of_range MAX_BUDGET DEFAULT_BUDGET n (values (codes "--budget") given) (omega arith) (omega arith) e)
    (λ n e. number_of_range MAX_BLOCK DEFAULT_BLOCK n (values (codes "--block") given) (omega arith) (omega arith) e)
    (λ n e. number_of_range MAX_WORKERS DEFAULT_WORKERS n (values (codes "--workers") given) (omega arith) (omega arith) e) is

-- what there is keeps its ranges
abbrev Keeps : Option FileCommand → Type 0
Keeps None = Unit {0}
Keeps (Some c) = KeepsRanges c

run_keeps : (make : List ℕ → RunOptions → FileCommand) → ((file : List ℕ) (o : RunOptions) → AreInRange o → KeepsRanges (make file o))
    → (given : List Argument) → Keeps (taking run_names [] given (with_options make given))
run_keeps make made given = go (has_only run_names [] given) (only_file (plain_words given)) (run_options given) refl
  where
    go : (b : Bool) (file : Option (List ℕ)) (o : Option RunOptions) → run_options given ≡ o → Keeps (if b then option_and_then (λ f. option_map (make f) o) file else None)
    go false file o is = tt
    go true None o is = tt
    go true (Some f) None is = tt
    go true (Some f) (Some o) is = made f o (run_options_range given o is)

file_keeps : (make : List ℕ → FileCommand) → ((file : List ℕ) → KeepsRanges (make file)) → (given : List Argument) → Keeps (taking [] [] given (of_file make given))
file_keeps make made given = go (has_only [] [] given) (only_file (plain_words given))
  where
    go : (b : Bool) (file : Option (List ℕ)) → Keeps (if b then option_map make file else None)
    go false file = tt
    go true None = tt
    go true (Some f) = made f

file_named_keeps : (word : List ℕ) (given : List Argument) → Keeps (file_command_named word given)
file_named_keeps word given = go (bytes_eq word (codes "run")) (bytes_eq word (codes "exec")) (bytes_eq word (codes "show")) (bytes_eq word (codes "check")) (bytes_eq word (codes "compile")) (bytes_eq word (codes "bound")) (bytes_eq word (codes "expand"))
  where
    go : (a e b c d f h : Bool) → Keeps (if a then taking run_names [] given (with_options Run given) else (if e then taking run_names [] given (with_options Exec given)
        else (if b then taking [] [] given (of_file Show given) else (if c then taking [] [] given (of_file Check given)
        else (if d then taking [] [] given (of_file Compile given) else (if f then taking [] [] given (of_file Bound given)
        else (if h then taking [] [] given (of_file Expand given) else None)))))))
    go true e b c d f h = run_keeps Run (λ file o range. range) given
    go false true b c d f h = run_keeps Exec (λ file o range. range) given
    go false false true c d f h = file_keeps Show (λ file. tt) given
    go false false false true d f h = file_keeps Check (λ file. tt) given
    go false false false false true f h = file_keeps Compile (λ file. tt) given
    go false false false false false true h = file_keeps Bound (λ file. tt) given
    go false false false false false false true = file_keeps Expand (λ file. tt) given
    go false false false false false false false = tt

-- the same of every command
abbrev AreKept : Option Command → Type 0
AreKept None = Unit {0}
AreKept (Some c) = IsInRanges c

only_number_range : (most : ℕ) (words : List (List ℕ)) (n : ℕ) → only_number most words ≡ Some n → (1 ≤ n) × (n ≤ most)
only_number_range most [] n is = absurd cc
only_number_range most (word ∷ []) n is = number_in_range most n word is
only_number_range most (word ∷ other ∷ more) n is = absurd cc

gen_keeps : (given : List Argument) → AreKept (taking [] run_flag given (gen given))
gen_keeps given = go (has_only [] run_flag given) (only_number GENERATED_MAX (plain_words given)) (flag_of (flags_of (codes "--run") given)) refl
  where
    go : (b : Bool) (number : Option ℕ) (run : Option Bool) → only_number GENERATED_MAX (plain_words given) ≡ number
        → AreKept (if b then option_and_then (λ n. option_map (gen_with n) run) number else None)
    go false number run is = tt
    go true None run is = tt
    go true (Some n) None is = tt
    go true (Some n) (Some true) is = only_number_range GENERATED_MAX (plain_words given) n is
    go true (Some n) (Some false) is = only_number_range GENERATED_MAX (plain_words given) n is

replay_keeps : (given : List Argument) → AreKept (taking only_name [] given (replay given))
replay_keeps given = go (has_only only_name [] given) (plain_words given) (value_of (values (codes "--only") given))
  where
    kept : (b : Bool) (source report : List ℕ) (o : Option (Option (List ℕ))) → AreKept (if b then option_map (Replay source report) o else None)
    kept false source report o = tt
    kept true source report None = tt
    kept true source report (Some only) = tt

    go : (b : Bool) (names : List (List ℕ)) (o : Option (Option (List ℕ))) → AreKept (if b then of_two_files (λ source report. option_map (Replay source report) o) names else None)
    go false names o = tt
    go true [] o = tt
    go true (name ∷ []) o = tt
    go true (name ∷ other ∷ []) o = kept (is_file_name name && is_file_name other) name other o
    go true (name ∷ other ∷ third ∷ more) o = tt

of_file_kept : (o : Option FileCommand) → Keeps o → AreKept (option_map OfFile o)
of_file_kept None keeps = tt
of_file_kept (Some c) keeps = keeps

named_keeps : (word : List ℕ) (given : List Argument) → AreKept (command_named word given)
named_keeps word given = go (bytes_eq word (codes "gen")) (bytes_eq word (codes "replay"))
  where
    go : (a b : Bool) → AreKept (if a then taking [] run_flag given (gen given) else (if b then taking only_name [] given (replay given) else option_map OfFile (file_command_named word given)))
    go true b = gen_keeps given
    go false true = replay_keeps given
    go false false = of_file_kept (file_command_named word given) (file_named_keeps word given)

words_keep : (words : List (List ℕ)) → AreKept (command words)
words_keep [] = tt
words_keep (word ∷ words) = go (arguments words)
  where
    go : (o : Option (List Argument)) → AreKept (option_and_then (command_named word) o)
    go None = tt
    go (Some given) = named_keeps word given

-- whatever the words are
pub command_range : (words : List (List ℕ)) (c : Command) → command words ≡ Some c → IsInRanges c
command_range words c is = subst AreKept is (words_keep words)
