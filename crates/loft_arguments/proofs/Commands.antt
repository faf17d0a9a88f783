-- Each command takes the same of arguments and of the parts that were gathered of them.
use Rattle.std.proofs.Common.{◌≡◌, ℕ, ◌≤◌, arith, length, Bool, true, false, List, [], ◌∷◌, refl, sym, ◌∙◌, ap, subst, Option, Some, None}
use Rattle.std.specs.Prelude.{codes, ◌&&◌, ◌||◌, is_none, is_some, if◌then◌else◌, option_and_then}
use Rattle.std.specs.List.{list_any}
use Rattle.std.specs.Option.{option_map}
use Rattle.std.specs.Str.{bytes_eq}
use Rattle.std.proofs.Math.Bool.{and-true, or-true}
use Rattle.std.proofs.lemmas.List.Folds.{list_any-append}
use Rattle.std.proofs.lemmas.Slice.Eq.{bytes_eq-Decides}
use Rattle.loft_base.specs.declared.options.RunOptions.{RunOptions}
use Rattle.loft_base.specs.declared.options.TheConstants.{MAX_INSTANTS, MAX_BUDGET, MAX_BLOCK, MAX_WORKERS}
use Rattle.loft_gen.specs.declared.source.TheConstants.{GENERATED_MAX}
use Rattle.loft_arguments.specs.declared.defaults.TheConstants.{DEFAULT_INSTANTS, DEFAULT_BUDGET, DEFAULT_BLOCK, DEFAULT_WORKERS}
use Rattle.loft_arguments.specs.Arguments.{Argument, Plain, Given, Flag, is_among, plain_words, values, flags_of, has_only}
use Rattle.loft_arguments.specs.Words.{is_file_name}
use Rattle.loft_arguments.specs.Command.{FileCommand, Run, Exec, Show, Check, Compile, Bound, Expand, OfFile, Replay, only_file, of_two_files, only_number, number_of, value_of, flag_of, options_from, run_names, only_name, run_flag, run_options, taking, with_options, of_file, gen_with, gen, replay, file_command_named, command_named}
use Rattle.loft_arguments.specs.Parts.{Parts, no_parts, with_arguments, has_no_run_options, has_no_options}
use Rattle.loft_arguments.specs.FromParts.{option_list, run_options_from, run_from, file_from, file_command_from, gen_from, replay_from, command_from}
use Rattle.loft_arguments.proofs.Telling.{all_names, Tells, IsRefused, Words, Instants, Budget, Block, Workers, Run as Flags, Only, Other, TellsAll, told}

-- two words are too many
pub not_one : (names : List (List ℕ)) → 2 ≤ length names → only_file names ≡ None
not_one [] many = absurd (omega arith)
not_one (name ∷ []) many = absurd (omega arith)
not_one (name ∷ other ∷ more) many = refl

-- and three are too many for two
not_two : {A : Type 0} (ask : List ℕ → List ℕ → Option A) (names : List (List ℕ)) → 3 ≤ length names → of_two_files ask names ≡ None
not_two ask [] many = absurd (omega arith)
not_two ask (name ∷ []) many = absurd (omega arith)
not_two ask (name ∷ other ∷ []) many = absurd (omega arith)
not_two ask (name ∷ other ∷ third ∷ more) many = refl

pub not_one_number : (most : ℕ) (names : List (List ℕ)) → 2 ≤ length names → only_number most names ≡ None
not_one_number most [] many = absurd (omega arith)
not_one_number most (name ∷ []) many = absurd (omega arith)
not_one_number most (name ∷ other ∷ more) many = refl

-- and so are two values
pub no_number : (most default : ℕ) (values : List (List ℕ)) → 2 ≤ length values → number_of most default values ≡ None
no_number most default [] many = absurd (omega arith)
no_number most default (value ∷ []) many = absurd (omega arith)
no_number most default (value ∷ other ∷ more) many = refl

pub no_value : (values : List (List ℕ)) → 2 ≤ length values → value_of values ≡ None
no_value [] many = absurd (omega arith)
no_value (value ∷ []) many = absurd (omega arith)
no_value (value ∷ other ∷ more) many = refl

-- and a flag that is given twice
pub no_flag : (flags : List (List ℕ)) → 2 ≤ length flags → flag_of flags ≡ None
no_flag [] many = absurd (omega arith)
no_flag (flag ∷ []) many = absurd (omega arith)
no_flag (flag ∷ other ∷ more) many = refl

if_none : {A : Type 0} (b : Bool) (o : Option A) → o ≡ None → (if b then o else None) ≡ None
if_none true o is = is
if_none false o is = refl

no_options : (make : List ℕ → RunOptions → FileCommand) (file : Option (List ℕ)) (options : Option RunOptions) → options ≡ None → option_and_then (λ file. option_map (make file) options) file ≡ None
no_options make None options is = refl
no_options make (Some file) options is = ap (λ (o : Option RunOptions). option_map (make file) o) is

-- one number is missing
second_missing : (a b c d : Option ℕ) → b ≡ None → options_from a b c d ≡ None
second_missing None b c d is = refl
second_missing (Some n) b c d is = ap (λ (o : Option ℕ). options_from (Some n) o c d) is

third_missing : (a b c d : Option ℕ) → c ≡ None → options_from a b c d ≡ None
third_missing None b c d is = refl
third_missing (Some n) None c d is = refl
third_missing (Some n) (Some m) c d is = ap (λ (o : Option ℕ). options_from (Some n) (Some m) o d) is

fourth_missing : (a b c d : Option ℕ) → d ≡ None → options_from a b c d ≡ None
fourth_missing None b c d is = refl
fourth_missing (Some n) None c d is = refl
fourth_missing (Some n) (Some m) None d is = refl
fourth_missing (Some n) (Some m) (Some l) d is = ap (λ (o : Option ℕ). options_from (Some n) (Some m) (Some l) o) is

-- where no flag may be given, none is
no_flags : (options : List (List ℕ)) (given : List Argument) → has_only options [] given ≡ true → flags_of (codes "--run") given ≡ []
no_flags options [] is = refl
no_flags options (Plain word ∷ more) is = no_flags options more is
no_flags options (Given name value ∷ more) is = no_flags options more (rest _ _ is)
  where
    rest : (a b : Bool) → (a && b) ≡ true → b ≡ true
    rest true b is = is
    rest false b is = absurd cc
no_flags options (Flag name ∷ more) is = absurd cc

-- and where an option may not be given, it has no value
no_values : (name : List ℕ) (options flags : List (List ℕ)) → list_any (λ other. bytes_eq name other) options ≡ false
    → (given : List Argument) → has_only options flags given ≡ true → values name given ≡ []
no_values name options flags out [] is = refl
no_values name options flags out (Plain word ∷ more) is = no_values name options flags out more is
no_values name options flags out (Given other value ∷ more) is =
    go (bytes_eq other name) (list_any (λ known. bytes_eq other known) options) refl refl is (λ rest. no_values name options flags out more rest)
  where
    go : (b c : Bool) → bytes_eq other name ≡ b → list_any (λ known. bytes_eq other known) options ≡ c → (c && has_only options flags more) ≡ true
        → (has_only options flags more ≡ true → values name more ≡ []) → values name (Given other value ∷ more) ≡ []
    go b false same among all rest = absurd cc
    go false true same among all rest = rw same (rest all)
    go true true same among all rest =
        let P : List ℕ → Type 0 = λ (n : List ℕ). list_any (λ known. bytes_eq n known) options ≡ true in
        let no : true ≡ false = sym (subst P ((bytes_eq-Decides other name).0 same) among) ∙ out in
        absurd cc
no_values name options flags out (Flag other ∷ more) is = no_values name options flags out more (rest _ _ is)
  where
    rest : (a b : Bool) → (a && b) ≡ true → b ≡ true
    rest true b is = is
    rest false b is = absurd cc

too_few : {P : Type 0} (names : List (List ℕ)) → names ≡ [] → 2 ≤ length names → P
too_few names is many = absurd (omega (arith, ap (λ (l : List (List ℕ)). length l) is))

-- what may be given is known
known : (options flags : List (List ℕ)) → ((a : Argument) → is_among options flags a ≡ true → is_among all_names run_flag a ≡ true)
    → (given : List Argument) → has_only options flags given ≡ true → has_only all_names run_flag given ≡ true
known options flags more [] is = refl
known options flags more (argument ∷ given) is = go (is_among options flags argument) refl is (λ rest. known options flags more given rest)
  where
    go : (b : Bool) → is_among options flags argument ≡ b → (b && has_only options flags given) ≡ true
        → (has_only options flags given ≡ true → has_only all_names run_flag given ≡ true) → (is_among all_names run_flag argument && has_only all_names run_flag given) ≡ true
    go true among rest others = rw (more argument among) (others rest)
    go false among rest others = absurd cc

known_options : (a : Argument) → is_among run_names [] a ≡ true → is_among all_names run_flag a ≡ true
known_options (Plain word) is = refl
known_options (Given name value) is = list_any-append (λ other. bytes_eq name other) run_names only_name ∙ ap (λ (b : Bool). b || list_any (λ other. bytes_eq name other) only_name) is
known_options (Flag name) is = absurd cc

known_only : (a : Argument) → is_among only_name [] a ≡ true → is_among all_names run_flag a ≡ true
known_only (Plain word) is = refl
known_only (Given name value) is = list_any-append (λ other. bytes_eq name other) run_names only_name
    ∙ ap (λ (b : Bool). list_any (λ other. bytes_eq name other) run_names || b) is ∙ or-true (list_any (λ other. bytes_eq name other) run_names)
known_only (Flag name) is = absurd cc

known_flag : (a : Argument) → is_among [] run_flag a ≡ true → is_among all_names run_flag a ≡ true
known_flag (Plain word) is = refl
known_flag (Given name value) is = absurd cc
known_flag (Flag name) is = is

known_alone : (a : Argument) → is_among [] [] a ≡ true → is_among all_names run_flag a ≡ true
known_alone (Plain word) is = refl
known_alone (Given name value) is = absurd cc
known_alone (Flag name) is = absurd cc

-- ---- arguments that were refused

refuses : {A : Type 0} (options flags : List (List ℕ)) (given : List Argument) (asked : Option A) → (has_only options flags given ≡ true → asked ≡ None) → taking options flags given asked ≡ None
refuses {A} options flags given asked none = go (has_only options flags given) refl
  where
    go : (b : Bool) → has_only options flags given ≡ b → (if b then asked else None) ≡ None
    go true is = none is
    go false is = refl

run_refused : (make : List ℕ → RunOptions → FileCommand) (given : List Argument) → IsRefused given → taking run_names [] given (with_options make given) ≡ None
run_refused make given r = refuses run_names [] given (with_options make given) (go r)
  where
    go : IsRefused given → has_only run_names [] given ≡ true → with_options make given ≡ None
    go (Words many) is = ap (λ (o : Option (List ℕ)). option_and_then (λ file. option_map (make file) (run_options given)) o) (not_one (plain_words given) (omega (arith, many)))
    go (Instants many) is = no_options make (only_file (plain_words given)) (run_options given) (ap (λ (o : Option ℕ). options_from o
        (number_of MAX_BUDGET DEFAULT_BUDGET (values (codes "--budget") given))
        (number_of MAX_BLOCK DEFAULT_BLOCK (values (codes "--block") given))
        (number_of MAX_WORKERS DEFAULT_WORKERS (values (codes "--workers") given))) (no_number MAX_INSTANTS DEFAULT_INSTANTS (values (codes "--instants") given) many))
    go (Budget many) is = no_options make (only_file (plain_words given)) (run_options given) (second_missing _ _ _ _ (no_number MAX_BUDGET DEFAULT_BUDGET (values (codes "--budget") given) many))
    go (Block many) is = no_options make (only_file (plain_words given)) (run_options given) (third_missing _ _ _ _ (no_number MAX_BLOCK DEFAULT_BLOCK (values (codes "--block") given) many))
    go (Workers many) is = no_options make (only_file (plain_words given)) (run_options given) (fourth_missing _ _ _ _ (no_number MAX_WORKERS DEFAULT_WORKERS (values (codes "--workers") given) many))
    go (Flags many) is = too_few (flags_of (codes "--run") given) (no_flags run_names given is) many
    go (Only many) is = too_few (values (codes "--only") given) (no_values (codes "--only") run_names [] refl given is) many
    go (Other not) is = absurd (cc (known run_names [] known_options given is))

file_refused : (make : List ℕ → FileCommand) (given : List Argument) → IsRefused given → taking [] [] given (of_file make given) ≡ None
file_refused make given r = refuses [] [] given (of_file make given) (go r)
  where
    go : IsRefused given → has_only [] [] given ≡ true → of_file make given ≡ None
    go (Words many) is = ap (λ (o : Option (List ℕ)). option_map make o) (not_one (plain_words given) (omega (arith, many)))
    go (Instants many) is = too_few (values (codes "--instants") given) (no_values (codes "--instants") [] [] refl given is) many
    go (Budget many) is = too_few (values (codes "--budget") given) (no_values (codes "--budget") [] [] refl given is) many
    go (Block many) is = too_few (values (codes "--block") given) (no_values (codes "--block") [] [] refl given is) many
    go (Workers many) is = too_few (values (codes "--workers") given) (no_values (codes "--workers") [] [] refl given is) many
    go (Flags many) is = too_few (flags_of (codes "--run") given) (no_flags [] given is) many
    go (Only many) is = too_few (values (codes "--only") given) (no_values (codes "--only") [] [] refl given is) many
    go (Other not) is = absurd (cc (known [] [] known_alone given is))

no_gen : (o : Option ℕ) (run : Option Bool) → run ≡ None → option_and_then (λ number. option_map (gen_with number) run) o ≡ None
no_gen None run is = refl
no_gen (Some number) run is = ap (λ (o : Option Bool). option_map (gen_with number) o) is

gen_refused : (given : List Argument) → IsRefused given → taking [] run_flag given (gen given) ≡ None
gen_refused given r = refuses [] run_flag given (gen given) (go r)
  where
    go : IsRefused given → has_only [] run_flag given ≡ true → gen given ≡ None
    go (Words many) is = ap (λ (o : Option ℕ). option_and_then (λ number. option_map (gen_with number) (flag_of (flags_of (codes "--run") given))) o) (not_one_number GENERATED_MAX (plain_words given) (omega (arith, many)))
    go (Instants many) is = too_few (values (codes "--instants") given) (no_values (codes "--instants") [] run_flag refl given is) many
    go (Budget many) is = too_few (values (codes "--budget") given) (no_values (codes "--budget") [] run_flag refl given is) many
    go (Block many) is = too_few (values (codes "--block") given) (no_values (codes "--block") [] run_flag refl given is) many
    go (Workers many) is = too_few (values (codes "--workers") given) (no_values (codes "--workers") [] run_flag refl given is) many
    go (Flags many) is = no_gen (only_number GENERATED_MAX (plain_words given)) (flag_of (flags_of (codes "--run") given)) (no_flag (flags_of (codes "--run") given) many)
    go (Only many) is = too_few (values (codes "--only") given) (no_values (codes "--only") [] run_flag refl given is) many
    go (Other not) is = absurd (cc (known [] run_flag known_flag given is))

no_replay : (names : List (List ℕ)) (o : Option (Option (List ℕ))) → o ≡ None → of_two_files (λ source report. option_map (Replay source report) o) names ≡ None
no_replay [] o is = refl
no_replay (name ∷ []) o is = refl
no_replay (name ∷ other ∷ []) o is = go (is_file_name name && is_file_name other)
  where
    go : (b : Bool) → (if b then option_map (Replay name other) o else None) ≡ None
    go true = ap (λ (v : Option (Option (List ℕ))). option_map (Replay name other) v) is
    go false = refl
no_replay (name ∷ other ∷ third ∷ more) o is = refl

replay_refused : (given : List Argument) → IsRefused given → taking only_name [] given (replay given) ≡ None
replay_refused given r = refuses only_name [] given (replay given) (go r)
  where
    go : IsRefused given → has_only only_name [] given ≡ true → replay given ≡ None
    go (Words many) is = not_two (λ source report. option_map (Replay source report) (value_of (values (codes "--only") given))) (plain_words given) many
    go (Instants many) is = too_few (values (codes "--instants") given) (no_values (codes "--instants") only_name [] refl given is) many
    go (Budget many) is = too_few (values (codes "--budget") given) (no_values (codes "--budget") only_name [] refl given is) many
    go (Block many) is = too_few (values (codes "--block") given) (no_values (codes "--block") only_name [] refl given is) many
    go (Workers many) is = too_few (values (codes "--workers") given) (no_values (codes "--workers") only_name [] refl given is) many
    go (Flags many) is = too_few (flags_of (codes "--run") given) (no_flags only_name given is) many
    go (Only many) is = no_replay (plain_words given) (value_of (values (codes "--only") given)) (no_value (values (codes "--only") given) many)
    go (Other not) is = absurd (cc (known only_name [] known_only given is))

-- ---- arguments that were gathered

run_same : (make : List ℕ → RunOptions → FileCommand) (b : Bool) (file : Option (List ℕ)) (o : Option RunOptions)
    → (if b then option_and_then (λ f. option_map (make f) o) file else None) ≡ option_and_then (λ f. option_map (make f) (if b then o else None)) file
run_same make true file o = refl
run_same make false None o = refl
run_same make false (Some f) o = refl

run_told : (make : List ℕ → RunOptions → FileCommand) (given : List Argument) (p : Parts) → Tells p given → taking run_names [] given (with_options make given) ≡ run_from make p
run_told make given p t =
    let only : has_only run_names [] given ≡ (is_none p.run && is_none p.only) = t.these run_names [] in
    rw (only, t.plain, t.instants, t.budget, t.block, t.workers) (run_same make (is_none p.run && is_none p.only) (only_file p.plain) (run_options_from p))

file_same : (make : List ℕ → FileCommand) (b : Bool) (file : Option (List ℕ)) → (if b then option_map make file else None) ≡ option_map make (if b then file else None)
file_same make true file = refl
file_same make false file = refl

file_told : (make : List ℕ → FileCommand) (given : List Argument) (p : Parts) → Tells p given → taking [] [] given (of_file make given) ≡ option_map make (file_from p)
file_told make given p t =
    let only : has_only [] [] given ≡ has_no_options p = t.these [] [] in
    rw (only, t.plain) (file_same make (has_no_options p) (only_file p.plain))

gen_same : (b : Bool) (number : Option ℕ) (run : Option (List ℕ))
    → (if b then option_and_then (λ n. option_map (gen_with n) (flag_of (option_list run))) number else None) ≡ option_map (λ n. gen_with n (is_some run)) (if b then number else None)
gen_same false number run = refl
gen_same true None run = refl
gen_same true (Some n) None = refl
gen_same true (Some n) (Some flag) = refl

gen_told : (given : List Argument) (p : Parts) → Tells p given → taking [] run_flag given (gen given) ≡ gen_from p
gen_told given p t =
    let only : has_only [] run_flag given ≡ (has_no_run_options p && is_none p.only) =
    t.these [] run_flag ∙ ap (λ (b : Bool). b && is_none p.only) (and-true (has_no_run_options p)) in
    rw (only, t.plain, t.run) (gen_same (has_no_run_options p && is_none p.only) (only_number GENERATED_MAX p.plain) p.run)

replay_same : (b : Bool) (names : List (List ℕ)) (only : Option (List ℕ))
    → (if b then of_two_files (λ source report. option_map (Replay source report) (value_of (option_list only))) names else None)
    ≡ (if b then of_two_files (λ source report. Some (Replay source report only)) names else None)
replay_same b names None = refl
replay_same b names (Some name) = refl

replay_told : (given : List Argument) (p : Parts) → Tells p given → taking only_name [] given (replay given) ≡ replay_from p
replay_told given p t =
    let only : has_only only_name [] given ≡ (has_no_run_options p && is_none p.run) = t.these only_name [] ∙ and-true (has_no_run_options p && is_none p.run) in
    rw (only, t.plain, t.only) (replay_same (has_no_run_options p && is_none p.run) p.plain p.only)

file_command_told : (word : List ℕ) (given : List Argument) (o : Option Parts) → TellsAll given o → file_command_named word given ≡ option_and_then (file_command_from word) o
file_command_told word given (Some p) t =
    rw (run_told Run given p t, run_told Exec given p t, file_told Show given p t, file_told Check given p t, file_told Compile given p t, file_told Bound given p t, file_told Expand given p t) refl
file_command_told word given None refused = go (bytes_eq word (codes "run")) (bytes_eq word (codes "exec")) (bytes_eq word (codes "show")) (bytes_eq word (codes "check")) (bytes_eq word (codes "compile")) (bytes_eq word (codes "bound")) (bytes_eq word (codes "expand"))
  where
    go : (a e b c d f h : Bool) → (if a then taking run_names [] given (with_options Run given) else (if e then taking run_names [] given (with_options Exec given)
        else (if b then taking [] [] given (of_file Show given) else (if c then taking [] [] given (of_file Check given)
        else (if d then taking [] [] given (of_file Compile given) else (if f then taking [] [] given (of_file Bound given)
        else (if h then taking [] [] given (of_file Expand given) else None))))))) ≡ None
    go true e b c d f h = run_refused Run given refused
    go false true b c d f h = run_refused Exec given refused
    go false false true c d f h = file_refused Show given refused
    go false false false true d f h = file_refused Check given refused
    go false false false false true f h = file_refused Compile given refused
    go false false false false false true h = file_refused Bound given refused
    go false false false false false false true = file_refused Expand given refused
    go false false false false false false false = refl

command_told : (word : List ℕ) (given : List Argument) (o : Option Parts) → TellsAll given o → command_named word given ≡ option_and_then (command_from word) o
command_told word given (Some p) t = rw (gen_told given p t, replay_told given p t, file_command_told word given (Some p) t) refl
command_told word given None refused = go (bytes_eq word (codes "gen")) (bytes_eq word (codes "replay"))
  where
    go : (a b : Bool) → (if a then taking [] run_flag given (gen given) else (if b then taking only_name [] given (replay given) else option_map OfFile (file_command_named word given))) ≡ None
    go true b = gen_refused given refused
    go false true = replay_refused given refused
    go false false = ap (λ (o : Option FileCommand). option_map OfFile o) (file_command_told word given None refused)

pub command_from_parts : (word : List ℕ) (o : Option (List Argument)) → option_and_then (command_named word) o ≡ option_and_then (command_from word) (option_and_then (with_arguments no_parts) o)
command_from_parts word None = refl
command_from_parts word (Some given) = command_told word given (with_arguments no_parts given) (told given)
