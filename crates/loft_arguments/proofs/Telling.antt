-- What parts tell of arguments.
use Rattle.std.proofs.Common.{◌≡◌, ℕ, ◌≤◌, arith, length, Bool, true, false, List, [], ◌∷◌, ◌++◌, refl, sym, ◌∙◌, ap, subst, Option, Some, None, append_assoc, length-append}
use Rattle.std.specs.Prelude.{codes, ◌&&◌, ◌||◌, if◌then◌else◌, is_none, option_and_then}
use Rattle.std.specs.Option.{option_map}
use Rattle.std.specs.List.{filter_map, list_any}
use Rattle.std.specs.Str.{bytes_eq}
use Rattle.std.proofs.Math.Bool.{and-false, and-true, or-true}
use Rattle.std.proofs.lemmas.List.{append-nil}
use Rattle.std.proofs.lemmas.Slice.Eq.{bytes_eq-Decides}
use Rattle.std.proofs.lemmas.List.Elements.{filter_map-append}
use Rattle.std.proofs.lemmas.List.Folds.{list_all-append}
use Rattle.loft_arguments.specs.Arguments.{Argument, Plain, Given, Flag, plain_word, value_for, flag_for, is_among, plain_words, values, flags_of, has_only}
use Rattle.loft_arguments.specs.Parts.{Parts, no_parts, with_argument, with_arguments, first_value, next_word}
use Rattle.loft_arguments.specs.FromParts.{option_list}
use Rattle.loft_arguments.specs.Command.{run_names, only_name, run_flag}

-- no option but these, where each is there only if it is among them
abbrev pub six : (a b c d e f : Bool) → Bool
six a b c d e f = a && b && c && d && e && f

-- the options with values that there are
abbrev pub all_names : List (List ℕ)
all_names = run_names ++ only_name

abbrev pub within : (name : List ℕ) (names : List (List ℕ)) → Option (List ℕ) → Bool
within name names o = list_any (λ other. bytes_eq name other) names || is_none o

abbrev pub only_these : (options flags : List (List ℕ)) → Parts → Bool
only_these options flags p = six (within (codes "--instants") options p.instants) (within (codes "--budget") options p.budget) (within (codes "--block") options p.block) (within (codes "--workers") options p.workers) (within (codes "--run") flags p.run)
    (within (codes "--only") options p.only)

-- these arguments have these words that are no options, these values of options, and this flag
pub record Tells (p : Parts) (given : List Argument) : Type 0 where
  pub plain : plain_words given ≡ p.plain
  pub instants : values (codes "--instants") given ≡ option_list p.instants
  pub budget : values (codes "--budget") given ≡ option_list p.budget
  pub block : values (codes "--block") given ≡ option_list p.block
  pub workers : values (codes "--workers") given ≡ option_list p.workers
  pub run : flags_of (codes "--run") given ≡ option_list p.run
  pub only : values (codes "--only") given ≡ option_list p.only
  pub these : (options flags : List (List ℕ)) → has_only options flags given ≡ only_these options flags p

-- three words that are no options, an option twice, or one that isn't known
pub data IsRefused (given : List Argument) : Type 0 where
  Words : 3 ≤ length (plain_words given) → IsRefused given
  Instants : 2 ≤ length (values (codes "--instants") given) → IsRefused given
  Budget : 2 ≤ length (values (codes "--budget") given) → IsRefused given
  Block : 2 ≤ length (values (codes "--block") given) → IsRefused given
  Workers : 2 ≤ length (values (codes "--workers") given) → IsRefused given
  Run : 2 ≤ length (flags_of (codes "--run") given) → IsRefused given
  Only : 2 ≤ length (values (codes "--only") given) → IsRefused given
  Other : has_only all_names run_flag given ≡ false → IsRefused given

-- one argument more
has_only_of : (options flags : List (List ℕ)) (done more : List Argument) → has_only options flags (done ++ more) ≡ (has_only options flags done && has_only options flags more)
has_only_of options flags done more = list_all-append (is_among options flags) done more

-- an argument in which nothing is found
found_kept : (f : Argument → Option (List ℕ)) (done : List Argument) (argument : Argument) (found : List (List ℕ)) → f argument ≡ None → filter_map f done ≡ found
    → filter_map f (done ++ (argument ∷ [])) ≡ found
found_kept f done argument found is had = grind (arith, filter_map-append f done (argument ∷ []), append-nil (filter_map f done))

-- one in which the first is found
found_first : (f : Argument → Option (List ℕ)) (done : List Argument) (argument : Argument) (o : Option (List ℕ)) (value : List ℕ) → f argument ≡ Some value → filter_map f done ≡ option_list o → o ≡ None
    → filter_map f (done ++ (argument ∷ [])) ≡ value ∷ []
found_first f done argument o value is had empty = grind (arith, filter_map-append f done (argument ∷ []))

-- one in which a second is found
found_twice : (f : Argument → Option (List ℕ)) (done more : List Argument) (argument : Argument) (o : Option (List ℕ)) (before value : List ℕ) → f argument ≡ Some value
    → filter_map f done ≡ option_list o → o ≡ Some before → 2 ≤ length (filter_map f (done ++ (argument ∷ more)))
found_twice f done more argument o before value is had full = grind (arith, filter_map-append f done (argument ∷ more))

-- a word more that is no option
word_more : (done : List Argument) (word : List ℕ) (found : List (List ℕ)) → filter_map plain_word done ≡ found → filter_map plain_word (done ++ (Plain word ∷ [])) ≡ found ++ (word ∷ [])
word_more done word found had = grind (arith, filter_map-append plain_word done (Plain word ∷ []))

-- a third one
word_third : (done more : List Argument) (word : List ℕ) (found : List (List ℕ)) → filter_map plain_word done ≡ found → 2 ≤ length found → 3 ≤ length (filter_map plain_word (done ++ (Plain word ∷ more)))
word_third done more word found had many =
    let all : filter_map plain_word (done ++ (Plain word ∷ more)) ≡ found ++ (word ∷ filter_map plain_word more) =
    filter_map-append plain_word done (Plain word ∷ more) ∙ ap (λ (l : List (List ℕ)). l ++ (word ∷ filter_map plain_word more)) had in
    omega (arith, many, ap (λ (l : List (List ℕ)). length l) all, length-append found (word ∷ filter_map plain_word more))

-- ---- where an option is there that wasn't

first_more : (a b c d e f : Bool) (o : Option (List ℕ)) → o ≡ None → (six (a || is_none o) b c d e f && (a && true)) ≡ six (a || false) b c d e f
first_more true b c d e f o is = and-true (six true b c d e f)
first_more false b c d e f o is = and-false (six (is_none o) b c d e f)

second_more : (a b c d e f : Bool) (o : Option (List ℕ)) → o ≡ None → (six a (b || is_none o) c d e f && (b && true)) ≡ six a (b || false) c d e f
second_more a true c d e f o is = and-true (six a true c d e f)
second_more a false c d e f o is = and-false (six a (is_none o) c d e f) ∙ sym (ap (λ (x : Bool). x && c && d && e && f) (and-false a))

third_more : (a b c d e f : Bool) (o : Option (List ℕ)) → o ≡ None → (six a b (c || is_none o) d e f && (c && true)) ≡ six a b (c || false) d e f
third_more a b true d e f o is = and-true (six a b true d e f)
third_more a b false d e f o is = and-false (six a b (is_none o) d e f) ∙ sym (ap (λ (x : Bool). x && d && e && f) (and-false (a && b)))

fourth_more : (a b c d e f : Bool) (o : Option (List ℕ)) → o ≡ None → (six a b c (d || is_none o) e f && (d && true)) ≡ six a b c (d || false) e f
fourth_more a b c true e f o is = and-true (six a b c true e f)
fourth_more a b c false e f o is = and-false (six a b c (is_none o) e f) ∙ sym (ap (λ (x : Bool). x && e && f) (and-false (a && b && c)))

fifth_more : (a b c d e f : Bool) (o : Option (List ℕ)) → o ≡ None → (six a b c d (e || is_none o) f && (e && true)) ≡ six a b c d (e || false) f
fifth_more a b c d true f o is = and-true (six a b c d true f)
fifth_more a b c d false f o is = and-false (six a b c d (is_none o) f) ∙ sym (ap (λ (x : Bool). x && f) (and-false (a && b && c && d)))

sixth_more : (a b c d e f : Bool) (o : Option (List ℕ)) → o ≡ None → (six a b c d e (f || is_none o) && (f && true)) ≡ six a b c d e (f || false)
sixth_more a b c d e true o is = and-true (six a b c d e true)
sixth_more a b c d e false o is = and-false (six a b c d e (is_none o)) ∙ sym (and-false (a && b && c && d && e))

plain_more : (p : Parts) (done : List Argument) (word : List ℕ) → Tells p done → Tells (record p { plain = p.plain ++ (word ∷ []) }) (done ++ (Plain word ∷ []))
plain_more p done word t = record {
  plain = word_more done word p.plain t.plain;
  instants = found_kept (value_for (codes "--instants")) done (Plain word) (option_list p.instants) refl t.instants;
  budget = found_kept (value_for (codes "--budget")) done (Plain word) (option_list p.budget) refl t.budget;
  block = found_kept (value_for (codes "--block")) done (Plain word) (option_list p.block) refl t.block;
  workers = found_kept (value_for (codes "--workers")) done (Plain word) (option_list p.workers) refl t.workers;
  run = found_kept (flag_for (codes "--run")) done (Plain word) (option_list p.run) refl t.run;
  only = found_kept (value_for (codes "--only")) done (Plain word) (option_list p.only) refl t.only;
  these = λ options flags. has_only_of options flags done (Plain word ∷ []) ∙ and-true (has_only options flags done) ∙ t.these options flags;
}

instants_more : (p : Parts) (done : List Argument) (value : List ℕ) → Tells p done → p.instants ≡ None
    → Tells (record p { instants = Some value }) (done ++ (Given (codes "--instants") value ∷ []))
instants_more p done value t empty = record {
  plain = found_kept plain_word done (Given (codes "--instants") value) p.plain refl t.plain;
  instants = found_first (value_for (codes "--instants")) done (Given (codes "--instants") value) p.instants value refl t.instants empty;
  budget = found_kept (value_for (codes "--budget")) done (Given (codes "--instants") value) (option_list p.budget) refl t.budget;
  block = found_kept (value_for (codes "--block")) done (Given (codes "--instants") value) (option_list p.block) refl t.block;
  workers = found_kept (value_for (codes "--workers")) done (Given (codes "--instants") value) (option_list p.workers) refl t.workers;
  run = found_kept (flag_for (codes "--run")) done (Given (codes "--instants") value) (option_list p.run) refl t.run;
  only = found_kept (value_for (codes "--only")) done (Given (codes "--instants") value) (option_list p.only) refl t.only;
  these = λ options flags. has_only_of options flags done (Given (codes "--instants") value ∷ []) ∙ ap (λ (b : Bool). b && (list_any (λ other. bytes_eq (codes "--instants") other) options && true)) (t.these options flags)
      ∙ first_more (list_any (λ other. bytes_eq (codes "--instants") other) options) (within (codes "--budget") options p.budget) (within (codes "--block") options p.block) (within (codes "--workers") options p.workers) (within (codes "--run") flags p.run) (within (codes "--only") options p.only) p.instants empty;
}

budget_more : (p : Parts) (done : List Argument) (value : List ℕ) → Tells p done → p.budget ≡ None
    → Tells (record p { budget = Some value }) (done ++ (Given (codes "--budget") value ∷ []))
budget_more p done value t empty = record {
  plain = found_kept plain_word done (Given (codes "--budget") value) p.plain refl t.plain;
  instants = found_kept (value_for (codes "--instants")) done (Given (codes "--budget") value) (option_list p.instants) refl t.instants;
  budget = found_first (value_for (codes "--budget")) done (Given (codes "--budget") value) p.budget value refl t.budget empty;
  block = found_kept (value_for (codes "--block")) done (Given (codes "--budget") value) (option_list p.block) refl t.block;
  workers = found_kept (value_for (codes "--workers")) done (Given (codes "--budget") value) (option_list p.workers) refl t.workers;
  run = found_kept (flag_for (codes "--run")) done (Given (codes "--budget") value) (option_list p.run) refl t.run;
  only = found_kept (value_for (codes "--only")) done (Given (codes "--budget") value) (option_list p.only) refl t.only;
  these = λ options flags. has_only_of options flags done (Given (codes "--budget") value ∷ []) ∙ ap (λ (b : Bool). b && (list_any (λ other. bytes_eq (codes "--budget") other) options && true)) (t.these options flags)
      ∙ second_more (within (codes "--instants") options p.instants) (list_any (λ other. bytes_eq (codes "--budget") other) options) (within (codes "--block") options p.block) (within (codes "--workers") options p.workers) (within (codes "--run") flags p.run) (within (codes "--only") options p.only) p.budget empty;
}

block_more : (p : Parts) (done : List Argument) (value : List ℕ) → Tells p done → p.block ≡ None
    → Tells (record p { block = Some value }) (done ++ (Given (codes "--block") value ∷ []))
block_more p done value t empty = record {
  plain = found_kept plain_word done (Given (codes "--block") value) p.plain refl t.plain;
  instants = found_kept (value_for (codes "--instants")) done (Given (codes "--block") value) (option_list p.instants) refl t.instants;
  budget = found_kept (value_for (codes "--budget")) done (Given (codes "--block") value) (option_list p.budget) refl t.budget;
  block = found_first (value_for (codes "--block")) done (Given (codes "--block") value) p.block value refl t.block empty;
  workers = found_kept (value_for (codes "--workers")) done (Given (codes "--block") value) (option_list p.workers) refl t.workers;
  run = found_kept (flag_for (codes "--run")) done (Given (codes "--block") value) (option_list p.run) refl t.run;
  only = found_kept (value_for (codes "--only")) done (Given (codes "--block") value) (option_list p.only) refl t.only;
  these = λ options flags. has_only_of options flags done (Given (codes "--block") value ∷ []) ∙ ap (λ (b : Bool). b && (list_any (λ other. bytes_eq (codes "--block") other) options && true)) (t.these options flags)
      ∙ third_more (within (codes "--instants") options p.instants) (within (codes "--budget") options p.budget) (list_any (λ other. bytes_eq (codes "--block") other) options) (within (codes "--workers") options p.workers) (within (codes "--run") flags p.run) (within (codes "--only") options p.only) p.block empty;
}

workers_more : (p : Parts) (done : List Argument) (value : List ℕ) → Tells p done → p.workers ≡ None
    → Tells (record p { workers = Some value }) (done ++ (Given (codes "--workers") value ∷ []))
workers_more p done value t empty = record {
  plain = found_kept plain_word done (Given (codes "--workers") value) p.plain refl t.plain;
  instants = found_kept (value_for (codes "--instants")) done (Given (codes "--workers") value) (option_list p.instants) refl t.instants;
  budget = found_kept (value_for (codes "--budget")) done (Given (codes "--workers") value) (option_list p.budget) refl t.budget;
  block = found_kept (value_for (codes "--block")) done (Given (codes "--workers") value) (option_list p.block) refl t.block;
  workers = found_first (value_for (codes "--workers")) done (Given (codes "--workers") value) p.workers value refl t.workers empty;
  run = found_kept (flag_for (codes "--run")) done (Given (codes "--workers") value) (option_list p.run) refl t.run;
  only = found_kept (value_for (codes "--only")) done (Given (codes "--workers") value) (option_list p.only) refl t.only;
  these = λ options flags. has_only_of options flags done (Given (codes "--workers") value ∷ []) ∙ ap (λ (b : Bool). b && (list_any (λ other. bytes_eq (codes "--workers") other) options && true)) (t.these options flags)
      ∙ fourth_more (within (codes "--instants") options p.instants) (within (codes "--budget") options p.budget) (within (codes "--block") options p.block) (list_any (λ other. bytes_eq (codes "--workers") other) options) (within (codes "--run") flags p.run) (within (codes "--only") options p.only) p.workers empty;
}

run_more : (p : Parts) (done : List Argument) → Tells p done → p.run ≡ None
    → Tells (record p { run = Some (codes "--run") }) (done ++ (Flag (codes "--run") ∷ []))
run_more p done t empty = record {
  plain = found_kept plain_word done (Flag (codes "--run")) p.plain refl t.plain;
  instants = found_kept (value_for (codes "--instants")) done (Flag (codes "--run")) (option_list p.instants) refl t.instants;
  budget = found_kept (value_for (codes "--budget")) done (Flag (codes "--run")) (option_list p.budget) refl t.budget;
  block = found_kept (value_for (codes "--block")) done (Flag (codes "--run")) (option_list p.block) refl t.block;
  workers = found_kept (value_for (codes "--workers")) done (Flag (codes "--run")) (option_list p.workers) refl t.workers;
  run = found_first (flag_for (codes "--run")) done (Flag (codes "--run")) p.run (codes "--run") refl t.run empty;
  only = found_kept (value_for (codes "--only")) done (Flag (codes "--run")) (option_list p.only) refl t.only;
  these = λ options flags. has_only_of options flags done (Flag (codes "--run") ∷ []) ∙ ap (λ (b : Bool). b && (list_any (λ other. bytes_eq (codes "--run") other) flags && true)) (t.these options flags)
      ∙ fifth_more (within (codes "--instants") options p.instants) (within (codes "--budget") options p.budget) (within (codes "--block") options p.block) (within (codes "--workers") options p.workers) (list_any (λ other. bytes_eq (codes "--run") other) flags) (within (codes "--only") options p.only) p.run empty;
}

only_more : (p : Parts) (done : List Argument) (value : List ℕ) → Tells p done → p.only ≡ None
    → Tells (record p { only = Some value }) (done ++ (Given (codes "--only") value ∷ []))
only_more p done value t empty = record {
  plain = found_kept plain_word done (Given (codes "--only") value) p.plain refl t.plain;
  instants = found_kept (value_for (codes "--instants")) done (Given (codes "--only") value) (option_list p.instants) refl t.instants;
  budget = found_kept (value_for (codes "--budget")) done (Given (codes "--only") value) (option_list p.budget) refl t.budget;
  block = found_kept (value_for (codes "--block")) done (Given (codes "--only") value) (option_list p.block) refl t.block;
  workers = found_kept (value_for (codes "--workers")) done (Given (codes "--only") value) (option_list p.workers) refl t.workers;
  run = found_kept (flag_for (codes "--run")) done (Given (codes "--only") value) (option_list p.run) refl t.run;
  only = found_first (value_for (codes "--only")) done (Given (codes "--only") value) p.only value refl t.only empty;
  these = λ options flags. has_only_of options flags done (Given (codes "--only") value ∷ []) ∙ ap (λ (b : Bool). b && (list_any (λ other. bytes_eq (codes "--only") other) options && true)) (t.these options flags)
      ∙ sixth_more (within (codes "--instants") options p.instants) (within (codes "--budget") options p.budget) (within (codes "--block") options p.block) (within (codes "--workers") options p.workers) (within (codes "--run") flags p.run) (list_any (λ other. bytes_eq (codes "--only") other) options) p.only empty;
}

-- what putting an argument tells, where these arguments follow it
abbrev TellsMore : List Argument → Argument → List Argument → Option Parts → Type 0
TellsMore done argument more (Some h) = Tells h (done ++ (argument ∷ []))
TellsMore done argument more None = IsRefused (done ++ (argument ∷ more))

-- an option that isn't known
unknown : (done more : List Argument) (argument : Argument) → is_among all_names run_flag argument ≡ false → has_only all_names run_flag (done ++ (argument ∷ more)) ≡ false
unknown done more argument is = has_only_of all_names run_flag done (argument ∷ more)
    ∙ ap (λ (b : Bool). has_only all_names run_flag done && (b && has_only all_names run_flag more)) is ∙ and-false (has_only all_names run_flag done)

putting_plain : (p : Parts) (done more : List Argument) (word : List ℕ) → Tells p done → TellsMore done (Plain word) more (with_argument (Plain word) p)
putting_plain p done more word t = go p.plain refl
  where
    put : (plain : List (List ℕ)) → p.plain ++ (word ∷ []) ≡ plain → Tells (record p { plain = plain }) (done ++ (Plain word ∷ []))
    put plain is = let P : List (List ℕ) → Type 0 = λ (l : List (List ℕ)). Tells (record p { plain = l }) (done ++ (Plain word ∷ [])) in subst P is (plain_more p done word t)

    go : (plain : List (List ℕ)) → p.plain ≡ plain → TellsMore done (Plain word) more (option_map (λ v. record p { plain = v }) (next_word plain word))
    go [] is = put (word ∷ []) (ap (λ (l : List (List ℕ)). l ++ (word ∷ [])) is)
    go (a ∷ []) is = put (a ∷ word ∷ []) (ap (λ (l : List (List ℕ)). l ++ (word ∷ [])) is)
    go (a ∷ b ∷ rest) is = Words (word_third done more word (a ∷ b ∷ rest) (t.plain ∙ is) (omega arith))

-- the first of the options that has the name, and else none
putting_option : (p : Parts) (done more : List Argument) (name value : List ℕ) → Tells p done → TellsMore done (Given name value) more (with_argument (Given name value) p)
putting_option p done more name value t =
    pick (bytes_eq name (codes "--instants")) (bytes_eq name (codes "--budget")) (bytes_eq name (codes "--block")) (bytes_eq name (codes "--workers")) (bytes_eq name (codes "--only")) refl refl refl refl refl
  where
    set_instants : (o : Option (List ℕ)) → p.instants ≡ o → TellsMore done (Given (codes "--instants") value) more (option_map (λ v. record p { instants = Some v }) (first_value o value))
    set_instants None is = instants_more p done value t is
    set_instants (Some before) is = Instants (found_twice (value_for (codes "--instants")) done more (Given (codes "--instants") value) p.instants before value refl t.instants is)

    set_budget : (o : Option (List ℕ)) → p.budget ≡ o → TellsMore done (Given (codes "--budget") value) more (option_map (λ v. record p { budget = Some v }) (first_value o value))
    set_budget None is = budget_more p done value t is
    set_budget (Some before) is = Budget (found_twice (value_for (codes "--budget")) done more (Given (codes "--budget") value) p.budget before value refl t.budget is)

    set_block : (o : Option (List ℕ)) → p.block ≡ o → TellsMore done (Given (codes "--block") value) more (option_map (λ v. record p { block = Some v }) (first_value o value))
    set_block None is = block_more p done value t is
    set_block (Some before) is = Block (found_twice (value_for (codes "--block")) done more (Given (codes "--block") value) p.block before value refl t.block is)

    set_workers : (o : Option (List ℕ)) → p.workers ≡ o → TellsMore done (Given (codes "--workers") value) more (option_map (λ v. record p { workers = Some v }) (first_value o value))
    set_workers None is = workers_more p done value t is
    set_workers (Some before) is = Workers (found_twice (value_for (codes "--workers")) done more (Given (codes "--workers") value) p.workers before value refl t.workers is)

    set_only : (o : Option (List ℕ)) → p.only ≡ o → TellsMore done (Given (codes "--only") value) more (option_map (λ v. record p { only = Some v }) (first_value o value))
    set_only None is = only_more p done value t is
    set_only (Some before) is = Only (found_twice (value_for (codes "--only")) done more (Given (codes "--only") value) p.only before value refl t.only is)

    pick : (a b c d e : Bool) → bytes_eq name (codes "--instants") ≡ a → bytes_eq name (codes "--budget") ≡ b → bytes_eq name (codes "--block") ≡ c → bytes_eq name (codes "--workers") ≡ d → bytes_eq name (codes "--only") ≡ e
        → TellsMore done (Given name value) more
        (if a then option_map (λ v. record p { instants = Some v }) (first_value p.instants value)
        else (if b then option_map (λ v. record p { budget = Some v }) (first_value p.budget value)
        else (if c then option_map (λ v. record p { block = Some v }) (first_value p.block value)
        else (if d then option_map (λ v. record p { workers = Some v }) (first_value p.workers value)
        else (if e then option_map (λ v. record p { only = Some v }) (first_value p.only value) else None)))))
    pick true b c d e i u k w o =
        let P : List ℕ → Type 0 = λ (n : List ℕ). TellsMore done (Given n value) more (option_map (λ v. record p { instants = Some v }) (first_value p.instants value)) in
        subst P (sym ((bytes_eq-Decides name (codes "--instants")).0 i)) (set_instants p.instants refl)
    pick false true c d e i u k w o =
        let P : List ℕ → Type 0 = λ (n : List ℕ). TellsMore done (Given n value) more (option_map (λ v. record p { budget = Some v }) (first_value p.budget value)) in
        subst P (sym ((bytes_eq-Decides name (codes "--budget")).0 u)) (set_budget p.budget refl)
    pick false false true d e i u k w o =
        let P : List ℕ → Type 0 = λ (n : List ℕ). TellsMore done (Given n value) more (option_map (λ v. record p { block = Some v }) (first_value p.block value)) in
        subst P (sym ((bytes_eq-Decides name (codes "--block")).0 k)) (set_block p.block refl)
    pick false false false true e i u k w o =
        let P : List ℕ → Type 0 = λ (n : List ℕ). TellsMore done (Given n value) more (option_map (λ v. record p { workers = Some v }) (first_value p.workers value)) in
        subst P (sym ((bytes_eq-Decides name (codes "--workers")).0 w)) (set_workers p.workers refl)
    pick false false false false true i u k w o =
        let P : List ℕ → Type 0 = λ (n : List ℕ). TellsMore done (Given n value) more (option_map (λ v. record p { only = Some v }) (first_value p.only value)) in
        subst P (sym ((bytes_eq-Decides name (codes "--only")).0 o)) (set_only p.only refl)
    pick false false false false false i u k w o = Other (unknown done more (Given name value) (grind (arith, i, u, k, w, o)))

-- the flag, and else none
putting_flag : (p : Parts) (done more : List Argument) (name : List ℕ) → Tells p done → TellsMore done (Flag name) more (with_argument (Flag name) p)
putting_flag p done more name t = pick (bytes_eq name (codes "--run")) refl
  where
    set_run : (o : Option (List ℕ)) → p.run ≡ o → TellsMore done (Flag (codes "--run")) more (option_map (λ v. record p { run = Some v }) (first_value o (codes "--run")))
    set_run None is = run_more p done t is
    set_run (Some before) is = Run (found_twice (flag_for (codes "--run")) done more (Flag (codes "--run")) p.run before (codes "--run") refl t.run is)

    pick : (a : Bool) → bytes_eq name (codes "--run") ≡ a
        → TellsMore done (Flag name) more (if a then option_map (λ v. record p { run = Some v }) (first_value p.run name) else None)
    pick true r =
        let P : List ℕ → Type 0 = λ (n : List ℕ). TellsMore done (Flag n) more (option_map (λ v. record p { run = Some v }) (first_value p.run n)) in
        subst P (sym ((bytes_eq-Decides name (codes "--run")).0 r)) (set_run p.run refl)
    pick false r = Other (unknown done more (Flag name) (grind (arith, r)))

putting : (p : Parts) (done more : List Argument) (argument : Argument) → Tells p done → TellsMore done argument more (with_argument argument p)
putting p done more (Plain word) t = putting_plain p done more word t
putting p done more (Given name value) t = putting_option p done more name value t
putting p done more (Flag name) t = putting_flag p done more name t

-- what putting all arguments tells
abbrev pub TellsAll : List Argument → Option Parts → Type 0
TellsAll given (Some h) = Tells h given
TellsAll given None = IsRefused given

told_more : (p : Parts) (done more : List Argument) → Tells p done → TellsAll (done ++ more) (with_arguments p more)
told_more p done [] t = let P : List Argument → Type 0 = λ (l : List Argument). Tells p l in subst P (sym (append-nil done)) t
told_more p done (argument ∷ more) t = go (with_argument argument p) (putting p done more argument t) (λ h s. told_more h (done ++ (argument ∷ [])) more s)
  where
    go : (o : Option Parts) → TellsMore done argument more o → ((h : Parts) → Tells h (done ++ (argument ∷ [])) → TellsAll ((done ++ (argument ∷ [])) ++ more) (with_arguments h more))
        → TellsAll (done ++ (argument ∷ more)) (option_and_then (λ h. with_arguments h more) o)
    go None s rest = s
    go (Some h) s rest = let P : List Argument → Type 0 = λ (l : List Argument). TellsAll l (with_arguments h more) in subst P (append_assoc done (argument ∷ []) more) (rest h s)

-- where nothing is given, nothing is too much
none_within : (name : List ℕ) (names : List (List ℕ)) → within name names None ≡ true
none_within name names = or-true (list_any (λ other. bytes_eq name other) names)

all_true : {a b c d e f : Bool} → a ≡ true → b ≡ true → c ≡ true → d ≡ true → e ≡ true → f ≡ true → true ≡ six a b c d e f
all_true i k b w r o = rw (i, k, b, w, r, o) refl

all_within : (options flags : List (List ℕ)) → true ≡ only_these options flags no_parts
all_within options flags = all_true (none_within (codes "--instants") options) (none_within (codes "--budget") options) (none_within (codes "--block") options)
    (none_within (codes "--workers") options) (none_within (codes "--run") flags) (none_within (codes "--only") options)

pub told : (given : List Argument) → TellsAll given (with_arguments no_parts given)
told given = told_more no_parts [] given
    (record { plain = refl; instants = refl; budget = refl; block = refl; workers = refl; run = refl; only = refl; these = λ options flags. all_within options flags })
