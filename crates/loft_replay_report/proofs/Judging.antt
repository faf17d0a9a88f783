-- A report has one answer.
use Rattle.std.proofs.Common.{◌≡◌, ℕ, ◌+◌, ◌<◌, ◌≤◌, nat_lt, Bool, true, false, List, length, Result, Ok, Err, inl, inr, refl, sym, ap, subst, ◌∙◌, arith}
use Rattle.std.specs.Prelude.{take, drop, min}
use Rattle.std.proofs.lemmas.List.{length-take, take-append-drop, take_min}
use Rattle.loft_base.proofs.WritesLemmas.{take-min}
use Rattle.std.proofs.lemmas.Bool.{ltb-true, ltb-false}
use Rattle.loft_base.specs.declared.options.RunOptions.{RunOptions}
use Rattle.loft_orders.specs.declared.entry.Entry.{Entry}
use Rattle.loft_sense.specs.Machine.{Prog}
use Rattle.loft_history.specs.History.{HasEnded}
use Rattle.loft_history.specs.Report.{report}
use Rattle.loft_report_shape.specs.Told.{Report}
use Rattle.loft_report_shape.specs.declared.raw.Choice.{Choice}
use Rattle.loft_replay.specs.Named.{follows}
use Rattle.loft_replay.specs.Whole.{IsWhole, IsNotAllowed}
use Rattle.loft_replay_error.specs.Difference.{DifferAt}
use Rattle.loft_replay_error.specs.declared.error.ReplayError.{ReplayError}
use Rattle.loft_replay_error.specs.declared.error.ReplayError.TheVariants.{Log, NotAllowed, Differs, NoMemory}
use Rattle.loft_replay_report.specs.Replays.{IsReportOf, IsRefusal, IsAccepted, IsRefused}

-- ---- histories

one_history : (x : Prog) (o : RunOptions) (cs : List Choice) (h g : List Entry) → follows x o cs ≡ Ok h → follows x o cs ≡ Ok g → h ≡ g
one_history x o cs h g p q = let e : Ok h ≡ Ok g = sym p ∙ q in cc

never_both : (x : Prog) (o : RunOptions) (cs : List Choice) (h : List Entry) (n : ℕ) → follows x o cs ≡ Ok h → follows x o cs ≡ Err n → ⊥
never_both x o cs h n p q = absurd (let e : Ok h ≡ Err n = sym p ∙ q in cc)

one_entry : (x : Prog) (o : RunOptions) (cs : List Choice) (n m : ℕ) → IsNotAllowed x o cs n → IsNotAllowed x o cs m → n ≡ m
one_entry x o cs n m (inl p) (inl q) = let e : Err n ≡ Err m = sym p ∙ q in cc
one_entry x o cs n m (inl p) (inr ((h, made, goes_on), is)) = absurd (never_both x o cs h n made p)
one_entry x o cs n m (inr ((h, made, goes_on), is)) (inl q) = absurd (never_both x o cs h m made q)
one_entry x o cs n m (inr (u, p)) (inr (v, q)) = p ∙ sym q

whole_allowed : (x : Prog) (o : RunOptions) (cs : List Choice) (h : List Entry) (n : ℕ) → IsWhole x o cs h → IsNotAllowed x o cs n → ⊥
whole_allowed x o cs h n whole (inl p) = never_both x o cs h n whole.made p
whole_allowed x o cs h n whole (inr ((g, made, goes_on), is)) = goes_on (subst (λ (l : List Entry). HasEnded x o l) (one_history x o cs h g whole.made made) whole.ended)

-- ---- differences

-- a prefix of a prefix
take_of_take : (a : List ℕ) (n j : ℕ) → n ≤ j → take n (take j a) ≡ take n a
take_of_take a n j below =
    let long : length (take j a) ≡ min j (length a) = length-take j a in
    let least : min n (length (take j a)) ≡ min n (length a) = omega (arith, long, below) in
    sym (take-min n (take j a) (drop j a)) ∙ (ap (take (min n (length (take j a)))) (take-append-drop j a) ∙ (ap (λ (m : ℕ). take m a) least ∙ take_min n a))

shorter : (a b : List ℕ) (n j : ℕ) → n ≤ j → take j a ≡ take j b → take n a ≡ take n b
shorter a b n j below same = sym (take_of_take a n j below) ∙ (ap (take n) same ∙ take_of_take b n j below)

not_before : (a b : List ℕ) (k j : ℕ) → DifferAt a b k → DifferAt a b j → k < j → ⊥
not_before a b k j d e below = d.1 (shorter a b (k + 1) j (omega (arith, below)) e.0)

one_difference : (a b : List ℕ) (k j : ℕ) → DifferAt a b k → DifferAt a b j → k ≡ j
one_difference a b k j d e = by (nat_lt k j) refl (nat_lt j k) refl
  where
    neither : (n m : ℕ) → m ≤ n → n ≤ m → n ≡ m
    neither n m p q = omega (arith, p, q)

    by : (p : Bool) → nat_lt k j ≡ p → (q : Bool) → nat_lt j k ≡ q → k ≡ j
    by true p q r = absurd (not_before a b k j d e (ltb-true k j p))
    by false p true r = absurd (not_before a b j k e d (ltb-true j k r))
    by false p false r = neither k j (ltb-false k j p) (ltb-false j k r)

never_same : (a b : List ℕ) (k : ℕ) → a ≡ b → DifferAt a b k → ⊥
never_same a b k same d = d.1 (ap (take (k + 1)) same)

-- ---- answers

-- what is answered of a report says so
abbrev pub Judged : {A : Type 0} → Prog → List ℕ → Report → Result A ReplayError → Type 0
Judged x text r (Ok a) = (h : List Entry) × IsReportOf x text r h
Judged x text r (Err e) = IsRefusal x text r e

pub judged_accepted : {A : Type 0} (x : Prog) (text : List ℕ) (r : Report) (result : Result A ReplayError) → Judged x text r result → (h : List Entry) → IsReportOf x text r h → IsAccepted result
judged_accepted x text r (Ok a) judged h is = tt
judged_accepted x text r (Err (Log e)) judged h is = absurd judged
judged_accepted x text r (Err (NotAllowed n)) judged h is = absurd (whole_allowed x r.options r.choices h n is.whole judged)
judged_accepted x text r (Err (Differs k)) (g, whole, d) h is =
    absurd (never_same text (report x r.options g) k (is.same ∙ ap (report x r.options) (one_history x r.options r.choices h g is.whole.made whole.made)) d)
judged_accepted x text r (Err NoMemory) judged h is = tt

pub judged_not_allowed : {A : Type 0} (x : Prog) (text : List ℕ) (r : Report) (result : Result A ReplayError) → Judged x text r result → (n : ℕ) → IsNotAllowed x r.options r.choices n → IsRefused result (NotAllowed n)
judged_not_allowed x text r (Ok a) (h, is) n refused = absurd (whole_allowed x r.options r.choices h n is.whole refused)
judged_not_allowed x text r (Err (Log e)) judged n refused = absurd judged
judged_not_allowed x text r (Err (NotAllowed m)) judged n refused = ap (λ (i : ℕ). NotAllowed i) (one_entry x r.options r.choices m n judged refused)
judged_not_allowed x text r (Err (Differs k)) (g, whole, d) n refused = absurd (whole_allowed x r.options r.choices g n whole refused)
judged_not_allowed x text r (Err NoMemory) judged n refused = tt

pub judged_differs : {A : Type 0} (x : Prog) (text : List ℕ) (r : Report) (result : Result A ReplayError) → Judged x text r result
    → (h : List Entry) (k : ℕ) → IsWhole x r.options r.choices h → DifferAt text (report x r.options h) k → IsRefused result (Differs k)
judged_differs x text r (Ok a) (g, is) h k whole d =
    absurd (never_same text (report x r.options h) k (is.same ∙ ap (report x r.options) (one_history x r.options r.choices g h is.whole.made whole.made)) d)
judged_differs x text r (Err (Log e)) judged h k whole d = absurd judged
judged_differs x text r (Err (NotAllowed m)) judged h k whole d = absurd (whole_allowed x r.options r.choices h m whole judged)
judged_differs x text r (Err (Differs j)) (g, other, e) h k whole d =
    ap (λ (i : ℕ). Differs i) (one_difference text (report x r.options h) j k
    (subst (λ (l : List Entry). DifferAt text (report x r.options l) j) (one_history x r.options r.choices g h other.made whole.made) e) d)
judged_differs x text r (Err NoMemory) judged h k whole d = tt
