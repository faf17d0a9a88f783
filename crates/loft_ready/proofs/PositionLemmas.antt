-- The passes, by the position of the next thread that can go.
use Rattle.std.proofs.Common.{◌≡◌, ℕ, zero, suc, ◌+◌, ◌-◌, ◌<◌, ◌≤◌, Bool, true, false, List, [], ◌∷◌, ◌++◌, refl, sym, ◌∙◌, ap, arith, append-nil, Option, Some, None, take, drop, length, get_or, set, map, ◌⊎◌, inl, inr}
use Rattle.std.specs.Prelude.{◌&&◌, not, if◌then◌else◌, slice_get}
use Rattle.std.proofs.lemmas.Grind.{flat_map-append}
use Rattle.std.proofs.lemmas.List.Concat.{flat_map-cons}
use Rattle.std.proofs.lemmas.Option.{slice_get_within}
use Rattle.loft_orders.specs.declared.order.Stop.{Stop}
use Rattle.loft_orders.specs.declared.order.Stop.TheVariants.{Holds, Leaves, Ends}
use Rattle.loft_orders.specs.declared.thread.Wait.{Wait}
use Rattle.loft_sense.specs.Machine.{Prog}
use Rattle.loft_sense.specs.Around.{Around}
use Rattle.loft_sense.specs.CanGo.{can_go}
use Rattle.loft_sense.specs.Passes.{Runner as Linked, Walk, run_of, runners_after, around_after, passes}
use Rattle.loft_passes.specs.declared.runner.Runner.{Runner}
use Rattle.loft_passes.specs.View.{runner_to, linked_after, linked_of, runners_of, is_held, can_run}
use Rattle.loft_waits.specs.Told.{Told, ready_at, is_ready, wait_at, counts_of, NobodyIn, NobodyFrom, IsNext}
use Rattle.loft_waits.proofs.LawLemmas.{ready_is}
use Rattle.loft_ready.specs.Entered.{wait_of, IsEntered, HasRunAt}
use Rattle.loft_ready.proofs.CircleLemmas.{going, skips, runs, stops, begins, wraps}

-- ---- lists

drop_here : (rs : List Runner) (q : ℕ) (r : Runner) → slice_get rs q ≡ Some r → drop q rs ≡ r ∷ drop (suc q) rs
drop_here [] q r h = absurd cc
drop_here (x ∷ rs) zero r h = let same : x ≡ r = cc h in ap (λ (y : Runner). y ∷ rs) same
drop_here (x ∷ rs) (suc q) r h = drop_here rs q r h

take_here : (rs : List Runner) (q : ℕ) (r : Runner) → slice_get rs q ≡ Some r → take (suc q) rs ≡ take q rs ++ r ∷ []
take_here [] q r h = absurd cc
take_here (x ∷ rs) zero r h = let same : x ≡ r = cc h in ap (λ (y : Runner). y ∷ []) same
take_here (x ∷ rs) (suc q) r h = ap (λ (l : List Runner). x ∷ l) (take_here rs q r h)

drop_set : (rs : List Runner) (q : ℕ) (y : Runner) → drop (suc q) (set rs q y) ≡ drop (suc q) rs
drop_set [] q y = refl
drop_set (x ∷ rs) zero y = refl
drop_set (x ∷ rs) (suc q) y = drop_set rs q y

take_set : (rs : List Runner) (q : ℕ) (y : Runner) → q < length rs → take (suc q) (set rs q y) ≡ take q rs ++ y ∷ []
take_set [] q y h = absurd (omega arith)
take_set (x ∷ rs) zero y h = refl
take_set (x ∷ rs) (suc q) y h = ap (λ (l : List Runner). x ∷ l) (take_set rs q y (omega arith))

take_whole : (rs : List Runner) → take (length rs) rs ≡ rs
take_whole [] = refl
take_whole (x ∷ rs) = ap (λ (l : List Runner). x ∷ l) (take_whole rs)

drop_whole : (rs : List Runner) → drop (length rs) rs ≡ []
drop_whole [] = refl
drop_whole (x ∷ rs) = drop_whole rs

pub length_set : (rs : List Runner) (q : ℕ) (y : Runner) → length (set rs q y) ≡ length rs
length_set [] q y = refl
length_set (x ∷ rs) zero y = refl
length_set (x ∷ rs) (suc q) y = ap suc (length_set rs q y)

length_waits : (rs : List Runner) → length (map wait_of rs) ≡ length rs
length_waits [] = refl
length_waits (r ∷ rs) = ap suc (length_waits rs)

wait_there : (rs : List Runner) (p : ℕ) (r : Runner) → slice_get rs p ≡ Some r → get_or (map wait_of rs) p None ≡ wait_of r
wait_there [] p r h = absurd cc
wait_there (x ∷ rs) zero r h = let same : x ≡ r = cc h in ap wait_of same
wait_there (x ∷ rs) (suc p) r h = wait_there rs p r h

-- ---- a position is ready where its thread can go

ready_one : (held suspended : Bool) (w : Wait) (around : Around) (told : Told) (p : ℕ) → told.counts ≡ counts_of around.board → wait_at told p ≡ (if held && not suspended then Some w else None)
    → ready_at told p ≡ (held && can_go w suspended around.board told.ended)
ready_one true false w around told p counts at = ready_is told around.board p w counts at
ready_one true true w around told p counts at = ap (is_ready told.counts told.ended) at
ready_one false suspended w around told p counts at = ap (is_ready told.counts told.ended) at

pub length_entered : (rs : List Runner) (around : Around) (told : Told) → IsEntered rs around told → length told.waits ≡ length rs
length_entered rs around told e = ap (λ (ws : List (Option Wait)). length ws) e.waits ∙ length_waits rs

pub ready_runs : (rs : List Runner) (around : Around) (told : Told) (p : ℕ) (r : Runner) → IsEntered rs around told → slice_get rs p ≡ Some r → ready_at told p ≡ can_run r around
ready_runs rs around told p r e there =
    ready_one (is_held r.stop) r.suspended r.thread.wait around told p e.counts (ap (λ (ws : List (Option Wait)). get_or ws p None) e.waits ∙ wait_there rs p r there)
    ∙ ap (λ (k : List _). is_held r.stop && can_go r.thread.wait r.suspended around.board k) e.ended

-- ---- the passes from a position on

module _ (x : Prog) where
  abbrev pub at : Bool → List Runner → ℕ → Around → Walk
  at ran rs q around = going x ran (runners_of (take q rs)) (runners_of (drop q rs)) around

  passes_one : (stop : Stop) (ran : Bool) (front rest : List Linked) (r : Runner) (around : Around) → (is_held stop && can_go r.thread.wait r.suspended around.board around.known) ≡ false
      → going x ran front (linked_after stop r ++ rest) around ≡ going x ran (front ++ linked_after stop r) rest around
  passes_one Holds ran front rest r around h = skips x ran front (runner_to None r) rest around h
  passes_one (Leaves to) ran front rest r around h = skips x ran front (runner_to (Some to) r) rest around refl
  passes_one (Ends end) ran front rest r around h = ap (λ (l : List Linked). going x ran l rest around) (sym (append-nil front))

  runs_one : (stop : Stop) (ran : Bool) (front rest : List Linked) (r : Runner) (around : Around) → (is_held stop && can_go r.thread.wait r.suspended around.board around.known) ≡ true
      → going x ran front (linked_after stop r ++ rest) around
      ≡ going x true (front ++ runners_after (runner_to None r) (run_of x r.thread around (r.bound - r.steps))) rest (around_after (run_of x r.thread around (r.bound - r.steps)))
  runs_one Holds ran front rest r around h = runs x ran front (runner_to None r) rest around h
  runs_one (Leaves to) ran front rest r around h = absurd cc
  runs_one (Ends end) ran front rest r around h = absurd cc

  -- the threads from a position on
  from_here : (ran : Bool) (rs : List Runner) (q : ℕ) (r : Runner) (around : Around) → slice_get rs q ≡ Some r
      → at ran rs q around ≡ going x ran (runners_of (take q rs)) (linked_of r ++ runners_of (drop (suc q) rs)) around
  from_here ran rs q r around there =
      ap (λ (l : List Runner). going x ran (runners_of (take q rs)) (runners_of l) around) (drop_here rs q r there)
      ∙ ap (λ (l : List Linked). going x ran (runners_of (take q rs)) l around) (flat_map-cons linked_of r (drop (suc q) rs))

  one_more : (front : List Runner) (r : Runner) → runners_of (front ++ r ∷ []) ≡ runners_of front ++ linked_of r
  one_more front r =
      flat_map-append linked_of front (r ∷ [])
      ∙ ap (λ (l : List Linked). runners_of front ++ l) (flat_map-cons linked_of r [] ∙ append-nil (linked_of r))

  moves_one : (ran : Bool) (rs : List Runner) (q : ℕ) (r : Runner) (around : Around) → slice_get rs q ≡ Some r → can_run r around ≡ false → at ran rs q around ≡ at ran rs (suc q) around
  moves_one ran rs q r around there h =
      from_here ran rs q r around there
      ∙ passes_one r.stop ran (runners_of (take q rs)) (runners_of (drop (suc q) rs)) r around h
      ∙ ap (λ (l : List Linked). going x ran l (runners_of (drop (suc q) rs)) around) (sym (ap runners_of (take_here rs q r there) ∙ one_more (take q rs) r))

  -- the thread at a position that can go runs
  pub runs_at : (ran : Bool) (rs later : List Runner) (q : ℕ) (around after : Around) → (did : HasRunAt x q rs around later after) → can_run did.before around ≡ true → at ran rs q around ≡ at true later (suc q) after
  runs_at ran rs later q around after did able =
      let r = did.before in
      let o = run_of x r.thread around (r.bound - r.steps) in
      let within : q < length rs = slice_get_within rs q r did.there in
      let front : runners_of (take q rs) ++ runners_after (runner_to None r) o ≡ runners_of (take (suc q) later) =
      ap (λ (l : List Linked). runners_of (take q rs) ++ l) (sym did.linked)
      ∙ sym (one_more (take q rs) did.now)
      ∙ ap runners_of (sym (take_set rs q did.now within))
      ∙ ap (λ (l : List Runner). runners_of (take (suc q) l)) (sym did.later_is) in
      let rest : runners_of (drop (suc q) rs) ≡ runners_of (drop (suc q) later) =
      ap runners_of (sym (drop_set rs q did.now)) ∙ ap (λ (l : List Runner). runners_of (drop (suc q) l)) (sym did.later_is) in
      from_here ran rs q r around did.there
      ∙ runs_one r.stop ran (runners_of (take q rs)) (runners_of (drop (suc q) rs)) r around able
      ∙ ap (λ (l : List Linked). going x true l (runners_of (drop (suc q) rs)) (around_after o)) front
      ∙ ap (λ (l : List Linked). going x true (runners_of (take (suc q) later)) l (around_after o)) rest
      ∙ ap (λ (a : Around). going x true (runners_of (take (suc q) later)) (runners_of (drop (suc q) later)) a) (sym did.after_is)

  there : (rs : List Runner) (i : ℕ) → i < length rs → (r : Runner) × (slice_get rs i ≡ Some r)
  there [] i h = absurd (omega arith)
  there (r ∷ rs) zero h = (r, refl)
  there (r ∷ rs) (suc i) h = there rs i (omega arith)

  moves : (d f : ℕ) (ran : Bool) (rs : List Runner) (around : Around) → f + d ≤ length rs
      → ((i : ℕ) (r : Runner) → f ≤ i → i < f + d → slice_get rs i ≡ Some r → can_run r around ≡ false) → at ran rs f around ≡ at ran rs (f + d) around
  moves zero f ran rs around h stay = let e : f ≡ f + 0 = omega arith in ap (λ (q : ℕ). at ran rs q around) e
  moves (suc d) f ran rs around h stay =
      let e : suc (f + d) ≡ f + suc d = omega arith in
      let it = there rs (f + d) (omega (arith, h)) in
      moves d f ran rs around (omega (arith, h)) (λ i r from below is. stay i r from (omega (arith, below)) is)
      ∙ moves_one ran rs (f + d) it.0 around it.1 (stay (f + d) it.0 (omega arith) (omega arith) it.1)
      ∙ ap (λ (q : ℕ). at ran rs q around) e

  -- those that can't go are passed by
  moves_to : (ran : Bool) (rs : List Runner) (f q : ℕ) (around : Around) (told : Told) → IsEntered rs around told → f ≤ q → q ≤ length rs → NobodyIn told f q → at ran rs f around ≡ at ran rs q around
  moves_to ran rs f q around told e le h nobody =
      let same : f + (q - f) ≡ q = omega (arith, le) in
      moves (q - f) f ran rs around (omega (arith, le, h)) (λ i r from below is. sym (ready_runs rs around told i r e is) ∙ nobody i from (omega (arith, le, below)))
      ∙ ap (λ (p : ℕ). at ran rs p around) same

  at_end : (ran : Bool) (rs : List Runner) (around : Around) → at ran rs (length rs) around ≡ going x ran (runners_of rs) [] around
  at_end ran rs around =
      ap (λ (l : List Runner). going x ran (runners_of l) (runners_of (drop (length rs) rs)) around) (take_whole rs)
      ∙ ap (λ (l : List Runner). going x ran (runners_of rs) (runners_of l) around) (drop_whole rs)

  -- nobody from a position on can go
  to_end : (ran : Bool) (rs : List Runner) (around : Around) (told : Told) (f : ℕ) → IsEntered rs around told → f ≤ length rs → NobodyFrom told f → at ran rs f around ≡ going x ran (runners_of rs) [] around
  to_end ran rs around told f e h nobody = moves_to ran rs f (length rs) around told e h (omega arith) (λ i from below. nobody i from) ∙ at_end ran rs around

  -- The whole of the passes, where this position is the next to run, or none is.
  pub record IsOn (whole : Walk) (rs : List Runner) (around : Around) (q : ℕ) : Type 0 where
    pub ran : Bool
    pub same : whole ≡ at ran rs q around

  abbrev pub Onward : Walk → List Runner → Around → Option ℕ → Type 0
  Onward whole rs around None = whole ≡ record { runners = runners_of rs; around = around; ran = false }
  Onward whole rs around (Some q) = IsOn whole rs around q

  next_one : (whole : Walk) (rs : List Runner) (around : Around) (told : Told) (p q : ℕ) → IsEntered rs around told → p < length rs → q < length rs
      → ((p < q) × NobodyIn told (p + 1) q) ⊎ (NobodyFrom told (p + 1) × NobodyIn told 0 q) → whole ≡ at true rs (p + 1) around → IsOn whole rs around q
  next_one whole rs around told p q e h within (inl first) w = record {
    ran = true;
    same = let lt : p < q = first.0 in w ∙ moves_to true rs (p + 1) q around told e (omega (arith, lt)) (omega (arith, within)) first.1;
  }
  next_one whole rs around told p q e h within (inr first) w = record {
    ran = false;
    same =
        w ∙ to_end true rs around told (p + 1) e (omega (arith, h)) first.0
        ∙ wraps x (runners_of rs) around
        ∙ moves_to false rs 0 q around told e (omega arith) (omega (arith, within)) first.1;
  }

  -- the next position behind one that ran
  pub next_behind : (whole : Walk) (rs : List Runner) (around : Around) (told : Told) (p : ℕ) (o : Option ℕ) → IsEntered rs around told → p < length rs → IsNext told p o → whole ≡ at true rs (p + 1) around → Onward whole rs around o
  next_behind whole rs around told p None e h none w =
      w ∙ to_end true rs around told (p + 1) e (omega (arith, h)) (λ i from. none i (omega arith))
      ∙ wraps x (runners_of rs) around
      ∙ to_end false rs around told 0 e (omega arith) none
      ∙ stops x (runners_of rs) around
  next_behind whole rs around told p (Some q) e h next w =
      let long = length_entered rs around told e in
      let inside = next.within in
      next_one whole rs around told p q e h (omega (arith, long, inside)) next.first w

  first_one : (rs : List Runner) (around : Around) (told : Told) (p q : ℕ) → IsEntered rs around told → length rs ≤ p → q < length rs
      → ((p < q) × NobodyIn told (p + 1) q) ⊎ (NobodyFrom told (p + 1) × NobodyIn told 0 q) → IsOn (passes x (runners_of rs) around) rs around q
  first_one rs around told p q e h within (inl first) = let lt : p < q = first.0 in absurd (omega (arith, lt, h, within))
  first_one rs around told p q e h within (inr first) = record {
    ran = false;
    same = begins x (runners_of rs) around ∙ moves_to false rs 0 q around told e (omega arith) (omega (arith, within)) first.1;
  }

  -- the first position that runs
  pub next_first : (rs : List Runner) (around : Around) (told : Told) (p : ℕ) (o : Option ℕ) → IsEntered rs around told → length rs ≤ p → IsNext told p o → Onward (passes x (runners_of rs) around) rs around o
  next_first rs around told p None e h none = begins x (runners_of rs) around ∙ to_end false rs around told 0 e (omega arith) none ∙ stops x (runners_of rs) around
  next_first rs around told p (Some q) e h next =
      let long = length_entered rs around told e in
      let inside = next.within in
      first_one rs around told p q e h (omega (arith, long, inside)) next.first

-- a next position is one, and is ready
abbrev pub IfReady : Told → Option ℕ → Type 0
IfReady told None = Unit {0}
IfReady told (Some q) = (q < length told.waits) × (ready_at told q ≡ true)
