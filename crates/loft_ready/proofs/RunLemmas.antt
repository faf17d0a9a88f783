-- One run at a position.
use Rattle.std.proofs.Common.{◌≡◌, ℕ, zero, suc, ◌+◌, ◌-◌, ◌<◌, ◌≤◌, Bool, true, false, List, [], ◌∷◌, ◌++◌, refl, sym, ◌∙◌, ap, subst, arith, Option, Some, None, drop, length, set, map}
use Rattle.std.specs.Prelude.{◌&&◌, slice_get, slice_set}
use Rattle.std.proofs.lemmas.List.{map-set, set-set, length-append}
use Rattle.std.proofs.lemmas.List.Concat.{flat_map-cons}
use Rattle.std.proofs.Math.Seq.{drop-append_seam}
use Rattle.loft_base.specs.declared.ids.ThreadId.{ThreadId}
use Rattle.loft_orders.specs.declared.order.Stop.{Stop}
use Rattle.loft_orders.specs.declared.order.Stop.TheVariants.{Holds, Leaves, Ends}
use Rattle.loft_orders.specs.declared.thread.Wait.{Wait}
use Rattle.loft_sense.specs.Machine.{Prog}
use Rattle.loft_sense.specs.Around.{Around}
use Rattle.loft_sense.specs.Run.{Outcome, Held, Left, Ended}
use Rattle.loft_sense.specs.LawWords.{Tells}
use Rattle.loft_sense.specs.Passes.{Runner as Linked, run_of, runners_after, around_after, steps_left}
use Rattle.loft_sense.proofs.StepLemmas.{IsBelow, run_takes_step}
use Rattle.loft_passes.specs.declared.runner.Runner.{Runner}
use Rattle.loft_passes.specs.View.{runner_to, linked_after, linked_of, runners_of, is_held, can_run}
use Rattle.loft_waits.specs.Told.{Told, Counts, counts_of}
use Rattle.loft_ready.specs.Entered.{wait_of, IsEntered, HasRunAt}

pub behind : {A : Type 0} (xs ys all : List A) → all ≡ xs ++ ys → drop (length xs) all ≡ ys
behind xs ys all is = ap (drop (length xs)) is ∙ drop-append_seam xs ys

-- the waits after a run, as they were told of it
pub entered_after : (rs later : List Runner) (p : ℕ) (now : Runner) (a b : Around) (t0 t1 t2 t3 t4 : Told) (ends : List ThreadId) → IsEntered rs a t0 → later ≡ slice_set rs p now
    → t1 ≡ record t0 { waits = slice_set t0.waits p None } → t2 ≡ record t1 { counts = counts_of b.board } → t3 ≡ record t2 { ended = t2.ended ++ ends } → t4 ≡ record t3 { waits = slice_set t3.waits p (wait_of now) }
    → b.known ≡ a.known ++ ends → IsEntered later b t4
entered_after rs later p now a b t0 t1 t2 t3 t4 ends e is e1 e2 e3 e4 known =
    let waits3 : t3.waits ≡ set (map wait_of rs) p None =
    ap (λ (t : Told). t.waits) e3 ∙ ap (λ (t : Told). t.waits) e2 ∙ ap (λ (t : Told). t.waits) e1 ∙ ap (λ (ws : List (Option Wait)). set ws p None) e.waits in
    let ended2 : t2.ended ≡ a.known = ap (λ (t : Told). t.ended) e2 ∙ ap (λ (t : Told). t.ended) e1 ∙ e.ended in
    record {
      waits =
          ap (λ (t : Told). t.waits) e4
          ∙ ap (λ (ws : List (Option Wait)). set ws p (wait_of now)) waits3
          ∙ set-set (map wait_of rs) p None (wait_of now)
          ∙ sym (map-set wait_of rs p now)
          ∙ ap (map wait_of) (sym is);
      counts = ap (λ (t : Told). t.counts) e4 ∙ ap (λ (t : Told). t.counts) e3 ∙ ap (λ (t : Told). t.counts) e2;
      ended =
          ap (λ (t : Told). t.ended) e4 ∙ ap (λ (t : Told). t.ended) e3
          ∙ ap (λ (k : List ThreadId). k ++ ends) ended2
          ∙ sym known;
    }

-- ---- the steps that are left

sum_of : (xs ys : List Linked) → steps_left (xs ++ ys) ≡ steps_left xs + steps_left ys
sum_of [] ys = let e : steps_left ys ≡ 0 + steps_left ys = omega arith in e
sum_of (r ∷ xs) ys = let e = sum_of xs ys in omega (arith, e)

fewer_one : (stop : Stop) (r : Runner) (around : Around) (o : Outcome) (n : ℕ) → n ≡ (runner_to None r).left → IsBelow o n → is_held stop ≡ true
    → steps_left (runners_after (runner_to None r) o) < steps_left (linked_after stop r)
fewer_one Holds r around (Held t after left) n is below h = omega (arith, is, below)
fewer_one Holds r around (Left t to after left) n is below h = omega (arith, is, below)
fewer_one Holds r around (Ended end after left) n is below h = omega arith
fewer_one (Leaves to) r around o n is below h = absurd cc
fewer_one (Ends end) r around o n is below h = absurd cc

fewer_in : (rs : List Runner) (p : ℕ) (r now : Runner) → slice_get rs p ≡ Some r → steps_left (linked_of now) < steps_left (linked_of r) → steps_left (runners_of (set rs p now)) < steps_left (runners_of rs)
fewer_in [] p r now there h = absurd cc
fewer_in (q ∷ rs) zero r now there h =
    let same : q ≡ r = cc there in
    let new : steps_left (runners_of (now ∷ rs)) ≡ steps_left (linked_of now) + steps_left (runners_of rs) = ap steps_left (flat_map-cons linked_of now rs) ∙ sum_of (linked_of now) (runners_of rs) in
    let old : steps_left (runners_of (q ∷ rs)) ≡ steps_left (linked_of r) + steps_left (runners_of rs) =
    ap steps_left (flat_map-cons linked_of q rs) ∙ sum_of (linked_of q) (runners_of rs) ∙ ap (λ (s : Runner). steps_left (linked_of s) + steps_left (runners_of rs)) same in
    omega (arith, new, old, h)
fewer_in (q ∷ rs) (suc p) r now there h =
    let new : steps_left (runners_of (q ∷ set rs p now)) ≡ steps_left (linked_of q) + steps_left (runners_of (set rs p now)) = ap steps_left (flat_map-cons linked_of q (set rs p now)) ∙ sum_of (linked_of q) (runners_of (set rs p now)) in
    let old : steps_left (runners_of (q ∷ rs)) ≡ steps_left (linked_of q) + steps_left (runners_of rs) = ap steps_left (flat_map-cons linked_of q rs) ∙ sum_of (linked_of q) (runners_of rs) in
    let less = fewer_in rs p r now there h in
    omega (arith, new, old, less)

held_if : (a b : Bool) → (a && b) ≡ true → a ≡ true
held_if true b h = refl
held_if false b h = absurd cc

-- a run leaves fewer steps
pub fewer_steps : (x : Prog) (p : ℕ) (rs later : List Runner) (around after : Around) → (did : HasRunAt x p rs around later after) → can_run did.before around ≡ true → steps_left (runners_of later) < steps_left (runners_of rs)
fewer_steps x p rs later around after did able =
    let r = did.before in
    let o = run_of x r.thread around (r.bound - r.steps) in
    let less : steps_left (runners_after (runner_to None r) o) < steps_left (linked_of r) =
    fewer_one r.stop r around o (r.bound - r.steps) refl (run_takes_step x r.thread around (r.bound - r.steps)) (held_if (is_held r.stop) _ able) in
    let one : steps_left (linked_of did.now) < steps_left (linked_of r) = subst (λ (l : List Linked). steps_left l < steps_left (linked_of r)) (sym did.linked) less in
    subst (λ (l : List Runner). steps_left (runners_of l) < steps_left (runners_of rs)) (sym did.later_is) (fewer_in rs p r did.now did.there one)

-- ---- a run, from what the calls in it say

pub told_run : (x : Prog) (r : Runner) (a b : Around) → Tells a (around_after (run_of x r.thread a (r.bound - r.steps))) → b ≡ around_after (run_of x r.thread a (r.bound - r.steps)) → Tells a b
told_run x r a b tells after = subst (Tells a) (sym after) tells

pub grown : {A : Type 0} (xs ys all : List A) (n : ℕ) → n ≡ length xs → all ≡ xs ++ ys → n ≤ length all
grown xs ys all n is more =
    let sum : length all ≡ length xs + length ys = ap (λ (l : List _). length l) more ∙ length-append xs ys in
    omega (arith, is, sum)

-- the items after those that were there before
pub since : {A : Type 0} (xs ys all late : List A) (n : ℕ) → n ≡ length xs → all ≡ xs ++ ys → late ≡ drop n all → late ≡ ys
since xs ys all late n is more here = here ∙ ap (λ (k : ℕ). drop k all) is ∙ behind xs ys all more

pub waits_left : (p : ℕ) (t0 t1 t2 t3 : Told) (counts : Counts) (ends : List ThreadId) → t1 ≡ record t0 { waits = slice_set t0.waits p None } → t2 ≡ record t1 { counts = counts } → t3 ≡ record t2 { ended = t2.ended ++ ends }
    → t3.waits ≡ slice_set t0.waits p None
waits_left p t0 t1 t2 t3 counts ends e1 e2 e3 = ap (λ (t : Told). t.waits) e3 ∙ ap (λ (t : Told). t.waits) e2 ∙ ap (λ (t : Told). t.waits) e1
