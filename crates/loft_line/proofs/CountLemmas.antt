-- What is counted as threads run.
use Rattle.std.proofs.Common.{◌≡◌, ℕ, zero, suc, ◌+◌, ◌*◌, ◌-◌, ◌<◌, ◌≤◌, true, List, [], ◌∷◌, ◌++◌, refl, ◌∙◌, ap, arith, Some, None, length, get_or, set, map}
use Rattle.std.specs.Prelude.{slice_get, slice_set}
use Rattle.std.proofs.lemmas.List.Concat.{flat_map-cons}
use Rattle.loft_orders.specs.declared.note.Standing.{Standing}
use Rattle.loft_orders.specs.declared.order.Stop.{Stop}
use Rattle.loft_orders.specs.declared.order.Stop.TheVariants.{Holds, Leaves, Ends}
use Rattle.loft_sense.specs.Instant.{runner_of}
use Rattle.loft_sense.specs.Passes.{Runner as Linked, steps_left}
use Rattle.loft_passes.specs.declared.runner.Runner.{Runner}
use Rattle.loft_passes.specs.View.{linked_after, linked_of, runners_of, is_held}
use Rattle.loft_sense.specs.Around.{Around}
use Rattle.loft_waits.specs.Told.{ready_at}
use Rattle.loft_ready.specs.Entered.{IsEntered}
use Rattle.loft_line.specs.Counts.{runs_and_steps}
use Rattle.loft_line.specs.declared.line.Line.{Line}
use Rattle.loft_line.specs.Line.{with_wait, runners_in}
use Rattle.loft_line.proofs.ListLemmas.{length_with}
use Rattle.loft_line.proofs.RunLemmas.{taken_there, ready_held}

-- ---- sums over threads

module _ (f : List Linked → ℕ) (sum : (xs ys : List Linked) → f (xs ++ ys) ≡ f xs + f ys) where
  with_first : (r : Runner) (rs : List Runner) → f (runners_of (r ∷ rs)) ≡ f (linked_of r) + f (runners_of rs)
  with_first r rs = ap f (flat_map-cons linked_of r rs) ∙ sum (linked_of r) (runners_of rs)

  -- another thread at a position changes the sum by what the two have
  with_other : (rs : List Runner) (p : ℕ) (r now : Runner) → slice_get rs p ≡ Some r → f (runners_of (set rs p now)) + f (linked_of r) ≡ f (runners_of rs) + f (linked_of now)
  with_other [] p r now there = absurd cc
  with_other (q ∷ rs) zero r now there =
      let same : q ≡ r = cc there in
      let new : f (runners_of (now ∷ rs)) ≡ f (linked_of now) + f (runners_of rs) = with_first now rs in
      let old : f (runners_of (q ∷ rs)) ≡ f (linked_of r) + f (runners_of rs) = with_first q rs ∙ ap (λ (s : Runner). f (linked_of s) + f (runners_of rs)) same in
      omega (arith, new, old)
  with_other (q ∷ rs) (suc p) r now there =
      let new : f (runners_of (q ∷ set rs p now)) ≡ f (linked_of q) + f (runners_of (set rs p now)) = with_first q (set rs p now) in
      let old : f (runners_of (q ∷ rs)) ≡ f (linked_of q) + f (runners_of rs) = with_first q rs in
      let rest = with_other rs p r now there in
      omega (arith, new, old, rest)

  with_this : (rs : List Runner) (p : ℕ) (r : Runner) → slice_get rs p ≡ Some r → f (linked_of r) ≤ f (runners_of rs)
  with_this [] p r there = absurd cc
  with_this (q ∷ rs) zero r there =
      let same : q ≡ r = cc there in
      let old : f (runners_of (q ∷ rs)) ≡ f (linked_of r) + f (runners_of rs) = with_first q rs ∙ ap (λ (s : Runner). f (linked_of s) + f (runners_of rs)) same in
      omega (arith, old)
  with_this (q ∷ rs) (suc p) r there =
      let old : f (runners_of (q ∷ rs)) ≡ f (linked_of q) + f (runners_of rs) = with_first q rs in
      let rest = with_this rs p r there in
      omega (arith, old, rest)

steps_sum : (xs ys : List Linked) → steps_left (xs ++ ys) ≡ steps_left xs + steps_left ys
steps_sum [] ys = let e : steps_left ys ≡ 0 + steps_left ys = omega arith in e
steps_sum (r ∷ xs) ys = let e = steps_sum xs ys in omega (arith, e)

done_sum : (budget : ℕ) (xs ys : List Linked) → runs_and_steps budget (xs ++ ys) ≡ runs_and_steps budget xs + runs_and_steps budget ys
done_sum budget [] ys = let e : runs_and_steps budget ys ≡ 0 + runs_and_steps budget ys = omega arith in e
done_sum budget (r ∷ xs) ys = let e = done_sum budget xs ys in omega (arith, e)

-- ---- a thread that has run

module _ (r now : Runner) (bound : now.bound ≡ r.bound) (runs : now.runs ≤ r.runs + 1) (s0 s1 : ℕ) (is : s1 ≡ s0 + 1 + (now.steps - r.steps)) where
  most_of : (was stop : Stop) → is_held was ≡ true → steps_left (linked_after stop now) < steps_left (linked_after was r) → s1 + 2 * steps_left (linked_after stop now) ≤ s0 + 2 * steps_left (linked_after was r)
  most_of Holds Holds h less = omega (arith, is, bound, less, r.within, now.within)
  most_of Holds (Leaves to) h less = omega (arith, is, bound, less, r.within, now.within)
  most_of Holds (Ends end) h less = omega (arith, is, bound, r.within, now.within)
  most_of (Leaves to) stop h less = absurd cc
  most_of (Ends end) stop h less = absurd cc

  least_of : (budget : ℕ) (was stop : Stop) → is_held was ≡ true → steps_left (linked_after stop now) < steps_left (linked_after was r) → s0 + runs_and_steps budget (linked_after stop now) ≤ s1 + runs_and_steps budget (linked_after was r)
  least_of budget Holds Holds h less = omega (arith, is, bound, runs, less, r.within, now.within)
  least_of budget Holds (Leaves to) h less = omega (arith, is, bound, runs, less, r.within, now.within)
  least_of budget Holds (Ends end) h less = omega (arith, is)
  least_of budget (Leaves to) stop h less = absurd cc
  least_of budget (Ends end) stop h less = absurd cc

left_of : (stop : Stop) (r : Runner) → is_held stop ≡ true → steps_left (linked_after stop r) ≡ r.bound - r.steps + 1
left_of Holds r h = omega arith
left_of (Leaves to) r h = absurd cc
left_of (Ends end) r h = absurd cc

-- a thread that can go has its steps left, and one more
pub no_more_than : (rs : List Runner) (p : ℕ) (r : Runner) (s0 s1 : ℕ) → slice_get rs p ≡ Some r → is_held r.stop ≡ true → s1 ≤ s0 + 1 + (r.bound - r.steps) → s1 ≤ s0 + 2 * steps_left (runners_of rs)
no_more_than rs p r s0 s1 there held few =
    let this = with_this steps_left steps_sum rs p r there in
    let left = left_of r.stop r held in
    omega (arith, this, left, few)

module _ (rs later : List Runner) (p : ℕ) (r now : Runner) (there : slice_get rs p ≡ Some r) (later_is : later ≡ slice_set rs p now) (held : is_held r.stop ≡ true)
    (less : steps_left (runners_of later) < steps_left (runners_of rs)) (bound : now.bound ≡ r.bound) (runs : now.runs ≤ r.runs + 1) (s0 s1 : ℕ) (is : s1 ≡ s0 + 1 + (now.steps - r.steps)) where
  steps_other : steps_left (runners_of later) + steps_left (linked_of r) ≡ steps_left (runners_of rs) + steps_left (linked_of now)
  steps_other = ap (λ (l : List Runner). steps_left (runners_of l) + steps_left (linked_of r)) later_is ∙ with_other steps_left steps_sum rs p r now there

  fewer : steps_left (linked_of now) < steps_left (linked_of r)
  fewer = let e = steps_other in omega (arith, e, less)

  -- the count and twice the steps that are left, with one more a thread, don't grow together
  pub counted_most : s1 + 2 * steps_left (runners_of later) ≤ s0 + 2 * steps_left (runners_of rs)
  counted_most =
      let e = steps_other in
      let one = most_of r now bound runs s0 s1 is r.stop now.stop held fewer in
      omega (arith, e, one)

  -- the run and its steps are counted
  pub counted_least : (budget : ℕ) → s0 + runs_and_steps budget (runners_of later) ≤ s1 + runs_and_steps budget (runners_of rs)
  counted_least budget =
      let e : runs_and_steps budget (runners_of later) + runs_and_steps budget (linked_of r) ≡ runs_and_steps budget (runners_of rs) + runs_and_steps budget (linked_of now) =
      ap (λ (l : List Runner). runs_and_steps budget (runners_of l) + runs_and_steps budget (linked_of r)) later_is ∙ with_other (runs_and_steps budget) (done_sum budget) rs p r now there in
      let one = least_of r now bound runs s0 s1 is budget r.stop now.stop held fewer in
      omega (arith, e, one)

-- the thread that was taken out has run, or was out of memory
pub counted_within : (l : Line) (s1 : List Runner) (p : ℕ) (r : Runner) (a : Around) (c0 c1 : ℕ) → p < length (runners_in l) → ((q : Runner) → slice_get l.slots.items p ≡ Some q → s1 ≡ slice_set l.slots.items p (with_wait (get_or l.waits.waits p None) q)) → r ≡ get_or s1 p r
    → IsEntered (runners_in l) a l.waits → ready_at l.waits p ≡ true → c1 ≤ c0 + 1 + (r.bound - r.steps) → c1 ≤ c0 + 2 * steps_left (runners_of (runners_in l))
counted_within l s1 p r a c0 c1 has left read entered ready few =
    let same = length_with l.slots.items l.waits.waits in
    let within : p < length l.slots.items = omega (arith, same, has) in
    let there = taken_there l.slots.items s1 l.waits.waits p r within left read in
    no_more_than (runners_in l) p r c0 c1 there (ready_held (runners_in l) a l.waits p r entered there ready) few

-- ---- as an instant begins

suc_times : (a b : ℕ) → suc a * b ≡ b + a * b
suc_times a b = grind arith

pub begun_most : (budget : ℕ) (ss : List Standing) → 2 * steps_left (map (runner_of budget) ss) ≡ length ss * (2 * budget + 2)
begun_most budget [] = omega arith
begun_most budget (s ∷ ss) =
    let e = begun_most budget ss in
    let m : suc (length ss) * (2 * budget + 2) ≡ (2 * budget + 2) + length ss * (2 * budget + 2) = suc_times (length ss) (2 * budget + 2) in
    omega (arith, e, m)

pub begun_least : (budget : ℕ) (ss : List Standing) → runs_and_steps budget (map (runner_of budget) ss) ≡ 0
begun_least budget [] = refl
begun_least budget (s ∷ ss) = let e = begun_least budget ss in omega (arith, e)
