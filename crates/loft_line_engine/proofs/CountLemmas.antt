-- What an instant counts, from what its parts count.
use Rattle.std.proofs.Common.{◌≡◌, ℕ, ◌+◌, ◌*◌, ◌≤◌, List, sym, subst, arith, length, Option, Some}
use Rattle.loft_base.specs.declared.ids.SchedId.{SchedId}
use Rattle.loft_base.specs.declared.options.Limits.{Limits}
use Rattle.loft_instant.specs.States.{machine_before, walk_from}
use Rattle.loft_line.specs.Counts.{runs_and_steps}
use Rattle.loft_orders.specs.declared.order.Order.{Order}
use Rattle.loft_sense.specs.Apply.{Applied, apply}
use Rattle.loft_sense.specs.Machine.{Prog, Mach}
use Rattle.loft_line_engine.specs.Counts.{most_counted, least_counted}
use Rattle.loft_line_engine.specs.declared.state.State.{State}
use Rattle.loft_line_engine.specs.States.{machine_with, machine_of}

-- of so many threads, with the budget of the limits
pub with_budget : (n b c s0 s1 : ℕ) → b ≡ c → s1 ≤ s0 + n * (2 * b + 2) → s1 ≤ s0 + n * (2 * c + 2)
with_budget n b c s0 s1 same h = subst (λ (k : ℕ). s1 ≤ s0 + n * (2 * k + 2)) same h

module _ (x : Prog) (limits : Limits) (m : Mach) (orders : List Order) (s0 : ℕ) where
  -- only orders were counted
  pub most_orders : (many s1 : ℕ) → many ≡ length orders → s1 ≤ s0 + many → s1 ≤ s0 + most_counted x limits m orders
  most_orders many s1 is h = omega (arith, is, h)

  module _ (a : Applied) (applied : a ≡ apply x m orders) (many s1 s2 : ℕ) (is : many ≡ length orders) (counted : s1 ≡ s0 + many) where
    pub most_all : s2 ≤ s1 + length a.linked * (2 * limits.budget + 2) → s2 ≤ s0 + most_counted x limits m orders
    most_all h =
        let same : s2 ≤ s1 + length (apply x m orders).linked * (2 * limits.budget + 2) = subst (λ (b : Applied). s2 ≤ s1 + length b.linked * (2 * limits.budget + 2)) applied h in
        omega (arith, is, counted, same)

    pub least_all : s1 + runs_and_steps limits.budget (walk_from x limits.budget (machine_before m.s m.shared m.made m.tally) a).runners ≤ s2 → s0 + least_counted x limits m orders ≤ s2
    least_all h =
        let same : s1 + runs_and_steps limits.budget (walk_from x limits.budget m (apply x m orders)).runners ≤ s2 =
        subst (λ (b : Applied). s1 + runs_and_steps limits.budget (walk_from x limits.budget (machine_before m.s m.shared m.made m.tally) b).runners ≤ s2) applied h in
        omega (arith, is, counted, same)

-- the machine of an engine that hasn't failed
module _ (x : Prog) (limits : Limits) (s : SchedId) (o : Option State) (e : State) (there : o ≡ Some e) (orders : List Order) (s0 s1 : ℕ) where
  pub most_there : s1 ≤ s0 + most_counted x limits (machine_with s e) orders → s1 ≤ s0 + most_counted x limits (machine_of s o) orders
  most_there h = subst (λ (p : Option State). s1 ≤ s0 + most_counted x limits (machine_of s p) orders) (sym there) h

  pub least_there : s0 + least_counted x limits (machine_with s e) orders ≤ s1 → s0 + least_counted x limits (machine_of s o) orders ≤ s1
  least_there h = subst (λ (p : Option State). s0 + least_counted x limits (machine_of s p) orders ≤ s1) (sym there) h
