-- The limits of a report are in their ranges.
use Rattle.std.proofs.Common.{ℕ, List}
use Rattle.std.proofs.Math.Bridge.{le_prop}
use Rattle.std.proofs.Math.Logic.{∥∥₁_elim}
use Rattle.loft_base.specs.Options.{IsInRange, AreInRange}
use Rattle.loft_report_shape.specs.Told.{Report}
use Rattle.loft_report_shape.specs.Report.{Shape}

-- some text has the report
pub limits_in_range : (r : Report) → ∥ ((text : List ℕ) × Shape text r) ∥₁ → ((text : List ℕ) (q : Report) → Shape text q → AreInRange q.options) → IsInRange r.options.limits
limits_in_range r shaped law = record {
  instants = (∥∥₁_elim shaped le_prop (λ p. (law p.0 r p.1).limits.instants.0), ∥∥₁_elim shaped le_prop (λ p. (law p.0 r p.1).limits.instants.1));
  budget = (∥∥₁_elim shaped le_prop (λ p. (law p.0 r p.1).limits.budget.0), ∥∥₁_elim shaped le_prop (λ p. (law p.0 r p.1).limits.budget.1));
  block = (∥∥₁_elim shaped le_prop (λ p. (law p.0 r p.1).limits.block.0), ∥∥₁_elim shaped le_prop (λ p. (law p.0 r p.1).limits.block.1));
}
