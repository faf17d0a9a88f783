-- A run of a thread takes a step.
use Rattle.std.proofs.Common.{◌≡◌, ℕ, ◌<◌, ◌≤◌, ◌⊎◌, inl, inr, sym, subst, arith}
use Rattle.loft_orders.specs.declared.order.Stop.{Stop}
use Rattle.loft_orders.specs.declared.order.Stop.TheVariants.{Holds, Leaves, Ends}
use Rattle.loft_orders.specs.declared.order.To.{To}
use Rattle.loft_orders.specs.declared.thread.Thread.{Thread}
use Rattle.loft_sense.specs.Machine.{Prog}
use Rattle.loft_sense.specs.Around.{Around}
use Rattle.loft_sense.specs.Run.{Outcome}
use Rattle.loft_sense.specs.Passes.{run_of}
use Rattle.loft_sense.proofs.StepLemmas.{IsBelow, run_takes_step}
use Rattle.loft_effect.specs.Outcomes.{outcome_of}

no_more_of : (stop : Stop) (t : Thread) (around : Around) (left n : ℕ) → IsBelow (outcome_of stop t around left) n → left ≤ n
no_more_of Holds t around left n h = omega arith
no_more_of (Leaves to) t around left n h = omega arith
no_more_of (Ends end) t around left n h = h

module _ (x : Prog) (t u : Thread) (around after : Around) (n left : ℕ) (stop : Stop) (ran : outcome_of stop u after left ≡ run_of x t around n) where
  below : IsBelow (outcome_of stop u after left) n
  below = subst (λ (o : Outcome). IsBelow o n) (sym ran) (run_takes_step x t around n)

  pub no_more : left ≤ n
  no_more = no_more_of stop u after left n below

  pub fewer : (stop ≡ Holds) ⊎ ((to : To) × (stop ≡ Leaves to)) → left < n
  fewer (inl is) = subst (λ (s : Stop). IsBelow (outcome_of s u after left) n) is below
  fewer (inr leaves) = subst (λ (s : Stop). IsBelow (outcome_of s u after left) n) leaves.1 below
