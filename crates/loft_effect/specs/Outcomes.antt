-- How runs of threads in memory end.
use Rattle.std.specs.Prelude.{ℕ}
use Rattle.loft_orders.specs.declared.order.Stop.{Stop}
use Rattle.loft_orders.specs.declared.order.Stop.TheVariants.{Holds, Leaves, Ends}
use Rattle.loft_orders.specs.declared.thread.Thread.{Thread}
use Rattle.loft_sense.specs.Around.{Around}
use Rattle.loft_sense.specs.Run.{Outcome, Held, Left, Ended}
use Rattle.loft_effect.specs.declared.around.Around.{Around as AroundInMemory}
use Rattle.loft_effect.specs.declared.gone.Gone.{Gone}
use Rattle.loft_effect.specs.declared.gone.Outcome.{Outcome as OutcomeInMemory}
use Rattle.loft_effect.specs.declared.gone.Outcome.TheVariants as outcome
use Rattle.loft_effect.specs.View.{around_of, steps_left}

-- the outcome of a run that leaves this around it
abbrev pub outcome_with : OutcomeInMemory → AroundInMemory → Outcome
outcome_with (outcome.Held t) a = Held t (around_of a) (steps_left a)
outcome_with (outcome.Left t to) a = Left t to (around_of a) (steps_left a)
outcome_with (outcome.Ended end) a = Ended end (around_of a) (steps_left a)

abbrev pub gone_of : Gone → Outcome
gone_of g = outcome_with g.outcome g.around

-- how a run ends that stops so, with the thread and what stands around it as it leaves them, and the steps that are left
abbrev pub outcome_of : Stop → Thread → Around → ℕ → Outcome
outcome_of Holds t around left = Held t around left
outcome_of (Leaves to) t around left = Left t to around left
outcome_of (Ends end) t around left = Ended end around left
