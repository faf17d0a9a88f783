use Rattle.std.proofs.Common.{◌∙◌, ap}
use Rattle.loft_sense.specs.Around.{Around}
use Rattle.loft_sense.specs.Run.{Ended}
use Rattle.loft_effect.specs.View.{around_of, steps_left}
use Rattle.loft_walk.proofs.stopping.end.Goals as goal

pub returns-clause-ended : goal.returns-clause-ended
returns-clause-ended c =
    ap (λ (a : Around). Ended c.args.end a (steps_left c.around_after-around.result)) c.around_after-around.ensures.same
    ∙ (ap (Ended c.args.end (around_of c.end.new.self.around)) c.around_after-around.ensures.left ∙ c.in_ok-end.ensures.ended c.args.left)
