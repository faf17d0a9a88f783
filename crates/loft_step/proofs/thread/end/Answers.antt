use Rattle.std.proofs.Common.{◌-◌, ap, ◌∙◌}
use Rattle.loft_sense.specs.Run.{ends}
use Rattle.loft_effect.specs.View.{Pace, beside_of, steps_left}
use Rattle.loft_step.proofs.thread.end.Goals as goal

pub returns-clause-ended : goal.returns-clause-ended
returns-clause-ended c =
    c.in_ok-end.ensures.ended (steps_left c.end.new.self.around)
    ∙ ap (λ (p : Pace). ends c.args.end (beside_of c.args.beside.now) (p.bound - p.steps)) c.in_ok-end.ensures.pace
