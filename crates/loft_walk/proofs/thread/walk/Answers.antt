use Rattle.std.proofs.Common.{◌-◌, ◌∙◌, ap, List}
use Rattle.loft_tree.specs.ProgramView.{program_of}
use Rattle.loft_tree.specs.Resolved.{resolved_of}
use Rattle.loft_sense.specs.Run.{no_step}
use Rattle.loft_walk.specs.declared.running.Running.{Running}
use Rattle.loft_effect.specs.View.{beside_of}
use Rattle.loft_walk.specs.Frames.{actives}
use Rattle.loft_walk.proofs.Going.{starts_over, starts_on}
use Rattle.loft_walk.proofs.thread.walk.Goals as goal

pub returns-then-left-eq0-clause-gone : goal.returns-then-left-eq0-clause-gone
returns-then-left-eq0-clause-gone c =
    let p = resolved_of (program_of c.args.program.now) in
    c.in_ok-end.ensures.ended
    ∙ (c.over-cause.ensures (beside_of c.args.beside)
    ∙ (ap (λ (rs : List Running). no_step (beside_of c.args.beside) (actives rs)) c.as_slice.ensures.value
    ∙ starts_over p.heads p.bodies c.args.frames.items c.args.wait.now (beside_of c.args.beside) c.args.left c.in_ok-running.field-0.running.items c.in_ok-running.ensures.frames c.if-left-eq0.true))

pub returns-clause-gone : goal.returns-clause-gone
returns-clause-gone c =
    let p = resolved_of (program_of c.args.program.now) in
    c.new.ensures.outcome p
    ∙ (c.in_ok-answer.ensures.answers p.bodies (c.args.left - 1) c.in_ok-running.ensures.target
    ∙ starts_on p.heads p.bodies c.args.frames.items c.args.wait.now (beside_of c.args.beside) c.args.left c.in_ok-running.field-0.running.items c.in_ok-running.ensures.frames c.if-left-eq0.false)
