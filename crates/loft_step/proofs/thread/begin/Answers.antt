use Rattle.std.proofs.Common.{◌≡◌, List, ap, ◌∙◌, arith}
use Rattle.loft_code.specs.View.{automata_of}
use Rattle.loft_orders.specs.declared.thread.Frame.{Frame}
use Rattle.loft_sense.specs.Run.{no_step}
use Rattle.loft_effect.specs.View.{beside_of, steps_left}
use Rattle.loft_step.specs.Frames.{actives}
use Rattle.loft_step.proofs.Going.{starts_over}
use Rattle.loft_step.proofs.thread.begin.Goals as goal

pub returns-then-beside : goal.returns-then-beside
returns-then-beside g c =
    let a = automata_of c.args.code.now in
    let none : steps_left c.args.beside.now.around ≡ 0 = omega (arith, c.if-beside.true) in
    c.in_ok-end.ensures.ended
    ∙ (starts_over a (steps_left c.args.beside.now.around) (beside_of c.args.beside.now) c.args.frames c.args.wait.now c.over-cause.result none
    (c.over-cause.ensures a (beside_of c.args.beside.now) ∙ ap (λ (fs : List Frame). no_step (beside_of c.args.beside.now) (actives a fs)) c.as_slice.ensures))
