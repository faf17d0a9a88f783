use Rattle.std.proofs.Common.{◌≡◌, List, ◌∷◌, ap, subst, ◌∙◌, arith}
use Rattle.loft_code.specs.View.{automata_of}
use Rattle.loft_orders.specs.declared.thread.Frame.{Frame}
use Rattle.loft_orders.specs.declared.thread.Thread.{Thread}
use Rattle.loft_effect.specs.declared.effect.Effect.{Effect}
use Rattle.loft_effect.specs.View.{around_of, beside_of, steps_left}
use Rattle.loft_sense.specs.Code.{code}
use Rattle.loft_sense.specs.Run.{Held, Left, going, no_step}
use Rattle.loft_step.specs.Frames.{active, actives, advance_if, moved_by}
use Rattle.loft_step.proofs.Going.{starts_over}
use Rattle.loft_step.proofs.thread.whole.Goals as goal

pub returns-then-beside-clause-gone : goal.returns-then-beside-clause-gone
returns-then-beside-clause-gone g c =
    let a = automata_of c.args.code.now in
    let none : steps_left c.args.beside.now.around ≡ 0 = omega (arith, c.if-beside.true) in
    c.in_ok-end.ensures.ended
    ∙ (starts_over a (steps_left c.args.beside.now.around) (beside_of c.args.beside.now) c.args.t.now.frames c.args.t.now.wait c.over-cause.result none
    (c.over-cause.ensures a (beside_of c.args.beside.now) ∙ ap (λ (fs : List Frame). no_step (beside_of c.args.beside.now) (actives a fs)) c.as_slice.ensures))

pub returns-in_ok-stand_there-in-Waits-clause-gone : goal.returns-in_ok-stand_there-in-Waits-clause-gone
returns-in_ok-stand_there-in-Waits-clause-gone g c =
    let a = automata_of c.args.code.now in
    ap (λ (t : Thread). Held t (around_of c.walk_frames.new.beside.around) (steps_left c.walk_frames.new.beside.around)) (c.in_ok-stand_there-in-Waits.ensures a)
    ∙ (subst (λ (e : Effect). advance_if (moved_by e) (code a) (steps_left c.walk_frames.new.beside.around) (going (code a) (steps_left c.walk_frames.new.beside.around)) (active c.walk_frames.new.top) (actives a c.walk_frames.new.outer) (beside_of c.walk_frames.new.beside)
    ≡ going (code a) (steps_left c.rouse.new.beside.around) (beside_of c.rouse.new.beside) (active c.in-Some.top ∷ actives a c.rouse.new.frames)) c.in-Waits.is c.in_ok-walk_frames.ensures.goes
    ∙ c.in-Some.ensures.some)

pub returns-in_ok-stand_there-in-Leaves-clause-gone : goal.returns-in_ok-stand_there-in-Leaves-clause-gone
returns-in_ok-stand_there-in-Leaves-clause-gone g c =
    let a = automata_of c.args.code.now in
    ap (λ (t : Thread). Left t c.in-Leaves.to (around_of c.walk_frames.new.beside.around) (steps_left c.walk_frames.new.beside.around)) (c.in_ok-stand_there-in-Leaves.ensures a)
    ∙ (subst (λ (e : Effect). advance_if (moved_by e) (code a) (steps_left c.walk_frames.new.beside.around) (going (code a) (steps_left c.walk_frames.new.beside.around)) (active c.walk_frames.new.top) (actives a c.walk_frames.new.outer) (beside_of c.walk_frames.new.beside)
    ≡ going (code a) (steps_left c.rouse.new.beside.around) (beside_of c.rouse.new.beside) (active c.in-Some.top ∷ actives a c.rouse.new.frames)) c.in-Leaves.is c.in_ok-walk_frames.ensures.goes
    ∙ c.in-Some.ensures.some)

pub returns-in_ok-end-in-Dies-clause-gone : goal.returns-in_ok-end-in-Dies-clause-gone
returns-in_ok-end-in-Dies-clause-gone g c =
    let a = automata_of c.args.code.now in
    c.in_ok-end-in-Dies.ensures.ended
    ∙ (subst (λ (e : Effect). advance_if (moved_by e) (code a) (steps_left c.walk_frames.new.beside.around) (going (code a) (steps_left c.walk_frames.new.beside.around)) (active c.walk_frames.new.top) (actives a c.walk_frames.new.outer) (beside_of c.walk_frames.new.beside)
    ≡ going (code a) (steps_left c.rouse.new.beside.around) (beside_of c.rouse.new.beside) (active c.in-Some.top ∷ actives a c.rouse.new.frames)) c.in-Dies.is c.in_ok-walk_frames.ensures.goes
    ∙ c.in-Some.ensures.some)
