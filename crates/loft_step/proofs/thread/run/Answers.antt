use Rattle.std.proofs.Common.{◌≡◌, ◌∙◌, ◌∷◌, subst}
use Rattle.loft_code.specs.View.{automata_of}
use Rattle.loft_effect.specs.declared.effect.Effect.{Effect}
use Rattle.loft_effect.specs.View.{beside_of, steps_left}
use Rattle.loft_sense.specs.Code.{code}
use Rattle.loft_sense.specs.Run.{going}
use Rattle.loft_step.specs.Frames.{active, actives, advance_if, moved_by}
use Rattle.loft_step.proofs.thread.run.Goals as goal

pub returns-in_ok-hold-in-Waits-clause-gone : goal.returns-in_ok-hold-in-Waits-clause-gone
returns-in_ok-hold-in-Waits-clause-gone g c =
    let a = automata_of c.args.code.now in
    c.in_ok-hold-in-Waits.ensures a ∙ (subst (λ (e : Effect). advance_if (moved_by e) (code a) (steps_left c.walk_frames.new.beside.around) (going (code a) (steps_left c.walk_frames.new.beside.around)) (active c.walk_frames.new.top) (actives a c.walk_frames.new.outer) (beside_of c.walk_frames.new.beside)
    ≡ going (code a) (steps_left c.args.beside.now.around) (beside_of c.args.beside.now) (active c.args.stack.top ∷ actives a c.args.stack.outer)) c.in-Waits.is c.in_ok-walk_frames.ensures.goes)

pub returns-in_ok-leave-in-Leaves-clause-gone : goal.returns-in_ok-leave-in-Leaves-clause-gone
returns-in_ok-leave-in-Leaves-clause-gone g c =
    let a = automata_of c.args.code.now in
    c.in_ok-leave-in-Leaves.ensures a ∙ (subst (λ (e : Effect). advance_if (moved_by e) (code a) (steps_left c.walk_frames.new.beside.around) (going (code a) (steps_left c.walk_frames.new.beside.around)) (active c.walk_frames.new.top) (actives a c.walk_frames.new.outer) (beside_of c.walk_frames.new.beside)
    ≡ going (code a) (steps_left c.args.beside.now.around) (beside_of c.args.beside.now) (active c.args.stack.top ∷ actives a c.args.stack.outer)) c.in-Leaves.is c.in_ok-walk_frames.ensures.goes)

pub returns-in_ok-end-in-Dies-clause-gone : goal.returns-in_ok-end-in-Dies-clause-gone
returns-in_ok-end-in-Dies-clause-gone g c =
    let a = automata_of c.args.code.now in
    c.in_ok-end-in-Dies.ensures.ended ∙ (subst (λ (e : Effect). advance_if (moved_by e) (code a) (steps_left c.walk_frames.new.beside.around) (going (code a) (steps_left c.walk_frames.new.beside.around)) (active c.walk_frames.new.top) (actives a c.walk_frames.new.outer) (beside_of c.walk_frames.new.beside)
    ≡ going (code a) (steps_left c.args.beside.now.around) (beside_of c.args.beside.now) (active c.args.stack.top ∷ actives a c.args.stack.outer)) c.in-Dies.is c.in_ok-walk_frames.ensures.goes)

pub returns-in-GoesOn-clause-gone : goal.returns-in-GoesOn-clause-gone
returns-in-GoesOn-clause-gone g c =
    let a = automata_of c.args.code.now in
    (subst (λ (e : Effect). advance_if (moved_by e) (code a) (steps_left c.walk_frames.new.beside.around) (going (code a) (steps_left c.walk_frames.new.beside.around)) (active c.walk_frames.new.top) (actives a c.walk_frames.new.outer) (beside_of c.walk_frames.new.beside)
    ≡ going (code a) (steps_left c.args.beside.now.around) (beside_of c.args.beside.now) (active c.args.stack.top ∷ actives a c.args.stack.outer)) c.in-GoesOn.is c.in_ok-walk_frames.ensures.goes)
