use Rattle.std.proofs.Common.{◌≡◌, ap, sym, subst, ◌∙◌, ◌∷◌}
use Rattle.loft_code.specs.View.{automata_of}
use Rattle.loft_orders.specs.declared.thread.Frame.{Frame}
use Rattle.loft_sense.specs.Code.{Point, code}
use Rattle.loft_sense.specs.Run.{Active, active_of, frame_of}
use Rattle.loft_step.specs.declared.running.Running.{Running}
use Rattle.loft_step.specs.Frames.{active, actives}
use Rattle.loft_step.specs.Kept.{IsKept}
use Rattle.loft_step.proofs.Kept.{actives-push, goes_on_there, kept-push, stands_kept}
use Rattle.loft_step.proofs.thread.enter.Goals as goal

pub returns-clause-kept : goal.returns-clause-kept
returns-clause-kept c =
    let a = automata_of c.args.code.now in
    let keeps : c.keep.result ≡ frame_of (code a) (active c.args.top.now) = c.keep.ensures a ∙ ap (λ (r : Running). frame_of (code a) (active r)) c.replace.ensures.value in
    kept-push c.args.outer.now c.push.new.self c.keep.result c.in_ok-push.ensures.ok c.requires.kept (subst (λ (f : Frame). IsKept f) (sym keeps) (stands_kept a c.args.top.now c.requires.stands))

pub returns-clause-over : goal.returns-clause-over
returns-clause-over c =
    let a = automata_of c.args.code.now in
    let keeps : c.keep.result ≡ frame_of (code a) (active c.args.top.now) = c.keep.ensures a ∙ ap (λ (r : Running). frame_of (code a) (active r)) c.replace.ensures.value in
    ap (actives a) c.in_ok-push.ensures.ok
    ∙ (actives-push a c.args.outer.now c.keep.result
    ∙ ap (λ (r : Active Point). r ∷ actives a c.args.outer.now) (ap (active_of (code a)) keeps ∙ goes_on_there a c.args.top.now c.requires.stands))
