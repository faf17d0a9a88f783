use Rattle.std.proofs.Common.{ap, sym, ◌∙◌, ◌∷◌}
use Rattle.loft_code.specs.View.{automata_of}
use Rattle.loft_sense.specs.Code.{Point}
use Rattle.loft_sense.specs.Run.{Active}
use Rattle.loft_step.specs.Frames.{actives}
use Rattle.loft_step.proofs.Kept.{actives-push, kept-pop}
use Rattle.loft_step.proofs.thread.go_back.Goals as goal

pub wake-caller-requires : goal.wake-caller-requires
wake-caller-requires c = (kept-pop c.args.outer.now c.pop.new.self c.in-Some.frame c.in-Some.ensures.items c.requires).1

pub returns-clause-kept : goal.returns-clause-kept
returns-clause-kept c = (kept-pop c.args.outer.now c.pop.new.self c.in-Some.frame c.in-Some.ensures.items c.requires).0

pub returns-clause-back : goal.returns-clause-back
returns-clause-back c =
    let a = automata_of c.args.code.now in
    λ there. ap (actives a) c.in-Some.ensures.items
    ∙ (actives-push a c.pop.new.self c.in-Some.frame ∙ ap (λ (r : Active Point). r ∷ actives a c.pop.new.self) (sym c.wake-caller.ensures.frame))
