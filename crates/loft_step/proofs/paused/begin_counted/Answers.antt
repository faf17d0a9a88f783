use Rattle.std.proofs.Common.{◌∙◌, rules, refl}
use Rattle.std.specs.Int.{w64}
use Rattle.std.specs.Prelude.{FitsSigned}
use Rattle.std.proofs.lemmas.Int.{to_z-of_z}
use Rattle.loft_code.specs.View.{automata_of}
use Rattle.loft_step.proofs.Going.{goes}
use Rattle.loft_step.proofs.paused.begin_counted.Goals as goal

pub returns : goal.returns
returns g c =
    let code : FitsSigned w64 c.args.thread.code = search rules in
    let mask : FitsSigned w64 c.args.thread.mask = search rules in
    c.after_turn.ensures.outcome (automata_of c.args.c.now)
    ∙ (c.in_ok-turn.ensures
    ∙ goes (automata_of c.args.c.now) c.args.thread c.args.around c.args.around _ _ c.args.thread.frames refl
    (to_z-of_z w64 c.args.thread.code code) (to_z-of_z w64 c.args.thread.mask mask) refl)
