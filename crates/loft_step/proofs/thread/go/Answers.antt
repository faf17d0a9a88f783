use Rattle.std.proofs.Common.{◌∙◌, refl, rules}
use Rattle.std.specs.Int.{w64}
use Rattle.std.specs.Prelude.{FitsSigned}
use Rattle.std.proofs.lemmas.Int.{to_z-of_z}
use Rattle.loft_code.specs.View.{automata_of}
use Rattle.loft_step.proofs.Going.{goes}
use Rattle.loft_step.proofs.thread.go.Goals as goal

pub returns-clause-outcome : goal.returns-clause-outcome
returns-clause-outcome g c =
    let code : FitsSigned w64 c.args.t.now.code = search rules in
    let mask : FitsSigned w64 c.args.t.now.mask = search rules in
    c.in_ok-stop.ensures.gone
    ∙ goes (automata_of c.args.c.now) c.args.t.now c.args.around.now c.in_ok-take_around.field-0 _ _ c.args.t.now.frames c.in_ok-take_around.ensures
    (to_z-of_z w64 c.args.t.now.code code) (to_z-of_z w64 c.args.t.now.mask mask) refl
