use Rattle.std.proofs.Common.{rules}
use Rattle.std.specs.Int.{w64}
use Rattle.std.specs.Prelude.{FitsSigned}
use Rattle.std.proofs.lemmas.Int.{to_z-of_z}
use Rattle.loft_tree.specs.ProgramView.{program_of}
use Rattle.loft_tree.specs.Resolved.{resolved_of}
use Rattle.loft_effect.specs.View.{around_of, steps_left}
use Rattle.loft_walk.proofs.Midst.{progress_as}
use Rattle.loft_walk.proofs.Going.{goes}
use Rattle.loft_walk.proofs.thread.begin.Goals as goal

pub returns-clause-gone : goal.returns-clause-gone
returns-clause-gone c =
    let code : FitsSigned w64 c.args.thread.code = search rules in
    let mask : FitsSigned w64 c.args.thread.mask = search rules in
    progress_as c.walk.result (resolved_of (program_of c.args.program.now)) _ _
    (goes (resolved_of (program_of c.args.program.now)) c.args.thread (around_of c.args.around) (steps_left c.args.around) _ _ c.into_vec.result.items
    (to_z-of_z w64 c.args.thread.code code) (to_z-of_z w64 c.args.thread.mask mask) c.into_vec.ensures) c.walk.ensures.gone
