use Rattle.std.proofs.Common.{refl, sym, subst}
use Rattle.loft_tree.specs.ProgramView.{program_of}
use Rattle.loft_tree.specs.Resolved.{resolved_of}
use Rattle.loft_base.specs.declared.options.RunOptions.{RunOptions}
use Rattle.loft_sense.specs.Machine.{Prog, Tree}
use Rattle.loft_soundness.specs.WellFormed.{IsPlacedTree}
use Rattle.loft_course.specs.Course.{CanRun}
use Rattle.loft_replay.proofs.whole.follow_whole_in.Goals as goal

pub follow_to_end-requires-clause-can : goal.follow_to_end-requires-clause-can
follow_to_end-requires-clause-can g c =
    let n = program_of c.args.p.now in
    let x = Tree (resolved_of n) in
    let o = c.args.o.now in
    let well : IsPlacedTree (resolved_of n) = record { source = n; names = c.program.ensures.fits; links = c.program.ensures.placed; same = refl } in
    let can : CanRun x o = c.well_formed_programs_can_run.ensures x o well c.requires.workers in
    subst (λ (y : Prog). CanRun y g.X.Setting.options) (sym c.requires.program)
    (subst (λ (q : RunOptions). CanRun x q) (sym c.requires.options) can)
