use Rattle.std.proofs.Common.{◌≡◌}
use Rattle.loft_sense.specs.Passes.{passes}
use Rattle.loft_effect.specs.View.{around_of}
use Rattle.loft_passes.specs.View.{runners_of, walk_of}
use Rattle.loft_passes.proofs.PassLemmas.{passes_after, passes_left}
use Rattle.loft_passes.proofs.pass.WalkAllPasses.make.Given as goal

-- the passes that are left end as all of them
abbrev pub invariant-passes : goal.invariant-passes
invariant-passes g l =
    let x = g.I.Interpreter.program l.interpreter in
    passes_after x (walk_of l.runners.items l.around l.ran) ≡ passes x (runners_of l.fn.runners.items) (around_of l.fn.around)

abbrev pub decreases-passes : goal.decreases-passes
decreases-passes g l = passes_left (walk_of l.runners.items l.around l.ran)
