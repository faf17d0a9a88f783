use Rattle.std.proofs.Common.{◌≡◌, take, drop}
use Rattle.loft_sense.specs.Passes.{pass, walked}
use Rattle.loft_effect.specs.View.{around_of}
use Rattle.loft_passes.specs.View.{runners_of}
use Rattle.loft_passes.proofs.pass.pass.Given as goal

-- the walk so far, with the walk over what is left, is the whole walk
abbrev pub invariant-loop-runner : goal.invariant-loop-runner
invariant-loop-runner g l =
    let x = g.I.Interpreter.program l.interpreter in
    walked (runners_of (take l.runner-index l.runner-items)) l.ran (pass x (runners_of (drop l.runner-index l.runner-items)) (around_of l.around))
    ≡ pass x (runners_of l.fn.runners.items) (around_of l.fn.around)
