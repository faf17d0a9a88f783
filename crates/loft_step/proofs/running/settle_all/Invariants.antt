use Rattle.std.proofs.Common.{◌≡◌}
use Rattle.loft_step.proofs.Kept.{settled_to}
use Rattle.loft_step.proofs.running.settle_all.Given as goal

-- those so far
abbrev pub invariant-loop-frame : goal.invariant-loop-frame
invariant-loop-frame l = l.frames ≡ settled_to l.frame-index l.fn.frames
