use Rattle.std.proofs.Common.{◌≡◌, ◌++◌, drop}
use Rattle.std.specs.Arc.{arc_value}
use Rattle.loft_passes.specs.Leavers.{sends_of}
use Rattle.loft_passes.proofs.leavers.Leavers.send.Given as goal

-- what was sent so far, and what is left
abbrev pub invariant-loop-index : goal.invariant-loop-index
invariant-loop-index l = l.sent ++ sends_of (drop l.index l.to-items) (drop l.index (arc_value l.group-inside.threads).items) ≡ l.fn.sent ++ l.fn.self
