use Rattle.std.proofs.Common.{◌-◌, length}
use Rattle.std.specs.Prelude.{map}
use Rattle.loft_code.specs.View.{line_of}
use Rattle.loft_step.specs.Lines.{LiesIn}
use Rattle.loft_step.proofs.jump.find_stop.Given as goal

-- none that was looked at is the stop
abbrev pub invariant-first : goal.invariant-first
invariant-first l = LiesIn (map line_of l.lines) l.k l.op (length l.lines)

abbrev pub decreases-first : goal.decreases-first
decreases-first l = length l.lines - l.op
