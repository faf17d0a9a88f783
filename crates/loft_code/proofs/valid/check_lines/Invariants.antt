use Rattle.std.proofs.Common.{map}
use Rattle.loft_code.specs.View.{line_of}
use Rattle.loft_code.proofs.Checked.{LinesSoFar}
use Rattle.loft_code.proofs.valid.check_lines.Given as goal

-- no operation so far has an error
abbrev pub invariant-loop-number : goal.invariant-loop-number
invariant-loop-number l = LinesSoFar l.heads l.module l.signature (map line_of l.lines) l.number l.before
