use Rattle.std.proofs.Common.{◌≡◌, ◌-◌, length}
use Rattle.std.specs.Prelude.{map}
use Rattle.loft_code.specs.View.{line_of}
use Rattle.loft_sense.specs.Code.{land, landing}
use Rattle.loft_step.proofs.jump.landing.Given as goal

-- over the jumps that are left it leads where it leads from the first
abbrev pub invariant-jumping : goal.invariant-jumping
invariant-jumping l = landing (map line_of l.lines) l.from ≡ land (map line_of l.lines) (length l.lines - l._jumps) l.op
