use Rattle.std.proofs.Common.{◌≤◌}
use Rattle.std.specs.Prelude.{map}
use Rattle.loft_code.specs.View.{line_of}
use Rattle.loft_step.specs.Lines.{HasNoStop}
use Rattle.loft_step.proofs.jump.last_stop.Given as goal

-- what was looked at has no stop
abbrev pub invariant-back : goal.invariant-back
invariant-back l = record {
  within : l.op ≤ l.to;
  none : HasNoStop (map line_of l.lines) l.op l.to;
}

abbrev pub decreases-back : goal.decreases-back
decreases-back l = l.op
