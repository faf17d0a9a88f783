use Rattle.std.proofs.Common.{◌≡◌, take, flat_map}
use Rattle.loft_summary.proofs.Counting.{single, tally}
use Rattle.loft_summary.proofs.summary.with_acts.Given as goal

-- those so far
abbrev pub invariant-loop-act : goal.invariant-loop-act
invariant-loop-act l = l.count ≡ tally l.before (flat_map single (take l.act-index l.acts))
