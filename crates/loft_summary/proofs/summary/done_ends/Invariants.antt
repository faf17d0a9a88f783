use Rattle.std.proofs.Common.{◌≡◌, take, flat_map}
use Rattle.loft_summary.specs.Lines.{acts_in}
use Rattle.loft_summary.proofs.Counting.{tally}
use Rattle.loft_summary.proofs.summary.done_ends.Given as goal

-- those so far
abbrev pub invariant-loop-notes : goal.invariant-loop-notes
invariant-loop-notes l = l.count ≡ tally 0 (flat_map acts_in (take l.notes-index l.lists))
