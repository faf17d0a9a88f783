use Rattle.std.proofs.Common.{length}
use Rattle.loft_listing_draft.proofs.Reading.{Reading}
use Rattle.loft_listing_draft.proofs.read.read_lines.Given as goal

abbrev pub invariant-lines : goal.invariant-lines
invariant-lines l = Reading l.text l.sofar l.rest l.at

abbrev pub decreases-lines : goal.decreases-lines
decreases-lines l = length l.rest
