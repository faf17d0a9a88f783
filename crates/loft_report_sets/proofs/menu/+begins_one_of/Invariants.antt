use Rattle.std.proofs.Common.{length}
use Rattle.loft_report_sets.proofs.menu.+begins_one_of.Given as goal

abbrev pub decreases-begins_one_of : goal.decreases-begins_one_of
decreases-begins_one_of l = length l.words.now
