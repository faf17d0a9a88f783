use Rattle.std.proofs.Common.{length}
use Rattle.loft_report_sets.proofs.name.+all_name_bytes.Given as goal

abbrev pub decreases-all_name_bytes : goal.decreases-all_name_bytes
decreases-all_name_bytes l = length l.bytes.now
