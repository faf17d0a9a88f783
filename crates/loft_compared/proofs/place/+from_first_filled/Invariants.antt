use Rattle.std.proofs.Common.{length}
use Rattle.loft_compared.proofs.place.+from_first_filled.Given as goal

abbrev pub decreases-from_first_filled : goal.decreases-from_first_filled
decreases-from_first_filled l = length l.texts.now
