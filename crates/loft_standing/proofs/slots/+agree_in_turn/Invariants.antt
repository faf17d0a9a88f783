use Rattle.std.proofs.Common.{length}
use Rattle.loft_standing.proofs.slots.+agree_in_turn.Given as goal

abbrev pub decreases-agree_in_turn : goal.decreases-agree_in_turn
decreases-agree_in_turn l = length l.parameters.now
