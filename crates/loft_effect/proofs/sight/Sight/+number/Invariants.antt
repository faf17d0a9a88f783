use Rattle.std.proofs.Common.{◌+◌, ◌*◌}
use Rattle.loft_effect.proofs.sight.Sight.+number.Given as goal

-- `number` looks at a leaf before it calls `deep_number` on the same expression
abbrev pub decreases-number : goal.decreases-number
decreases-number l = 2 * goal.size-number l + 1

abbrev pub decreases-deep_number : goal.decreases-deep_number
decreases-deep_number l = 2 * goal.size-deep_number l
