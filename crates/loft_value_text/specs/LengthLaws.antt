-- Lengths that stop at the largest.
use Rattle.std.proofs.Common.{◌≡◌, ◌≤◌, ℕ, ◌-◌, ◌^◌, List, [], ◌++◌, arith}
use Rattle.std.proofs.lemmas.Grind.{common_steps}
use Rattle.loft_value_text.specs.Appending.{lengthened}

-- no bytes change nothing
pub stays : (n : ℕ) → n ≤ 2 ^ 64 - 1 → lengthened n [] ≡ n
stays n fits = omega (arith, fits)

-- bytes and then others are both together
pub stops_once : (n : ℕ) (a b : List ℕ) → lengthened n (a ++ b) ≡ lengthened (lengthened n a) b
stops_once n a b = grind (arith, common_steps)
