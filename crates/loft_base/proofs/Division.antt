-- What division toward zero gives.
use Prim.Native.Nat.{zero}
use Rattle.std.proofs.Common.{◌≢◌, ℕ, ◌<◌, ℤ, pos, negsuc, suc, ◌≤ℤ◌, neg_ℤ, arith, refl}
use Rattle.std.specs.Prelude.{unsigned_abs, int_rem}
use Rattle.std.proofs.lemmas.Int.{ints, rem_below}

positive : (b : ℤ) → b ≢ pos 0 → 0 < unsigned_abs b
positive (pos zero) h = absurd (h refl)
positive (pos (suc n)) h = omega arith
positive (negsuc n) h = omega arith

-- a remainder is nearer to 0 than the divisor
pub remainder-near : (a b : ℤ) → b ≢ pos 0 → unsigned_abs (int_rem a b) < unsigned_abs b
remainder-near a b h = rem_below a b (positive b h)

neg-not_above : (n : ℕ) → neg_ℤ (pos n) ≤ℤ pos 0
neg-not_above zero = omega (arith, ints)
neg-not_above (suc n) = omega (arith, ints)

-- a remainder isn't on the other side of 0 than the dividend
pub remainder-not_below : (a b : ℤ) → pos 0 ≤ℤ a → pos 0 ≤ℤ int_rem a b
remainder-not_below (pos a) b h = omega (arith, ints)
remainder-not_below (negsuc a) b h = absurd (omega (arith, ints))

pub remainder-not_above : (a b : ℤ) → a ≤ℤ pos 0 → int_rem a b ≤ℤ pos 0
remainder-not_above (pos zero) b h = omega (arith, ints)
remainder-not_above (pos (suc a)) b h = absurd (omega (arith, ints))
remainder-not_above (negsuc a) b h = neg-not_above _
