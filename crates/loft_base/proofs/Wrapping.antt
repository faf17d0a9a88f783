-- What wrapping to the i64 range does.
use Prim.Native.Nat.{zero}
use Rattle.std.proofs.Common.{◌≡◌, ℕ, ◌+◌, ◌-◌, ◌*◌, ◌/◌, ◌%◌, ◌^◌, ◌<◌, ℤ, pos, negsuc, suc, neg_ℤ, ◌+ℤ◌, to_z, of_z, ap, true, false, ltb, arith, refl, sym}
use Rattle.std.specs.Int.{w64, int_wrap}
use Rattle.std.specs.Prelude.{FitsSigned, unsigned_abs, int_div}
use Rattle.std.proofs.Math.Nat.{div-le_self}
use Rattle.std.proofs.lemmas.Int.{ints, SFits-int_wrap}
use Rattle.std.proofs.lemmas.Bool.Decides.{nat_tests}
use Rattle.loft_base.specs.Arithmetic.{wrapped, AreCongruent}

-- a number below 2 ^ 64, read as signed, is that number or 2 ^ 64 below it
signed-multiple : (m : ℕ) → m < 2 ^ 64 → (k : ℕ) × (to_z w64 m +ℤ pos (k * 2 ^ 64) ≡ pos m)
signed-multiple m small =
    elim (ltb m (2 ^ 63)) as (λ b. ltb m (2 ^ 63) ≡ b → (k : ℕ) × (to_z w64 m +ℤ pos (k * 2 ^ 64) ≡ pos m)) [ true ↦ λ e. (0, grind (arith, nat_tests)) | false ↦ λ e. (1, grind (arith, nat_tests)) ] refl

-- a number that is small enough for its bits to give it back wraps to what its bits are read as
pub wrapped-bits : (z : ℤ) → unsigned_abs z < 2 ^ 64 → to_z w64 (of_z w64 z) ≡ wrapped z
unfolding int_wrap
wrapped-bits (pos n) small = let e : n % 2 ^ 64 ≡ n = omega arith in ap (to_z w64) (sym e)
wrapped-bits (negsuc n) small = let e : 2 ^ 64 - suc n ≡ 2 ^ 64 - 1 - n % 2 ^ 64 = omega arith in ap (to_z w64) e

unsigned_abs-neg : (n : ℕ) → unsigned_abs (neg_ℤ (pos n)) ≡ n
unsigned_abs-neg zero = refl
unsigned_abs-neg (suc n) = refl

-- a quotient of numbers of the range is at most just past it
pub quotient-small : (a b : ℤ) → FitsSigned w64 a → unsigned_abs (int_div a b) < 2 ^ 64
quotient-small (pos a) (pos b) fits = omega (arith, div-le_self a b)
quotient-small (pos a) (negsuc b) fits = omega (arith, unsigned_abs-neg (a / suc b), div-le_self a (suc b))
quotient-small (negsuc a) (pos b) fits = omega (arith, unsigned_abs-neg (suc a / b), div-le_self (suc a) b)
quotient-small (negsuc a) (negsuc b) fits = omega (arith, div-le_self (suc a) (suc b))

congruent-pos : (x : ℤ) (m a k : ℕ) → x +ℤ pos (k * 2 ^ 64) ≡ pos m → m + a / 2 ^ 64 * 2 ^ 64 ≡ a → AreCongruent x (pos a)
congruent-pos x m a k h e = (k + a / 2 ^ 64, (0, omega (arith, ints)))

congruent-negsuc : (x : ℤ) (m a k : ℕ) → x +ℤ pos (k * 2 ^ 64) ≡ pos m → m + a % 2 ^ 64 + 1 ≡ 2 ^ 64 → AreCongruent x (negsuc a)
congruent-negsuc x m a k h e = (k, (a / 2 ^ 64 + 1, omega (arith, ints)))

-- a wrapped number is congruent to the number
pub wrapped-congruent : (z : ℤ) → AreCongruent (wrapped z) z
unfolding int_wrap
wrapped-congruent (pos a) = let h = signed-multiple (a % 2 ^ 64) (omega arith) in congruent-pos _ _ a h.0 h.1 (omega arith)
wrapped-congruent (negsuc a) = let h = signed-multiple (2 ^ 64 - 1 - a % 2 ^ 64) (omega arith) in congruent-negsuc _ _ a h.0 h.1 (omega arith)

-- two numbers of the range that differ by a multiple are one
same-in-range : (x w : ℤ) (p q : ℕ) → FitsSigned w64 x → FitsSigned w64 w → x +ℤ pos (p * 2 ^ 64) ≡ w +ℤ pos (q * 2 ^ 64) → x ≡ w
same-in-range x w p q fits_x fits_w h = omega (arith, ints)

joined : (x w z : ℤ) (j k p q : ℕ) → x +ℤ pos (j * 2 ^ 64) ≡ z +ℤ pos (k * 2 ^ 64) → w +ℤ pos (p * 2 ^ 64) ≡ z +ℤ pos (q * 2 ^ 64) → x +ℤ pos ((j + q) * 2 ^ 64) ≡ w +ℤ pos ((p + k) * 2 ^ 64)
joined x w z j k p q h g = omega (arith, ints)

-- no other number of the range is congruent to it
pub only-wrapped : (z x : ℤ) → FitsSigned w64 x → AreCongruent x z → x ≡ wrapped z
only-wrapped z x fits same =
    let w = wrapped-congruent z in
    same-in-range x (wrapped z) (same.0 + w.1.0) (w.0 + same.1.0) fits (SFits-int_wrap w64 z) (joined x (wrapped z) z same.0 same.1.0 w.0 w.1.0 same.1.1 w.1.1)
