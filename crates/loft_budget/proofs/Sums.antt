-- Numbers of steps, where none is below all.
use Rattle.std.proofs.Common.{◌≡◌, ℕ, suc, ◌≤◌, Option, Some, None, refl, ap, arith}
use Rattle.loft_budget.specs.Steps.{plus, larger}

abbrev pub Below : Option ℕ → Option ℕ → Type 0
Below None b = Unit {0}
Below (Some m) None = ⊥
Below (Some m) (Some n) = m ≤ n

pub below_refl : (a : Option ℕ) → Below a a
below_refl None = tt
below_refl (Some m) = omega arith

pub below_trans : (a b c : Option ℕ) → Below a b → Below b c → Below a c
below_trans None b c f g = tt
below_trans (Some m) None c f g = absurd f
below_trans (Some m) (Some n) None f g = absurd g
below_trans (Some m) (Some n) (Some k) f g = omega (arith, f, g)

pub plus_below : (a b c d : Option ℕ) → Below a b → Below c d → Below (plus a c) (plus b d)
plus_below None b c d f g = tt
plus_below (Some m) None c d f g = absurd f
plus_below (Some m) (Some n) None d f g = tt
plus_below (Some m) (Some n) (Some k) None f g = absurd g
plus_below (Some m) (Some n) (Some k) (Some l) f g = omega (arith, f, g)

pub below_left : (a b : Option ℕ) → Below a (larger a b)
below_left None b = tt
below_left (Some m) None = omega arith
below_left (Some m) (Some n) = omega arith

pub below_right : (a b : Option ℕ) → Below b (larger a b)
below_right None b = below_refl b
below_right (Some m) None = tt
below_right (Some m) (Some n) = omega arith

pub larger_least : (a b c : Option ℕ) → Below a c → Below b c → Below (larger a b) c
larger_least None b c f g = g
larger_least (Some m) None c f g = f
larger_least (Some m) (Some n) None f g = absurd f
larger_least (Some m) (Some n) (Some k) f g = omega (arith, f, g)

pub larger_below : (a b c d : Option ℕ) → Below a b → Below c d → Below (larger a c) (larger b d)
larger_below a b c d f g = larger_least a c (larger b d) (below_trans a b _ f (below_left b d)) (below_trans c d _ g (below_right b d))

-- ---- one way of each law is enough

pub plus_twice : (a b c : Option ℕ) → Below (plus a (plus b c)) (plus (plus a b) c)
plus_twice None b c = tt
plus_twice (Some m) None c = tt
plus_twice (Some m) (Some n) None = tt
plus_twice (Some m) (Some n) (Some k) = omega arith

pub plus_twice_back : (a b c : Option ℕ) → Below (plus (plus a b) c) (plus a (plus b c))
plus_twice_back None b c = tt
plus_twice_back (Some m) None c = tt
plus_twice_back (Some m) (Some n) None = tt
plus_twice_back (Some m) (Some n) (Some k) = omega arith

-- a sum with the larger of two is one of two sums
pub plus_larger : (a b c d : Option ℕ) → Below (plus a b) d → Below (plus a c) d → Below (plus a (larger b c)) d
plus_larger None b c d f g = tt
plus_larger (Some m) None c d f g = g
plus_larger (Some m) (Some n) None d f g = f
plus_larger (Some m) (Some n) (Some k) None f g = absurd f
plus_larger (Some m) (Some n) (Some k) (Some l) f g = omega (arith, f, g)

pub larger_plus : (a b c d : Option ℕ) → Below (plus a c) d → Below (plus b c) d → Below (plus (larger a b) c) d
larger_plus None b c d f g = g
larger_plus (Some m) None c d f g = f
larger_plus (Some m) (Some n) None d f g = tt
larger_plus (Some m) (Some n) (Some k) None f g = absurd f
larger_plus (Some m) (Some n) (Some k) (Some l) f g = omega (arith, f, g)

pub zero_plus : (a : Option ℕ) → Below a (plus (Some 0) a)
zero_plus None = tt
zero_plus (Some n) = omega arith

-- ---- at most so many

abbrev pub AtMost : Option ℕ → ℕ → Type 0
AtMost None n = Unit {0}
AtMost (Some m) n = m ≤ n

pub at_most : (a b : Option ℕ) (n : ℕ) → Below a b → AtMost b n → AtMost a n
at_most None b n f g = tt
at_most (Some m) None n f g = absurd f
at_most (Some m) (Some k) n f g = omega (arith, f, g)

pub at_most_more : (a : Option ℕ) (m n : ℕ) → m ≤ n → AtMost a m → AtMost a n
at_most_more None m n f g = tt
at_most_more (Some k) m n f g = omega (arith, f, g)

-- one step is made
pub one_less : (a : Option ℕ) (n : ℕ) → AtMost (plus (Some 1) a) (suc n) → AtMost a n
one_less None n f = tt
one_less (Some m) n f = omega (arith, f)

pub one_above : (a : Option ℕ) → Below a (plus (Some 1) a)
one_above None = tt
one_above (Some m) = omega arith

pub plus_zero_first : (a : Option ℕ) → Below (plus (Some 0) a) a
plus_zero_first None = tt
plus_zero_first (Some n) = omega arith

pub zero_last : (a : Option ℕ) → Below a (plus a (Some 0))
zero_last None = tt
zero_last (Some n) = omega arith

pub below_both : (a b : Option ℕ) → Below a b → Below b a → a ≡ b
below_both None None f g = refl
below_both None (Some n) f g = absurd g
below_both (Some m) None f g = absurd f
below_both (Some m) (Some n) f g = ap Some (omega (arith, f, g))
