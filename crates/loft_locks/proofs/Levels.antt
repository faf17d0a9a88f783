-- What is kept of a lock's variable and of the frames that are inside.
use Rattle.std.proofs.Common.{◌≡◌, ℕ, suc, ◌≤◌, inl, inr, Option, Some, refl, arith}
use Rattle.std.specs.Prelude.{ℤ, pos}
use Rattle.loft_locks.specs.LocksHold.{OneHolds, IsLost}
use Rattle.loft_locks.proofs.PointLemmas.{IsLevel}

pub one_level : IsLevel OneHolds
one_level = record { there = there_; less = less_; takes = takes_; gives = gives_ }
  where
    there_ : (o : Option ℤ) (n : ℕ) → OneHolds o n → (v : ℤ) × (o ≡ Some v)
    there_ o n (inl f) = (pos 0, f.0)
    there_ o n (inr f) = (pos 1, f.0)

    less_ : (o : Option ℤ) (m n : ℕ) → m ≤ n → OneHolds o n → OneHolds o m
    less_ o m n le (inl f) = let e = f.1 in inl (f.0, omega (arith, le, e))
    less_ o m n le (inr f) = let e = f.1 in inr (f.0, omega (arith, le, e))

    takes_ : (n : ℕ) → OneHolds (Some (pos 0)) n → OneHolds (Some (pos 1)) (suc n)
    takes_ n (inl f) = let e = f.1 in inr (refl, omega (arith, e))
    takes_ n (inr f) = let e = f.0 in absurd cc

    gives_ : (o : Option ℤ) (n : ℕ) → OneHolds o (suc n) → OneHolds (Some (pos 0)) n
    gives_ o n (inl f) = let e = f.1 in absurd (omega (arith, e))
    gives_ o n (inr f) = let e = f.1 in inl (refl, omega (arith, e))

pub lost_level : IsLevel IsLost
lost_level = record { there = there_; less = less_; takes = takes_; gives = gives_ }
  where
    there_ : (o : Option ℤ) (n : ℕ) → IsLost o n → (v : ℤ) × (o ≡ Some v)
    there_ o n f = (pos 1, f.0)

    less_ : (o : Option ℤ) (m n : ℕ) → m ≤ n → IsLost o n → IsLost o m
    less_ o m n le f = let e = f.1 in (f.0, omega (arith, le, e))

    takes_ : (n : ℕ) → IsLost (Some (pos 0)) n → IsLost (Some (pos 1)) (suc n)
    takes_ n f = let e = f.0 in absurd cc

    gives_ : (o : Option ℤ) (n : ℕ) → IsLost o (suc n) → IsLost (Some (pos 0)) n
    gives_ o n f = let e = f.1 in absurd (omega (arith, e))
