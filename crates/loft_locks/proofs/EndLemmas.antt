-- What is so where a module ends.
use Rattle.std.proofs.Common.{◌≡◌, ◌+◌, ◌≤◌, Bool, true, false, Some, slice_get, refl, ap, subst, arith}
use Rattle.std.specs.Prelude.{not, ℤ, pos}
use Rattle.std.specs.Ordering.{int_eq}
use Rattle.std.proofs.lemmas.Bool.Decides.{Decides-int_eq}
use Rattle.loft_base.specs.declared.ids.ModuleId.{ModuleId}
use Rattle.loft_tree.specs.declared.heads.Signature.{Signature}
use Rattle.loft_tree.specs.declared.heads.Heads.{Heads}
use Rattle.loft_tree.specs.Resolved.{Resolved}
use Rattle.loft_sense.specs.Eval.{is_true}
use Rattle.loft_sense.specs.Stands.{end_of, end_or_unlinked}
use Rattle.loft_soundness.specs.Numbered.{IsNumbered}
use Rattle.loft_soundness.specs.WellFormed.{IsPlacedTree}
use Rattle.loft_soundness.proofs.NumberLemmas.{is_numbered}
use Rattle.loft_locks.specs.Locks.{LockCall, Takes, Gives, Other, after_call}
use Rattle.loft_locks.specs.LocksHold.{one}

pub numbered : (p : Resolved) → IsPlacedTree p → IsNumbered p
numbered p well = subst IsNumbered well.same (is_numbered well.source well.names)

pub end_is : (h : Heads) (m : ModuleId) (head : Signature) → slice_get h.modules m.0 ≡ Some head → end_of h m ≡ head.end
end_is h m head at = ap end_or_unlinked at

-- whether a thread has the lock as this module ends
abbrev pub own_at_end : LockCall → Bool
own_at_end Takes = true
own_at_end Gives = false
own_at_end Other = false

pub after_less : (call : LockCall) (own i : Bool) → own ≡ own_at_end call → one (after_call call i) ≤ one own + one i
after_less Takes own true e = let f : one own ≡ 1 = ap one e in omega (arith, f)
after_less Takes own false e = let f : one own ≡ 1 = ap one e in omega (arith, f)
after_less Gives own true e = omega arith
after_less Gives own false e = omega arith
after_less Other own true e = omega arith
after_less Other own false e = omega arith

-- a number that isn't true is 0
pub is_false : (n : ℤ) → is_true n ≡ false → n ≡ pos 0
is_false n e = by (int_eq n (pos 0)) refl e
  where
    by : (b : Bool) → int_eq n (pos 0) ≡ b → not b ≡ false → n ≡ pos 0
    by true f e = (Decides-int_eq n (pos 0)).0 f
    by false f e = absurd cc

pub no_takes : {a : LockCall} → a ≡ Takes → a ≡ Other → ⊥
no_takes e f = cc

pub not_gives : (a : LockCall) → a ≡ Other → a ≡ Gives → ⊥
not_gives a e f = cc

pub no_gives : (a : LockCall) → a ≡ Takes → a ≡ Gives → ⊥
no_gives a e f = cc
