-- The slots of a module: its parameters, then its local variables.
use Rattle.std.proofs.Common.{◌≡◌, ℕ, zero, suc, ◌+◌, ◌-◌, ◌<◌, ◌≤◌, List, [], ◌∷◌, ◌++◌, length, Some, None, slice_get, refl, sym, ap, ◌∙◌, arith}
use Rattle.loft_tree.specs.declared.heads.SlotHead.{SlotHead}
use Rattle.loft_tree.specs.declared.heads.Signature.{Signature}
use Rattle.loft_tree.specs.HeadsFit.{kinds_of}
use Rattle.loft_tree.specs.NamedFits.{slots_of}

-- the kind of one of them
pub kind_at : (vs : List SlotHead) (k : ℕ) (v : SlotHead) → slice_get vs k ≡ Some v → slice_get (kinds_of vs) k ≡ Some v.kind
kind_at [] k v at = absurd cc
kind_at (w ∷ ws) zero v at = let same : w ≡ v = cc in ap (λ (x : SlotHead). Some x.kind) same
kind_at (w ∷ ws) (suc k) v at = kind_at ws k v at

pub no_kind_at : (vs : List SlotHead) (k : ℕ) → slice_get vs k ≡ None → slice_get (kinds_of vs) k ≡ None
no_kind_at [] k at = refl
no_kind_at (w ∷ ws) zero at = absurd cc
no_kind_at (w ∷ ws) (suc k) at = no_kind_at ws k at

within : (ps ls : List SlotHead) (k : ℕ) → k < length ps → slice_get (kinds_of ps ++ kinds_of ls) k ≡ slice_get (kinds_of ps) k
within [] ls k lt = absurd (omega (arith, lt))
within (p ∷ ps) ls zero lt = refl
within (p ∷ ps) ls (suc k) lt = within ps ls k (omega (arith, lt))

beyond : (ps ls : List SlotHead) (k j : ℕ) → j + length ps ≡ k → slice_get (kinds_of ps ++ kinds_of ls) k ≡ slice_get (kinds_of ls) j
beyond [] ls k j is = let same : k ≡ j = omega (arith, is) in ap (slice_get (kinds_of ls)) same
beyond (p ∷ ps) ls zero j is = absurd (omega (arith, is))
beyond (p ∷ ps) ls (suc k) j is = beyond ps ls k j (omega (arith, is))

-- a parameter
pub slot_within : (m : Signature) (ps : List SlotHead) (k : ℕ) → ps ≡ m.parameters → k < length ps → slice_get (slots_of m) k ≡ slice_get (kinds_of ps) k
slot_within m ps k is lt = within m.parameters m.locals k (omega (arith, lt, ap length is)) ∙ ap (λ (vs : List SlotHead). slice_get (kinds_of vs) k) (sym is)

-- a local variable
pub slot_beyond : (m : Signature) (ps ls : List SlotHead) (k : ℕ) → ps ≡ m.parameters → ls ≡ m.locals → length ps ≤ k
    → slice_get (slots_of m) k ≡ slice_get (kinds_of ls) (k - length ps)
slot_beyond m ps ls k is also past =
    beyond m.parameters m.locals k (k - length ps) (omega (arith, past, ap length is)) ∙ ap (λ (vs : List SlotHead). slice_get (kinds_of vs) (k - length ps)) (sym also)
