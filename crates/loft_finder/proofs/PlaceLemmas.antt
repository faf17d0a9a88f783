-- Places that are listed or aren't any more.
use Rattle.std.proofs.Common.{◌≡◌, ℕ, Bool, true, false, refl, ◌∙◌, ap}
use Rattle.std.specs.Prelude.{◌≢◌, ◌||◌, not, cond}
use Rattle.std.specs.BTreeMap.{is_at}
use Rattle.std.specs.BTreeSet.{BTreeSet, contains}
use Rattle.loft_finder.specs.declared.key.IdKey.{IdKey}
use Rattle.loft_finder.specs.Finder.{Place, place_cmp}
use Rattle.loft_finder.proofs.KeyLemmas.{place_apart}

cond_true : (b : Bool) → cond b true true ≡ true
cond_true true = refl
cond_true false = refl

-- one more place
pub more_stand : (on : Bool) (old new : BTreeSet Place) (x : Place) → ((q : Place) → contains place_cmp new q ≡ cond (is_at (place_cmp x) q) true (contains place_cmp old q))
    → (k : IdKey) (i : ℕ) → (not on || contains place_cmp old (k, i)) ≡ true → (not on || contains place_cmp new (k, i)) ≡ true
more_stand true old new x more k i h = more (k, i) ∙ ap (λ (b : Bool). cond (is_at (place_cmp x) (k, i)) true b) h ∙ cond_true (is_at (place_cmp x) (k, i))
more_stand false old new x more k i h = refl

-- one place less
pub less_stand : (on : Bool) (old new : BTreeSet Place) (key : IdKey) (p : ℕ) → ((q : Place) → is_at (place_cmp (key, p)) q ≡ false → contains place_cmp new q ≡ contains place_cmp old q)
    → (k : IdKey) (i : ℕ) → i ≢ p → (not on || contains place_cmp old (k, i)) ≡ true → (not on || contains place_cmp new (k, i)) ≡ true
less_stand true old new key p less k i apart h = less (k, i) (place_apart key k p i apart) ∙ h
less_stand false old new key p less k i apart h = refl
