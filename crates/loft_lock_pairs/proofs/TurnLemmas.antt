-- Marks that are set one after the other tell which modules leave.
use Rattle.std.proofs.Common.{◌≡◌, ◌≢◌, ℕ, zero, suc, ◌<◌, ◌≤◌, Bool, true, false, inl, inr, Option, List, [], ◌∷◌, length, get_or, set, slice_get, refl, sym, ap, subst, ◌∙◌, arith, get_or-set_other}
use Rattle.std.specs.Prelude.{◌⊎◌, ◌↔◌, unwrap_or}
use Rattle.std.proofs.lemmas.Bool.{false≢true, cases_eq, cases_lt}
use Rattle.std.proofs.lemmas.Option.{slice_get_past}
use Rattle.loft_base.specs.declared.ids.ModuleId.{ModuleId}
use Rattle.loft_tree.specs.declared.named.Module.{Module}
use Rattle.loft_tree.specs.NamedView.{statements_of}
use Rattle.loft_tree.specs.Resolved.{Body, Empty, Resolved, body_of}
use Rattle.loft_locks.specs.Locks.{Leaves}
use Rattle.loft_lock_expansion.specs.Going.{body_goes}
use Rattle.loft_lock_expansion.proofs.LeavingLemmas.{MarksOnly, MarksStay, goes_leaves, marks_tell_all}
use Rattle.loft_lock_pairs.specs.Leaving.{marked_in, bodies_of, IsUnmarked}

-- how many aren't marked
abbrev pub unmarked : List Bool → ℕ
unmarked [] = 0
unmarked (true ∷ bs) = unmarked bs
unmarked (false ∷ bs) = suc (unmarked bs)

pub fewer : (bs : List Bool) (n : ℕ) → n < length bs → get_or bs n false ≡ false → unmarked (set bs n true) < unmarked bs
fewer [] n less e = absurd (omega (arith, less))
fewer (true ∷ bs) zero less e = absurd (false≢true (sym e))
fewer (false ∷ bs) zero less e = omega arith
fewer (true ∷ bs) (suc n) less e = fewer bs n (omega (arith, less)) e
fewer (false ∷ bs) (suc n) less e = let h = fewer bs n (omega (arith, less)) e in omega (arith, h)

pub same_length : (bs : List Bool) (n : ℕ) (b : Bool) → length (set bs n b) ≡ length bs
same_length [] n b = refl
same_length (x ∷ bs) zero b = refl
same_length (x ∷ bs) (suc n) b = ap (λ (k : ℕ). suc k) (same_length bs n b)

-- ---- bodies

pub as_many : (ms : List Module) → length (bodies_of ms) ≡ length ms
as_many [] = refl
as_many (m ∷ ms) = ap (λ (k : ℕ). suc k) (as_many ms)

pub body_is : (ms : List Module) (n : ℕ) (d : Module) → n < length ms → unwrap_or (slice_get (bodies_of ms) n) Empty ≡ body_of (statements_of (get_or ms n d).body.items)
body_is [] n d less = absurd (omega (arith, less))
body_is (x ∷ ms) zero d less = refl
body_is (x ∷ ms) (suc n) d less = body_is ms n d (omega (arith, less))

-- one more that leaves is marked
pub only_more : (p : Resolved) (bs : List Bool) (n : ℕ) → MarksOnly p (marked_in bs) → IsUnmarked bs p.bodies n → MarksOnly p (marked_in (set bs n true))
only_more p bs n only h m e = by (cases_eq m.0 n)
  where
    by : (m.0 ≡ n) ⊎ (m.0 ≢ n) → Leaves p m
    by (inl is) = goes_leaves p (marked_in bs) only m (rw is h.goes)
    by (inr other) = only m (sym (get_or-set_other bs n m.0 true false other) ∙ e)

-- none is left
pub all_told : (p : Resolved) (bs : List Bool) → MarksOnly p (marked_in bs) → ((n : ℕ) → IsUnmarked bs p.bodies n → ⊥) → (m : ModuleId) → (marked_in bs m ≡ true) ↔ Leaves p m
all_told p bs only none = marks_tell_all p (marked_in bs) only stay
  where
    stay : MarksStay p (marked_in bs)
    stay m e = by (cases_lt m.0 (length p.bodies)) (get_or bs m.0 false) refl
      where
        by : (m.0 < length p.bodies) ⊎ (length p.bodies ≤ m.0) → (b : Bool) → get_or bs m.0 false ≡ b → get_or bs m.0 false ≡ true
        by there true is = is
        by (inl there) false is = absurd (none m.0 (record { there = there; unmarked = is; goes = e }))
        by (inr past) false is = absurd (false≢true (subst (λ (o : Option Body). body_goes (marked_in bs) (unwrap_or o Empty) ≡ true) (slice_get_past p.bodies m.0 past) e))
