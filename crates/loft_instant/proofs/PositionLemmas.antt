-- The first thread with an id among those that are linked.
use Rattle.std.proofs.Common.{◌≡◌, ℕ, zero, suc, ◌<◌, ◌+◌, Bool, true, false, List, [], ◌∷◌, ◌++◌, refl, sym, ap, ◌∙◌, length, take, drop, get_or, add-one, arith}
use Rattle.std.specs.Prelude.{◌||◌, if◌then◌else◌, slice_set}
use Rattle.std.proofs.lemmas.Option.{slice_get_read}
use Rattle.loft_base.specs.declared.ids.ThreadId.{ThreadId}
use Rattle.loft_orders.specs.declared.note.Standing.{Standing}
use Rattle.loft_orders.specs.declared.order.Mark.TheVariants as mark
use Rattle.loft_sense.specs.Apply.{Applied, marked, is_linked, without_first, suspend}
use Rattle.loft_sense.specs.CanGo.{same_thread}
use Rattle.loft_passes.specs.declared.runner.Runner.{Runner}
use Rattle.loft_passes.specs.View.{standing_of, standings_of}
use Rattle.loft_instant.specs.Batches.{suspended_by}
use Rattle.loft_instant.specs.Positions.{IsAtIndex}

not_first : (a b : Bool) → a || b ≡ false → a ≡ false
not_first true b h = h
not_first false b h = refl

not_rest : (a b : Bool) → a || b ≡ false → b ≡ false
not_rest true b h = cc
not_rest false b h = h

-- one element more of a longer list
drop_more : {A : Type 0} (i : ℕ) (x : A) (xs : List A) → drop (i + 1) xs ≡ drop (suc i + 1) (x ∷ xs)
drop_more i x xs = ap (λ (n : ℕ). drop n xs) (add-one i) ∙ ap (λ (n : ℕ). drop n (x ∷ xs)) (sym (add-one (suc i)))

take_more : {A : Type 0} (i : ℕ) (x : A) (xs : List A) → take (suc i + 1) (x ∷ xs) ≡ x ∷ take (i + 1) xs
take_more i x xs = ap (λ (n : ℕ). take n (x ∷ xs)) (add-one (suc i)) ∙ ap (λ (n : ℕ). x ∷ take n xs) (sym (add-one i))

-- the first of them
at_first : (t : ThreadId) (x : Runner) (xs : List Runner) → same_thread t x.thread.id ≡ true → IsAtIndex 0 t (x ∷ xs)
at_first t x xs same = record {
  there = omega arith;
  is_linked = ap (λ (b : Bool). b || is_linked t (standings_of xs)) same;
  unlinked = ap (λ (b : Bool). if b then standings_of xs else standing_of x ∷ without_first t (standings_of xs)) same;
  suspended = λ b r q is suspended. ap (λ (c : Bool). if c then record (standing_of x) { suspended = b } ∷ standings_of xs else standing_of x ∷ suspend t b (standings_of xs)) same ∙ cc;
}

-- after another
after : (t : ThreadId) (x : Runner) (xs : List Runner) (i : ℕ) → same_thread t x.thread.id ≡ false → IsAtIndex i t xs → IsAtIndex (suc i) t (x ∷ xs)
after t x xs i other at = record {
  there = omega (arith, at.there);
  is_linked = ap (λ (b : Bool). b || is_linked t (standings_of xs)) other ∙ at.is_linked;
  unlinked = ap (λ (b : Bool). if b then standings_of xs else standing_of x ∷ without_first t (standings_of xs)) other
      ∙ ap (λ (l : List Standing). standing_of x ∷ l) (at.unlinked ∙ ap (λ (l : List Runner). standings_of (take i xs ++ l)) (drop_more i x xs));
  suspended = λ b r q is suspended.
      ap (λ (c : Bool). if c then record (standing_of x) { suspended = b } ∷ standings_of xs else standing_of x ∷ suspend t b (standings_of xs)) other
      ∙ ap (λ (l : List Standing). standing_of x ∷ l) (at.suspended b r q is suspended);
}

pub found_here : (t : ThreadId) (rs : List Runner) (i : ℕ) (r : Runner) → i < length rs → r ≡ get_or rs i r → is_linked t (standings_of (take i rs)) ≡ false → same_thread t r.thread.id ≡ true → IsAtIndex i t rs
found_here t [] i r within is none same = absurd (omega (arith, within))
found_here t (x ∷ xs) zero r within is none same = at_first t x xs (ap (λ (y : Runner). same_thread t y.thread.id) (sym is) ∙ same)
found_here t (x ∷ xs) (suc i) r within is none same =
    after t x xs i (not_first (same_thread t x.thread.id) (is_linked t (standings_of (take i xs))) none)
    (found_here t xs i r (omega (arith, within)) is (not_rest (same_thread t x.thread.id) (is_linked t (standings_of (take i xs))) none) same)

pub not_here : (t : ThreadId) (rs : List Runner) (i : ℕ) (r : Runner) → i < length rs → r ≡ get_or rs i r → is_linked t (standings_of (take i rs)) ≡ false → same_thread t r.thread.id ≡ false → is_linked t (standings_of (take (i + 1) rs)) ≡ false
not_here t [] i r within is none other = absurd (omega (arith, within))
not_here t (x ∷ xs) zero r within is none other = ap (λ (b : Bool). b || false) (ap (λ (y : Runner). same_thread t y.thread.id) (sym is) ∙ other)
not_here t (x ∷ xs) (suc i) r within is none other =
    ap (λ (l : List Runner). is_linked t (standings_of l)) (take_more i x xs)
    ∙ (ap (λ (b : Bool). b || is_linked t (standings_of (take (i + 1) xs))) (not_first (same_thread t x.thread.id) (is_linked t (standings_of (take i xs))) none)
    ∙ not_here t xs i r (omega (arith, within)) is (not_rest (same_thread t x.thread.id) (is_linked t (standings_of (take i xs))) none) other)

-- the thread at its index is suspended, or isn't any more
pub suspended_there : (t : ThreadId) (rs : List Runner) (i : ℕ) (r q : Runner) (b : Bool) (a : Applied) → IsAtIndex i t rs → r ≡ get_or rs i r → standing_of q ≡ record (standing_of r) { suspended = b } → a.linked ≡ standings_of rs
    → marked mark.Done (record a { linked = standings_of (slice_set rs i q) }) ≡ suspended_by t b a
suspended_there t rs i r q b a at here is linked =
    ap (λ (l : List Standing). marked mark.Done (record a { linked = l })) (sym (at.suspended b r q (slice_get_read rs (length rs) i r refl at.there here) is) ∙ ap (suspend t b) (sym linked))
    ∙ ap (λ (c : Bool). if c then marked mark.Done (record a { linked = suspend t b a.linked }) else marked mark.Void a) (sym (ap (is_linked t) linked ∙ at.is_linked))
