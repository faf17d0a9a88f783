-- What an expression that fits asks for is there.
use Rattle.std.proofs.Common.{◌≡◌, ℕ, zero, suc, ◌<◌, Bool, true, false, cond, List, [], ◌∷◌, length, take, filter, Some, slice_get, refl, sym, ap, ◌∙◌, subst, arith}
use Rattle.std.specs.Prelude.{ℤ, pos, negsuc}
use Rattle.std.specs.Option.{option_map_or}
use Rattle.std.proofs.lemmas.Bool.{eq-eqb, ltb-true}
use Rattle.std.proofs.lemmas.List.{length-map}
use Rattle.std.proofs.lemmas.Option.{slice_get_within}
use Rattle.loft_base.specs.declared.ids.EventId.{EventId}
use Rattle.loft_base.specs.declared.ids.SchedId.{SchedId}
use Rattle.loft_base.specs.declared.ids.SharedId.{SharedId}
use Rattle.loft_tree.specs.declared.heads.Place.{Place}
use Rattle.loft_tree.specs.declared.heads.SharedHead.{SharedHead}
use Rattle.loft_tree.specs.declared.heads.Heads.{Heads}
use Rattle.loft_tree.specs.Ranks.{is_at}
use Rattle.loft_sense.specs.Heads.{shared_values, rank}
use Rattle.loft_sense.specs.Around.{Around, Beside}
use Rattle.loft_sense.specs.Machine.{Prog, heads}
use Rattle.loft_sense.specs.Run.{Active}
use Rattle.loft_sense.specs.CanGo.{is_index}
use Rattle.loft_soundness.specs.WellFormed.{PointOf}
use Rattle.loft_soundness.specs.WorkFits.{IsShared, IsEvent}
use Rattle.loft_soundness.specs.Points.{HasValues, AroundFits, PointFits}
use Rattle.loft_soundness.proofs.ListLemmas.{within_some}

fewer_kept : (x : SharedHead) (b : Bool) (front all : List SharedHead) → length front < length all → length (cond b (x ∷ front) front) < length (cond b (x ∷ all) all)
fewer_kept x true front all h = omega (arith, h)
fewer_kept x false front all h = h

one_kept : (x : SharedHead) (b : Bool) (all : List SharedHead) → b ≡ true → 0 < length (cond b (x ∷ all) all)
one_kept x true all e = omega arith
one_kept x false all e = absurd cc

-- before one that a filter keeps it keeps fewer than in all
fewer_before : (s : SchedId) (xs : List SharedHead) (k : ℕ) (x : SharedHead) → slice_get xs k ≡ Some x → is_at s x ≡ true → length (filter (is_at s) (take k xs)) < length (filter (is_at s) xs)
fewer_before s [] k x at kept = absurd cc
fewer_before s (y ∷ ys) zero x at kept = let same : y ≡ x = cc in one_kept y (is_at s y) (filter (is_at s) ys) (ap (λ (z : SharedHead). is_at s z) same ∙ kept)
fewer_before s (y ∷ ys) (suc k) x at kept = fewer_kept y (is_at s y) (filter (is_at s) (take k ys)) (filter (is_at s) ys) (fewer_before s ys k x at kept)

-- a shared variable of the place has a value
shared_there : (h : Heads) (place : Place) (shared : List ℤ) (x : SharedId) → IsShared h place x → HasValues h place (length shared) → (i : ℤ) × (slice_get shared (rank h x) ≡ Some i)
shared_there h place shared x is all_there =
    let head = is.0 in
    let s = head.scheduler in
    let size : length shared ≡ length (shared_values h s) = subst (λ p. HasValues h p (length shared)) (sym is.2) all_there in
    let all : length (shared_values h s) ≡ length (filter (is_at s) h.shared) = length-map (filter (is_at s) h.shared) (λ y. y.value) in
    let before : length (filter (is_at s) (take x.0 h.shared)) < length (filter (is_at s) h.shared) = fewer_before s h.shared x.0 head is.1 (eq-eqb s.0 s.0 refl) in
    let same : rank h x ≡ length (filter (is_at s) (take x.0 h.shared)) = ap (λ o. option_map_or (λ v. length (filter (is_at v.scheduler) (take x.0 h.shared))) o 0) is.1 in
    within_some shared (rank h x) (omega (arith, size, all, before, same))

-- so it is at each point of a run that begins with a value for each
pub shared_at_point : (x : Prog) (place : Place) (count : ℕ) (b : Beside) (rs : List (Active (PointOf x))) → PointFits x place count b rs → HasValues (heads x) place count
    → (y : SharedId) → IsShared (heads x) place y → (i : ℤ) × (slice_get b.around.shared (rank (heads x) y) ≡ Some i)
shared_at_point x place count b rs f all_there y is = shared_there (heads x) place b.around.shared y is (subst (HasValues (heads x) place) (sym f.beside.shared) all_there)

-- the board has room for an event
pub event_there : (h : Heads) (place : Place) (around : Around) (e : EventId) → IsEvent h place e → AroundFits h place around → e.0 < length around.board
event_there h place around e is fit = omega (arith, slice_get_within h.events e.0 is.0 is.1, fit.board)

-- an index within so many values has its value
pub index_there : (values : List ℤ) (i : ℤ) → is_index i (length values) ≡ true → (k : ℕ) × (v : ℤ) × (i ≡ pos k) × (slice_get values k ≡ Some v)
index_there values (pos k) e = let v = within_some values k (ltb-true k (length values) e) in (k, v.0, refl, v.1)
index_there values (negsuc k) e = absurd cc
