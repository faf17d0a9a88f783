-- One of several schedulers goes on, and the others stay as they are.
use Rattle.std.proofs.Common.{◌≡◌, ◌≢◌, ◌⊎◌, inl, inr, ℕ, ◌<◌, ◌==◌, Bool, true, false, List, length, slice_index_or, refl, sym, ◌∙◌, subst, arith}
use Rattle.std.specs.List.{All}
use Rattle.std.proofs.lemmas.Bool.{eqb-true}
use Rattle.atomic_table.specs.Seated.{TableId}
use Rattle.loft_code.specs.declared.raw.CodeProgram.{CodeProgram}
use Rattle.loft_station.specs.Stations.{StationView, IsReady, IsSame, WentOn}
use Rattle.loft_phase.specs.Phases.{Stay, StationStays, GoesOnAt}

same_or_not : (i k : ℕ) → (i ≡ k) ⊎ (i ≢ k)
same_or_not i k = one (i == k) refl
  where
    one : (t : Bool) → (i == k) ≡ t → (i ≡ k) ⊎ (i ≢ k)
    one true is = inl (eqb-true i k is)
    one false is = inr (λ e. absurd (grind (arith, e, is)))

is_same : (v : StationView) → IsSame v v
is_same v = record { scheduler = refl; limits = refl }

-- whatever it answered, each has the entries that it has to make
pub stay_alone : (b : TableId) (x : CodeProgram) (k : ℕ) (ss rs : List StationView) → All (IsReady b x) ss → GoesOnAt (WentOn b x) k ss rs → Stay (StationStays b x) ss rs
stay_alone b x k ss rs ready went = (went.0, each)
  where
    each : (i : ℕ) (d : StationView) → i < length ss → StationStays b x (slice_index_or ss i d) (slice_index_or rs i d)
    each i d lt = one (same_or_not i k)
      where
        one : (i ≡ k) ⊎ (i ≢ k) → StationStays b x (slice_index_or ss i d) (slice_index_or rs i d)
        one (inl is) = let w : WentOn b x (slice_index_or ss i d) (slice_index_or rs i d) = (went.1 i d lt).0 is in (w.kept, w.same)
        one (inr not) =
            let kept : StationStays b x (slice_index_or ss i d) (slice_index_or ss i d) = ((ready i d lt).kept, is_same (slice_index_or ss i d)) in
            subst (StationStays b x (slice_index_or ss i d)) (sym ((went.1 i d lt).1 not)) kept

-- where memory wasn't refused to it, all are ready
pub ready_alone : (b : TableId) (x : CodeProgram) (k : ℕ) (ss rs : List StationView) → All (IsReady b x) ss → GoesOnAt (WentOn b x) k ss rs → ((d : StationView) → (slice_index_or rs k d).refused ≡ false) → All (IsReady b x) rs
ready_alone b x k ss rs ready went works i d less = one (same_or_not i k)
  where
    lt : i < length ss
    lt = omega (arith, went.0)

    one : (i ≡ k) ⊎ (i ≢ k) → IsReady b x (slice_index_or rs i d)
    one (inl is) = ((went.1 i d lt).0 is).ready (subst (λ (j : ℕ). (slice_index_or rs j d).refused ≡ false) (sym is) (works d))
    one (inr not) = subst (IsReady b x) (sym ((went.1 i d lt).1 not)) (ready i d lt)

-- memory wasn't refused to the one at this index
pub works_of : (k : ℕ) (rs : List StationView) (refused : Bool) → ((d : StationView) → refused ≡ (slice_index_or rs k d).refused) → refused ≡ false → (d : StationView) → (slice_index_or rs k d).refused ≡ false
works_of k rs refused at is d = sym (at d) ∙ is
