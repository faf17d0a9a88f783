-- Rounds over the modules, as many as it takes, tell which leave.
use Rattle.std.proofs.Common.{◌≡◌, ℕ, zero, suc, ◌+◌, ◌<◌, ◌≤◌, Bool, true, false, ◌||◌, inl, inr, List, [], ◌∷◌, length, get_or, slice_get, refl, ap, subst, ◌∙◌, arith}
use Rattle.std.specs.Prelude.{◌⊎◌, ◌↔◌, unwrap_or}
use Rattle.std.proofs.lemmas.Bool.{false≢true}
use Rattle.loft_base.specs.declared.ids.ModuleId.{ModuleId}
use Rattle.loft_tree.specs.Resolved.{Body, Empty, Resolved}
use Rattle.loft_locks.specs.Locks.{Leaves}
use Rattle.loft_lock_expansion.specs.Going.{body_goes}
use Rattle.loft_lock_expansion.proofs.LeavingLemmas.{goes_leaves, MarksOnly, marks_tell_all}

-- the mark of a module
abbrev away_of : List Bool → ModuleId → Bool
away_of bs m = get_or bs m.0 false

-- the marks after one more round
abbrev grown : (ModuleId → Bool) → List Body → List Bool → List Bool
grown away [] bs = bs
grown away (d ∷ ds) [] = []
grown away (d ∷ ds) (b ∷ bs) = (b || body_goes away d) ∷ grown away ds bs

abbrev one_if : Bool → ℕ
one_if true = 1
one_if false = 0

abbrev count : List Bool → ℕ
count [] = 0
count (b ∷ bs) = one_if b + count bs

few : (bs : List Bool) → count bs ≤ length bs
few [] = omega arith
few (true ∷ bs) = let h = few bs in omega (arith, h)
few (false ∷ bs) = let h = few bs in omega (arith, h)

same_length : (away : ModuleId → Bool) (ds : List Body) (bs : List Bool) → length (grown away ds bs) ≡ length bs
same_length away [] bs = refl
same_length away (d ∷ ds) [] = refl
same_length away (d ∷ ds) (b ∷ bs) = let h = same_length away ds bs in omega (arith, h)

-- a round changes nothing, or it adds a mark
grows : (away : ModuleId → Bool) (ds : List Body) (bs : List Bool) → (grown away ds bs ≡ bs) ⊎ (count bs < count (grown away ds bs))
grows away [] bs = inl refl
grows away (d ∷ ds) [] = inl refl
grows away (d ∷ ds) (b ∷ bs) = by b (body_goes away d) (grows away ds bs)
  where
    by : (x y : Bool) → (grown away ds bs ≡ bs) ⊎ (count bs < count (grown away ds bs)) → ((x || y) ∷ grown away ds bs ≡ x ∷ bs) ⊎ (count (x ∷ bs) < count ((x || y) ∷ grown away ds bs))
    by true y (inl e) = inl (ap (λ (l : List Bool). true ∷ l) e)
    by true y (inr less) = inr (omega (arith, less))
    by false true (inl e) = let same = ap count e in inr (omega (arith, same))
    by false true (inr less) = inr (omega (arith, less))
    by false false (inl e) = inl (ap (λ (l : List Bool). false ∷ l) e)
    by false false (inr less) = inr (omega (arith, less))

-- who is marked after a round
grown_why : (away : ModuleId → Bool) (ds : List Body) (bs : List Bool) (i : ℕ) → get_or (grown away ds bs) i false ≡ true → (get_or bs i false ≡ true) ⊎ (body_goes away (unwrap_or (slice_get ds i) Empty) ≡ true)
grown_why away [] bs i e = inl e
grown_why away (d ∷ ds) [] i e = absurd (false≢true e)
grown_why away (d ∷ ds) (true ∷ bs) zero e = inl refl
grown_why away (d ∷ ds) (false ∷ bs) zero e = inr e
grown_why away (d ∷ ds) (b ∷ bs) (suc i) e = grown_why away ds bs i e

grown_has : (away : ModuleId → Bool) (ds : List Body) (bs : List Bool) (i : ℕ) → length bs ≡ length ds → body_goes away (unwrap_or (slice_get ds i) Empty) ≡ true → get_or (grown away ds bs) i false ≡ true
grown_has away [] bs i n e = absurd (false≢true e)
grown_has away (d ∷ ds) [] i n e = absurd (omega (arith, n))
grown_has away (d ∷ ds) (true ∷ bs) zero n e = refl
grown_has away (d ∷ ds) (false ∷ bs) zero n e = e
grown_has away (d ∷ ds) (b ∷ bs) (suc i) n e = grown_has away ds bs i (omega (arith, n)) e

-- no marks
abbrev unmarked : List Body → List Bool
unmarked [] = []
unmarked (d ∷ ds) = false ∷ unmarked ds

none_marked : (ds : List Body) (i : ℕ) → get_or (unmarked ds) i false ≡ true → ⊥
none_marked [] i e = false≢true e
none_marked (d ∷ ds) zero e = false≢true e
none_marked (d ∷ ds) (suc i) e = none_marked ds i e

unmarked_length : (ds : List Body) → length (unmarked ds) ≡ length ds
unmarked_length [] = refl
unmarked_length (d ∷ ds) = let h = unmarked_length ds in omega (arith, h)

module _ (p : Resolved) where
  abbrev Told : Type 0
  Told = (away : (ModuleId → Bool)) × ((m : ModuleId) → (away m ≡ true) ↔ Leaves p m)

  only_next : (bs : List Bool) → MarksOnly p (away_of bs) → MarksOnly p (away_of (grown (away_of bs) p.bodies bs))
  only_next bs only m e = by (grown_why (away_of bs) p.bodies bs m.0 e)
    where
      by : (get_or bs m.0 false ≡ true) ⊎ (body_goes (away_of bs) (unwrap_or (slice_get p.bodies m.0) Empty) ≡ true) → Leaves p m
      by (inl marked) = only m marked
      by (inr goes) = goes_leaves p (away_of bs) only m goes

  settled : (bs : List Bool) → length bs ≡ length p.bodies → MarksOnly p (away_of bs) → grown (away_of bs) p.bodies bs ≡ bs → Told
  settled bs n only same = (away_of bs, marks_tell_all p (away_of bs) only (λ m e. subst (λ (l : List Bool). get_or l m.0 false ≡ true) same (grown_has (away_of bs) p.bodies bs m.0 n e)))

  rounds : (fuel : ℕ) (bs : List Bool) → length bs ≡ length p.bodies → length p.bodies ≤ fuel + count bs → MarksOnly p (away_of bs) → Told
  rounds zero bs n enough only = by (grows (away_of bs) p.bodies bs)
    where
      by : (grown (away_of bs) p.bodies bs ≡ bs) ⊎ (count bs < count (grown (away_of bs) p.bodies bs)) → Told
      by (inl same) = settled bs n only same
      by (inr less) =
          let most = few (grown (away_of bs) p.bodies bs) in
          let long = same_length (away_of bs) p.bodies bs in
          absurd (omega (arith, less, most, long, n, enough))
  rounds (suc fuel) bs n enough only = by (grows (away_of bs) p.bodies bs) (λ m less. rounds fuel (grown (away_of bs) p.bodies bs) m less (only_next bs only))
    where
      by : (grown (away_of bs) p.bodies bs ≡ bs) ⊎ (count bs < count (grown (away_of bs) p.bodies bs))
          → (length (grown (away_of bs) p.bodies bs) ≡ length p.bodies → length p.bodies ≤ fuel + count (grown (away_of bs) p.bodies bs) → Told) → Told
      by (inl same) further = settled bs n only same
      by (inr less) further = further (same_length (away_of bs) p.bodies bs ∙ n) (omega (arith, less, enough))

  -- some marks tell which modules leave
  pub leaving_told : Told
  leaving_told = rounds (length p.bodies) (unmarked p.bodies) (unmarked_length p.bodies) (omega arith) (λ m e. absurd (none_marked p.bodies m.0 e))
