-- What each body runs, found once, serves to find what reaches a module.
use Rattle.std.proofs.Common.{◌≡◌, ◌⊎◌, inl, inr, ℕ, zero, suc, ◌<◌, ◌≤◌, Bool, true, false, List, [], ◌∷◌, length, Some, slice_get, refl, sym, ap, ◌∙◌, subst, arith}
use Rattle.std.specs.Prelude.{◌||◌, is_some, unwrap_or}
use Rattle.std.specs.List.{list_any}
use Rattle.std.proofs.lemmas.List.Folds.{list_any-append}
use Rattle.std.proofs.lemmas.Bool.{eqb-true, eq-eqb}
use Rattle.loft_base.specs.declared.ids.ModuleId.{ModuleId}
use Rattle.loft_tree.specs.NamedTree.{NamedStatements}
use Rattle.loft_budget.specs.Verdicts.{RunAt, runs_in, FirstRun}
use Rattle.loft_body.specs.First.{mark_of, is_it, has_mark, first_marked}
use Rattle.loft_bound.specs.Found.{is_run, if_run, called_to, rows_of, next_by, next_reaching}
use Rattle.loft_bound.proofs.Rounds.{one_marked}
use Rattle.loft_bound.proofs.Reachers.{found_more, there, marked_or, some_first}

or_left : (a b : Bool) → a ≡ true → (a || b) ≡ true
or_left true b e = refl
or_left false b e = absurd cc

or_right : (a b : Bool) → b ≡ true → (a || b) ≡ true
or_right true b e = refl
or_right false b e = e

same_bool : (a b : Bool) → (a ≡ true → b ≡ true) → (b ≡ true → a ≡ true) → a ≡ b
same_bool false false f g = refl
same_bool false true f g = g refl
same_bool true b f g = sym (f refl)

-- each that is in a row is run
only_runs : (hit : ModuleId → Bool) (rs : List RunAt) (k : ℕ) → list_any hit (called_to rs k) ≡ true → is_some (first_marked hit rs) ≡ true
only_runs hit rs zero e = absurd cc
only_runs hit rs (suc k) e =
    by (marked_or (list_any hit (called_to rs k)) (list_any hit (if_run (is_run rs k) k)) (sym (list_any-append hit (called_to rs k) (if_run (is_run rs k) k)) ∙ e)) (only_runs hit rs k)
  where
    own : (q : ModuleId) → hit (record { 0 = k }) ≡ true → has_mark [] true (Some (record { 0 = k })) q ≡ true → hit q ≡ true
    own q f g = let same : q.0 ≡ k = eqb-true q.0 k g in subst (λ (i : ℕ). hit (record { 0 = i }) ≡ true) (sym same) f

    last : (b : Bool) → is_run rs k ≡ b → list_any hit (if_run b k) ≡ true → is_some (first_marked hit rs) ≡ true
    last false f g = absurd cc
    last true f g =
        let is : hit (record { 0 = k }) ≡ true = one (hit (record { 0 = k })) g in
        found_more (has_mark [] true (Some (record { 0 = k }))) hit (λ q. own q is) rs f
      where
        one : (c : Bool) → (c || false) ≡ true → c ≡ true
        one true e = refl
        one false e = e

    by : (list_any hit (called_to rs k) ≡ true) ⊎ (list_any hit (if_run (is_run rs k) k) ≡ true) → (list_any hit (called_to rs k) ≡ true → is_some (first_marked hit rs) ≡ true) → is_some (first_marked hit rs) ≡ true
    by (inl f) before = before f
    by (inr f) before = last (is_run rs k) refl f

-- each that is run is in a row of those with lesser numbers
each_run : (hit : ModuleId → Bool) (rs : List RunAt) (k : ℕ) (q : ModuleId) → q.0 < k → is_run rs q.0 ≡ true → hit q ≡ true → list_any hit (called_to rs k) ≡ true
each_run hit rs zero q f e g = absurd (omega (arith, f))
each_run hit rs (suc k) q f e g = list_any-append hit (called_to rs k) (if_run (is_run rs k) k) ∙ by (less q.0 k f) (λ h. each_run hit rs k q h e g)
  where
    less : (i j : ℕ) → i < suc j → (i < j) ⊎ (i ≡ j)
    less zero zero f = inr refl
    less zero (suc j) f = inl (omega arith)
    less (suc i) zero f = absurd (omega (arith, f))
    less (suc i) (suc j) f = next (less i j (omega (arith, f)))
      where
        next : (i < j) ⊎ (i ≡ j) → (suc i < suc j) ⊎ (suc i ≡ suc j)
        next (inl f) = inl (omega (arith, f))
        next (inr e) = inr (ap (λ (n : ℕ). suc n) e)

    here : q.0 ≡ k → list_any hit (if_run (is_run rs k) k) ≡ true
    here same =
        let is : is_run rs k ≡ true = subst (λ (i : ℕ). is_run rs i ≡ true) same e in
        let own : hit (record { 0 = k }) ≡ true = subst (λ (i : ℕ). hit (record { 0 = i }) ≡ true) same g in
        ap (λ (b : Bool). list_any hit (if_run b k)) is ∙ or_left (hit (record { 0 = k })) false own

    by : (q.0 < k) ⊎ (q.0 ≡ k) → (q.0 < k → list_any hit (called_to rs k) ≡ true) → (list_any hit (called_to rs k) || list_any hit (if_run (is_run rs k) k)) ≡ true
    by (inl f) before = or_left (list_any hit (called_to rs k)) (list_any hit (if_run (is_run rs k) k)) (before f)
    by (inr same) before = or_right (list_any hit (called_to rs k)) (list_any hit (if_run (is_run rs k) k)) (here same)

-- what is marked is declared
marked_less : (xs : List Bool) (k : ℕ) → unwrap_or (slice_get xs k) false ≡ true → k < length xs
marked_less [] k e = absurd cc
marked_less (x ∷ xs) zero e = omega arith
marked_less (x ∷ xs) (suc k) e = let f = marked_less xs k e in omega (arith, f)

module _ (m : ModuleId) (marks : List Bool) (n : ℕ) (few : length marks ≤ n) (declared : m.0 < n) where
  abbrev hit : ModuleId → Bool
  hit q = has_mark marks true (Some m) q

  less_than : (q : ModuleId) → hit q ≡ true → q.0 < n
  less_than q e = by (marked_or (mark_of marks q) (is_it (Some m) q) e)
    where
      by : (mark_of marks q ≡ true) ⊎ (is_it (Some m) q ≡ true) → q.0 < n
      by (inl f) = let g = marked_less marks q.0 f in omega (arith, g, few)
      by (inr f) = let same : q.0 ≡ m.0 = eqb-true q.0 m.0 f in omega (arith, same, declared)

  one_row : (rs : List RunAt) → list_any hit (called_to rs n) ≡ is_some (first_marked hit rs)
  one_row rs = same_bool (list_any hit (called_to rs n)) (is_some (first_marked hit rs)) (only_runs hit rs n) (λ e. back (some_first (first_marked hit rs) e))
    where
      back : (at : ℕ) × (first_marked hit rs ≡ Some at) → list_any hit (called_to rs n) ≡ true
      back (at, e) = by (one_marked hit rs at e)
        where
          by : FirstRun (λ (q : ModuleId). hit q ≡ true) rs at → list_any hit (called_to rs n) ≡ true
          by f =
              let q = f.run.called in
              let itself : has_mark [] true (Some q) q ≡ true = eq-eqb q.0 q.0 refl in
              let run : is_run rs q.0 ≡ true = subst (λ (l : List RunAt). is_some (first_marked (has_mark [] true (Some q)) l) ≡ true) (sym f.splits) (there (has_mark [] true (Some q)) f.before f.run f.after itself) in
              each_run hit rs n q (less_than q f.is) run f.is

  all_rows : (bs : List NamedStatements) → next_by m marks (rows_of n bs) ≡ next_reaching m marks bs
  all_rows [] = refl
  all_rows (b ∷ bs) = ap (λ (c : Bool). c ∷ next_by m marks (rows_of n bs)) (one_row (runs_in b)) ∙ ap (λ (l : List Bool). is_some (first_marked hit (runs_in b)) ∷ l) (all_rows bs)

-- the next marks are the same
pub next_same : (m : ModuleId) (marks next : List Bool) (n : ℕ) (bs : List NamedStatements) (rows : List (List ModuleId)) → rows ≡ rows_of n bs → length marks ≤ n → m.0 < n
    → next ≡ next_by m marks rows → next ≡ next_reaching m marks bs
next_same m marks next n bs rows is few declared e = e ∙ ap (next_by m marks) is ∙ all_rows m marks n few declared bs
