-- What is found is the verdict.
use Rattle.std.proofs.Common.{◌≡◌, ℕ, zero, suc, ◌+◌, ◌<◌, Bool, true, false, List, [], ◌∷◌, map, Option, Some, None, slice_get, refl, sym, ap, ◌∙◌, subst, arith}
use Rattle.std.specs.Prelude.{◌||◌, not, is_some, nat_le, if◌then◌else◌}
use Rattle.std.proofs.lemmas.Bool.{leb-true, leb-false}
use Rattle.loft_base.specs.declared.ids.ModuleId.{ModuleId}
use Rattle.loft_tree.specs.Fits.{Each}
use Rattle.loft_tree.specs.NamedTree.{NamedStatements, NamedModule, NamedProgram}
use Rattle.loft_tree.specs.Resolved.{body_of, resolved_of}
use Rattle.loft_budget.specs.declared.steps.Steps.{Steps}
use Rattle.loft_budget.specs.Steps.{body_steps}
use Rattle.loft_budget.specs.Bounds.{runs_bounded, bound_of, most_bound, bounded_steps, steps_within}
use Rattle.loft_body.specs.Capped.{or_none, entry}
use Rattle.loft_budget.specs.declared.verdict.Verdict.TheVariants.{Bound, Recursive, Runs, Endless, Large}
use Rattle.loft_budget.specs.Verdicts.{RunAt, runs_in, endless_in, statements_at, FirstRun, IsRecursive, IsUnbounded, RunsBounded, endless_at, steps_at, IsVerdict}
use Rattle.loft_body.specs.First.{has_mark, first_marked, first_of}
use Rattle.loft_bound.specs.Found.{bounded_marks, next_table, table_at, IsStable, AllReaching, or_verdict, last_verdict, verdict_by}
use Rattle.loft_bound.proofs.Rounds.{one_marked, marks_are, all_bounded, none_endless, one_endless}
use Rattle.loft_budget.proofs.Verdicts.{deeper_by}
use Rattle.loft_bound.proofs.Reachers.{bodies, first_recursive, not_recursive}

module _ (n : NamedProgram) (any : ModuleId) where
  abbrev within : ℕ → ModuleId → Option Steps
  within k = steps_within (resolved_of n) k

  abbrev bs : List NamedStatements
  bs = bodies n any

  get_table : (of : ModuleId → Option Steps) (ms : List NamedModule) (k : ℕ)
      → or_none (slice_get (map (λ (b : NamedStatements). bounded_steps of (Some (body_of b))) (map (λ (x : NamedModule). x.body) ms)) k) ≡ bounded_steps of (slice_get (map (λ (x : NamedModule). body_of x.body) ms) k)
  get_table of [] k = refl
  get_table of (x ∷ ms) zero = refl
  get_table of (x ∷ ms) (suc k) = get_table of ms k

  -- the table of a depth has the steps of that depth
  table_is : (k : ℕ) → entry (table_at bs k) ≡ within k
  table_is zero = λ i. λ m. None
  table_is (suc k) =
      let one : (m : ModuleId) → entry (table_at bs (suc k)) m ≡ within (suc k) m = λ m.
      get_table (entry (table_at bs k)) n.modules m.0 ∙ ap (λ (of : ModuleId → Option Steps). bounded_steps of (slice_get (resolved_of n).bodies m.0)) (table_is k) in
      λ i. λ m. one m i

  module _ (table : List (Option Steps)) (stable : IsStable bs table) where
    abbrev k : ℕ
    k = stable.depth

    own : entry table ≡ within k
    own = ap entry stable.is ∙ table_is k

    stays : within (suc k) ≡ within k
    stays = sym (table_is (suc k)) ∙ ap (λ (t : List (Option Steps)). entry (next_table t bs)) (sym stable.is) ∙ ap entry stable.stays ∙ own

    abbrev next_of : (ModuleId → Option Steps) → ModuleId → Option Steps
    next_of of m = bounded_steps of (slice_get (resolved_of n).bodies m.0)

    stays_on : (j : ℕ) → within (j + k) ≡ within k
    stays_on zero = let same : zero + k ≡ k = omega arith in ap within same
    stays_on (suc j) =
        let same : suc j + k ≡ suc (j + k) = omega arith in
        ap within same ∙ ap next_of (stays_on j) ∙ stays

    at_each : (f g : ModuleId → Option Steps) → f ≡ g → (m : ModuleId) → f m ≡ g m
    at_each f g e m = ap (λ (of : ModuleId → Option Steps). of m) e

    none_some : {A : Type 0} {x : A} → None ≡ Some x → ⊥
    none_some e = cc

    -- a module without steps in the table has no bound
    unbounded : (m : ModuleId) → entry table m ≡ None → IsUnbounded n m
    unbounded m e j = by (within j m) refl
      where
        by : (o : Option Steps) → within j m ≡ o → within j m ≡ None
        by None f = f
        by (Some v) f =
            let deep : within (k + j) m ≡ Some v = deeper_by n k j m v f in
            let same : k + j ≡ j + k = omega arith in
            absurd (none_some (sym (sym (at_each (entry table) (within k) own m) ∙ e) ∙ sym (at_each (within (j + k)) (within k) (stays_on j) m) ∙ ap (λ (i : ℕ). within i m) (sym same) ∙ deep))

    is_none : (o : Option Steps) → (not (is_some o) || false) ≡ true → o ≡ None
    is_none None e = refl
    is_none (Some v) e = absurd cc

    first_unbounded : (b : NamedStatements) (at : ℕ) → first_marked (has_mark (bounded_marks table) false None) (runs_in b) ≡ Some at → FirstRun (IsUnbounded n) (runs_in b) at
    first_unbounded b at e = by (one_marked (has_mark (bounded_marks table) false None) (runs_in b) at e)
      where
        has : (m : ModuleId) → has_mark (bounded_marks table) false None m ≡ (not (is_some (entry table m)) || false)
        has m = ap (λ (c : Bool). not c || false) (marks_are table m)

        so : (m : ModuleId) → IsUnbounded n m → has_mark (bounded_marks table) false None m ≡ true
        so m u = has m ∙ ap (λ (o : Option Steps). not (is_some o) || false) (at_each (entry table) (within k) own m ∙ u k)

        not_before : (rs : List RunAt) → Each (λ (r : RunAt). has_mark (bounded_marks table) false None r.called ≡ true → ⊥) rs → Each (λ (r : RunAt). IsUnbounded n r.called → ⊥) rs
        not_before [] f = tt
        not_before (r ∷ rs) f = (λ u. f.0 (so r.called u), not_before rs f.1)

        by : FirstRun (λ (m : ModuleId). has_mark (bounded_marks table) false None m ≡ true) (runs_in b) at → FirstRun (IsUnbounded n) (runs_in b) at
        by f = record {
          before = f.before;
          run = f.run;
          after = f.after;
          splits = f.splits;
          none = not_before f.before f.none;
          is = unbounded f.run.called (is_none (entry table f.run.called) (sym (has f.run.called) ∙ f.is));
          there = f.there;
        }

    -- ---- the verdict

    module _ (m : ModuleId) (marks : List Bool) (all : AllReaching m (bodies n m) marks) where
      abbrev b : NamedStatements
      b = statements_at n m

      runs_so : first_marked (has_mark (bounded_marks table) false None) (runs_in b) ≡ None → RunsBounded n k m
      runs_so e = subst (λ (of : ModuleId → Option Steps). runs_bounded of (body_of b) ≡ true) own (all_bounded table b e)

      words_so : endless_in (entry table) b ≡ endless_at n k m
      words_so = ap (λ (of : ModuleId → Option Steps). endless_in of b) own

      steps_so : body_steps (entry table) (body_of b) ≡ steps_at n k m
      steps_so = ap (λ (of : ModuleId → Option Steps). body_steps of (body_of b)) own

      last : (IsRecursive n m → ⊥) → RunsBounded n k m → endless_at n k m ≡ [] → (c : Bool) → nat_le (bound_of (body_steps (entry table) (body_of b))) most_bound ≡ c
          → IsVerdict n m (if c then Bound (bound_of (body_steps (entry table) (body_of b))) else Large)
      last free runs none true e = (free, k, runs, none, sym (ap bound_of steps_so), leb-true (bound_of (body_steps (entry table) (body_of b))) most_bound e)
      last free runs none false e = (free, k, runs, none, subst (λ (x : Steps). most_bound < bound_of x) steps_so (leb-false (bound_of (body_steps (entry table) (body_of b))) most_bound e))

      ends_or : (IsRecursive n m → ⊥) → RunsBounded n k m → (o : Option ℕ) → first_of (endless_in (entry table) b) ≡ o → IsVerdict n m (or_verdict Endless o (last_verdict (bound_of (body_steps (entry table) (body_of b)))))
      ends_or free runs None e = last free runs (sym words_so ∙ none_endless (entry table) b e) _ refl
      ends_or free runs (Some at) e = let one = one_endless (endless_in (entry table) b) at e in (free, k, runs, one.0, sym words_so ∙ one.1)

      runs_or : (IsRecursive n m → ⊥) → (o : Option ℕ) → first_marked (has_mark (bounded_marks table) false None) (runs_in b) ≡ o
          → IsVerdict n m (or_verdict Runs o (or_verdict Endless (first_of (endless_in (entry table) b)) (last_verdict (bound_of (body_steps (entry table) (body_of b))))))
      runs_or free None e = ends_or free (runs_so e) _ refl
      runs_or free (Some at) e = (free, first_unbounded b at e)

      recursive_or : (o : Option ℕ) → first_marked (has_mark marks true (Some m)) (runs_in b) ≡ o
          → IsVerdict n m (or_verdict Recursive o (or_verdict Runs (first_marked (has_mark (bounded_marks table) false None) (runs_in b)) (or_verdict Endless (first_of (endless_in (entry table) b)) (last_verdict (bound_of (body_steps (entry table) (body_of b)))))))
      recursive_or None e = runs_or (not_recursive n m marks all e) _ refl
      recursive_or (Some at) e = first_recursive n m marks all at e

      pub is_verdict : IsVerdict n m (verdict_by table marks m (statements_at n m))
      is_verdict = recursive_or _ refl
