-- Which modules have a bound, by a table of those that have one.
use Rattle.std.proofs.Common.{◌≡◌, ℕ, ◌<◌, ◌≤◌, Bool, true, false, List, [], ◌∷◌, ◌++◌, Option, Some, None, slice_get, refl, sym, ap, ◌∙◌, subst, arith}
use Rattle.std.specs.Prelude.{◌&&◌, ◌||◌, not, is_some, nat_le, unwrap_or, if◌then◌else◌}
use Rattle.std.specs.Option.{option_map}
use Rattle.std.proofs.lemmas.Option.{slice_get-map}
use Rattle.std.proofs.lemmas.Bool.{le-leb, leb-true}
use Rattle.loft_base.specs.declared.ids.ModuleId.{ModuleId}
use Rattle.loft_tree.specs.Fits.{Each}
use Rattle.loft_tree.specs.NamedTree.{NamedStatements}
use Rattle.loft_tree.specs.Resolved.{body_of}
use Rattle.loft_budget.specs.declared.steps.Steps.{Steps}
use Rattle.loft_budget.specs.Steps.{plus, body_steps}
use Rattle.loft_budget.specs.Bounds.{runs_bounded, loops_end, or_zero, bound_of, most_bound, bounded_steps}
use Rattle.loft_body.specs.Capped.{capped, capped_steps, or_none, entry}
use Rattle.loft_budget.specs.Verdicts.{RunAt, runs_in, endless_in, FirstRun}
use Rattle.loft_body.specs.First.{mark_of, has_mark, first_marked, first_of}
use Rattle.loft_bound.specs.Found.{bounded_marks}
use Rattle.loft_budget.proofs.Verdicts.{runs_all_in, all_runs_in, ends_in, none_left_in}

-- ---- the first `run`

pub none_marked : (hit : ModuleId → Bool) (rs : List RunAt) → first_marked hit rs ≡ None → Each (λ (r : RunAt). hit r.called ≡ false) rs
none_marked hit [] e = tt
none_marked hit (r ∷ rs) e = by (hit r.called) refl e (none_marked hit rs)
  where
    by : (b : Bool) → hit r.called ≡ b → (if b then Some r.at else first_marked hit rs) ≡ None → (first_marked hit rs ≡ None → Each (λ (r : RunAt). hit r.called ≡ false) rs) → Each (λ (r : RunAt). hit r.called ≡ false) (r ∷ rs)
    by true f g h = absurd cc
    by false f g h = (f, h g)

pub one_marked : (hit : ModuleId → Bool) (rs : List RunAt) (at : ℕ) → first_marked hit rs ≡ Some at → FirstRun (λ (m : ModuleId). hit m ≡ true) rs at
one_marked hit [] at e = absurd cc
one_marked hit (r ∷ rs) at e = by (hit r.called) refl e (one_marked hit rs at)
  where
    true_false : {b : Bool} → b ≡ true → b ≡ false → ⊥
    true_false e f = cc

    more : FirstRun (λ (m : ModuleId). hit m ≡ true) rs at → hit r.called ≡ false → FirstRun (λ (m : ModuleId). hit m ≡ true) (r ∷ rs) at
    more f g = record { before = r ∷ f.before; run = f.run; after = f.after; splits = ap (λ (l : List RunAt). r ∷ l) f.splits; none = (λ h. true_false h g, f.none); is = f.is; there = f.there }

    by : (b : Bool) → hit r.called ≡ b → (if b then Some r.at else first_marked hit rs) ≡ Some at → (first_marked hit rs ≡ Some at → FirstRun (λ (m : ModuleId). hit m ≡ true) rs at) → FirstRun (λ (m : ModuleId). hit m ≡ true) (r ∷ rs) at
    by true f g h = record { before = []; run = r; after = rs; splits = refl; none = tt; is = f; there = cc }
    by false f g h = more (h g) f

-- ---- marks of a table

pub marks_are : (table : List (Option Steps)) (m : ModuleId) → mark_of (bounded_marks table) m ≡ is_some (entry table m)
marks_are table m = ap (λ (o : Option Bool). unwrap_or o false) (slice_get-map (λ (o : Option Steps). is_some o) table m.0) ∙ by (slice_get table m.0)
  where
    by : (o : Option (Option Steps)) → unwrap_or (option_map (λ (o : Option Steps). is_some o) o) false ≡ is_some (or_none o)
    by None = refl
    by (Some o) = refl

not_false : (b : Bool) → (not b || false) ≡ false → b ≡ true
not_false true e = refl
not_false false e = absurd cc

not_true : (b : Bool) → (not b || false) ≡ true → b ≡ false
not_true true e = absurd cc
not_true false e = refl

-- no `run` of a module without a bound
pub all_bounded : (table : List (Option Steps)) (b : NamedStatements) → first_marked (has_mark (bounded_marks table) false None) (runs_in b) ≡ None → runs_bounded (entry table) (body_of b) ≡ true
all_bounded table b e = all_runs_in (entry table) b (turn (runs_in b) (none_marked (has_mark (bounded_marks table) false None) (runs_in b) e))
  where
    turn : (rs : List RunAt) → Each (λ (r : RunAt). (not (mark_of (bounded_marks table) r.called) || false) ≡ false) rs → Each (λ (r : RunAt). is_some (entry table r.called) ≡ true) rs
    turn [] f = tt
    turn (r ∷ rs) f = (sym (marks_are table r.called) ∙ not_false _ f.0, turn rs f.1)

true_false : {b : Bool} → b ≡ true → b ≡ false → ⊥
true_false e f = cc

each_at : (P : RunAt → Type 0) (before : List RunAt) (r : RunAt) (after : List RunAt) → Each P (before ++ r ∷ after) → P r
each_at P [] r after f = f.0
each_at P (b ∷ before) r after f = each_at P before r after f.1

pub some_unbounded : (table : List (Option Steps)) (b : NamedStatements) (at : ℕ) → first_marked (has_mark (bounded_marks table) false None) (runs_in b) ≡ Some at → runs_bounded (entry table) (body_of b) ≡ false
some_unbounded table b at e = by (runs_bounded (entry table) (body_of b)) refl
  where
    first : FirstRun (λ (m : ModuleId). (not (mark_of (bounded_marks table) m) || false) ≡ true) (runs_in b) at
    first = one_marked (has_mark (bounded_marks table) false None) (runs_in b) at e

    by : (c : Bool) → runs_bounded (entry table) (body_of b) ≡ c → c ≡ false
    by false f = refl
    by true f =
        let each = subst (Each (λ (r : RunAt). is_some (entry table r.called) ≡ true)) first.splits (runs_all_in (entry table) b f) in
        absurd (true_false (each_at (λ (r : RunAt). is_some (entry table r.called) ≡ true) first.before first.run first.after each) (sym (marks_are table first.run.called) ∙ not_true _ first.is))

-- no loop that needn't end
pub none_endless : (of : ModuleId → Option Steps) (b : NamedStatements) → first_of (endless_in of b) ≡ None → endless_in of b ≡ []
none_endless of b e = by (endless_in of b) e
  where
    by : (xs : List ℕ) → first_of xs ≡ None → xs ≡ []
    by [] f = refl
    by (x ∷ xs) f = absurd cc

pub one_endless : (xs : List ℕ) (at : ℕ) → first_of xs ≡ Some at → (rest : List ℕ) × (xs ≡ at ∷ rest)
one_endless [] at e = absurd cc
one_endless (x ∷ xs) at e = (xs, let same : x ≡ at = cc in ap (λ (y : ℕ). y ∷ xs) same)

pub some_endless : (of : ModuleId → Option Steps) (b : NamedStatements) (at : ℕ) → first_of (endless_in of b) ≡ Some at → loops_end of (body_of b) ≡ false
some_endless of b at e = by (loops_end of (body_of b)) refl
  where
    no_first : [] ≡ at ∷ (one_endless (endless_in of b) at e).0 → ⊥
    no_first f = cc

    by : (c : Bool) → loops_end of (body_of b) ≡ c → c ≡ false
    by false f = refl
    by true f = absurd (no_first (sym (none_left_in of b f) ∙ (one_endless (endless_in of b) at e).1))

-- ---- the bound as it is counted

part_one : (a : Option ℕ) → or_zero (plus (Some 1) (capped a)) ≤ most_bound → capped a ≡ a
part_one None f = refl
part_one (Some n) f = ap Some (omega (arith, f))

part_none : (a : Option ℕ) → or_zero (capped a) ≤ most_bound → capped a ≡ a
part_none None f = refl
part_none (Some n) f = ap Some (omega (arith, f))

below_one : (a : Option ℕ) → or_zero (plus (Some 1) (capped a)) ≤ or_zero (plus (Some 1) a)
below_one None = omega arith
below_one (Some n) = omega arith

below_none : (a : Option ℕ) → or_zero (capped a) ≤ or_zero a
below_none None = omega arith
below_none (Some n) = omega arith

-- where the bound is small, nothing was left out
pub small_bound : (x : Steps) → bound_of (capped_steps x) ≤ most_bound → capped_steps x ≡ x
small_bound x f =
    let a : or_zero (plus (Some 1) (capped x.through)) ≤ most_bound = omega (arith, f) in
    let b : or_zero (plus (Some 1) (capped x.head)) ≤ most_bound = omega (arith, f) in
    let c : or_zero (capped x.tail) ≤ most_bound = omega (arith, f) in
    let d : or_zero (capped x.most) ≤ most_bound = omega (arith, f) in
    ap (λ (o : Option ℕ). record { through = o; head = capped x.head; tail = capped x.tail; most = capped x.most }) (part_one x.through a)
    ∙ ap (λ (o : Option ℕ). record { through = x.through; head = o; tail = capped x.tail; most = capped x.most }) (part_one x.head b)
    ∙ ap (λ (o : Option ℕ). record { through = x.through; head = x.head; tail = o; most = capped x.most }) (part_none x.tail c)
    ∙ ap (λ (o : Option ℕ). record { through = x.through; head = x.head; tail = x.tail; most = o }) (part_none x.most d)

-- where it is large, so is the bound
pub large_bound : (x : Steps) → most_bound < bound_of (capped_steps x) → most_bound < bound_of x
large_bound x f = omega (arith, f, below_one x.through, below_one x.head, below_none x.tail, below_none x.most)

-- ---- a module by the table

pub has_steps : (of : ModuleId → Option Steps) (b : NamedStatements) (c : Steps) → runs_bounded of (body_of b) ≡ true → endless_in of b ≡ [] → c ≡ capped_steps (body_steps of (body_of b)) → bound_of c ≤ most_bound
    → Some c ≡ bounded_steps of (Some (body_of b))
has_steps of b c runs none is small =
    let x = body_steps of (body_of b) in
    let capped_small : bound_of (capped_steps x) ≤ most_bound = subst (λ (s : Steps). bound_of s ≤ most_bound) is small in
    let same : c ≡ x = is ∙ small_bound x capped_small in
    let bound : nat_le (bound_of x) most_bound ≡ true = le-leb (bound_of x) most_bound (subst (λ (s : Steps). bound_of s ≤ most_bound) same small) in
    ap Some same
    ∙ sym (ap (λ (u : Bool). if u && loops_end of (body_of b) && nat_le (bound_of x) most_bound then Some x else None) runs
    ∙ ap (λ (u : Bool). if true && u && nat_le (bound_of x) most_bound then Some x else None) (ends_in of b none) ∙ ap (λ (u : Bool). if true && true && u then Some x else None) bound)

no_and : (a b c : Bool) (x : Steps) → a ≡ false → (if a && b && c then Some x else None) ≡ None
no_and true b c x e = absurd cc
no_and false b c x e = refl

no_loops : (a b c : Bool) (x : Steps) → b ≡ false → (if a && b && c then Some x else None) ≡ None
no_loops true true c x e = absurd cc
no_loops true false c x e = refl
no_loops false b c x e = refl

no_bound : (a b c : Bool) (x : Steps) → c ≡ false → (if a && b && c then Some x else None) ≡ None
no_bound true true true x e = absurd cc
no_bound true true false x e = refl
no_bound true false c x e = refl
no_bound false b c x e = refl

pub runs_unbounded : (of : ModuleId → Option Steps) (b : NamedStatements) → runs_bounded of (body_of b) ≡ false → None ≡ bounded_steps of (Some (body_of b))
runs_unbounded of b e = sym (no_and (runs_bounded of (body_of b)) _ _ _ e)

pub loops_endless : (of : ModuleId → Option Steps) (b : NamedStatements) → loops_end of (body_of b) ≡ false → None ≡ bounded_steps of (Some (body_of b))
loops_endless of b e = sym (no_loops (runs_bounded of (body_of b)) (loops_end of (body_of b)) _ _ e)

pub too_large : (of : ModuleId → Option Steps) (b : NamedStatements) (c : Steps) → c ≡ capped_steps (body_steps of (body_of b)) → most_bound < bound_of c → None ≡ bounded_steps of (Some (body_of b))
too_large of b c is large =
    let x = body_steps of (body_of b) in
    let more : most_bound < bound_of x = large_bound x (subst (λ (s : Steps). most_bound < bound_of s) is large) in
    sym (no_bound (runs_bounded of (body_of b)) (loops_end of (body_of b)) _ x (by (nat_le (bound_of x) most_bound) refl more))
  where
    by : (u : Bool) → nat_le (bound_of (body_steps of (body_of b))) most_bound ≡ u → most_bound < bound_of (body_steps of (body_of b)) → u ≡ false
    by false e f = refl
    by true e f = let g = leb-true (bound_of (body_steps of (body_of b))) most_bound e in absurd (omega (arith, f, g))
