-- The verdicts, as functions meet them.
use Rattle.std.proofs.Common.{◌≡◌, ℕ, suc, ◌+◌, ◌<◌, ◌≤◌, ◌^◌, Bool, true, false, List, [], ◌∷◌, ◌++◌, map, length, Option, Some, None, slice_get, refl, sym, ap, ◌∙◌, subst, arith}
use Rattle.std.specs.Prelude.{nat_le, if◌then◌else◌}
use Rattle.std.specs.Option.{option_map}
use Rattle.std.proofs.lemmas.Option.{slice_get-map}
use Rattle.std.proofs.lemmas.Bool.{le-leb, leb-true, leb-false}
use Rattle.loft_base.specs.declared.ids.ModuleId.{ModuleId}
use Rattle.loft_tree.specs.declared.named.Module.{Module}
use Rattle.loft_tree.specs.declared.named.NamedProgram.{NamedProgram as ProgramInMemory}
use Rattle.loft_tree.specs.declared.heads.Heads.{Heads}
use Rattle.loft_tree.specs.declared.heads.Signature.{Signature}
use Rattle.loft_tree.specs.NamedFits.{BodiesHold, NamedFits}
use Rattle.loft_tree.specs.NamedTree.{NamedStatements, NamedModule, NamedProgram}
use Rattle.loft_tree.specs.NamedView.{statements_of}
use Rattle.loft_tree.specs.ProgramView.{module_of, program_of}
use Rattle.loft_tree.specs.Resolved.{body_of}
use Rattle.loft_budget.specs.declared.steps.Steps.{Steps}
use Rattle.loft_budget.specs.Steps.{body_steps}
use Rattle.loft_budget.specs.Bounds.{bound_of, most_bound}
use Rattle.loft_body.specs.Capped.{capped_steps, entry}
use Rattle.loft_budget.specs.declared.verdict.Verdict.{Verdict}
use Rattle.loft_budget.specs.declared.verdict.Verdict.TheVariants.{Bound, Recursive, Runs, Endless, Large}
use Rattle.loft_budget.specs.Verdicts.{runs_in, endless_in, statements_or_none, statements_at, IsVerdict, VerdictsFrom}
use Rattle.loft_body.specs.First.{has_mark, first_marked, first_of}
use Rattle.loft_bound.specs.Found.{bounded_marks, IsStable, AllReaching, or_verdict, last_verdict, verdict_by}
use Rattle.loft_bound.proofs.Rounds.{small_bound, large_bound}
use Rattle.loft_bound.proofs.Judged.{is_verdict}

-- the bound as it is counted decides alike
last_same : (x : Steps) → last_verdict (bound_of (capped_steps x)) ≡ last_verdict (bound_of x)
last_same x = by (nat_le (bound_of (capped_steps x)) most_bound) refl
  where
    large : (u : Bool) → nat_le (bound_of x) most_bound ≡ u → most_bound < bound_of x → (if u then Bound (bound_of x) else Large) ≡ Large
    large false e f = refl
    large true e f = let g = leb-true (bound_of x) most_bound e in absurd (omega (arith, f, g))

    by : (u : Bool) → nat_le (bound_of (capped_steps x)) most_bound ≡ u → (if u then Bound (bound_of (capped_steps x)) else Large) ≡ last_verdict (bound_of x)
    by true e =
        let small = leb-true (bound_of (capped_steps x)) most_bound e in
        let same = small_bound x small in
        ap (λ (s : Steps). Bound (bound_of s)) same
        ∙ sym (ap (λ (u : Bool). if u then Bound (bound_of x) else Large) (le-leb (bound_of x) most_bound (subst (λ (s : Steps). bound_of s ≤ most_bound) same small)))
    by false e = let more = large_bound x (leb-false (bound_of (capped_steps x)) most_bound e) in sym (large (nat_le (bound_of x) most_bound) refl more)

-- what is left to ask after the modules that are run
abbrev rest_of : List (Option Steps) → NamedStatements → Verdict
rest_of table b = or_verdict Endless (first_of (endless_in (entry table) b)) (last_verdict (bound_of (body_steps (entry table) (body_of b))))

pub runs_found : (table : List (Option Steps)) (reaching : List Bool) (m : ModuleId) (b : NamedStatements) (at : ℕ) → first_marked (has_mark reaching true (Some m)) (runs_in b) ≡ None
    → first_marked (has_mark (bounded_marks table) false None) (runs_in b) ≡ Some at → Runs at ≡ verdict_by table reaching m b
runs_found table reaching m b at e f =
    sym (ap (λ (o : Option ℕ). or_verdict Recursive o (or_verdict Runs (first_marked (has_mark (bounded_marks table) false None) (runs_in b)) (rest_of table b))) e ∙ ap (λ (o : Option ℕ). or_verdict Runs o (rest_of table b)) f)

pub endless_found : (table : List (Option Steps)) (reaching : List Bool) (m : ModuleId) (b : NamedStatements) (at : ℕ) → first_marked (has_mark reaching true (Some m)) (runs_in b) ≡ None
    → first_marked (has_mark (bounded_marks table) false None) (runs_in b) ≡ None → first_of (endless_in (entry table) b) ≡ Some at → Endless at ≡ verdict_by table reaching m b
endless_found table reaching m b at e f g =
    sym (ap (λ (o : Option ℕ). or_verdict Recursive o (or_verdict Runs (first_marked (has_mark (bounded_marks table) false None) (runs_in b)) (rest_of table b))) e ∙ ap (λ (o : Option ℕ). or_verdict Runs o (rest_of table b)) f
    ∙ ap (λ (o : Option ℕ). or_verdict Endless o (last_verdict (bound_of (body_steps (entry table) (body_of b))))) g)

pub last_found : (table : List (Option Steps)) (reaching : List Bool) (m : ModuleId) (b : NamedStatements) (v : Verdict) (bound : ℕ) (steps : Steps) → first_marked (has_mark reaching true (Some m)) (runs_in b) ≡ None
    → first_marked (has_mark (bounded_marks table) false None) (runs_in b) ≡ None → first_of (endless_in (entry table) b) ≡ None → steps ≡ capped_steps (body_steps (entry table) (body_of b)) → bound ≡ bound_of steps → v ≡ last_verdict bound
    → v ≡ verdict_by table reaching m b
last_found table reaching m b v bound steps e f g h i j =
    let x = body_steps (entry table) (body_of b) in
    let end = last_verdict (bound_of x) in
    j ∙ ap last_verdict (i ∙ ap bound_of h) ∙ last_same x ∙ sym (ap (λ (o : Option ℕ). or_verdict Endless o end) g)
    ∙ sym (ap (λ (o : Option ℕ). or_verdict Runs o (or_verdict Endless (first_of (endless_in (entry table) b)) end)) f)
    ∙ sym (ap (λ (o : Option ℕ). or_verdict Recursive o (or_verdict Runs (first_marked (has_mark (bounded_marks table) false None) (runs_in b)) (or_verdict Endless (first_of (endless_in (entry table) b)) end))) e)

bodies_same : (ms : List Module) → map (λ (m : Module). statements_of m.body.items) ms ≡ map (λ (x : NamedModule). x.body) (map module_of ms)
bodies_same [] = refl
bodies_same (m ∷ ms) = ap (λ (l : List NamedStatements). statements_of m.body.items ∷ l) (bodies_same ms)

pub verdict_holds : (p : ProgramInMemory) (table : List (Option Steps)) (m : ModuleId) (x : Module) (marks : List Bool) (v : Verdict) → IsStable (map (λ (m : Module). statements_of m.body.items) p.modules.items) table
    → slice_get p.modules.items m.0 ≡ Some x → AllReaching m (map (λ (m : Module). statements_of m.body.items) p.modules.items) marks → v ≡ verdict_by table marks m (statements_of x.body.items) → IsVerdict (program_of p) m v
verdict_holds p table m x marks v stable there all is =
    let n = program_of p in
    let same = bodies_same p.modules.items in
    let body : statements_at n m ≡ statements_of x.body.items = ap statements_or_none (slice_get-map module_of p.modules.items m.0 ∙ ap (option_map module_of) there) in
    subst (IsVerdict n m) (ap (λ (b : NamedStatements). verdict_by table marks m b) body ∙ sym is)
    (is_verdict n m table (subst (λ (bs : List NamedStatements). IsStable bs table) same stable) m marks (subst (λ (bs : List NamedStatements). AllReaching m bs marks) same all))

-- one verdict more
pub one_more : (n : NamedProgram) (k : ℕ) (vs : List Verdict) (v : Verdict) → VerdictsFrom n k vs → IsVerdict n (record { 0 = k + length vs }) v → VerdictsFrom n k (vs ++ v ∷ [])
one_more n k [] v f g = (subst (λ (i : ℕ). IsVerdict n (record { 0 = i }) v) (omega arith) g, tt)
one_more n k (u ∷ vs) v f g =
    let same : k + length (u ∷ vs) ≡ k + 1 + length vs = omega arith in
    (f.0, one_more n (k + 1) vs v f.1 (subst (λ (i : ℕ). IsVerdict n (record { 0 = i }) v) same g))

-- as many modules as signatures
same_many : (h : Heads) (ms : List Signature) (xs : List NamedModule) → BodiesHold h ms xs → length xs ≡ length ms
same_many h [] [] f = refl
same_many h [] (x ∷ xs) f = absurd f
same_many h (m ∷ ms) [] f = absurd f
same_many h (m ∷ ms) (x ∷ xs) f = ap (λ (n : ℕ). suc n) (same_many h ms xs f.1)

long_modules : (ms : List Module) → length (map module_of ms) ≡ length ms
long_modules [] = refl
long_modules (m ∷ ms) = ap (λ (n : ℕ). suc n) (long_modules ms)

pub few_modules : (p : ProgramInMemory) → NamedFits (program_of p) → length p.modules.items < 2 ^ 32
few_modules p f =
    let long = long_modules p.modules.items in
    let many = same_many p.heads p.heads.modules (map module_of p.modules.items) f.bodies in
    let few = f.heads.within.few_modules in
    omega (arith, long, many, few)

pub few_verdicts : (p : ProgramInMemory) (vs : List Verdict) → NamedFits (program_of p) → length vs ≡ length (program_of p).modules → length vs < 2 ^ 32
few_verdicts p vs f e =
    let long = long_modules p.modules.items in
    let few = few_modules p f in
    omega (arith, e, long, few)
