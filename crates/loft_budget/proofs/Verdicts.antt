-- A module has at most one verdict, and a bound exactly where the verdict says so.
use Rattle.std.proofs.Common.{◌≡◌, ℕ, zero, suc, ◌+◌, ◌<◌, ◌≤◌, Bool, true, false, List, [], ◌∷◌, ◌++◌, map, Option, Some, None, slice_get, refl, sym, ap, ◌∙◌, subst, arith}
use Rattle.std.specs.Prelude.{is_none, ◌↔◌, length, ◌||◌, is_some, unwrap_or}
use Rattle.std.specs.Option.{option_map}
use Rattle.std.proofs.lemmas.Option.{slice_get-map}
use Rattle.std.proofs.lemmas.Bool.{and_parts, le-leb, leb-true}
use Rattle.loft_base.specs.declared.ids.ModuleId.{ModuleId}
use Rattle.loft_tree.specs.Fits.{Each}
use Rattle.loft_tree.specs.NamedTree.{NamedStatement, Do, Hold, Run, If, While, Repeat, NamedStatements, Done, Then, NamedModule, NamedProgram}
use Rattle.loft_tree.specs.Resolved.{Empty, Body, exp_of, step_of, body_of, resolved_of}
use Rattle.loft_sense.specs.Tree.{body_at}
use Rattle.loft_budget.specs.declared.steps.Steps.{Steps}
use Rattle.loft_budget.specs.Steps.{literal, body_steps}
use Rattle.loft_budget.specs.Bounds.{step_runs_bounded, runs_bounded, step_loops_end, loops_end, bound_of, most_bound, steps_within, HasBound}
use Rattle.loft_budget.specs.declared.verdict.Verdict.{Verdict}
use Rattle.loft_budget.specs.declared.verdict.Verdict.TheVariants.{Bound, Recursive, Runs, Endless, Large}
use Rattle.loft_budget.specs.Verdicts.{RunAt, runs_of, runs_in, endless_if, endless_of, endless_in, statements_or_none, statements_at, RunsIt, Reaches, runs, on, FirstRun, IsRecursive, IsUnbounded, RunsBounded, endless_at, steps_at, IsVerdict}
use Rattle.loft_soundness.proofs.ListLemmas.{within_some}
use Rattle.loft_budget.proofs.Table.{both_true, some_there, body_same, Asked, asked, answered, one_deeper}

-- ---- lists

no_first : {A : Type 0} (x : A) (xs : List A) → [] ≡ x ∷ xs → ⊥
no_first x xs e = cc

no_middle : {A : Type 0} (before : List A) (x : A) (after : List A) → [] ≡ before ++ x ∷ after → ⊥
no_middle [] x after e = cc
no_middle (b ∷ before) x after e = cc

nil_left : {A : Type 0} (xs ys : List A) → xs ++ ys ≡ [] → xs ≡ []
nil_left [] ys e = refl
nil_left (x ∷ xs) ys e = absurd cc

nil_right : {A : Type 0} (xs ys : List A) → xs ++ ys ≡ [] → ys ≡ []
nil_right [] ys e = e
nil_right (x ∷ xs) ys e = absurd cc

each_join : {A : Type 0} (P : A → Type 0) (xs ys : List A) → Each P xs → Each P ys → Each P (xs ++ ys)
each_join P [] ys f g = g
each_join P (x ∷ xs) ys f g = (f.0, each_join P xs ys f.1 g)

each_part : {A : Type 0} (P : A → Type 0) (before : List A) (x : A) (after : List A) → Each P (before ++ x ∷ after) → P x
each_part P [] x after f = f.0
each_part P (b ∷ before) x after f = each_part P before x after f.1

each_left : {A : Type 0} (P : A → Type 0) (xs ys : List A) → Each P (xs ++ ys) → Each P xs
each_left P [] ys f = tt
each_left P (x ∷ xs) ys f = (f.0, each_left P xs ys f.1)

each_right : {A : Type 0} (P : A → Type 0) (xs ys : List A) → Each P (xs ++ ys) → Each P ys
each_right P [] ys f = f
each_right P (x ∷ xs) ys f = each_right P xs ys f.1

-- the first of a list that is so is one alone
same_first : (P : ModuleId → Type 0) (before others : List RunAt) (r q : RunAt) (after later : List RunAt) → before ++ r ∷ after ≡ others ++ q ∷ later
    → Each (λ (u : RunAt). P u.called → ⊥) before → Each (λ (u : RunAt). P u.called → ⊥) others → P r.called → P q.called → r ≡ q
same_first P [] [] r q after later e f g h i = cc
same_first P [] (o ∷ others) r q after later e f g h i = let same : r ≡ o = cc in absurd (g.0 (subst (λ (u : RunAt). P u.called) same h))
same_first P (b ∷ before) [] r q after later e f g h i = let same : b ≡ q = cc in absurd (f.0 (subst (λ (u : RunAt). P u.called) (sym same) i))
same_first P (b ∷ before) (o ∷ others) r q after later e f g h i = let rest : before ++ r ∷ after ≡ others ++ q ∷ later = cc in same_first P before others r q after later rest f.1 g.1 h i

first_unique : (P : ModuleId → Type 0) (rs : List RunAt) (a b : ℕ) → FirstRun P rs a → FirstRun P rs b → a ≡ b
first_unique P rs a b f g =
    let same = same_first P f.before g.before f.run g.run f.after g.after (sym f.splits ∙ g.splits) f.none g.none f.is g.is in
    sym f.there ∙ ap (λ (r : RunAt). r.at) same ∙ g.there

-- ---- bodies with their offsets

get_body : (ms : List NamedModule) (k : ℕ) → unwrap_or (slice_get (map (λ (m : NamedModule). body_of m.body) ms) k) Empty ≡ body_of (statements_or_none (slice_get ms k))
get_body [] k = refl
get_body (m ∷ ms) zero = refl
get_body (m ∷ ms) (suc k) = get_body ms k

pub body_is : (n : NamedProgram) (m : ModuleId) → body_at (resolved_of n) m ≡ body_of (statements_at n m)
body_is n m = get_body n.modules m.0

either_list : (ends : Bool) (at : ℕ) → endless_if ends at ≡ [] → ends ≡ true
either_list true at e = refl
either_list false at e = absurd cc

no_list : (ends : Bool) (at : ℕ) → ends ≡ true → endless_if ends at ≡ []
no_list true at e = refl
no_list false at e = absurd cc

both_nil : {A : Type 0} (xs ys : List A) → xs ≡ [] → ys ≡ [] → xs ++ ys ≡ []
both_nil [] ys e f = f
both_nil (x ∷ xs) ys e f = absurd cc

module _ (of : ModuleId → Option Steps) where
  abbrev IsBoundedRun : RunAt → Type 0
  IsBoundedRun r = is_some (of r.called) ≡ true

  mutual
    runs_all : (s : NamedStatement) → step_runs_bounded of (step_of s) ≡ true → Each IsBoundedRun (runs_of s)
    runs_all (Do at action) e = tt
    runs_all (Hold at stop pause) e = tt
    runs_all (Run at stop called m arguments) e = (e, tt)
    runs_all (If at test x y) e =
        let parts = and_parts (runs_bounded of (body_of x)) (runs_bounded of (body_of y)) e in
        each_join IsBoundedRun (runs_in x) (runs_in y) (runs_all_in x parts.0) (runs_all_in y parts.1)
    runs_all (While at test x) e = runs_all_in x e
    runs_all (Repeat at count x) e = runs_all_in x e

    pub runs_all_in : (b : NamedStatements) → runs_bounded of (body_of b) ≡ true → Each IsBoundedRun (runs_in b)
    runs_all_in Done e = tt
    runs_all_in (Then s b) e =
        let parts = and_parts (step_runs_bounded of (step_of s)) (runs_bounded of (body_of b)) e in
        each_join IsBoundedRun (runs_of s) (runs_in b) (runs_all s parts.0) (runs_all_in b parts.1)

  mutual
    all_runs : (s : NamedStatement) → Each IsBoundedRun (runs_of s) → step_runs_bounded of (step_of s) ≡ true
    all_runs (Do at action) f = refl
    all_runs (Hold at stop pause) f = refl
    all_runs (Run at stop called m arguments) f = f.0
    all_runs (If at test x y) f = both_true _ _ (all_runs_in x (each_left IsBoundedRun (runs_in x) (runs_in y) f)) (all_runs_in y (each_right IsBoundedRun (runs_in x) (runs_in y) f))
    all_runs (While at test x) f = all_runs_in x f
    all_runs (Repeat at count x) f = all_runs_in x f

    pub all_runs_in : (b : NamedStatements) → Each IsBoundedRun (runs_in b) → runs_bounded of (body_of b) ≡ true
    all_runs_in Done f = refl
    all_runs_in (Then s b) f = both_true _ _ (all_runs s (each_left IsBoundedRun (runs_of s) (runs_in b) f)) (all_runs_in b (each_right IsBoundedRun (runs_of s) (runs_in b) f))

  mutual
    ends : (s : NamedStatement) → endless_of of s ≡ [] → step_loops_end of (step_of s) ≡ true
    ends (Do at action) e = refl
    ends (Hold at stop pause) e = refl
    ends (Run at stop called m arguments) e = refl
    ends (If at test x y) e = both_true _ _ (ends_in x (nil_left (endless_in of x) (endless_in of y) e)) (ends_in y (nil_right (endless_in of x) (endless_in of y) e))
    ends (While at test x) e =
        both_true _ _ (ends_in x (nil_left (endless_in of x) _ e)) (either_list (is_none (body_steps of (body_of x)).through) at (nil_right (endless_in of x) _ e))
    ends (Repeat at count x) e =
        both_true _ _ (ends_in x (nil_left (endless_in of x) _ e)) (either_list (is_none (body_steps of (body_of x)).through || is_some (literal (exp_of count))) at (nil_right (endless_in of x) _ e))

    pub ends_in : (b : NamedStatements) → endless_in of b ≡ [] → loops_end of (body_of b) ≡ true
    ends_in Done e = refl
    ends_in (Then s b) e = both_true _ _ (ends s (nil_left (endless_of of s) (endless_in of b) e)) (ends_in b (nil_right (endless_of of s) (endless_in of b) e))

  mutual
    none_left : (s : NamedStatement) → step_loops_end of (step_of s) ≡ true → endless_of of s ≡ []
    none_left (Do at action) e = refl
    none_left (Hold at stop pause) e = refl
    none_left (Run at stop called m arguments) e = refl
    none_left (If at test x y) e =
        let parts = and_parts (loops_end of (body_of x)) (loops_end of (body_of y)) e in
        both_nil (endless_in of x) (endless_in of y) (none_left_in x parts.0) (none_left_in y parts.1)
    none_left (While at test x) e =
        let parts = and_parts (loops_end of (body_of x)) (is_none (body_steps of (body_of x)).through) e in
        both_nil (endless_in of x) _ (none_left_in x parts.0) (no_list (is_none (body_steps of (body_of x)).through) at parts.1)
    none_left (Repeat at count x) e =
        let ends = is_none (body_steps of (body_of x)).through || is_some (literal (exp_of count)) in
        let parts = and_parts (loops_end of (body_of x)) ends e in
        both_nil (endless_in of x) _ (none_left_in x parts.0) (no_list ends at parts.1)

    pub none_left_in : (b : NamedStatements) → loops_end of (body_of b) ≡ true → endless_in of b ≡ []
    none_left_in Done e = refl
    none_left_in (Then s b) e =
        let parts = and_parts (step_loops_end of (step_of s)) (loops_end of (body_of b)) e in
        both_nil (endless_of of s) (endless_in of b) (none_left s parts.0) (none_left_in b parts.1)

-- ---- more modules with a bound change no word

module _ (f g : ModuleId → Option Steps) (more : (m : ModuleId) (v : Steps) → f m ≡ Some v → g m ≡ Some v) where
  mutual
    same_words : (s : NamedStatement) → step_runs_bounded f (step_of s) ≡ true → endless_of g s ≡ endless_of f s
    same_words (Do at action) e = refl
    same_words (Hold at stop pause) e = refl
    same_words (Run at stop called m arguments) e = refl
    same_words (If at test x y) e =
        let parts = and_parts (runs_bounded f (body_of x)) (runs_bounded f (body_of y)) e in
        ap (λ (l : List ℕ). l ++ endless_in g y) (same_words_in x parts.0) ∙ ap (λ (l : List ℕ). endless_in f x ++ l) (same_words_in y parts.1)
    same_words (While at test x) e =
        let same = (body_same f g more (body_of x) e).0 in
        ap (λ (l : List ℕ). l ++ endless_if (is_none (body_steps g (body_of x)).through) at) (same_words_in x e) ∙ ap (λ (u : Steps). endless_in f x ++ endless_if (is_none u.through) at) same
    same_words (Repeat at count x) e =
        let same = (body_same f g more (body_of x) e).0 in
        ap (λ (l : List ℕ). l ++ endless_if (is_none (body_steps g (body_of x)).through || is_some (literal (exp_of count))) at) (same_words_in x e)
        ∙ ap (λ (u : Steps). endless_in f x ++ endless_if (is_none u.through || is_some (literal (exp_of count))) at) same

    pub same_words_in : (b : NamedStatements) → runs_bounded f (body_of b) ≡ true → endless_in g b ≡ endless_in f b
    same_words_in Done e = refl
    same_words_in (Then s b) e =
        let parts = and_parts (step_runs_bounded f (step_of s)) (runs_bounded f (body_of b)) e in
        ap (λ (l : List ℕ). l ++ endless_in g b) (same_words s parts.0) ∙ ap (λ (l : List ℕ). endless_of f s ++ l) (same_words_in b parts.1)

-- ---- modules

module _ (n : NamedProgram) where
  abbrev within : ℕ → ModuleId → Option Steps
  within k = steps_within (resolved_of n) k

  pub deeper_by : (j k : ℕ) (m : ModuleId) (v : Steps) → within k m ≡ Some v → within (j + k) m ≡ Some v
  deeper_by zero k m v e = let same : zero + k ≡ k = omega arith in subst (λ (i : ℕ). within i m ≡ Some v) (sym same) e
  deeper_by (suc j) k m v e =
      let same : suc j + k ≡ suc (j + k) = omega arith in
      subst (λ (i : ℕ). within i m ≡ Some v) (sym same) (one_deeper (resolved_of n) (j + k) m v (deeper_by j k m v e))

  -- what two depths say of a module all of whose runs are bounded in both
  record Agree (j k : ℕ) (m : ModuleId) : Type 0 where
    steps : steps_at n j m ≡ steps_at n k m
    words : endless_at n j m ≡ endless_at n k m

  agree_more : (j k : ℕ) (m : ModuleId) → RunsBounded n k m → Agree (j + k) k m
  agree_more j k m e = record {
    steps = (body_same (within k) (within (j + k)) (deeper_by j k) (body_of (statements_at n m)) e).0;
    words = same_words_in (within k) (within (j + k)) (deeper_by j k) (statements_at n m) e;
  }

  agree : (j k : ℕ) (m : ModuleId) → RunsBounded n j m → RunsBounded n k m → Agree j k m
  agree j k m e f =
      let a = agree_more j k m f in
      let b = agree_more k j m e in
      let same : k + j ≡ j + k = omega arith in
      record {
        steps = sym b.steps ∙ ap (λ (i : ℕ). steps_at n i m) same ∙ a.steps;
        words = sym b.words ∙ ap (λ (i : ℕ). endless_at n i m) same ∙ a.words;
      }

  -- a module with a bound runs such modules
  runs_down : (k : ℕ) (m q : ModuleId) (v : Steps) → within (suc k) m ≡ Some v → RunsIt n m q → (u : Steps) × (within k q ≡ Some u)
  runs_down k m q v e r =
      let a = asked (resolved_of n) k m v e in
      let each = runs_all_in (within k) (statements_at n m) (subst (λ (b : Body). runs_bounded (within k) b ≡ true) (body_is n m) a.runs) in
      let one = each_part (λ (u : RunAt). is_some (within k u.called) ≡ true) r.0 r.1 r.2 (subst (Each (λ (u : RunAt). is_some (within k u.called) ≡ true)) r.3 each) in
      some_there (within k q) (subst (λ (o : ModuleId). is_some (within k o) ≡ true) r.4 one)

  none_some : {A : Type 0} {x : A} → None ≡ Some x → ⊥
  none_some e = cc

  reach_down : {m q : ModuleId} → Reaches n m q → (k : ℕ) (v : Steps) → within (suc k) m ≡ Some v → (u : Steps) × (within k q ≡ Some u)
  reach_down {m} {q} (runs r) k v e = runs_down k m q v e r
  reach_down {q = q} (on {r = r} one rest) k v e = by k (runs_down k _ r v e one) (reach_down rest)
    where
      by : (k : ℕ) → (u : Steps) × (within k r ≡ Some u) → ((j : ℕ) (v : Steps) → within (suc j) r ≡ Some v → (u : Steps) × (within j q ≡ Some u)) → (u : Steps) × (within k q ≡ Some u)
      by zero u h = absurd (none_some u.1)
      by (suc j) u h = let down = h j u.0 u.1 in (down.0, one_deeper (resolved_of n) j q down.0 down.1)

  -- a module with a bound doesn't reach itself
  pub no_circle : (k : ℕ) (m : ModuleId) (v : Steps) → within k m ≡ Some v → IsRecursive n m → ⊥
  no_circle zero m v e r = none_some e
  no_circle (suc k) m v e r = let down = reach_down r k v e in no_circle k m down.0 down.1 r

  -- the bound of a verdict is a bound
  pub bound_is : (m : ModuleId) (x : NamedModule) (b : ℕ) → slice_get n.modules m.0 ≡ Some x → IsVerdict n m (Bound b) → HasBound (resolved_of n) m b
  bound_is m x b at f =
      let k = f.1 in
      let body = body_is n m in
      let small : bound_of (steps_at n k m) ≤ most_bound = let e = f.4 in let g = f.5 in omega (arith, e, g) in
      let a : Asked (within k) (body_of (statements_at n m)) (steps_at n k m) =
      record { runs = f.2; loops = ends_in (within k) (statements_at n m) f.3; small = le-leb (bound_of (steps_at n k m)) most_bound small; is = refl } in
      let there : Asked (within k) (body_at (resolved_of n) m) (steps_at n k m) = subst (λ (c : Body). Asked (within k) c (steps_at n k m)) (sym body) a in
      let declared : slice_get (resolved_of n).bodies m.0 ≡ Some (body_of x.body) = slice_get-map (λ (q : NamedModule). body_of q.body) n.modules m.0 ∙ ap (option_map (λ (q : NamedModule). body_of q.body)) at in
      (suc k, steps_at n k m, answered (resolved_of n) k m (body_of x.body) (steps_at n k m) declared there, f.4)

  -- and where there is one, the verdict says so
  pub is_bound : (m : ModuleId) (b : ℕ) → HasBound (resolved_of n) m b → IsVerdict n m (Bound b)
  is_bound m b f = by f.0 f.2
    where
      by : (k : ℕ) → within k m ≡ Some f.1 → IsVerdict n m (Bound b)
      by zero e = absurd (none_some e)
      by (suc k) e =
          let a = subst (λ (c : Body). Asked (within k) c f.1) (body_is n m) (asked (resolved_of n) k m f.1 e) in
          let bound : bound_of (steps_at n k m) ≡ b = ap bound_of a.is ∙ f.3 in
          let small = leb-true (bound_of (steps_at n k m)) most_bound a.small in
          (no_circle (suc k) m f.1 e, k, a.runs, none_left_in (within k) (statements_at n m) a.loops, bound, omega (arith, bound, small))

  -- ---- one verdict at most

  recursive : (m : ModuleId) (at : ℕ) → IsVerdict n m (Recursive at) → IsRecursive n m
  recursive m at f = on (f.before, f.run, f.after, f.splits, refl) f.is

  -- a run of a module without a bound isn't bounded
  not_bounded : (m : ModuleId) (at k : ℕ) → FirstRun (IsUnbounded n) (runs_in (statements_at n m)) at → RunsBounded n k m → ⊥
  not_bounded m at k f e =
      let each = subst (Each (λ (u : RunAt). is_some (within k u.called) ≡ true)) f.splits (runs_all_in (within k) (statements_at n m) e) in
      let some = some_there (within k f.run.called) (each_part (λ (u : RunAt). is_some (within k u.called) ≡ true) f.before f.run f.after each) in
      none_some (sym (f.is k) ∙ some.1)

  not_endless : (m : ModuleId) (at j k : ℕ) (rest : List ℕ) → RunsBounded n j m → RunsBounded n k m → endless_at n j m ≡ at ∷ rest → endless_at n k m ≡ [] → ⊥
  not_endless m at j k rest e f g h = no_first at rest (sym h ∙ sym (agree j k m e f).words ∙ g)

  same_bound : (m : ModuleId) (j k : ℕ) → RunsBounded n j m → RunsBounded n k m → bound_of (steps_at n j m) ≡ bound_of (steps_at n k m)
  same_bound m j k e f = ap bound_of (agree j k m e f).steps

  not_large : (m : ModuleId) (j k b : ℕ) → RunsBounded n j m → RunsBounded n k m → most_bound < bound_of (steps_at n j m) → bound_of (steps_at n k m) ≡ b → b ≤ most_bound → ⊥
  not_large m j k b e f large bound small = let same = same_bound m j k e f in omega (arith, same, large, bound, small)

  pub one_verdict : (m : ModuleId) (v w : Verdict) → IsVerdict n m v → IsVerdict n m w → v ≡ w
  one_verdict m (Recursive a) (Recursive b) f g = ap Recursive (first_unique (λ (q : ModuleId). Reaches n q m) (runs_in (statements_at n m)) a b f g)
  one_verdict m (Recursive a) (Runs b) f g = absurd (g.0 (recursive m a f))
  one_verdict m (Recursive a) (Endless b) f g = absurd (g.0 (recursive m a f))
  one_verdict m (Recursive a) Large f g = absurd (g.0 (recursive m a f))
  one_verdict m (Recursive a) (Bound b) f g = absurd (g.0 (recursive m a f))
  one_verdict m (Runs a) (Recursive b) f g = absurd (f.0 (recursive m b g))
  one_verdict m (Runs a) (Runs b) f g = ap Runs (first_unique (IsUnbounded n) (runs_in (statements_at n m)) a b f.1 g.1)
  one_verdict m (Runs a) (Endless b) f g = absurd (not_bounded m a g.1 f.1 g.2)
  one_verdict m (Runs a) Large f g = absurd (not_bounded m a g.1 f.1 g.2)
  one_verdict m (Runs a) (Bound b) f g = absurd (not_bounded m a g.1 f.1 g.2)
  one_verdict m (Endless a) (Recursive b) f g = absurd (f.0 (recursive m b g))
  one_verdict m (Endless a) (Runs b) f g = absurd (not_bounded m b f.1 g.1 f.2)
  one_verdict m (Endless a) (Endless b) f g = let words : a ∷ f.3 ≡ b ∷ g.3 = sym f.4 ∙ (agree f.1 g.1 m f.2 g.2).words ∙ g.4 in ap Endless cc
  one_verdict m (Endless a) Large f g = absurd (not_endless m a f.1 g.1 f.3 f.2 g.2 f.4 g.3)
  one_verdict m (Endless a) (Bound b) f g = absurd (not_endless m a f.1 g.1 f.3 f.2 g.2 f.4 g.3)
  one_verdict m Large (Recursive b) f g = absurd (f.0 (recursive m b g))
  one_verdict m Large (Runs b) f g = absurd (not_bounded m b f.1 g.1 f.2)
  one_verdict m Large (Endless b) f g = absurd (not_endless m b g.1 f.1 g.3 g.2 f.2 g.4 f.3)
  one_verdict m Large Large f g = refl
  one_verdict m Large (Bound b) f g = absurd (not_large m f.1 g.1 b f.2 g.2 f.4 g.4 g.5)
  one_verdict m (Bound a) (Recursive b) f g = absurd (f.0 (recursive m b g))
  one_verdict m (Bound a) (Runs b) f g = absurd (not_bounded m b f.1 g.1 f.2)
  one_verdict m (Bound a) (Endless b) f g = absurd (not_endless m b g.1 f.1 g.3 g.2 f.2 g.4 f.3)
  one_verdict m (Bound a) Large f g = absurd (not_large m g.1 f.1 a g.2 f.2 g.4 f.4 f.5)
  one_verdict m (Bound a) (Bound b) f g = ap Bound (sym f.4 ∙ same_bound m f.1 g.1 f.2 g.2 ∙ g.4)

  module_there : (m : ModuleId) → m.0 < length n.modules → (x : NamedModule) × (slice_get n.modules m.0 ≡ Some x)
  module_there m h = within_some n.modules m.0 h

  pub bound_both : (m : ModuleId) (b : ℕ) → m.0 < length n.modules → IsVerdict n m (Bound b) ↔ HasBound (resolved_of n) m b
  bound_both m b h = let x = module_there m h in (bound_is m x.0 b x.1, is_bound m b)
