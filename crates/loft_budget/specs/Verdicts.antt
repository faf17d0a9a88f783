-- What is known of the steps of each module, and where it says so (docs/SEMANTICS.md, "Step bounds").
use Rattle.std.specs.Prelude.{is_none, ◌≡◌, ℕ, ◌+◌, ◌≤◌, ◌<◌, length, Bool, true, ◌||◌, List, [], ◌∷◌, ◌++◌, Option, Some, None, is_some, slice_get, if◌then◌else◌}
use Rattle.loft_base.specs.declared.ids.ModuleId.{ModuleId}
use Rattle.loft_tree.specs.Fits.{Each}
use Rattle.loft_tree.specs.NamedTree.{NamedStatement, Do, Hold, Run, If, While, Repeat, NamedStatements, Done, Then, NamedModule, NamedProgram}
use Rattle.loft_tree.specs.Resolved.{exp_of, body_of, resolved_of}
use Rattle.loft_budget.specs.declared.steps.Steps.{Steps}
use Rattle.loft_budget.specs.Steps.{literal, body_steps}
use Rattle.loft_budget.specs.Bounds.{bound_of, most_bound, runs_bounded, steps_within}
use Rattle.loft_budget.specs.declared.verdict.Verdict.{Verdict}
use Rattle.loft_budget.specs.declared.verdict.Verdict.TheVariants.{Bound, Recursive, Runs, Endless, Large}

-- a `run`: the offset of its word, and the module that it runs
pub record RunAt : Type 0 where
  pub at : ℕ
  pub called : ModuleId

-- the `run`s of a statement and of a body, in text order
abbrev mutual
  pub runs_of : NamedStatement → List RunAt
  runs_of (Do at action) = []
  runs_of (Hold at stop pause) = []
  runs_of (Run at stop called m arguments) = record { at = at; called = m } ∷ []
  runs_of (If at test first second) = runs_in first ++ runs_in second
  runs_of (While at test body) = runs_in body
  runs_of (Repeat at count body) = runs_in body

  pub runs_in : NamedStatements → List RunAt
  runs_in Done = []
  runs_in (Then s rest) = runs_of s ++ runs_in rest

-- the word of a loop that may turn for ever without a sure statement
abbrev pub endless_if : Bool → ℕ → List ℕ
endless_if ends at = if ends then [] else at ∷ []

-- With the steps of the modules that have a bound: the words of such loops, those that end first first.
module _ (of : ModuleId → Option Steps) where
  abbrev mutual
    pub endless_of : NamedStatement → List ℕ
    endless_of (Do at action) = []
    endless_of (Hold at stop pause) = []
    endless_of (Run at stop called m arguments) = []
    endless_of (If at test first second) = endless_in first ++ endless_in second
    endless_of (While at test body) = endless_in body ++ endless_if (is_none (body_steps of (body_of body)).through) at
    endless_of (Repeat at count body) = endless_in body ++ endless_if (is_none (body_steps of (body_of body)).through || is_some (literal (exp_of count))) at

    pub endless_in : NamedStatements → List ℕ
    endless_in Done = []
    endless_in (Then s rest) = endless_of s ++ endless_in rest

-- ---- modules

abbrev pub statements_or_none : Option NamedModule → NamedStatements
statements_or_none None = Done
statements_or_none (Some m) = m.body

abbrev pub statements_at : NamedProgram → ModuleId → NamedStatements
statements_at n m = statements_or_none (slice_get n.modules m.0)

-- the module runs this one
abbrev pub RunsIt : NamedProgram → ModuleId → ModuleId → Type 0
RunsIt n m q = (before : List RunAt) × (r : RunAt) × (after : List RunAt) × (runs_in (statements_at n m) ≡ before ++ r ∷ after) × (r.called ≡ q)

-- it runs it, or one that reaches it
pub data Reaches (n : NamedProgram) : ModuleId → ModuleId → Type 0 where
  runs : {m q : ModuleId} → RunsIt n m q → Reaches n m q
  on : {m r q : ModuleId} → RunsIt n m r → Reaches n r q → Reaches n m q

-- the first of these `run`s of a module that is so
pub record FirstRun (P : ModuleId → Type 0) (rs : List RunAt) (at : ℕ) : Type 0 where
  pub before : List RunAt
  pub run : RunAt
  pub after : List RunAt
  pub splits : rs ≡ before ++ run ∷ after
  pub none : Each (λ r. P r.called → ⊥) before
  pub is : P run.called
  pub there : run.at ≡ at

abbrev pub IsRecursive : NamedProgram → ModuleId → Type 0
IsRecursive n m = Reaches n m m

-- it has no bound
abbrev pub IsUnbounded : NamedProgram → ModuleId → Type 0
IsUnbounded n m = (k : ℕ) → steps_within (resolved_of n) k m ≡ None

-- all that the module runs has a bound, where modules run others at most so deep
abbrev pub RunsBounded : NamedProgram → ℕ → ModuleId → Type 0
RunsBounded n k m = runs_bounded (steps_within (resolved_of n) k) (body_of (statements_at n m)) ≡ true

abbrev pub endless_at : NamedProgram → ℕ → ModuleId → List ℕ
endless_at n k m = endless_in (steps_within (resolved_of n) k) (statements_at n m)

abbrev pub steps_at : NamedProgram → ℕ → ModuleId → Steps
steps_at n k m = body_steps (steps_within (resolved_of n) k) (body_of (statements_at n m))

-- each is what applies where none of those before it does
abbrev pub IsVerdict : NamedProgram → ModuleId → Verdict → Type 0
IsVerdict n m (Recursive at) = FirstRun (λ q. Reaches n q m) (runs_in (statements_at n m)) at
IsVerdict n m (Runs at) = (IsRecursive n m → ⊥) × FirstRun (IsUnbounded n) (runs_in (statements_at n m)) at
IsVerdict n m (Endless at) = (IsRecursive n m → ⊥) × (k : ℕ) × RunsBounded n k m × (rest : List ℕ) × (endless_at n k m ≡ at ∷ rest)
IsVerdict n m Large = (IsRecursive n m → ⊥) × (k : ℕ) × RunsBounded n k m × (endless_at n k m ≡ []) × (most_bound < bound_of (steps_at n k m))
IsVerdict n m (Bound b) = (IsRecursive n m → ⊥) × (k : ℕ) × RunsBounded n k m × (endless_at n k m ≡ []) × (bound_of (steps_at n k m) ≡ b) × (b ≤ most_bound)

-- the verdicts of the modules from this number on
abbrev pub VerdictsFrom : NamedProgram → ℕ → List Verdict → Type 0
VerdictsFrom n k [] = Unit {0}
VerdictsFrom n k (v ∷ vs) = IsVerdict n (record { 0 = k }) v × VerdictsFrom n (k + 1) vs

-- one for each module
abbrev pub AreVerdicts : NamedProgram → List Verdict → Type 0
AreVerdicts n vs = (length vs ≡ length n.modules) × VerdictsFrom n 0 vs
