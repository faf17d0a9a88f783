-- Which modules have a bound, which reach one, and which verdict that gives.
use Rattle.std.specs.Prelude.{◌≡◌, ℕ, zero, suc, Bool, true, false, List, [], ◌∷◌, ◌++◌, Option, Some, None, map, is_some, nat_le, if◌then◌else◌}
use Rattle.std.specs.List.{count_by, list_any}
use Rattle.std.specs.Global.{Vec}
use Rattle.loft_base.specs.declared.ids.ModuleId.{ModuleId}
use Rattle.loft_budget.specs.declared.steps.Steps.{Steps}
use Rattle.loft_tree.specs.NamedTree.{NamedStatements}
use Rattle.loft_tree.specs.Resolved.{body_of}
use Rattle.loft_budget.specs.Steps.{body_steps}
use Rattle.loft_budget.specs.Bounds.{bound_of, most_bound, bounded_steps}
use Rattle.loft_budget.specs.declared.verdict.Verdict.{Verdict}
use Rattle.loft_budget.specs.declared.verdict.Verdict.TheVariants.{Bound, Recursive, Runs, Endless, Large}
use Rattle.loft_body.specs.Capped.{entry}
use Rattle.loft_body.specs.First.{has_mark, first_marked, first_of}
use Rattle.loft_budget.specs.Verdicts.{RunAt, runs_in, endless_in}

-- the modules with a bound, by a table
abbrev pub bounded_marks : List (Option Steps) → List Bool
bounded_marks table = map (λ o. is_some o) table

-- how many modules have a bound
abbrev pub count : List (Option Steps) → ℕ
count table = count_by (λ o. is_some o) table

-- the table of the next depth
abbrev pub next_table : List (Option Steps) → List NamedStatements → List (Option Steps)
next_table table bs = map (λ b. bounded_steps (entry table) (Some (body_of b))) bs

-- the table of a depth
abbrev pub table_at : List NamedStatements → ℕ → List (Option Steps)
table_at bs zero = []
table_at bs (suc k) = next_table (table_at bs k) bs

-- a table that the next depth doesn't change
pub record IsStable (bs : List NamedStatements) (table : List (Option Steps)) : Type 0 where
  pub depth : ℕ
  pub is : table ≡ table_at bs depth
  pub stays : next_table table bs ≡ table

-- ---- the modules that reach one

-- those that run the module or one of these
abbrev pub next_reaching : ModuleId → List Bool → List NamedStatements → List Bool
next_reaching m marks bs = map (λ b. is_some (first_marked (has_mark marks true (Some m)) (runs_in b))) bs

-- those that reach it over so many others
abbrev pub reaching_at : ModuleId → List NamedStatements → ℕ → List Bool
reaching_at m bs zero = []
reaching_at m bs (suc k) = next_reaching m (reaching_at m bs k) bs

pub record AllReaching (m : ModuleId) (bs : List NamedStatements) (marks : List Bool) : Type 0 where
  pub depth : ℕ
  pub is : marks ≡ reaching_at m bs depth
  pub stays : next_reaching m marks bs ≡ marks

-- the body runs the module with this number
abbrev pub is_run : List RunAt → ℕ → Bool
is_run rs k = is_some (first_marked (has_mark [] true (Some (record { 0 = k }))) rs)

abbrev pub if_run : Bool → ℕ → List ModuleId
if_run is k = if is then record { 0 = k } ∷ [] else []

-- the modules with lesser numbers that it runs, each once
abbrev pub called_to : List RunAt → ℕ → List ModuleId
called_to rs zero = []
called_to rs (suc k) = called_to rs k ++ if_run (is_run rs k) k

-- those of each body, of so many modules
abbrev pub rows_of : ℕ → List NamedStatements → List (List ModuleId)
rows_of n bs = map (λ b. called_to (runs_in b) n) bs

abbrev pub items_of : List (Vec ModuleId) → List (List ModuleId)
items_of rows = map (λ row. row.items) rows

-- the modules that run the module or a marked one, by what each one runs
abbrev pub next_by : ModuleId → List Bool → List (List ModuleId) → List Bool
next_by m marks rows = map (λ row. list_any (has_mark marks true (Some m)) row) rows

abbrev pub count_marks : List Bool → ℕ
count_marks marks = count_by (λ b. b) marks

-- ---- the verdict by what is found

abbrev pub or_verdict : (ℕ → Verdict) → Option ℕ → Verdict → Verdict
or_verdict make None v = v
or_verdict make (Some at) v = make at

abbrev pub last_verdict : ℕ → Verdict
last_verdict b = if nat_le b most_bound then Bound b else Large

abbrev pub verdict_by : List (Option Steps) → List Bool → ModuleId → NamedStatements → Verdict
verdict_by table reaching m b =
    or_verdict Recursive (first_marked (has_mark reaching true (Some m)) (runs_in b))
    (or_verdict Runs (first_marked (has_mark (bounded_marks table) false None) (runs_in b))
    (or_verdict Endless (first_of (endless_in (entry table) b)) (last_verdict (bound_of (body_steps (entry table) (body_of b))))))
