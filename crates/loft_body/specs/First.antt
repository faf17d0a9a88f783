-- What is found first in a body.
use Rattle.std.specs.Prelude.{◌==◌, ◌||◌, ℕ, Bool, true, false, not, List, [], ◌∷◌, Option, Some, None, slice_get, unwrap_or, if◌then◌else◌}
use Rattle.loft_base.specs.declared.ids.ModuleId.{ModuleId}
use Rattle.loft_budget.specs.Verdicts.{RunAt}

-- a module is marked; one that isn't declared never is
abbrev pub mark_of : List Bool → ModuleId → Bool
mark_of marks m = unwrap_or (slice_get marks m.0) false

-- it is this module, where there is one
abbrev pub is_it : Option ModuleId → ModuleId → Bool
is_it None m = false
is_it (Some q) m = m.0 == q.0

-- it is marked, or it isn't, as it is wanted; or it is this module
abbrev pub has_mark : List Bool → Bool → Option ModuleId → ModuleId → Bool
has_mark marks true also m = mark_of marks m || is_it also m
has_mark marks false also m = not (mark_of marks m) || is_it also m

-- the offset of the first `run` of a marked module
abbrev pub first_marked : (ModuleId → Bool) → List RunAt → Option ℕ
first_marked hit [] = None
first_marked hit (r ∷ rs) = if hit r.called then Some r.at else first_marked hit rs

abbrev pub first_of : List ℕ → Option ℕ
first_of [] = None
first_of (x ∷ xs) = Some x
