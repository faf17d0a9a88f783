-- The work that running a module may leave (docs/SEMANTICS.md, "Tree").
use Rattle.std.specs.Prelude.{◌≡◌, ◌⊎◌, ℕ, ℤ, List, [], reverse}
use Rattle.loft_base.specs.declared.ids.ModuleId.{ModuleId}
use Rattle.loft_tree.specs.Resolved.{Resolved}
use Rattle.loft_sense.specs.Run.{Next, Finish, Stuck, Acts, Advances, Tests, Counts, Holds, Runs}
use Rattle.loft_sense.specs.Tree.{Work, body_then, next_work, counts_in, body_at, after}

-- From what comes next the module may go on with w: in either branch of a test, and with any count of a `repeat`.
abbrev pub LeadsTo : Next (List Work) → List Work → Type 0
LeadsTo Finish w = ⊥
LeadsTo Stuck w = ⊥
LeadsTo (Acts action rest) w = w ≡ rest
LeadsTo (Advances rest) w = w ≡ rest
LeadsTo (Tests test v u) w = (w ≡ v) ⊎ (w ≡ u)
LeadsTo (Counts count rest) w = (n : ℤ) × (w ≡ rest n)
LeadsTo (Holds k pause rest) w = w ≡ rest
LeadsTo (Runs k called arguments rest) w = w ≡ rest

-- the work that may be left in module m after it has begun, or after any of its stops
pub data IsLeft (p : Resolved) (m : ModuleId) : List Work → Type 0 where
  begins : IsLeft p m (body_then (body_at p m) [])
  resumes : (k : ℕ) (counts : List ℤ) → IsLeft p m (after p m k counts)
  goes_on : {v : List Work} {w : List Work} → IsLeft p m v → LeadsTo (next_work v) w → IsLeft p m w

-- what comes next is no stop, or `after` says of it what is left
abbrev pub LeavesAfter : Resolved → ModuleId → Next (List Work) → Type 0
LeavesAfter p m (Holds k pause rest) = after p m k (reverse (counts_in rest)) ≡ rest
LeavesAfter p m (Runs k called arguments rest) = after p m k (reverse (counts_in rest)) ≡ rest
LeavesAfter p m next = Unit {0}
