-- Modules that break the rules of pairs (docs/LOCKS.md, "What is refused").
use Rattle.std.specs.Prelude.{ℕ, ◌+◌, List, [], ◌∷◌, Option, Some, None}
use Rattle.loft_base.specs.declared.ids.ModuleId.{ModuleId}
use Rattle.loft_tree.specs.NamedTree.{NamedModule}
use Rattle.loft_sense.specs.Tree.{first_some}

-- ---- modules

-- a fault of this module, by its lock
abbrev pub fault_in : ModuleId → Option (List ℕ) → Option (ModuleId × List ℕ)
fault_in m None = None
fault_in m (Some l) = Some (m, l)

-- the first of these modules that has a fault, and the lock that it tells; the first of them has this number
abbrev pub first_fault : (NamedModule → Option (List ℕ)) → ℕ → List NamedModule → Option (ModuleId × List ℕ)
first_fault fault m [] = None
first_fault fault m (x ∷ xs) = first_some (fault_in (record { 0 = m }) (fault x)) (first_fault fault (m + 1) xs)
