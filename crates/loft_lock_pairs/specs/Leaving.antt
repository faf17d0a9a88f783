-- Marks of modules (docs/LOCKS.md, "Pairs").
use Rattle.std.specs.Prelude.{◌≡◌, ℕ, ◌<◌, Bool, true, false, List, map, length, get_or, slice_get}
use Rattle.std.specs.Option.{unwrap_or}
use Rattle.loft_base.specs.declared.ids.ModuleId.{ModuleId}
use Rattle.loft_tree.specs.declared.named.Module.{Module}
use Rattle.loft_tree.specs.ProgramView.{module_of}
use Rattle.loft_tree.specs.Resolved.{Body, Empty, body_of}
use Rattle.loft_lock_expansion.specs.Going.{body_goes}

-- the modules that a list of marks tells
abbrev pub marked_in : List Bool → ModuleId → Bool
marked_in marks m = get_or marks m.0 false

abbrev pub bodies_of : List Module → List Body
bodies_of ms = map (λ m. body_of m.body) (map module_of ms)

-- module n isn't marked, and has a `link` or an `unlink` in it, or a `run` of a marked module
pub record IsUnmarked (marks : List Bool) (bodies : List Body) (n : ℕ) : Type 0 where
  pub there : n < length bodies
  pub unmarked : get_or marks n false ≡ false
  pub goes : body_goes (marked_in marks) (unwrap_or (slice_get bodies n) Empty) ≡ true
