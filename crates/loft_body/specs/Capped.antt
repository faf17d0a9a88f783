-- Steps as they are counted: no more than 1,000,001, which is more than any bound.
use Rattle.std.specs.Prelude.{ℕ, ◌≤◌, List, Option, Some, None, min, slice_get}
use Rattle.loft_base.specs.declared.ids.ModuleId.{ModuleId}
use Rattle.loft_budget.specs.declared.steps.Steps.{Steps}
use Rattle.loft_body.specs.declared.steps.TheConstants.{MOST_COUNTED}
use Rattle.loft_tree.specs.Fits.{Each, IfThere}

abbrev pub capped : Option ℕ → Option ℕ
capped None = None
capped (Some n) = Some (min n MOST_COUNTED)

abbrev pub capped_steps : Steps → Steps
capped_steps x = record { through = capped x.through; head = capped x.head; tail = capped x.tail; most = capped x.most }

abbrev pub IsSmall : Option ℕ → Type 0
IsSmall None = Unit {0}
IsSmall (Some n) = n ≤ MOST_COUNTED

pub record AreSmall (x : Steps) : Type 0 where
  pub through : IsSmall x.through
  pub head : IsSmall x.head
  pub tail : IsSmall x.tail
  pub most : IsSmall x.most

-- the steps of a module by a table of all modules
abbrev pub or_none : Option (Option Steps) → Option Steps
or_none None = None
or_none (Some x) = x

abbrev pub entry : List (Option Steps) → ModuleId → Option Steps
entry table m = or_none (slice_get table m.0)

abbrev pub TableIsSmall : List (Option Steps) → Type 0
TableIsSmall table = Each (IfThere AreSmall) table
