-- The ranges of a run's options (docs/LANGUAGE.md, "Limits").
use Rattle.std.specs.Prelude.{◌≤◌}
use Rattle.loft_base.specs.declared.options.Limits.{Limits}
use Rattle.loft_base.specs.declared.options.RunOptions.{RunOptions}
use Rattle.loft_base.specs.declared.options.TheConstants.{MAX_INSTANTS, MAX_BUDGET, MAX_BLOCK, MAX_WORKERS}

pub record IsInRange (limits : Limits) : Type 0 where
  pub instants : (1 ≤ limits.instants) × (limits.instants ≤ MAX_INSTANTS)
  pub budget : (1 ≤ limits.budget) × (limits.budget ≤ MAX_BUDGET)
  pub block : (1 ≤ limits.block) × (limits.block ≤ MAX_BLOCK)

abbrev pub HasWorkers : RunOptions → Type 0
HasWorkers o = (1 ≤ o.workers) × (o.workers ≤ MAX_WORKERS)

-- the bounds of a run and its workers have their ranges
pub record AreInRange (options : RunOptions) : Type 0 where
  pub limits : IsInRange options.limits
  pub workers : HasWorkers options
