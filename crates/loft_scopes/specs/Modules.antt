-- The numbers of modules.
use Rattle.std.specs.Prelude.{ℕ, ◌+◌}
use Rattle.loft_tree.specs.Source.{Declaration, Scheduler, Event, Shared, Module, Start, Outside}

-- the number of the next module, after a declaration
abbrev pub next_module : ℕ → Declaration → ℕ
next_module number (Scheduler name) = number
next_module number (Event name scheduler) = number
next_module number (Shared name scheduler value) = number
next_module number (Module head locals body) = number + 1
next_module number (Start scheduler called arguments name) = number
next_module number (Outside name orders) = number
