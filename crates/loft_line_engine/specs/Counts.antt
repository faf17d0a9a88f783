-- What an instant counts: each order of its batch, each position at which a thread runs, and each step (docs/SEMANTICS.md, "Waiting lists").
use Rattle.std.specs.Prelude.{ℕ, ◌+◌, ◌*◌, List, length}
use Rattle.loft_base.specs.declared.options.Limits.{Limits}
use Rattle.loft_instant.specs.States.{walk_from}
use Rattle.loft_line.specs.Counts.{runs_and_steps}
use Rattle.loft_orders.specs.declared.order.Order.{Order}
use Rattle.loft_sense.specs.Apply.{apply}
use Rattle.loft_sense.specs.Machine.{Prog, Mach}

-- the most: with each thread that is linked once the batch is applied, twice its budget and 2
abbrev pub most_counted : Prog → Limits → Mach → List Order → ℕ
most_counted x limits m batch = length (apply x m batch).linked * (2 * limits.budget + 2) + length batch

-- the least: what the threads did that haven't ended
abbrev pub least_counted : Prog → Limits → Mach → List Order → ℕ
least_counted x limits m batch = length batch + runs_and_steps limits.budget (walk_from x limits.budget m (apply x m batch)).runners
