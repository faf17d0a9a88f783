-- Runs before which something was done: what stands around the thread, and how its run ends, with these acts before the others
-- (docs/SEMANTICS.md, "Run").
use Rattle.std.specs.Prelude.{List, ◌++◌}
use Rattle.loft_orders.specs.declared.note.Act.{Act}
use Rattle.loft_sense.specs.Around.{Around, Beside}
use Rattle.loft_sense.specs.Run.{Outcome, Held, Left, Ended}

abbrev pub around_preceded : List Act → Around → Around
around_preceded acts around = record around { acts = acts ++ around.acts }

abbrev pub beside_preceded : List Act → Beside → Beside
beside_preceded acts b = record b { around = around_preceded acts b.around }

abbrev pub outcome_preceded : List Act → Outcome → Outcome
outcome_preceded acts (Held t around left) = Held t (around_preceded acts around) left
outcome_preceded acts (Left t to around left) = Left t to (around_preceded acts around) left
outcome_preceded acts (Ended end around left) = Ended end (around_preceded acts around) left
