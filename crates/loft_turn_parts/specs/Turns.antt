-- The parts of a scheduler's turn, by its own entries (docs/SEMANTICS.md, "Turns").
use Rattle.std.specs.Prelude.{◌≡◌, List, Option, Some, None, if◌then◌else◌}
use Rattle.loft_base.specs.declared.ids.SchedId.{SchedId}
use Rattle.loft_orders.specs.declared.entry.Entry.{Entry}
use Rattle.loft_base.specs.declared.options.Limits.{Limits}
use Rattle.loft_orders.specs.declared.note.InstantNote.{InstantNote}
use Rattle.loft_orders.specs.declared.order.Order.{Order}
use Rattle.loft_sense.specs.Machine.{Prog, Mach}
use Rattle.loft_history.specs.History.{has_turn, replayed}

-- what a scheduler takes of the orders that wait for it: all of them, where it has a turn to make on them
abbrev pub due : Prog → Limits → Mach → List Order → Option (List Order)
due x l m orders = if has_turn x l m orders then Some orders else None

-- after these entries the scheduler is there, and its instants left these notes
pub record IsReplay (x : Prog) (l : Limits) (s : SchedId) (es : List Entry) (m : Mach) (ns : List InstantNote) : Type 0 where
  pub machine : m ≡ (replayed x l s es).machine
  pub notes : ns ≡ (replayed x l s es).notes
