-- What was kept of a history's instants: the notes of each scheduler, and how it stands in the end (docs/SEMANTICS.md, "World").
use Rattle.std.specs.Prelude.{◌≡◌, List, map}
use Rattle.loft_orders.specs.declared.entry.Entry.{Entry}
use Rattle.loft_base.specs.declared.options.Limits.{Limits}
use Rattle.loft_orders.specs.declared.note.InstantNote.{InstantNote}
use Rattle.loft_orders.specs.declared.note.FinalState.{FinalState}
use Rattle.loft_sense.specs.Machine.{Prog, Mach}
use Rattle.loft_history.specs.History.{replayed}
use Rattle.loft_history.specs.Report.{schedulers}

-- how a scheduler stands between two instants
abbrev pub stand_of : Mach → FinalState
stand_of m = record { linked = m.linked; shared = m.shared }

-- of each scheduler, in the order of the declarations, these are the notes and the state of the replay of the history
pub record IsReplayOf (x : Prog) (limits : Limits) (es : List Entry) (notes : List (List InstantNote)) (finals : List FinalState) : Type 0 where
  pub told : notes ≡ map (λ s. (replayed x limits s es).notes) (schedulers x)
  pub stands : finals ≡ map (λ s. stand_of (replayed x limits s es).machine) (schedulers x)
