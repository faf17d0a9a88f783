-- A scheduler in the midst of a turn (docs/SEMANTICS.md, "Turns").
use Rattle.std.specs.Prelude.{◌≡◌, Bool, true, false, List, All}
use Rattle.loft_base.specs.declared.ids.SchedId.{SchedId}
use Rattle.loft_base.specs.declared.options.Limits.{Limits}
use Rattle.loft_orders.specs.declared.note.InstantNote.{InstantNote}
use Rattle.loft_sense.specs.Fits.{Fits}
use Rattle.loft_sense.specs.Machine.{Prog, Mach}
use Rattle.loft_sense.specs.Instant.{Replayed, one_more}
use Rattle.loft_sense.specs.Rest.{is_spent}
use Rattle.loft_course.specs.declared.station.Stage.{Stage}
use Rattle.loft_course.specs.declared.station.Stage.TheVariants.{Between, Taken, Made}

-- it has taken, and has still to give
abbrev pub is_in_turn : Stage → Bool
is_in_turn Between = false
is_in_turn (Taken batch) = true
is_in_turn Made = true

-- what its instants have left, once the one on what it has taken is made
abbrev pub settled : Prog → Limits → Mach → List InstantNote → Stage → Replayed
settled x l m notes Between = record { machine = m; notes = notes }
settled x l m notes (Taken batch) = one_more x l (record { machine = m; notes = notes }) batch
settled x l m notes Made = record { machine = m; notes = notes }

-- the instant on what it has taken, if any, is one that an engine makes: the orders fit, and its bounds aren't used up
abbrev pub CanMake : Prog → Limits → SchedId → Bool → Mach → Stage → Type 0
CanMake x l s failed m Between = Unit {0}
CanMake x l s failed m (Taken batch) = (failed ≡ false → is_spent x l m ≡ false) × All (Fits x s) batch
CanMake x l s failed m Made = Unit {0}
