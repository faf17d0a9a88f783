-- A scheduler that applies a batch to linked threads whose waits are kept (docs/SEMANTICS.md, "Apply" and "Waiting lists").
use Rattle.std.specs.Prelude.{◌≡◌, Bool, if◌then◌else◌}
use Rattle.loft_base.specs.declared.ids.ThreadId.{ThreadId}
use Rattle.loft_orders.specs.declared.order.Mark.TheVariants as mark
use Rattle.loft_sense.specs.Apply.{Applied, marked, is_linked, suspend}
use Rattle.loft_line.specs.declared.line.Line.{Line}
use Rattle.loft_line.specs.Line.{runners_in, standings_in, IsIdle}
use Rattle.loft_waits.specs.Told.{counts_of}
use Rattle.loft_line_engine.specs.declared.batch.Batch.{Batch}

abbrev pub applied_of : Batch → Applied
applied_of b = record { linked = standings_in (runners_in b.line); known = b.known; board = b.board; marks = b.marks; stopped = b.stopped; sent = b.sent }

-- a `suspend` or a `resume` is applied
abbrev pub suspended_by : ThreadId → Bool → Applied → Applied
suspended_by t suspended a =
    if is_linked t a.linked
    then marked mark.Done (record a { linked = suspend t suspended a.linked })
    else marked mark.Void a

-- nobody has run, and the waits were told what the board has and who is known as ended
pub record IsSound (b : Batch) : Type 0 where
  pub idle : IsIdle b.line
  pub counts : b.line.waits.counts ≡ counts_of b.board
  pub ended : b.line.waits.ended ≡ b.known

-- what orders leave as it was
pub record KeepsLine (old new : Line) : Type 0 where
  pub budget : new.budget ≡ old.budget
  pub closes : new.waits.closes ≡ old.waits.closes
