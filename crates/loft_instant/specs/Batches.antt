-- A scheduler that applies a batch, as a plain value.
use Rattle.std.specs.Prelude.{Bool, if◌then◌else◌}
use Rattle.loft_base.specs.declared.ids.ThreadId.{ThreadId}
use Rattle.loft_orders.specs.declared.order.Mark.TheVariants as mark
use Rattle.loft_sense.specs.Apply.{Applied, marked, is_linked, suspend}
use Rattle.loft_instant.specs.declared.batch.Batch.{Batch}
use Rattle.loft_passes.specs.View.{standings_of}

abbrev pub applied_of : Batch → Applied
applied_of b = record { linked = standings_of b.linked.items; known = b.known; board = b.board; marks = b.marks; stopped = b.stopped; sent = b.sent }

-- a `suspend` or a `resume` is applied
abbrev pub suspended_by : ThreadId → Bool → Applied → Applied
suspended_by t suspended a =
    if is_linked t a.linked
    then marked mark.Done (record a { linked = suspend t suspended a.linked })
    else marked mark.Void a
