use Rattle.std.proofs.Common.{arith}
use Rattle.loft_report_sets.proofs.TakenLemmas.{line_open, line_closed}
use Rattle.loft_report_sets.proofs.taking.line_taken.Goals as goal
use Rattle.loft_report_sets.proofs.taking.line_taken.Goals.{else-n-bytes-via-then-n-bytes+else-bytes-n-eq10, else-n-bytes-via-else-n-bytes}

pub returns-then-bytes-n-eq10 : goal.returns-then-bytes-n-eq10
returns-then-bytes-n-eq10 c = line_closed c.args.bytes.now c.printed_bytes-n.result c.printed_bytes-n.ensures c.if-n-bytes.true (omega (arith, c.if-bytes-n-eq10.true))

pub returns-else-n-bytes : goal.returns-else-n-bytes
returns-else-n-bytes c = line_open c.args.bytes.now c.printed_bytes-n.result c.printed_bytes-n.ensures
    (λ h e. elim c.else-n-bytes.branch [ else-n-bytes-via-then-n-bytes+else-bytes-n-eq10 w ↦ omega (arith, w.if-bytes-n-eq10.false, e) | else-n-bytes-via-else-n-bytes w ↦ omega (arith, w.if-n-bytes.false, h) ])
