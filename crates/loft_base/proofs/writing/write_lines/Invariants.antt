use Rattle.std.proofs.Common.{◌≡◌, true, length}
use Rattle.loft_base.specs.Writing.{are_lines}
use Rattle.loft_base.proofs.WritesLemmas.{Going}
use Rattle.loft_base.proofs.writing.write_lines.Given as goal

-- the lines so far are written, and the rest isn't; it is made of lines, too
abbrev pub invariant-lines : goal.invariant-lines
invariant-lines g l = Going (g.S.Sink.written l.initial.sink) (g.S.Sink.written l.sink) (g.S.Sink.faults l.initial.sink) (g.S.Sink.faults l.sink) (g.S.Sink.room l.initial.sink) (g.S.Sink.room l.sink) (g.S.Sink.by_lines l.initial.sink) (g.S.Sink.by_lines l.sink) l.rest l.text × (are_lines l.rest ≡ true)

abbrev pub decreases-lines : goal.decreases-lines
decreases-lines g l = length l.rest
