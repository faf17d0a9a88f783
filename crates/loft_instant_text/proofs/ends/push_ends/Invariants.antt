use Rattle.std.proofs.Common.{take}
use Rattle.loft_orders.specs.Lines.{text_of, ends_at}
use Rattle.loft_value_text.specs.Appending.{Appends}
use Rattle.loft_instant_text.proofs.ends.push_ends.Given as goal

-- the lines of those so far
abbrev pub invariant-loop-ended : goal.invariant-loop-ended
invariant-loop-ended g l =
    Appends g.W.TextWriter.is_whole g.W.TextWriter.kept g.W.TextWriter.extended l.initial.line l.line
    (text_of (ends_at l.heads l.index (take l.ended-index l.ends)))
