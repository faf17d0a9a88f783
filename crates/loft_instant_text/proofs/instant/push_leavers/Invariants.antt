use Rattle.std.proofs.Common.{take}
use Rattle.loft_orders.specs.Lines.{text_of, leave_lines}
use Rattle.loft_value_text.specs.Appending.{Appends}
use Rattle.loft_instant_text.proofs.instant.push_leavers.Given as goal

-- the lines of those so far
abbrev pub invariant-loop-sent : goal.invariant-loop-sent
invariant-loop-sent g l =
    Appends g.W.TextWriter.is_whole g.W.TextWriter.kept g.W.TextWriter.extended l.initial.line l.line
    (text_of (leave_lines l.heads (take l.sent-index l.sents)))
