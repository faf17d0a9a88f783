use Rattle.std.proofs.Common.{take, map}
use Rattle.loft_orders.specs.Lines.{text_of}
use Rattle.loft_value_text.specs.Appending.{Appends}
use Rattle.loft_instant_text.proofs.instant.push_lines.Given as goal

-- the lines of those so far
abbrev pub invariant-loop-item : goal.invariant-loop-item
invariant-loop-item g l =
    Appends g.W.TextWriter.is_whole g.W.TextWriter.kept g.W.TextWriter.extended l.initial.line l.line
    (text_of (map (g.T.InOneLine.text l.heads) (take l.item-index l.items)))
