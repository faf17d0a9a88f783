use Rattle.std.proofs.Common.{take, map}
use Rattle.loft_history.specs.Report.{standing_line}
use Rattle.loft_orders.specs.Lines.{text_of}
use Rattle.loft_value_text.specs.Appending.{Appends}
use Rattle.loft_block_text.proofs.last.push_standings.Given as goal

-- the lines of those so far
abbrev pub invariant-loop-standing : goal.invariant-loop-standing
invariant-loop-standing g l =
    Appends g.W.TextWriter.is_whole g.W.TextWriter.kept g.W.TextWriter.extended l.initial.text l.text
    (text_of (map (standing_line l.heads) (take l.standing-index l.linked)))
