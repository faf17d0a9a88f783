use Rattle.loft_sense.specs.Heads.{shared_of}
use Rattle.loft_orders.specs.Lines.{text_of}
use Rattle.loft_history.specs.Report.{shared_lines}
use Rattle.loft_instant_text.proofs.Appended.{Still}
use Rattle.loft_block_text.proofs.SharedLemmas.{shared_after}
use Rattle.loft_block_text.proofs.last.push_values.Given as goal

-- the values from here on are left, for the variables from here on
abbrev pub invariant-loop-head : goal.invariant-loop-head
invariant-loop-head g l =
    Still g.W.TextWriter.is_whole g.W.TextWriter.kept g.W.TextWriter.extended l.initial.text l.text
    (text_of (shared_after l.heads l.s l.head-index l.left))
    (text_of (shared_lines l.heads (shared_of l.heads l.s) l.values))
