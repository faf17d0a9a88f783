use Rattle.std.proofs.Common.{List, ◌∙◌, ap, zero-add}
use Rattle.loft_orders.specs.declared.note.InstantNote.{InstantNote}
use Rattle.loft_sense.specs.Tally.{capped}
use Rattle.loft_summary.specs.Lines.{acts_in, all_acts, done_among}
use Rattle.loft_summary.proofs.Counting.{tally, told_all, told_more}
use Rattle.loft_summary.proofs.summary.done_ends.Goals as goal

pub loop-notes-preserved : goal.loop-notes-preserved
loop-notes-preserved c =
    told_more acts_in 0 c.args.lists.now c.loop-notes.notes-index c.notes-item.result c.loop-notes.count c.with_notes-count.result
    c.loop-notes-test.true c.notes-item.is c.loop-notes.invariant (c.with_notes-count.ensures ∙ ap (λ (ns : List InstantNote). tally c.loop-notes.count (acts_in ns)) c.as_slice.ensures)

pub returns : goal.returns
returns c =
    told_all acts_in 0 c.args.lists.now c.loop-notes.notes-index c.loop-notes.count c.loop-notes-test.false c.loop-notes.invariant
    ∙ ap capped (zero-add (done_among (all_acts c.args.lists.now)))
