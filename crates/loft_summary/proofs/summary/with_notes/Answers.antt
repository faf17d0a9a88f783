use Rattle.std.proofs.Common.{◌∙◌, ap}
use Rattle.loft_orders.specs.declared.note.InstantNote.{InstantNote}
use Rattle.loft_summary.proofs.Counting.{tally, told_all, told_more}
use Rattle.loft_summary.proofs.summary.with_notes.Goals as goal

pub loop-note-preserved : goal.loop-note-preserved
loop-note-preserved c =
    told_more (λ (n : InstantNote). n.acts) c.args.before c.args.notes.now c.loop-note.note-index c.note-item.result c.loop-note.count c.with_acts-count.result
    c.loop-note-test.true c.note-item.is c.loop-note.invariant (c.with_acts-count.ensures ∙ ap (tally c.loop-note.count) c.as_slice.ensures)

pub returns : goal.returns
returns c = told_all (λ (n : InstantNote). n.acts) c.args.before c.args.notes.now c.loop-note.note-index c.loop-note.count c.loop-note-test.false c.loop-note.invariant
