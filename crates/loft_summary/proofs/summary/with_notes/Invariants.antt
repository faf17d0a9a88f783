use Rattle.std.proofs.Common.{◌≡◌, take, flat_map}
use Rattle.loft_orders.specs.declared.note.InstantNote.{InstantNote}
use Rattle.loft_summary.proofs.Counting.{tally}
use Rattle.loft_summary.proofs.summary.with_notes.Given as goal

-- those so far
abbrev pub invariant-loop-note : goal.invariant-loop-note
invariant-loop-note l = l.count ≡ tally l.before (flat_map (λ (n : InstantNote). n.acts) (take l.note-index l.notes))
