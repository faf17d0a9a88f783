use Rattle.std.proofs.Common.{◌≡◌, ◌≤◌, false, drop}
use Rattle.loft_tree.specs.NamedView.{statements_of}
use Rattle.loft_lock_forms.specs.Seen.{marks_seen}
use Rattle.loft_locks.specs.Outline.{outline, closes, closes_at}
use Rattle.loft_lock_pairs.proofs.pairs.closes.Given as goal

-- the statements that are left decide, with the pairs that are open
abbrev pub invariant-loop-statement : goal.invariant-loop-statement
invariant-loop-statement l = record {
  few : l.later ≤ l.statement-index;
  left : closes_at l.later l.lock (outline (marks_seen l.marks) (λ i. false) (statements_of (drop l.statement-index l.statements)))
      ≡ closes l.lock (outline (marks_seen l.marks) (λ i. false) (statements_of l.statements));
}
