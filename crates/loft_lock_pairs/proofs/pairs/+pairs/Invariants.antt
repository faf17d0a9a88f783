use Rattle.std.proofs.Common.{◌≡◌, true, false, [], drop}
use Rattle.loft_tree.specs.NamedView.{statements_of}
use Rattle.loft_lock_forms.specs.Seen.{marks_seen, names_seen}
use Rattle.loft_locks.specs.Outline.{outline, pair_fault}
use Rattle.loft_lock_pairs.proofs.pairs.+pairs.Given as goal

-- the statements that are left decide
abbrev pub invariant-fault_in-loop-statement : goal.invariant-fault_in-loop-statement
invariant-fault_in-loop-statement l = record {
  left : l.rest ≡ drop l.statement-index l.body;
  before : l.room.is_whole ≡ true → l.initial.room.is_whole ≡ true;
  fault : l.room.is_whole ≡ true → pair_fault (names_seen l.outer) (names_seen l.own.items) (outline (marks_seen l.marks) (λ i. false) (statements_of (drop l.statement-index l.body)))
      ≡ pair_fault (names_seen l.outer) [] (outline (marks_seen l.marks) (λ i. false) (statements_of l.body));
}
