use Rattle.std.proofs.Common.{◌≡◌, true, [], drop}
use Rattle.loft_tree.specs.NamedView.{statements_of}
use Rattle.loft_lock_forms.specs.Seen.{marks_seen, names_seen}
use Rattle.loft_locks.specs.Outline.{outline, leave_fault}
use Rattle.loft_lock_pairs.specs.Leaving.{marked_in}
use Rattle.loft_lock_pairs.proofs.leaves.+leaves.Given as goal

-- the statements that are left decide
abbrev pub invariant-left_in-loop-statement : goal.invariant-left_in-loop-statement
invariant-left_in-loop-statement l = record {
  before : l.room.is_whole ≡ true → l.initial.room.is_whole ≡ true;
  fault : l.room.is_whole ≡ true → leave_fault (names_seen l.outer) (names_seen l.own.items) (outline (marks_seen l.marks) (marked_in l.away) (statements_of (drop l.statement-index l.body)))
      ≡ leave_fault (names_seen l.outer) [] (outline (marks_seen l.marks) (marked_in l.away) (statements_of l.body));
}
