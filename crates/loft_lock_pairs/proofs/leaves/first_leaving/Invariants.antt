use Rattle.std.proofs.Common.{◌≡◌, true, [], map, drop}
use Rattle.loft_tree.specs.NamedTree.{NamedModule}
use Rattle.loft_tree.specs.ProgramView.{module_of}
use Rattle.loft_lock_forms.specs.Seen.{marks_seen}
use Rattle.loft_locks.specs.Outline.{outline, leave_fault}
use Rattle.loft_lock_expansion.specs.Checks.{first_fault}
use Rattle.loft_lock_expansion.specs.Expansion.{first_leaving}
use Rattle.loft_lock_pairs.specs.Leaving.{marked_in}
use Rattle.loft_lock_pairs.proofs.leaves.first_leaving.Given as goal

-- the modules that are left decide
abbrev pub invariant-loop-number : goal.invariant-loop-number
invariant-loop-number l = l.room.is_whole ≡ true
    → first_fault (λ (m : NamedModule). leave_fault [] [] (outline (marks_seen l.marks) (marked_in l.away) m.body)) l.number (map module_of (drop l.number l.modules))
    ≡ first_leaving (marks_seen l.marks) (marked_in l.away) (map module_of l.modules)
