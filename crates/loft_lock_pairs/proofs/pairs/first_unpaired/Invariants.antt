use Rattle.std.proofs.Common.{◌≡◌, true, false, [], map, drop}
use Rattle.loft_tree.specs.NamedTree.{NamedModule}
use Rattle.loft_tree.specs.ProgramView.{module_of}
use Rattle.loft_lock_forms.specs.Seen.{marks_seen}
use Rattle.loft_locks.specs.Outline.{outline, pair_fault}
use Rattle.loft_lock_expansion.specs.Checks.{first_fault}
use Rattle.loft_lock_expansion.specs.Expansion.{first_unpaired}
use Rattle.loft_lock_pairs.proofs.pairs.first_unpaired.Given as goal

-- the modules that are left decide
abbrev pub invariant-loop-number : goal.invariant-loop-number
invariant-loop-number l = l.room.is_whole ≡ true
    → first_fault (λ (m : NamedModule). pair_fault [] [] (outline (marks_seen l.marks) (λ i. false) m.body)) l.number (map module_of (drop l.number l.modules))
    ≡ first_unpaired (marks_seen l.marks) (map module_of l.modules)
