use Rattle.std.proofs.Common.{◌≡◌, ◌≤◌}
use Rattle.loft_tree.specs.ProgramView.{program_of}
use Rattle.loft_tree.specs.Resolved.{resolved_of}
use Rattle.loft_sense.specs.Tree.{tree}
use Rattle.loft_sense.specs.Run.{going}
use Rattle.loft_effect.specs.View.{beside_of}
use Rattle.loft_walk.specs.Frames.{actives}
use Rattle.loft_walk.proofs.thread.make_steps.Given as goal

-- the run goes on with what is left as it goes on with all, no more is left, and the bound stays
abbrev pub invariant-going : goal.invariant-going
invariant-going l = record {
  same : going (tree (resolved_of (program_of l.program))) l.left (beside_of l.beside) (actives l.running.items)
      ≡ going (tree (resolved_of (program_of l.program))) l.initial.left (beside_of l.initial.beside) (actives l.initial.running.items);
  less : l.left ≤ l.initial.left;
  bound : l.beside.around.bound ≡ l.initial.beside.around.bound;
}

abbrev pub decreases-going : goal.decreases-going
decreases-going l = l.left
