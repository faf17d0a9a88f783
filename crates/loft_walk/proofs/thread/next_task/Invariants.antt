use Rattle.std.proofs.Common.{◌≡◌, vec_len}
use Rattle.loft_tree.specs.Resolved.{Resolved}
use Rattle.loft_sense.specs.Tree.{tree}
use Rattle.loft_sense.specs.Run.{live}
use Rattle.loft_walk.specs.Frames.{actives}
use Rattle.loft_walk.proofs.thread.next_task.Given as goal

-- the same frames are live
abbrev pub invariant-seeking : goal.invariant-seeking
invariant-seeking l = (p : Resolved) → live (tree p) (actives l.running.items) ≡ live (tree p) (actives l.initial.running.items)

abbrev pub decreases-seeking : goal.decreases-seeking
decreases-seeking l = vec_len l.running
