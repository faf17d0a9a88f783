use Rattle.std.proofs.Common.{◌≡◌, ◌++◌, vec_len}
use Rattle.std.specs.Prelude.{map}
use Rattle.loft_tree.specs.Resolved.{Resolved}
use Rattle.loft_sense.specs.Tree.{tree}
use Rattle.loft_sense.specs.Run.{frame_of}
use Rattle.loft_walk.specs.Frames.{active}
use Rattle.loft_walk.proofs.stopping.keep_all.Given as goal

-- those so far, and then the rest
abbrev pub invariant-keeping : goal.invariant-keeping
invariant-keeping l = (p : Resolved) → map (frame_of (tree p)) (map active l.fn.running.items) ≡ l.frames.items ++ map (frame_of (tree p)) (map active l.running.items)

abbrev pub decreases-keeping : goal.decreases-keeping
decreases-keeping l = vec_len l.running
