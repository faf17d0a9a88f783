use Rattle.std.proofs.Common.{length}
use Rattle.loft_standing.specs.Stops.{tree_of}
use Rattle.loft_block_replay.specs.Batch.{order_lines}
use Rattle.loft_block_replay.specs.Reading.{Read}
use Rattle.loft_block_replay.proofs.batch.read_batch.Given as goal

-- the orders of the lines so far were read
abbrev pub invariant-lines : goal.invariant-lines
invariant-lines l = Read (tree_of l.p) l.s (order_lines l.instant) (order_lines l.left) l.batch

abbrev pub decreases-lines : goal.decreases-lines
decreases-lines l = length l.left
