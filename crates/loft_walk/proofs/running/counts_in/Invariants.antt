use Rattle.std.proofs.Common.{◌≡◌, take}
use Rattle.std.specs.Prelude.{reverse}
use Rattle.loft_sense.specs.Tree.{counts_in}
use Rattle.loft_walk.specs.Pieces.{work_of}
use Rattle.loft_walk.proofs.running.counts_in.Given as goal

-- the counts so far
abbrev pub invariant-loop-piece : goal.invariant-loop-piece
invariant-loop-piece l = l.counts ≡ reverse (counts_in (work_of (take l.piece-index l.work)))
