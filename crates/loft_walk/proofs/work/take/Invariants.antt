use Rattle.std.proofs.Common.{◌≡◌, vec_len}
use Rattle.loft_walk.specs.Pieces.{work_of}
use Rattle.loft_walk.proofs.work.take.Given as goal

-- the same work is left
abbrev pub invariant-taking : goal.invariant-taking
invariant-taking l = work_of l.work.items ≡ work_of l.fn.work.items

abbrev pub decreases-taking : goal.decreases-taking
decreases-taking l = vec_len l.work
