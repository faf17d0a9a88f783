use Rattle.std.proofs.Common.{length}
use Rattle.loft_base.proofs.StreamLemmas.{Taken}
use Rattle.loft_base.proofs.streams.write_whole.Given as goal

-- the piece but for its rest is taken
abbrev pub invariant-rest : goal.invariant-rest
invariant-rest g l = Taken (g.W.Write.contents l.initial.writer) (g.W.Write.contents l.writer) l.rest l.piece

abbrev pub decreases-rest : goal.decreases-rest
decreases-rest g l = length l.rest
