-- The law is proved in the lemmas on reading.
use Rattle.loft_show.proofs.reads.Law.{canon_is}
use Rattle.loft_show.proofs.law.canon_reads.Goals as goal

pub returns : goal.returns
returns c = canon_is
