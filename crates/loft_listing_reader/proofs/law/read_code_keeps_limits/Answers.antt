-- The law is proved in the lemmas on limits.
use Rattle.loft_listing_reader.proofs.KeepsCode.{numbered_keeps}
use Rattle.loft_listing_reader.proofs.law.read_code_keeps_limits.Goals as goal

pub returns : goal.returns
returns c = numbered_keeps
