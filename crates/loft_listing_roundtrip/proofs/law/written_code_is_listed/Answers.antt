-- The law is proved in the lemmas on round trips.
use Rattle.loft_listing_roundtrip.proofs.Roundtrip.{written_is_listing}
use Rattle.loft_listing_roundtrip.proofs.law.written_code_is_listed.Goals as goal

pub returns : goal.returns
returns c = written_is_listing
