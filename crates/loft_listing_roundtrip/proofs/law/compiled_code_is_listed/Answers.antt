-- The law is proved in the lemmas on compiled code.
use Rattle.loft_listing_roundtrip.proofs.CompiledListed.{compiled_is_listed}
use Rattle.loft_listing_roundtrip.proofs.law.compiled_code_is_listed.Goals as goal

pub returns : goal.returns
returns c = compiled_is_listed
