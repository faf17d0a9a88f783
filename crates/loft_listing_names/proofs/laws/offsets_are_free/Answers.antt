use Rattle.loft_listing_names.proofs.Offsets.{operation_free}
use Rattle.loft_listing_names.proofs.laws.offsets_are_free.Goals as goal

pub returns : goal.returns
returns c = operation_free
