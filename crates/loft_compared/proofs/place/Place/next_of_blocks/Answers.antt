use Rattle.std.proofs.Common.{◌∙◌}
use Rattle.loft_compared.proofs.PlaceLemmas.{its_first}
use Rattle.loft_compared.proofs.place.Place.next_of_blocks.Goals as goal

pub returns-in-len1-up-clause-some : goal.returns-in-len1-up-clause-some
returns-in-len1-up-clause-some c =
    its_first c.from_first_filled-self.result.now c.instant-item.result c.as_slice.result.now c.from_first_filled-self.ensures.filled c.in-len1-up.len_at_least (c.as_slice.ensures ∙ c.instant-item.is)
