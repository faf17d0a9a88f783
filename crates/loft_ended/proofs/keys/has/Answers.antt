use Rattle.std.proofs.Common.{◌∙◌}
use Rattle.loft_ended.proofs.KeyLemmas.{has_found}
use Rattle.loft_ended.proofs.keys.has.Goals as goal

pub returns : goal.returns
returns c = c.is_ok.ensures.value ∙ has_found c.args.numbers.now c.args.number c.binary_search.result c.requires.rising c.binary_search.ensures.position
