use Rattle.std.proofs.Common.{sym, ◌∙◌}
use Rattle.loft_compared.proofs.PlaceLemmas.{first_filled}
use Rattle.loft_compared.proofs.place.+from_first_filled.Goals as goal

pub returns-in_default-2-clause-filled : goal.returns-in_default-2-clause-filled
returns-in_default-2-clause-filled t c = first_filled c.args.texts.now c.text-item.result c.text-item.result c.text-item.is (sym c.is_empty.ensures ∙ c.if-is_empty.false)
