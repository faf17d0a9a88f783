use Rattle.std.proofs.Common.{◌∙◌}
use Rattle.loft_show.proofs.Texts.{list_text}
use Rattle.loft_show.proofs.list.put_separated.Goals as goal

pub returns-clause-text : goal.returns-clause-text
returns-clause-text g c = λ w.
    c.put_further.ensures.text w ∙ rw (c.put.ensures.text (c.put_further.ensures.before w)) (list_text g.T.Listed.pieces c.args.out.now.text.items c.args.items.now c.first-item.result c.in-len1-up.len_at_least c.first-item.is)
