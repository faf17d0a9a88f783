use Rattle.std.proofs.Common.{◌∙◌}
use Rattle.loft_lock_forms.proofs.writing.put_form.Goals as goal

pub returns-in-Declares-clause-text : goal.returns-in-Declares-clause-text
returns-in-Declares-clause-text c w rest =
    let w2 = c.put_giver.ensures.before w in
    rw c.in-Declares.is (c.put_giver.ensures.text w rest ∙ (c.put_taker.ensures.text w2 _ ∙ c.put_heads.ensures.text (c.put_taker.ensures.before w2) _))

pub returns-in-Gives-clause-text : goal.returns-in-Gives-clause-text
returns-in-Gives-clause-text c w rest = rw c.in-Gives.is (c.put_run-in-Gives.ensures.text w rest)
