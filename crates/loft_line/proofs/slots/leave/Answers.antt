use Rattle.std.proofs.Common.{Option, ap, sym, ◌∙◌, set}
use Rattle.loft_orders.specs.declared.thread.Wait.{Wait}
use Rattle.loft_line.specs.Line.{with_wait}
use Rattle.loft_line.proofs.ListLemmas.{set_there}
use Rattle.loft_line.proofs.slots.leave.Goals as goal

pub returns-in-None-clause-slots : goal.returns-in-None-clause-slots
returns-in-None-clause-slots c = λ r h.
    sym (ap (λ (w : Option Wait). set c.args.slots.now.items c.args.pos (with_wait w r)) (sym c.take.ensures.wait ∙ c.in-None.is) ∙ set_there c.args.slots.now.items c.args.pos r h)
