use Rattle.std.proofs.Common.{◌≡◌, true, Some}
use Rattle.loft_order_lines.proofs.PartLemmas.{if_done}
use Rattle.loft_order_lines.proofs.line.read_order.Goals as goal

pub returns-clause-exact : goal.returns-clause-exact
returns-clause-exact c o says =
    if_done c.done.result (c.said-order.new.room.is_whole ≡ true) c.said-order.result (Some o) c.done.ensures.whole c.done.ensures.same (λ w. c.said-order.ensures.exact w o says)
