use Rattle.std.proofs.Common.{◌≤◌, length, sym, subst}
use Rattle.std.proofs.lemmas.List.Sums.{prefix_len-le-length}
use Rattle.loft_instant_text.proofs.EndLemmas.{own_ends, left_in_order}
use Rattle.loft_instant_text.proofs.ends.ends_from.Goals as goal

pub split_at-requires : goal.split_at-requires
split_at-requires c = subst (λ n. n ≤ length c.args.left.now) (sym c.leading_ends.ensures) (prefix_len-le-length _ c.args.left.now)

pub returns-then-in_order-clause-here : goal.returns-then-in_order-clause-here
returns-then-in_order-clause-here c = λ all are. own_ends c.args.in_order all c.args.left.now c.split_at.result.0.now c.args.index c.leading_ends.result c.if-in_order.true c.leading_ends.ensures c.split_at.ensures.front are

pub returns-then-in_order-clause-rest : goal.returns-then-in_order-clause-rest
returns-then-in_order-clause-rest c = λ all are. left_in_order c.args.in_order all c.args.left.now c.split_at.result.1.now c.args.index c.leading_ends.result c.if-in_order.true c.leading_ends.ensures c.split_at.ensures.back are
