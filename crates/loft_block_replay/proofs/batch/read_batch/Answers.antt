use Rattle.std.proofs.Common.{◌≡◌, ℕ, List, Some, length, sym, ap, subst, arith}
use Rattle.loft_orders.specs.declared.order.Order.{Order}
use Rattle.loft_standing.specs.Stops.{tree_of}
use Rattle.loft_block_replay.specs.Batch.{order_lines}
use Rattle.loft_block_replay.specs.Reading.{Read}
use Rattle.loft_block_replay.proofs.BatchLemmas.{read_none, lines_cut, read_given, read_only, no_lines}
use Rattle.loft_block_replay.proofs.batch.read_batch.Goals as goal

pub lines-init : goal.lines-init
lines-init c = rw c.new-batch.ensures (read_none (tree_of c.args.p.now) c.args.s (order_lines c.args.instant.now))

pub lines-preserved : goal.lines-preserved
lines-preserved c =
    let cut = lines_cut c.lines.left.now c.cut_at.result.0.now c.cut_at.result.1.now c.cut_at.ensures in
    c.in_ok-goes_on.ensures.goes_on c.if-not-goes_on.false (order_lines c.args.instant.now) (order_lines c.cut_at.result.1.now)
    (subst (λ (ls : List (List ℕ)). Read (tree_of c.args.p.now) c.args.s (order_lines c.args.instant.now) ls c.lines.batch) cut c.lines.invariant)

pub returns-then-not-goes_on-clause-exact : goal.returns-then-not-goes_on-clause-exact
returns-then-not-goes_on-clause-exact c batch given =
    let cut = lines_cut c.lines.left.now c.cut_at.result.0.now c.cut_at.result.1.now c.cut_at.ensures in
    absurd (c.in_ok-goes_on.ensures.stops c.if-not-goes_on.true (order_lines c.args.instant.now) (order_lines c.cut_at.result.1.now)
    (subst (λ (ls : List (List ℕ)). Read (tree_of c.args.p.now) c.args.s (order_lines c.args.instant.now) ls c.lines.batch) cut c.lines.invariant) batch given)

pub returns-clause-given : goal.returns-clause-given
returns-clause-given c =
    let none : length c.lines.left.now ≡ 0 = grind (arith, c.is_empty.ensures, c.lines-test.false) in
    read_given (tree_of c.args.p.now) c.args.s (order_lines c.args.instant.now) (order_lines c.lines.left.now) c.lines.batch (no_lines c.lines.left.now none) c.lines.invariant

pub returns-clause-exact : goal.returns-clause-exact
returns-clause-exact c batch given =
    let none : length c.lines.left.now ≡ 0 = grind (arith, c.is_empty.ensures, c.lines-test.false) in
    ap (λ (k : List Order). Some k) (sym (read_only (tree_of c.args.p.now) c.args.s (order_lines c.args.instant.now) (order_lines c.lines.left.now) c.lines.batch (no_lines c.lines.left.now none) c.lines.invariant batch given))
