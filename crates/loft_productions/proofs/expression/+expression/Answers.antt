use Rattle.std.proofs.Common.{refl, sym}
use Rattle.loft_tree.specs.View.{expression_of}
use Rattle.loft_grammar.specs.Levels.{operation_at}
use Rattle.loft_grammar.specs.View.{symbols_at, state_at, operation_of}
use Rattle.loft_productions.proofs.Alone.{alone}
use Rattle.loft_productions.proofs.Chains.{least_operation}
use Rattle.loft_productions.proofs.Taking.{more_chained, fewer_left, all_chained}
use Rattle.loft_productions.proofs.expression.+expression.Goals as goal

pub chain-chain-preserved : goal.chain-chain-preserved
chain-chain-preserved g t c =
    more_chained g.L.Limited.limits c.args.deeper (operation_at c.args.level) (expression_of c.chain.left) c.args.at.now c.chain.at _ (c.chain-test.ensures.going refl) c.chain.invariant (least_operation c.args.level)
    (operation_of c.operation-operator.result) c.operation-operator.new.at c.binary-left.new.at (expression_of c.binary-left.result) (sym c.if-next_operation.ensures) c.operation-operator.ensures
    c.binary-left.ensures.made c.binary-left.ensures.fault c.binary-left.ensures.cursor

pub chain-chain-smaller : goal.chain-chain-smaller
chain-chain-smaller g t c =
    fewer_left g.L.Limited.limits c.args.deeper (operation_at c.args.level) c.chain.at c.operation-operator.new.at c.binary-left.new.at (operation_of c.operation-operator.result) (c.chain-test.ensures.going refl) (least_operation c.args.level) c.operation-operator.ensures
    (λ h. (c.binary-left.ensures.made h).0) c.binary-left.ensures.cursor

pub chain-returns-else-next_operation : goal.chain-returns-else-next_operation
chain-returns-else-next_operation g t c =
    all_chained g.L.Limited.limits c.args.deeper (operation_at c.args.level) (expression_of c.chain.left) c.args.at.now c.chain.at _ c.chain.invariant (least_operation c.args.level) (λ _. sym c.if-next_operation.ensures)

pub chain-returns-then-next_stands_alone : goal.chain-returns-then-next_stands_alone
chain-returns-then-next_stands_alone g t c = rw (alone g.L.Limited.limits c.args.deeper c.args.level (symbols_at c.args.at.now.cursor) (state_at c.args.at.now.cursor) (sym c.if-next_stands_alone.ensures)) c.unary.ensures
