use Rattle.std.proofs.Common.{ℕ, ◌+◌, ◌*◌}
use Rattle.loft_form.specs.Form.{many}
use Rattle.loft_tree.specs.View.{expression_of}
use Rattle.loft_grammar.specs.Levels.{operation_at, chain_at}
use Rattle.loft_grammar.specs.View.{reads}
use Rattle.loft_grammar.specs.declared.operator.Level.{Level}
use Rattle.loft_grammar.specs.declared.operator.Level.TheVariants.{Product, Sum, Conjunction, Disjunction}
use Rattle.loft_productions.proofs.Chains.{finish}
use Rattle.loft_productions.proofs.Taking.{Remains, left_to}
use Rattle.loft_productions.proofs.expression.+expression.Given as goal

-- above what the operands of the level call
abbrev pub rank : Level → ℕ
rank Product = 3
rank Sum = 6
rank Conjunction = 11
rank Disjunction = 14

abbrev pub decreases-bracketed : goal.decreases-bracketed
decreases-bracketed g l = 20 * l.deeper + 0

abbrev pub decreases-prefixed : goal.decreases-prefixed
decreases-prefixed g l = 20 * l.deeper + 0

abbrev pub decreases-atom : goal.decreases-atom
decreases-atom g l = 20 * l.deeper + 1

abbrev pub decreases-unary : goal.decreases-unary
decreases-unary g l = 20 * l.deeper + 2

abbrev pub decreases-compared : goal.decreases-compared
decreases-compared g l = 20 * l.deeper + 9

abbrev pub decreases-comparison : goal.decreases-comparison
decreases-comparison g l = 20 * l.deeper + 10

abbrev pub decreases-operand : goal.decreases-operand
decreases-operand g l = 20 * l.deeper + rank l.level

abbrev pub decreases-operation : goal.decreases-operation
decreases-operation g l = 20 * l.deeper + (rank l.level + 1)

abbrev pub decreases-chain : goal.decreases-chain
decreases-chain g l = 20 * l.deeper + (rank l.level + 2)

-- what was read of a chain and what is left of it make up the whole
abbrev pub invariant-chain-chain : goal.invariant-chain-chain
invariant-chain-chain g l = Remains l.fn.at l.at (finish (expression_of l.left) (reads g.L.Limited.limits l.deeper (many (operation_at l.level)) l.at.cursor)) (reads g.L.Limited.limits l.deeper (chain_at l.level) l.fn.at.cursor)

abbrev pub decreases-chain-chain : goal.decreases-chain-chain
decreases-chain-chain g l = left_to l.at
