-- The levels of operators that group to the left: at each, operands with operators between them.
use Rattle.loft_tree.specs.declared.kinds.BinaryOperator.{BinaryOperator}
use Rattle.loft_tree.specs.declared.kinds.BinaryOperator.TheVariants as o
use Rattle.loft_tree.specs.Source.{Expression}
use Rattle.loft_lex.specs.declared.sign.Sign.TheVariants as s
use Rattle.loft_form.specs.Form.{◌▹◌, many, made}
use Rattle.loft_grammar.specs.declared.operator.Level.{Level}
use Rattle.loft_grammar.specs.declared.operator.Level.TheVariants.{Product, Sum, Conjunction, Disjunction}
use Rattle.loft_grammar.specs.Symbols.{Form}
use Rattle.loft_grammar.specs.Expressions.{chain, operator, multiplying, unary, adding, term, comparison, conjunction}

-- the operators of the level
abbrev pub operator_at : Level → Form BinaryOperator
operator_at Product = multiplying
operator_at Sum = adding
operator_at Conjunction = operator s.And o.And
operator_at Disjunction = operator s.Or o.Or

-- the operands of the level
abbrev pub operand_at : Level → Form Expression
operand_at Product = unary
operand_at Sum = term
operand_at Conjunction = comparison
operand_at Disjunction = conjunction

-- an operator, and the operand after it
abbrev pub operation_at : Level → Form (BinaryOperator × Expression)
operation_at level = operator_at level ▹ operand_at level

-- an operand and the operations after it: `term`, `sum`, `conjunction` and `expression`
abbrev pub chain_at : Level → Form Expression
chain_at level = made (λ x. chain x.0 x.1) (operand_at level ▹ many (operation_at level))
