use Rattle.loft_form.specs.Form.{many}
use Rattle.loft_grammar.specs.Expressions.{further, argument}
use Rattle.loft_grammar.specs.View.{reads, with_front, expressions_of}
use Rattle.loft_productions.proofs.Taking.{Remains, left_to}
use Rattle.loft_productions.proofs.argument.further_arguments.Given as goal

-- what was read and what is left make up the whole
abbrev pub invariant-all : goal.invariant-all
invariant-all g l = Remains l.fn.at l.at (with_front (expressions_of l.arguments) (reads g.L.Limited.limits l.deeper (many (further argument)) l.at.cursor)) (with_front (expressions_of l.fn.arguments) (reads g.L.Limited.limits l.deeper (many (further argument)) l.fn.at.cursor))

abbrev pub decreases-all : goal.decreases-all
decreases-all g l = left_to l.at
