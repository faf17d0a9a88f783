use Rattle.loft_form.specs.Form.{many}
use Rattle.loft_grammar.specs.Expressions.{further}
use Rattle.loft_grammar.specs.Items.{parameter}
use Rattle.loft_grammar.specs.Limits.{limits}
use Rattle.loft_grammar.specs.View.{reads_flat, with_front, variables_of}
use Rattle.loft_productions.proofs.Taking.{Remains, left_to}
use Rattle.loft_productions.proofs.head.further_parameters.Given as goal

-- what was read and what is left make up the whole
abbrev pub invariant-all : goal.invariant-all
invariant-all l = Remains l.fn.at l.at (with_front (variables_of l.parameters) (reads_flat limits (many (further parameter)) l.at.cursor)) (with_front (variables_of l.fn.parameters) (reads_flat limits (many (further parameter)) l.fn.at.cursor))

abbrev pub decreases-all : goal.decreases-all
decreases-all l = left_to l.at
