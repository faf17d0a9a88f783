use Rattle.loft_form.specs.Form.{many}
use Rattle.loft_grammar.specs.Expressions.{further}
use Rattle.loft_grammar.specs.Items.{outer_argument}
use Rattle.loft_grammar.specs.Limits.{limits}
use Rattle.loft_grammar.specs.View.{reads_flat, with_front, arguments_of}
use Rattle.loft_productions.proofs.Taking.{Remains, left_to}
use Rattle.loft_productions.proofs.constant_argument.further_arguments.Given as goal

-- what was read and what is left make up the whole
abbrev pub invariant-all : goal.invariant-all
invariant-all l = Remains l.fn.at l.at (with_front (arguments_of l.arguments) (reads_flat limits (many (further outer_argument)) l.at.cursor)) (with_front (arguments_of l.fn.arguments) (reads_flat limits (many (further outer_argument)) l.fn.at.cursor))

abbrev pub decreases-all : goal.decreases-all
decreases-all l = left_to l.at
