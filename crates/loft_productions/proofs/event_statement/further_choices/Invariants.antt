use Rattle.loft_form.specs.Form.{many}
use Rattle.loft_grammar.specs.Expressions.{further}
use Rattle.loft_grammar.specs.Statements.{choice}
use Rattle.loft_grammar.specs.View.{reads_flat, with_front, event_names_of}
use Rattle.loft_productions.proofs.Taking.{Remains, left_to}
use Rattle.loft_productions.proofs.event_statement.further_choices.Given as goal

-- what was read and what is left make up the whole
abbrev pub invariant-all : goal.invariant-all
invariant-all g l = Remains l.fn.at l.at (with_front (event_names_of l.events) (reads_flat g.L.Limited.limits (many (further choice)) l.at.cursor)) (with_front (event_names_of l.fn.events) (reads_flat g.L.Limited.limits (many (further choice)) l.fn.at.cursor))

abbrev pub decreases-all : goal.decreases-all
decreases-all g l = left_to l.at
