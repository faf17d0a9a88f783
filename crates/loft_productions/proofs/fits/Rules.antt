-- The rules of the grammar, to be unfolded together.
use Rattle.loft_grammar.specs.Expressions.{builtin, bracketed, atom, negated, inverted, unary, factor, term, summand, sum, equality, ordering, compared, comparison, conjunct, conjunction, disjunct, expression, whole, argument, arguments}
use Rattle.loft_grammar.specs.Statements.{creation, after_comma, time_limit, assigned, assignment, printed, print, create, cooperate, generate, await_event, choice, choices, select, get, join, control, broadcast, link, unlink, run, halt, conditional, while_loop, repeat, value_statement, event_statement, thread_statement, moving_statement, statement, body, condition, otherwise, branches, turns}
use Rattle.loft_grammar.specs.Items.{negative, signed, parameter, parameters, local, place, ending, head, module_item, scheduler_item, event_item, shared_item, outer_argument, outer_arguments, alias, start_item, create_order, control_order, value_after_comma, broadcast_order, order, outside_item, item, program}

-- those of expressions
unfoldable pub expression_rules : Unit {0}
unfolding builtin bracketed atom negated inverted unary factor term summand sum equality ordering compared comparison conjunct conjunction disjunct expression whole
expression_rules = tt

-- those of statements
unfoldable pub statement_rules : Unit {0}
unfolding expression_rules argument arguments creation after_comma time_limit assigned assignment printed print create cooperate generate await_event choice choices select get join control broadcast link unlink run halt conditional while_loop repeat value_statement event_statement thread_statement moving_statement statement body condition otherwise branches turns
statement_rules = tt

-- all of them
unfoldable pub program_rules : Unit {0}
unfolding statement_rules negative signed parameter parameters local place ending head module_item scheduler_item event_item shared_item outer_argument outer_arguments alias start_item create_order control_order value_after_comma broadcast_order order outside_item item program
program_rules = tt
