use Rattle.std.proofs.Common.{◌+◌, ◌*◌}
use Rattle.loft_form.specs.Form.{many}
use Rattle.loft_grammar.specs.Statements.{statement, body}
use Rattle.loft_grammar.specs.View.{reads, with_front, statement_list_of}
use Rattle.loft_productions.proofs.Taking.{Remains, left_to}
use Rattle.loft_productions.proofs.body.+statement.Given as goal

abbrev pub decreases-conditional : goal.decreases-conditional
decreases-conditional g l = 16 * l.deeper + 0

abbrev pub decreases-looped : goal.decreases-looped
decreases-looped g l = 16 * l.deeper + 0

abbrev pub decreases-moving_statement : goal.decreases-moving_statement
decreases-moving_statement g l = 16 * l.deeper + 1

abbrev pub decreases-statement : goal.decreases-statement
decreases-statement g l = 16 * l.deeper + 2

abbrev pub decreases-body : goal.decreases-body
decreases-body g l = 16 * l.deeper + 3

abbrev pub decreases-otherwise : goal.decreases-otherwise
decreases-otherwise g l = 16 * l.deeper + 4

abbrev pub decreases-branches : goal.decreases-branches
decreases-branches g l = 16 * l.deeper + 5

-- what was read and what is left make up the whole
abbrev pub invariant-body-all : goal.invariant-body-all
invariant-body-all g l = Remains l.fn.at l.at (with_front (statement_list_of l.statements) (reads g.L.Limited.limits l.deeper (many statement) l.at.cursor)) (reads g.L.Limited.limits l.deeper body l.fn.at.cursor)

abbrev pub decreases-body-all : goal.decreases-body-all
decreases-body-all g l = left_to l.at
