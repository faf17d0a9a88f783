use Rattle.loft_form.specs.Form.{many}
use Rattle.loft_grammar.specs.Items.{item, program}
use Rattle.loft_grammar.specs.Limits.{limits, nesting}
use Rattle.loft_grammar.specs.View.{reads, with_front, declarations_of}
use Rattle.loft_productions.proofs.Taking.{Remains, left_to}
use Rattle.loft_productions.proofs.item.items.Given as goal

-- what was read and what is left make up the whole
abbrev pub invariant-all : goal.invariant-all
invariant-all l = Remains l.fn.at l.at (with_front (declarations_of l.items) (reads limits nesting (many item) l.at.cursor)) (reads limits nesting program l.fn.at.cursor)

abbrev pub decreases-all : goal.decreases-all
decreases-all l = left_to l.at
