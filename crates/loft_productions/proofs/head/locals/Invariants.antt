use Rattle.loft_form.specs.Form.{many, fresh}
use Rattle.loft_grammar.specs.declared.counts.Counted.TheVariants as count
use Rattle.loft_grammar.specs.Items.{local}
use Rattle.loft_grammar.specs.Limits.{limits}
use Rattle.loft_grammar.specs.View.{reads_flat, with_front, variables_of}
use Rattle.loft_productions.proofs.Taking.{Remains, left_to}
use Rattle.loft_productions.proofs.head.locals.Given as goal

-- what was read and what is left make up the whole
abbrev pub invariant-all : goal.invariant-all
invariant-all l = Remains l.fn.at l.at (with_front (variables_of l.locals) (reads_flat limits (many local) l.at.cursor)) (reads_flat limits (fresh count.Local (many local)) l.fn.at.cursor)

abbrev pub decreases-all : goal.decreases-all
decreases-all l = left_to l.at
