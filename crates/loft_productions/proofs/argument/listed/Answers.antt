use Rattle.std.proofs.Common.{sym}
use Rattle.loft_tree.specs.View.{expression_of}
use Rattle.loft_grammar.specs.Expressions.{argument}
use Rattle.loft_grammar.specs.View.{expressions_of}
use Rattle.loft_productions.proofs.Taking.{listed_is, first_of}
use Rattle.loft_productions.proofs.argument.listed.Goals as goal

pub returns-then-next_expression : goal.returns-then-next_expression
unfolding argument
returns-then-next_expression g c =
    listed_is g.L.Limited.limits c.args.deeper argument c.args.at.now c.argument-first.new.at c.push.new.self c.further_arguments.new.at (expression_of c.argument-first.result) (expressions_of c.push.new.all) (expressions_of c.further_arguments.result) (sym c.if-next_expression.ensures) c.argument-first.ensures
    (λ h. let p = c.push.ensures.item h in (p.0, first_of expression_of c.new-arguments.result.items c.push.new.all.items c.argument-first.result c.new-arguments.ensures.items p.1))
    c.push.ensures.fault c.push.ensures.cursor c.further_arguments.ensures
