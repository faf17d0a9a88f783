use Rattle.std.proofs.Common.{sym}
use Rattle.loft_tree.specs.View.{argument_of}
use Rattle.loft_grammar.specs.Items.{outer_argument}
use Rattle.loft_grammar.specs.Limits.{limits}
use Rattle.loft_grammar.specs.View.{arguments_of}
use Rattle.loft_productions.proofs.Taking.{listed_is, first_of}
use Rattle.loft_productions.proofs.constant_argument.listed.Goals as goal

pub returns-then-next_outer_argument : goal.returns-then-next_outer_argument
unfolding outer_argument
returns-then-next_outer_argument c =
    listed_is limits 0 outer_argument c.args.at.now c.outer_argument-first.new.at c.push.new.self c.further_arguments.new.at (argument_of c.outer_argument-first.result) (arguments_of c.push.new.all) (arguments_of c.further_arguments.result) (sym c.if-next_outer_argument.ensures) c.outer_argument-first.ensures
    (λ h. let p = c.push.ensures.item h in (p.0, first_of argument_of c.new-arguments.result.items c.push.new.all.items c.outer_argument-first.result c.new-arguments.ensures.items p.1))
    c.push.ensures.fault c.push.ensures.cursor c.further_arguments.ensures
