use Rattle.std.proofs.Common.{sym}
use Rattle.loft_tree.specs.View.{named_of}
use Rattle.loft_grammar.specs.Items.{parameter}
use Rattle.loft_grammar.specs.Limits.{limits}
use Rattle.loft_grammar.specs.View.{variables_of}
use Rattle.loft_productions.proofs.Taking.{listed_is, first_of}
use Rattle.loft_productions.proofs.head.listed.Goals as goal

pub returns-then-next_parameter : goal.returns-then-next_parameter
unfolding parameter
returns-then-next_parameter c =
    listed_is limits 0 parameter c.args.at.now c.parameter-first.new.at c.push.new.self c.further_parameters.new.at (named_of c.parameter-first.result) (variables_of c.push.new.all) (variables_of c.further_parameters.result) (sym c.if-next_parameter.ensures) c.parameter-first.ensures
    (λ h. let p = c.push.ensures.item h in (p.0, first_of named_of c.new-parameters.result.items c.push.new.all.items c.parameter-first.result c.new-parameters.ensures.items p.1))
    c.push.ensures.fault c.push.ensures.cursor c.further_parameters.ensures
