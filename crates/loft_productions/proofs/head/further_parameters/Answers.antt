use Rattle.std.proofs.Common.{refl, sym, arith}
use Rattle.loft_tree.specs.View.{named_of}
use Rattle.loft_grammar.specs.Expressions.{further}
use Rattle.loft_grammar.specs.Items.{parameter}
use Rattle.loft_grammar.specs.Limits.{limits}
use Rattle.loft_grammar.specs.View.{variables_of}
use Rattle.loft_productions.proofs.Taking.{more_listed, fewer_left, all_listed, appended}
use Rattle.loft_productions.proofs.head.further_parameters.Goals as goal

pub all-preserved : goal.all-preserved
unfolding parameter
all-preserved c =
    more_listed limits 0 (further parameter) (variables_of c.all.parameters) c.args.at.now c.all.at _ (c.all-test.ensures.going refl) c.all.invariant (omega arith)
    (named_of c.further_parameter-one.result) c.further_parameter-one.new.at c.push.new.self (variables_of c.push.new.all) (sym c.if-next_is_sign.ensures) c.further_parameter-one.ensures
    (λ h. let p = c.push.ensures.item h in (p.0, appended named_of c.all.parameters.items c.push.new.all.items c.further_parameter-one.result p.1)) c.push.ensures.fault c.push.ensures.cursor

pub all-smaller : goal.all-smaller
unfolding parameter
all-smaller c =
    fewer_left limits 0 (further parameter) c.all.at c.further_parameter-one.new.at c.push.new.self (named_of c.further_parameter-one.result) (c.all-test.ensures.going refl) (omega arith) c.further_parameter-one.ensures
    (λ h. (c.push.ensures.item h).0) c.push.ensures.cursor

pub returns-else-next_is_sign : goal.returns-else-next_is_sign
unfolding parameter
returns-else-next_is_sign c = all_listed limits 0 (further parameter) (variables_of c.all.parameters) c.args.at.now c.all.at _ c.all.invariant (omega arith) (λ _. sym c.if-next_is_sign.ensures)
