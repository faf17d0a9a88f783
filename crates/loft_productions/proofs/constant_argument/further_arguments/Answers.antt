use Rattle.std.proofs.Common.{refl, sym, arith}
use Rattle.loft_tree.specs.View.{argument_of}
use Rattle.loft_grammar.specs.Expressions.{further}
use Rattle.loft_grammar.specs.Items.{outer_argument}
use Rattle.loft_grammar.specs.Limits.{limits}
use Rattle.loft_grammar.specs.View.{arguments_of}
use Rattle.loft_productions.proofs.Taking.{more_listed, fewer_left, all_listed, appended}
use Rattle.loft_productions.proofs.constant_argument.further_arguments.Goals as goal

pub all-preserved : goal.all-preserved
unfolding outer_argument
all-preserved c =
    more_listed limits 0 (further outer_argument) (arguments_of c.all.arguments) c.args.at.now c.all.at _ (c.all-test.ensures.going refl) c.all.invariant (omega arith)
    (argument_of c.further_argument-one.result) c.further_argument-one.new.at c.push.new.self (arguments_of c.push.new.all) (sym c.if-next_is_sign.ensures) c.further_argument-one.ensures
    (λ h. let p = c.push.ensures.item h in (p.0, appended argument_of c.all.arguments.items c.push.new.all.items c.further_argument-one.result p.1)) c.push.ensures.fault c.push.ensures.cursor

pub all-smaller : goal.all-smaller
unfolding outer_argument
all-smaller c =
    fewer_left limits 0 (further outer_argument) c.all.at c.further_argument-one.new.at c.push.new.self (argument_of c.further_argument-one.result) (c.all-test.ensures.going refl) (omega arith) c.further_argument-one.ensures
    (λ h. (c.push.ensures.item h).0) c.push.ensures.cursor

pub returns-else-next_is_sign : goal.returns-else-next_is_sign
unfolding outer_argument
returns-else-next_is_sign c = all_listed limits 0 (further outer_argument) (arguments_of c.all.arguments) c.args.at.now c.all.at _ c.all.invariant (omega arith) (λ _. sym c.if-next_is_sign.ensures)
