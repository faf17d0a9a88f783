use Rattle.std.proofs.Common.{refl, sym, arith}
use Rattle.loft_tree.specs.View.{expression_of}
use Rattle.loft_grammar.specs.Expressions.{further, argument}
use Rattle.loft_grammar.specs.View.{expressions_of}
use Rattle.loft_productions.proofs.Taking.{more_listed, fewer_left, all_listed, appended}
use Rattle.loft_productions.proofs.argument.further_arguments.Goals as goal

pub all-preserved : goal.all-preserved
all-preserved g c =
    more_listed g.L.Limited.limits c.args.deeper (further argument) (expressions_of c.all.arguments) c.args.at.now c.all.at _ (c.all-test.ensures.going refl) c.all.invariant (omega arith)
    (expression_of c.further_argument-one.result) c.further_argument-one.new.at c.push.new.self (expressions_of c.push.new.all) (sym c.if-next_is_sign.ensures) c.further_argument-one.ensures
    (λ h. let p = c.push.ensures.item h in (p.0, appended expression_of c.all.arguments.items c.push.new.all.items c.further_argument-one.result p.1)) c.push.ensures.fault c.push.ensures.cursor

pub all-smaller : goal.all-smaller
all-smaller g c =
    fewer_left g.L.Limited.limits c.args.deeper (further argument) c.all.at c.further_argument-one.new.at c.push.new.self (expression_of c.further_argument-one.result) (c.all-test.ensures.going refl) (omega arith) c.further_argument-one.ensures
    (λ h. (c.push.ensures.item h).0) c.push.ensures.cursor

pub returns-else-next_is_sign : goal.returns-else-next_is_sign
returns-else-next_is_sign g c = all_listed g.L.Limited.limits c.args.deeper (further argument) (expressions_of c.all.arguments) c.args.at.now c.all.at _ c.all.invariant (omega arith) (λ _. sym c.if-next_is_sign.ensures)
