use Rattle.std.proofs.Common.{refl, sym, arith}
use Rattle.loft_tree.specs.View.{named_of}
use Rattle.loft_grammar.specs.Items.{local}
use Rattle.loft_grammar.specs.Limits.{limits}
use Rattle.loft_grammar.specs.View.{variables_of}
use Rattle.loft_productions.proofs.Taking.{more_listed, fewer_left, all_listed, appended}
use Rattle.loft_productions.proofs.head.locals.Goals as goal

pub all-preserved : goal.all-preserved
unfolding local
all-preserved c =
    more_listed limits 0 local (variables_of c.all.locals) c.args.at.now c.all.at _ (c.all-test.ensures.going refl) c.all.invariant (omega arith)
    (named_of c.local-one.result) c.local-one.new.at c.push.new.self (variables_of c.push.new.all) (sym c.if-next_local.ensures) c.local-one.ensures
    (λ h. let p = c.push.ensures.item h in (p.0, appended named_of c.all.locals.items c.push.new.all.items c.local-one.result p.1)) c.push.ensures.fault c.push.ensures.cursor

pub all-smaller : goal.all-smaller
unfolding local
all-smaller c =
    fewer_left limits 0 local c.all.at c.local-one.new.at c.push.new.self (named_of c.local-one.result) (c.all-test.ensures.going refl) (omega arith) c.local-one.ensures
    (λ h. (c.push.ensures.item h).0) c.push.ensures.cursor

pub returns-else-next_local : goal.returns-else-next_local
unfolding local
returns-else-next_local c = all_listed limits 0 local (variables_of c.all.locals) c.args.at.now c.all.at _ c.all.invariant (omega arith) (λ _. sym c.if-next_local.ensures)
