use Rattle.std.proofs.Common.{refl, sym, arith}
use Rattle.loft_tree.specs.View.{declaration_of}
use Rattle.loft_grammar.specs.Items.{item, scheduler_item, event_item, shared_item, module_item, head, start_item, outside_item, program}
use Rattle.loft_grammar.specs.Limits.{limits, nesting}
use Rattle.loft_grammar.specs.View.{declarations_of}
use Rattle.loft_productions.proofs.Taking.{more_listed, fewer_left, all_listed, appended}
use Rattle.loft_productions.proofs.item.items.Goals as goal

pub all-preserved : goal.all-preserved
unfolding item scheduler_item event_item shared_item module_item head start_item outside_item program
all-preserved c =
    more_listed limits nesting item (declarations_of c.all.items) c.args.at.now c.all.at _ (c.all-test.ensures.going refl) c.all.invariant (omega arith)
    (declaration_of c.item-one.result) c.item-one.new.at c.push.new.self (declarations_of c.push.new.all) (sym c.if-next_item.ensures) c.item-one.ensures
    (λ h. let p = c.push.ensures.item h in (p.0, appended declaration_of c.all.items.items c.push.new.all.items c.item-one.result p.1)) c.push.ensures.fault c.push.ensures.cursor

pub all-smaller : goal.all-smaller
unfolding item scheduler_item event_item shared_item module_item head start_item outside_item program
all-smaller c =
    fewer_left limits nesting item c.all.at c.item-one.new.at c.push.new.self (declaration_of c.item-one.result) (c.all-test.ensures.going refl) (omega arith) c.item-one.ensures
    (λ h. (c.push.ensures.item h).0) c.push.ensures.cursor

pub returns-else-next_item : goal.returns-else-next_item
unfolding item scheduler_item event_item shared_item module_item head start_item outside_item program
returns-else-next_item c = all_listed limits nesting item (declarations_of c.all.items) c.args.at.now c.all.at _ c.all.invariant (omega arith) (λ _. sym c.if-next_item.ensures)
