use Rattle.std.proofs.Common.{refl, sym, arith}
use Rattle.loft_tree.specs.View.{event_name_of}
use Rattle.loft_grammar.specs.Expressions.{further}
use Rattle.loft_grammar.specs.Statements.{choice}
use Rattle.loft_grammar.specs.View.{event_names_of}
use Rattle.loft_productions.proofs.Taking.{more_listed, fewer_left, all_listed, appended}
use Rattle.loft_productions.proofs.event_statement.further_choices.Goals as goal

pub all-preserved : goal.all-preserved
all-preserved g c =
    more_listed g.L.Limited.limits 0 (further choice) (event_names_of c.all.events) c.args.at.now c.all.at _ (c.all-test.ensures.going refl) c.all.invariant (omega arith)
    (event_name_of c.further_choice-one.result) c.further_choice-one.new.at c.push.new.self (event_names_of c.push.new.all) (sym c.if-next_is_sign.ensures) c.further_choice-one.ensures
    (λ h. let p = c.push.ensures.item h in (p.0, appended event_name_of c.all.events.items c.push.new.all.items c.further_choice-one.result p.1)) c.push.ensures.fault c.push.ensures.cursor

pub all-smaller : goal.all-smaller
all-smaller g c =
    fewer_left g.L.Limited.limits 0 (further choice) c.all.at c.further_choice-one.new.at c.push.new.self (event_name_of c.further_choice-one.result) (c.all-test.ensures.going refl) (omega arith) c.further_choice-one.ensures
    (λ h. (c.push.ensures.item h).0) c.push.ensures.cursor

pub returns-else-next_is_sign : goal.returns-else-next_is_sign
returns-else-next_is_sign g c = all_listed g.L.Limited.limits 0 (further choice) (event_names_of c.all.events) c.args.at.now c.all.at _ c.all.invariant (omega arith) (λ _. sym c.if-next_is_sign.ensures)
