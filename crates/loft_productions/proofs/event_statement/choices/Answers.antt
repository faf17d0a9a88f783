use Rattle.loft_tree.specs.View.{event_name_of}
use Rattle.loft_grammar.specs.Statements.{choice, choices}
use Rattle.loft_grammar.specs.View.{event_names_of}
use Rattle.loft_productions.proofs.Taking.{two_listed, appended, first_of}
use Rattle.loft_productions.proofs.event_statement.choices.Goals as goal

pub returns : goal.returns
unfolding choice choices
returns g c =
    two_listed g.L.Limited.limits 0 choice c.args.at.now c.choice-first.new.at c.push.new.self c.further_choice-second.new.at c.push-2.new.self c.further_choices.new.at
    (event_name_of c.choice-first.result) (event_name_of c.further_choice-second.result) (event_names_of c.push.new.all) (event_names_of c.push-2.new.all) (event_names_of c.further_choices.result)
    c.choice-first.ensures
    (λ h. let p = c.push.ensures.item h in (p.0, first_of event_name_of c.new-events.result.items c.push.new.all.items c.choice-first.result c.new-events.ensures.items p.1))
    c.push.ensures.fault c.push.ensures.cursor c.further_choice-second.ensures
    (λ h. let p = c.push-2.ensures.item h in (p.0, appended event_name_of c.push.new.all.items c.push-2.new.all.items c.further_choice-second.result p.1))
    c.push-2.ensures.fault c.push-2.ensures.cursor c.further_choices.ensures
