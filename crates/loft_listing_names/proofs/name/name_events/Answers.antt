use Rattle.std.proofs.Common.{rules, tests, ◌∙◌, sym}
use Rattle.std.proofs.lemmas.Iterator.{YieldsList-from_slice}
use Rattle.std.proofs.lemmas.Iterator.Search.{all_from_yields_List}
use Rattle.std.proofs.lemmas.List.Folds.{list_all-map}
use Rattle.loft_tree.specs.View.{event_name_of}
use Rattle.loft_listing_names.specs.Named.{names_event}
use Rattle.loft_listing_names.proofs.name.name_events.Goals as goal

pub returns : goal.returns
returns c =
    all_from_yields_List (λ event. names_event c.args.table.now c.args.scope (event_name_of event)) _ _ _ c.all.ensures.ran
    (YieldsList-from_slice c.args.events.now cc) (λ x b q k. search (rules, tests))
    ∙ sym (list_all-map (names_event c.args.table.now c.args.scope) event_name_of c.args.events.now)
