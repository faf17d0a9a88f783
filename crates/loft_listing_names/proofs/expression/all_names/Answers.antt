use Rattle.std.proofs.Common.{rules, tests, ◌∙◌, sym}
use Rattle.std.proofs.lemmas.Iterator.{YieldsList-from_slice}
use Rattle.std.proofs.lemmas.Iterator.Search.{all_from_yields_List}
use Rattle.std.proofs.lemmas.List.Folds.{list_all-map}
use Rattle.loft_tree.specs.View.{expression_of}
use Rattle.loft_listing_names.specs.Named.{expression_names}
use Rattle.loft_listing_names.proofs.expression.all_names.Goals as goal

pub returns : goal.returns
returns c =
    all_from_yields_List (λ e. expression_names c.args.table.now c.args.scope (expression_of e)) _ _ _ c.all.ensures.ran
    (YieldsList-from_slice c.args.es.now cc) (λ x b q k. search (rules, tests))
    ∙ sym (list_all-map (expression_names c.args.table.now c.args.scope) expression_of c.args.es.now)
