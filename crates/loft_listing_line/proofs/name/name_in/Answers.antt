use Rattle.std.proofs.Common.{◌∙◌}
use Rattle.loft_tree.specs.Source.{Variable}
use Rattle.loft_tree.specs.View.{expression_of}
use Rattle.loft_show.specs.Places.{bare_expression}
use Rattle.loft_listing_line.proofs.Finding.{name_found, none_found, value_named}
use Rattle.loft_listing_line.proofs.name.name_in.Goals as goal

pub returns-in-Some-clause-found : goal.returns-in-Some-clause-found
returns-in-Some-clause-found c x fits same short =
    let found = name_found x c.args.bytes.now c.as_slice.result.now c.in_ok-value.field-0 fits same (c.as_slice.ensures.value ∙ c.in_ok-line.ensures) c.in_ok-value.ensures.found in
    c.name_of.ensures.found x (value_named x c.in-Some.value c.in_ok-value.field-0 c.in-Some.is found)

pub returns-clause-found : goal.returns-clause-found
returns-clause-found c x fits same short =
    let found = name_found x c.args.bytes.now c.as_slice.result.now c.in_ok-value.field-0 fits same (c.as_slice.ensures.value ∙ c.in_ok-line.ensures) c.in_ok-value.ensures.found in
    absurd (none_found expression_of bare_expression c.in_ok-value.field-0 (Variable x) c.in-None.is found)
