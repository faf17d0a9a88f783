use Rattle.std.proofs.Common.{◌≡◌, subst, Some, Ok, false, IsTrue}
use Rattle.std.specs.Option.{option_map}
use Rattle.loft_tree.specs.View.{declaration_of}
use Rattle.loft_show.specs.Places.{bare_declaration}
use Rattle.loft_listing_line.proofs.Finding.{declaration_found, none_found, one_line_found}
use Rattle.loft_listing_line.proofs.part.item.Goals as goal

pub returns-then-is_one_line-clause-found : goal.returns-then-is_one_line-clause-found
returns-then-is_one_line-clause-found c x fits same short =
    subst (λ f. option_map (λ v. bare_declaration (declaration_of v)) f ≡ Some (bare_declaration x)) c.in-Some.is
    (declaration_found c.args.line.now (Ok c.in_ok-item.field-0) c.in_ok-item.ensures.only x fits.1 same short)

pub returns-else-is_one_line-clause-found : goal.returns-else-is_one_line-clause-found
returns-else-is_one_line-clause-found c x fits same short =
    let found = subst (λ f. option_map (λ v. bare_declaration (declaration_of v)) f ≡ Some (bare_declaration x)) c.in-Some.is
    (declaration_found c.args.line.now (Ok c.in_ok-item.field-0) c.in_ok-item.ensures.only x fits.1 same short) in
    let never : IsTrue false = subst IsTrue c.if-is_one_line.false (c.is_one_line.ensures.1 (one_line_found c.in-Some.item x fits.0 found)) in
    absurd cc

pub returns-in-None-clause-found : goal.returns-in-None-clause-found
returns-in-None-clause-found c x fits same short =
    absurd (none_found declaration_of bare_declaration c.in_ok-item.field-0 x c.in-None.is
    (declaration_found c.args.line.now (Ok c.in_ok-item.field-0) c.in_ok-item.ensures.only x fits.1 same short))
