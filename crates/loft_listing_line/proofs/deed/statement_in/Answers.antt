use Rattle.std.proofs.Common.{◌≡◌, sym, subst, ◌∙◌, Some}
use Rattle.std.specs.Option.{option_map}
use Rattle.loft_tree.specs.View.{statement_of}
use Rattle.loft_show.specs.Places.{bare_statement}
use Rattle.loft_listing_line.proofs.Finding.{of_sort, never_other}
use Rattle.loft_listing_line.proofs.deed.statement_in.Goals as goal

pub returns-then-eq-clause-found : goal.returns-then-eq-clause-found
returns-then-eq-clause-found c x of same short =
    subst (λ f. option_map (λ y. bare_statement (statement_of y)) f ≡ Some (bare_statement x)) c.in-Some.is
    (of_sort c.args.sort c.args.text.now c.in_ok-statement.field-0 c.requires c.in_ok-statement.ensures.only x of same short)

pub returns-else-eq-clause-found : goal.returns-else-eq-clause-found
returns-else-eq-clause-found c x of same short =
    absurd (never_other c.args.sort c.statement_sort.result c.in-Some.statement x of.0 c.statement_sort.ensures (sym c.eq.ensures ∙ c.if-eq.false)
    (subst (λ f. option_map (λ y. bare_statement (statement_of y)) f ≡ Some (bare_statement x)) c.in-Some.is
    (of_sort c.args.sort c.args.text.now c.in_ok-statement.field-0 c.requires c.in_ok-statement.ensures.only x of same short)))

pub returns-in-None-clause-found : goal.returns-in-None-clause-found
returns-in-None-clause-found c x of same short =
    subst (λ f. option_map (λ y. bare_statement (statement_of y)) f ≡ Some (bare_statement x)) c.in-None.is
    (of_sort c.args.sort c.args.text.now c.in_ok-statement.field-0 c.requires c.in_ok-statement.ensures.only x of same short)
