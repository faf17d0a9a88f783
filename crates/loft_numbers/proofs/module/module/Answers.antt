use Rattle.std.proofs.Common.{◌≡◌, ◌≤◌, sym, subst, ap, ◌∙◌, ℕ, arith}
use Rattle.std.specs.Global.{Vec}
use Rattle.loft_tree.specs.declared.named.NamedStmt.{NamedStmt}
use Rattle.loft_tree.specs.NamedView as view
use Rattle.loft_tree.specs.View.{statements_of}
use Rattle.loft_tree.specs.declared.limits.TheConstants.{MAX_STATEMENTS}
use Rattle.loft_tree.specs.Stops as named
use Rattle.loft_tree.specs.Fits.{size}
use Rattle.loft_scopes.specs.declared.scope.Scope.TheVariants.{Within}
use Rattle.loft_numbers.proofs.Sizes.{body_stops-le, size_kept}
use Rattle.loft_numbers.proofs.module.module.Goals as goal

pub body-body-requires : goal.body-body-requires
body-body-requires c = omega (arith, c.requires, body_stops-le (statements_of c.args.statements.now))

pub invariant_of-result : goal.invariant_of-result
invariant_of-result c =
    let same : named.size (view.statements_of c.in_ok-body.body.items) ≡ size (statements_of c.args.statements.now) =
    ap (λ (body : Vec NamedStmt). named.size (view.statements_of body.items)) c.in_ok-body.ensures.same ∙ ap named.size (c.body-body.ensures.body c.in_ok-body.ensures.whole)
    ∙ size_kept c.args.table.now (Within c.args.number) (statements_of c.args.statements.now) 0 in
    record { few = subst (λ (n : ℕ). n ≤ MAX_STATEMENTS) (sym same) c.requires }
