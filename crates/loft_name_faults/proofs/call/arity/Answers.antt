use Rattle.std.proofs.Common.{◌∙◌, sym, ap, map}
use Rattle.std.specs.Option.{option_map}
use Rattle.loft_tree.specs.View.{named_of}
use Rattle.loft_scopes.specs.Scopes.{kinds_of}
use Rattle.loft_scopes.specs.Faults.{arity_faults}
use Rattle.loft_scopes.specs.FirstFault.{least_of}
use Rattle.loft_name_faults.proofs.Uses.{arity_right, arity_wrong}
use Rattle.loft_name_faults.proofs.call.arity.Goals as goal

pub returns-then-many-parameters : goal.returns-then-many-parameters
returns-then-many-parameters c =
    c.note.ensures ∙ ap (least_of c.args.least.now) (sym (arity_wrong c.args.at c.in-Some.parameters.now c.args.many c.if-many-parameters.true))
    ∙ ap (λ o. least_of c.args.least.now (arity_faults c.args.at (option_map (λ ps. kinds_of (map named_of ps.now)) o) c.args.many)) (sym c.in-Some.is)

pub returns-else-many-parameters : goal.returns-else-many-parameters
returns-else-many-parameters c =
    ap (least_of c.args.least.now) (sym (arity_right c.args.at c.in-Some.parameters.now c.args.many c.if-many-parameters.false))
    ∙ ap (λ o. least_of c.args.least.now (arity_faults c.args.at (option_map (λ ps. kinds_of (map named_of ps.now)) o) c.args.many)) (sym c.in-Some.is)
