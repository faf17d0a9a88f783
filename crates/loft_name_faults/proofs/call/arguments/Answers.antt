use Rattle.std.proofs.Common.{◌∙◌, ◌+◌, ◌++◌, List, refl, drop, map}
use Rattle.std.specs.Prelude.{slice_get}
use Rattle.loft_tree.specs.declared.kinds.Kind.{Kind}
use Rattle.loft_tree.specs.View.{expression_of, named_of}
use Rattle.loft_scopes.specs.declared.error.NameError.{NameError}
use Rattle.loft_scopes.specs.Scopes.{kinds_of}
use Rattle.loft_scopes.specs.Faults.{arguments_faults, begin_of, expression_faults, kind_of, unlike}
use Rattle.loft_scopes.specs.FirstFault.{least_of}
use Rattle.loft_name_faults.proofs.Uses.{next_argument, step}
use Rattle.loft_name_faults.proofs.call.arguments.Goals as goal

pub loop-i-preserved : goal.loop-i-preserved
loop-i-preserved c =
    let kinds : List Kind = kinds_of (map named_of c.args.parameters.now) in
    let e = expression_of c.index-values-i.result in
    let left : List NameError = arguments_faults c.args.table.now c.args.scope (drop (c.loop-i.i + 1) kinds) (map expression_of (drop (c.loop-i.i + 1) c.args.values.now)) in
    let compared : List NameError = unlike (slice_get kinds c.loop-i.i) (kind_of c.args.table.now c.args.scope e) (begin_of e) in
    step c.expression-found.new.least c.unlike.new.least _ (compared ++ left) compared left
    (step c.loop-i.least c.expression-found.new.least _ _ (expression_faults c.args.table.now c.args.scope e) (compared ++ left) c.loop-i.invariant
    (next_argument c.args.table.now c.args.scope kinds c.args.values.now c.loop-i.i c.index-values-i.result c.loop-i-test.true c.index-values-i.is) c.expression-found.ensures.faults)
    refl
    (c.unlike.ensures ∙ (λ j. least_of c.expression-found.new.least (unlike (c.kind_at-wanted.ensures j) (c.expression-found.ensures.kind j) (c.begin_of.ensures j))))
