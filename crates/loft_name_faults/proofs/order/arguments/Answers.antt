use Rattle.std.proofs.Common.{◌∙◌, ◌+◌, ◌++◌, List, refl, drop, map}
use Rattle.std.specs.Prelude.{slice_get}
use Rattle.loft_tree.specs.declared.kinds.Kind.{Kind}
use Rattle.loft_tree.specs.View.{argument_of, named_of}
use Rattle.loft_scopes.specs.declared.error.NameError.{NameError}
use Rattle.loft_scopes.specs.Scopes.{kinds_of}
use Rattle.loft_scopes.specs.Faults.{outer_faults, argument_at, argument_faults, argument_kind, unlike}
use Rattle.loft_scopes.specs.FirstFault.{least_of}
use Rattle.loft_name_faults.proofs.Uses.{next_outer, step}
use Rattle.loft_name_faults.proofs.order.arguments.Goals as goal

pub loop-i-preserved : goal.loop-i-preserved
loop-i-preserved c =
    let kinds : List Kind = kinds_of (map named_of c.args.parameters.now) in
    let a = argument_of c.index-values-i.result in
    let left : List NameError = outer_faults c.args.table.now c.args.scope (drop (c.loop-i.i + 1) kinds) (map argument_of (drop (c.loop-i.i + 1) c.args.values.now)) in
    let compared : List NameError = unlike (slice_get kinds c.loop-i.i) (argument_kind c.args.table.now c.args.scope a) (argument_at a) in
    step c.argument-found.new.least c.unlike.new.least _ (compared ++ left) compared left
    (step c.loop-i.least c.argument-found.new.least _ _ (argument_faults c.args.table.now c.args.scope a) (compared ++ left) c.loop-i.invariant
    (next_outer c.args.table.now c.args.scope kinds c.args.values.now c.loop-i.i c.index-values-i.result c.loop-i-test.true c.index-values-i.is) c.argument-found.ensures.faults)
    refl
    (c.unlike.ensures ∙ (λ j. least_of c.argument-found.new.least (unlike (c.kind_at-wanted.ensures j) (c.argument-found.ensures.kind j) (c.argument_at.ensures j))))
