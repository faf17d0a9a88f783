use Rattle.std.proofs.Common.{map, subst}
use Rattle.std.proofs.lemmas.List.{take_all}
use Rattle.loft_listing_draft.specs.InMemory.{held_operation}
use Rattle.loft_listing_names.specs.Wrong.{operation_wrong, operations_wrong}
use Rattle.loft_listing_reader.specs.AllWrong.{IsLeastOf}
use Rattle.loft_listing_reader.proofs.Items.{one_more}
use Rattle.loft_listing_reader.proofs.wrong.first_wrong.Goals as goal

pub loop-operation-preserved : goal.loop-operation-preserved
loop-operation-preserved c =
    subst (IsLeastOf c.earlier-first.result)
    (one_more (operation_wrong c.args.table.now c.args.scope) held_operation c.args.operations.now c.loop-operation.operation-index c.operation-item.result c.loop-operation-test.true c.operation-item.is)
    (c.earlier-first.ensures _ _ c.loop-operation.invariant c.wrong_at.ensures)

pub returns : goal.returns
returns c =
    subst (λ os. IsLeastOf c.loop-operation.first (operations_wrong c.args.table.now c.args.scope (map held_operation os)))
    (take_all c.loop-operation.operation-index c.args.operations.now c.loop-operation-test.false) c.loop-operation.invariant
