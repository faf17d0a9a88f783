use Rattle.std.proofs.Common.{refl}
use Rattle.loft_listing_draft.specs.declared.draft.OperationLine.{OperationLine}
use Rattle.loft_listing_draft.specs.declared.sofar.OpenModule.{OpenModule}
use Rattle.loft_listing_draft.specs.Drafts.{operation_line}
use Rattle.loft_listing_draft.specs.InMemory.{held_operation}
use Rattle.loft_listing_draft.proofs.TakenLines.{take_more, take_stop, with_module, operation_goes, operation_stays}
use Rattle.loft_listing_draft.proofs.sofar.OpenModule.take_operation.Goals as goal

pub returns-then-is_next-clause-taken : goal.returns-then-is_next-clause-taken
returns-then-is_next-clause-taken c w =
    let o = c.args.self in
    let x : OperationLine = record { at = c.args.at; operation = c.args.operation } in
    let n : OpenModule = record { head = o.head; locals = o.locals; operations = c.push_to.new.all } in
    let next = c.is_next.ensures.0 c.if-is_next.true in
    take_more (with_module c.args.done o) (with_module c.args.done n) c.args.at (operation_line c.args.operation.number (held_operation x).operation) c.more.result c.more.ensures
    (operation_goes c.args.done o n c.args.at c.args.operation.number x next.0 next.1 refl refl (c.push_to.ensures.more w) refl c.requires)

pub returns-else-is_next-clause-taken : goal.returns-else-is_next-clause-taken
returns-else-is_next-clause-taken c w =
    let x : OperationLine = record { at = c.args.at; operation = c.args.operation } in
    let op = (held_operation x).operation in
    take_stop (with_module c.args.done c.args.self) c.args.at (operation_line c.args.operation.number op) c.stop.result c.stop.ensures
    (operation_stays c.args.done c.args.self c.args.at c.args.operation.number op (λ number few. (let there = c.is_next.ensures.1 (number, few) in absurd cc)))
