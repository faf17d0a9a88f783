use Rattle.std.proofs.Common.{◌∙◌, ◌+◌, ap, drop, arith}
use Rattle.loft_tree.specs.View.{declaration_of, source_of}
use Rattle.loft_scopes.specs.Modules.{next_module}
use Rattle.loft_scopes.specs.Faults.{declaration_uses, uses_from}
use Rattle.loft_scopes.specs.FirstFault.{least_of}
use Rattle.loft_name_faults.proofs.Uses.{next_item, next_module-le, step}
use Rattle.loft_name_faults.proofs.item.note_uses.Goals as goal

pub loop-one-preserved : goal.loop-one-preserved
loop-one-preserved c = record {
  few = let le = next_module-le c.loop-one.number (declaration_of c.one-item.result) in omega arith;
  rest =
      ap (λ n. least_of c.item.new.least (uses_from c.args.table.now n (source_of (drop (c.loop-one.one-index + 1) c.args.declared.now)))) c.next_module-number.ensures
      ∙ step c.loop-one.least c.item.new.least _ _ (declaration_uses c.args.table.now c.loop-one.number (declaration_of c.one-item.result))
      (uses_from c.args.table.now (next_module c.loop-one.number (declaration_of c.one-item.result)) (source_of (drop (c.loop-one.one-index + 1) c.args.declared.now)))
      c.loop-one.invariant.rest
      (next_item c.args.table.now c.loop-one.number c.args.declared.now c.loop-one.one-index c.one-item.result c.loop-one-test.true c.one-item.is)
      c.item.ensures;
}
