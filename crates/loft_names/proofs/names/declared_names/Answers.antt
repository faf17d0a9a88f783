use Rattle.loft_tree.specs.View.{source_of}
use Rattle.loft_scopes.specs.Faults.{faults}
use Rattle.loft_names.proofs.FirstOf.{first_or_none, found}
use Rattle.loft_scopes.proofs.Numbered.{few_items}
use Rattle.loft_names.proofs.names.declared_names.Goals as goal

pub note_uses-requires : goal.note_uses-requires
note_uses-requires c = few_items c.args.items.now c.requires

pub returns-clause-fault : goal.returns-clause-fault
returns-clause-fault c =
    let p = source_of c.args.items.now in
    first_or_none (faults p) c.note_uses.new.least
    (found p c.in_ok-table.table c.declare_all.new.least c.note_uses.new.least c.in_ok-table.ensures.table c.in_ok-table.ensures.faults c.note_uses.ensures)
