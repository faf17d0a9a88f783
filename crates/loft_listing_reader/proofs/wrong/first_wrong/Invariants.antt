use Rattle.std.proofs.Common.{map, take}
use Rattle.loft_listing_draft.specs.InMemory.{held_operation}
use Rattle.loft_listing_names.specs.Wrong.{operations_wrong}
use Rattle.loft_listing_reader.specs.AllWrong.{IsLeastOf}
use Rattle.loft_listing_reader.proofs.wrong.first_wrong.Given as goal

-- the first of those so far
abbrev pub invariant-loop-operation : goal.invariant-loop-operation
invariant-loop-operation l = IsLeastOf l.first (operations_wrong l.table l.scope (map held_operation (take l.operation-index l.operations)))
