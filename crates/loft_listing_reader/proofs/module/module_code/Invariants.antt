use Rattle.std.proofs.Common.{◌≡◌, map, take}
use Rattle.loft_code.specs.View.{line_of}
use Rattle.loft_listing_draft.specs.InMemory.{draft_of}
use Rattle.loft_listing_reader.specs.Numbered.{numbered_line}
use Rattle.loft_listing_reader.proofs.module.module_code.Given as goal

-- those so far are done
abbrev pub invariant-loop-operation : goal.invariant-loop-operation
invariant-loop-operation l = map line_of l.lines.items ≡ map (λ o. numbered_line l.table l.scope (draft_of o.operation)) (take l.operation-index l.operations)
