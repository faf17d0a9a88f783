use Rattle.std.proofs.Common.{◌≤◌, length, map, drop, refl}
use Rattle.loft_tree.specs.View.{source_of}
use Rattle.loft_code.specs.View.{lines_of}
use Rattle.loft_listing_draft.specs.Drafts.{Draft as PlainDraft}
use Rattle.loft_listing_draft.specs.InMemory.{IsInMemory}
use Rattle.loft_listing_reader.specs.Numbered.{module_lines, modules_from}
use Rattle.loft_listing_reader.proofs.Items.{Left, held_in}
use Rattle.loft_listing_reader.proofs.module.modules_code.Given as goal

-- whatever draft it is, the modules so far are done
abbrev pub invariant-loop-index : goal.invariant-loop-index
invariant-loop-index l = record {
  few : length l.code.items ≤ l.index;
  left : (d : PlainDraft) → IsInMemory l.draft d
      → Left (λ m i. module_lines l.table m i.declaration i.operations) (modules_from l.table) (λ m. refl) (λ m i is. refl) d
      (source_of (drop l.index l.draft.items.items)) (held_in (drop l.index l.draft.operations.items)) (length l.code.items) (map lines_of l.code.items);
}
