use Rattle.std.proofs.Common.{◌≤◌, ℕ, List, drop, refl}
use Rattle.loft_tree.specs.View.{source_of}
use Rattle.loft_scopes.specs.declared.scope.Scope.TheVariants.{Within}
use Rattle.loft_listing_draft.specs.Drafts.{Draft as PlainDraft, operations_of}
use Rattle.loft_listing_draft.specs.InMemory.{IsInMemory}
use Rattle.loft_listing_names.specs.Wrong.{modules_wrong, operations_wrong}
use Rattle.loft_listing_reader.specs.AllWrong.{IsLeastOf}
use Rattle.loft_listing_reader.proofs.Items.{Left, held_in}
use Rattle.loft_listing_reader.proofs.wrong.first_wrong_operation.Given as goal

-- whatever draft it is, the first of those so far
abbrev pub invariant-loop-index : goal.invariant-loop-index
invariant-loop-index l = record {
  few : l.number ≤ l.index;
  least : (d : PlainDraft) → IsInMemory l.draft d → (done : List ℕ) × IsLeastOf l.first done
      × Left (λ m i. operations_wrong l.table (Within m) (operations_of i)) (modules_wrong l.table) (λ m. refl) (λ m i is. refl) d
      (source_of (drop l.index l.draft.items.items)) (held_in (drop l.index l.draft.operations.items)) l.number done;
}
