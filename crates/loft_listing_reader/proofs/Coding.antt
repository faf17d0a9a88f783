-- The code of the operations of a module.
use Rattle.std.proofs.Common.{◌≡◌, ℕ, ◌+◌, List, [], ◌∷◌, length, map, sym, ap, refl, ◌∙◌}
use Rattle.loft_tree.specs.Source.{Named, ModuleHead, Statements, Module}
use Rattle.loft_scopes.specs.declared.scope.Scope.{Scope}
use Rattle.loft_scopes.specs.declared.scope.Scope.TheVariants.{Within}
use Rattle.loft_scopes.specs.Scopes.{Declared}
use Rattle.loft_code.specs.Operations.{Line}
use Rattle.loft_listing_line.specs.Rows.{line_text}
use Rattle.loft_listing_draft.specs.declared.draft.OperationLine.{OperationLine}
use Rattle.loft_listing_draft.specs.Drafts.{DraftItem, DraftOperation, OperationAt, after_locals, operation_line, operations_at, operations_in, operations_of}
use Rattle.loft_listing_draft.specs.InMemory.{draft_of, held_operation}
use Rattle.loft_listing_reader.specs.Numbered.{module_lines, numbered_line}
use Rattle.loft_listing_reader.proofs.Offsets.{same_numbered}

module _ (ds : List Declared) (scope : Scope) where
  abbrev pub held_line : OperationLine → Line
  held_line o = numbered_line ds scope (draft_of o.operation)

  -- the code of operations that are held is that of those that they are
  pub held_code : (held : List OperationLine) (at number : ℕ) (os : List DraftOperation) → map held_operation held ≡ operations_at at number os
      → map held_line held ≡ map (numbered_line ds scope) os
  held_code [] at number [] is = refl
  held_code [] at number (o ∷ os) is = absurd (cc is)
  held_code (h ∷ held) at number [] is = absurd (cc is)
  held_code (h ∷ held) at number (o ∷ os) is =
      let x : OperationAt = record { at = at; operation = o } in
      let first : held_operation h ≡ x = cc is in
      let rest = held_code held (at + length (line_text (operation_line number o))) (number + 1) os (cc is) in
      let same : held_line h ≡ numbered_line ds scope o = sym (same_numbered ds scope (draft_of h.operation)) ∙ ap (λ v. numbered_line ds scope v.operation) first in
      λ i. same i ∷ rest i

-- the code of a module
pub module_said : (ds : List Declared) (m : ℕ) (head : ModuleHead) (locals : List Named) (body : Statements) (i : DraftItem) (held : List OperationLine)
    → Module head locals body ≡ i.declaration → map held_operation held ≡ operations_of i
    → map (held_line ds (Within m)) held ∷ [] ≡ module_lines ds m i.declaration i.operations
module_said ds m head locals body i held declares is =
    let there : map held_operation held ≡ operations_at (after_locals head locals) 0 i.operations = is ∙ ap (λ d. operations_in d i.operations) (sym declares) in
    ap (λ ls. ls ∷ []) (held_code ds (Within m) held (after_locals head locals) 0 i.operations there)
    ∙ ap (λ d. module_lines ds m d i.operations) declares
