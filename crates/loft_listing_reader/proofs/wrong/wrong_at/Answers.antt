use Rattle.std.proofs.Common.{◌≡◌, true, false, [], ◌∷◌, sym, ap, subst, ◌∙◌}
use Rattle.std.specs.Prelude.{if◌then◌else◌}
use Rattle.loft_listing_draft.specs.InMemory.{held_operation, draft_of}
use Rattle.loft_listing_names.specs.Named.{operation_names}
use Rattle.loft_listing_names.specs.Wrong.{IsLeast}
use Rattle.loft_listing_reader.proofs.Leasts.{least_one}
use Rattle.loft_listing_reader.proofs.wrong.wrong_at.Goals as goal

pub returns-then-operation_names : goal.returns-then-operation_names
returns-then-operation_names c =
    let right : operation_names c.args.table.now c.args.scope (held_operation c.args.operation.now).operation ≡ true =
    c.offsets_are_free.ensures c.args.table.now c.args.scope (draft_of c.args.operation.now.operation) ∙ sym c.operation_names.ensures ∙ c.if-operation_names.true in
    ap (λ b. if b then [] else c.args.operation.now.at ∷ []) right

pub returns-else-operation_names : goal.returns-else-operation_names
returns-else-operation_names c =
    let wrong : operation_names c.args.table.now c.args.scope (held_operation c.args.operation.now).operation ≡ false =
    c.offsets_are_free.ensures c.args.table.now c.args.scope (draft_of c.args.operation.now.operation) ∙ sym c.operation_names.ensures ∙ c.if-operation_names.false in
    subst (IsLeast c.args.operation.now.at) (sym (ap (λ b. if b then [] else c.args.operation.now.at ∷ []) wrong)) (least_one c.args.operation.now.at)
