use Rattle.std.proofs.Common.{◌∙◌, sym}
use Rattle.loft_code.proofs.SlotLemmas.{slot_within, slot_beyond}
use Rattle.loft_code.proofs.slots.slot_kind.Goals as goal

pub returns-then-number-parameters : goal.returns-then-number-parameters
returns-then-number-parameters c =
    c.kind_at.ensures ∙ sym (slot_within c.args.signature.now _ _ c.as_slice-parameters.ensures c.if-number-parameters.true)

pub returns-else-number-parameters : goal.returns-else-number-parameters
returns-else-number-parameters c =
    c.kind_at-else-number-parameters.ensures
    ∙ sym (slot_beyond c.args.signature.now _ _ _ c.as_slice-parameters.ensures c.as_slice-locals.ensures c.if-number-parameters.false)
