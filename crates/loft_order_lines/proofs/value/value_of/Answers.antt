use Rattle.std.proofs.Common.{◌≡◌, ℤ, Bool, true, false, Some, sym, ap, ◌∙◌}
use Rattle.loft_base.specs.declared.ids.ThreadId.{ThreadId}
use Rattle.loft_base.specs.declared.ids.Value.TheVariants as value
use Rattle.loft_order_lines.specs.Texts.{begins_number}
use Rattle.loft_order_lines.proofs.Numbers.{bits_same}
use Rattle.loft_order_lines.proofs.Texts.{number_begins, id_begins}
use Rattle.loft_order_lines.proofs.PartLemmas.{never_none, one_found}
use Rattle.loft_order_lines.proofs.value.value_of.Goals as goal

never_both : (t : Bool) → t ≡ true → t ≡ false → ⊥
never_both true e f = cc
never_both false e f = cc

pub returns-in_err-id_of-clause-read : goal.returns-in_err-id_of-clause-read
returns-in_err-id_of-clause-read c (value.Int n) has same =
    absurd (never_both (begins_number c.args.bytes.now) (ap begins_number same ∙ number_begins n has) (sym c.begins_number.ensures ∙ c.if-begins_number.false))
returns-in_err-id_of-clause-read c (value.Thread t) has same =
    absurd (never_none c.id_of.result t (c.id_of.ensures.read t has same) c.in_err-id_of.was)

pub returns-in_ok-integer_of-clause-read : goal.returns-in_ok-integer_of-clause-read
returns-in_ok-integer_of-clause-read c (value.Int n) has same =
    ap (λ (z : ℤ). Some (value.Int z)) (bits_same c.in_ok-integer_of.field-0 n has (one_found c.integer_of.result c.in_ok-integer_of.field-0 n (c.integer_of.ensures.read n has same) c.in_ok-integer_of.was))
returns-in_ok-integer_of-clause-read c (value.Thread t) has same =
    absurd (never_both (begins_number c.args.bytes.now) (sym c.begins_number.ensures ∙ c.if-begins_number.true) (ap begins_number same ∙ id_begins c.args.heads.now c.requires t has))

pub returns-in_ok-id_of-clause-read : goal.returns-in_ok-id_of-clause-read
returns-in_ok-id_of-clause-read c (value.Int n) has same =
    absurd (never_both (begins_number c.args.bytes.now) (ap begins_number same ∙ number_begins n has) (sym c.begins_number.ensures ∙ c.if-begins_number.false))
returns-in_ok-id_of-clause-read c (value.Thread t) has same =
    ap (λ (k : ThreadId). Some (value.Thread k)) (one_found c.id_of.result c.in_ok-id_of.field-0 t (c.id_of.ensures.read t has same) c.in_ok-id_of.was)
