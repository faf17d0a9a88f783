use Rattle.std.proofs.Common.{refl, sym}
use Rattle.std.proofs.lemmas.Option.{slice_get_read, slice_get_past}
use Rattle.loft_code.proofs.SlotLemmas.{kind_at, no_kind_at}
use Rattle.loft_code.proofs.slots.kind_at.Goals as goal

pub returns-in-Some : goal.returns-in-Some
returns-in-Some c =
    sym (kind_at c.args.variables.now c.args.number c.in-Some.variable.now
    (slice_get_read c.args.variables.now _ c.args.number c.in-Some.variable.now refl c.in-Some.ensures.lookup.3.0 c.in-Some.ensures.lookup.1))

pub returns-in-None : goal.returns-in-None
returns-in-None c =
    sym (no_kind_at c.args.variables.now c.args.number (slice_get_past c.args.variables.now c.args.number c.in-None.ensures.lookup.3))
