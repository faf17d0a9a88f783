use Rattle.std.proofs.Common.{◌∙◌, sym}
use Rattle.loft_lock_forms.proofs.NameLemmas.{any_after, none_after}
use Rattle.loft_lock_forms.proofs.names.is_written_after.Goals as goal

pub returns-in-Some : goal.returns-in-Some
returns-in-Some c = c.has.ensures ∙ any_after c.args.name.now c.args.front.now c.in-Some.rest.now c.in-Some.ensures.cases.0 c.in-Some.ensures.cases.1 c.args.locks.now

pub returns-in-None : goal.returns-in-None
returns-in-None c = sym (none_after c.args.name.now c.args.front.now c.in-None.ensures.cases c.args.locks.now)
