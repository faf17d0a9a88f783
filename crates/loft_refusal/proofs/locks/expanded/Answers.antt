use Rattle.std.proofs.Common.{sym, subst, ◌∙◌}
use Rattle.loft_refusal.specs.Found.{IsUnexpanded}
use Rattle.loft_refusal.proofs.LocksLemmas.{unexpanded, no_file_fault}
use Rattle.loft_refusal.proofs.locks.expanded.Goals as goal

pub returns-in-Err-clause-refused : goal.returns-in-Err-clause-refused
returns-in-Err-clause-refused c =
    subst (IsUnexpanded c.args.text.now) (sym c.stop_of_fault.ensures) (unexpanded c.args.text.now c.expand_named.new.names c.in-Err.fault c.in-Err.ensures.refused c.in-Err.ensures.named)

pub returns-in-Err-clause-no_file : goal.returns-in-Err-clause-no_file
returns-in-Err-clause-no_file c = λ is. no_file_fault c.in-Err.fault c.expand_named.new.names (sym c.stop_of_fault.ensures ∙ is)
