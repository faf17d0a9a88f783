use Rattle.loft_locks.proofs.RuleLemmas.{rules_hold}
use Rattle.loft_locks.proofs.laws.rules_are_checked.Goals as goal

pub returns : goal.returns
returns c begun b = rules_hold begun b
