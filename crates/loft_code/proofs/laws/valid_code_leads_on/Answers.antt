use Rattle.std.proofs.Common.{ap}
use Rattle.loft_code.specs.Operations.{is_end}
use Rattle.loft_code.proofs.Leading.{valid_passes, leads_on, begins_well, ends_well, turn_counts, jump_leads, small_stop, one_stop}
use Rattle.loft_code.proofs.laws.valid_code_leads_on.Goals as goal

pub returns-clause-passes : goal.returns-clause-passes
returns-clause-passes c = λ code valid m signature lines is p l at. valid_passes code m signature lines p l valid is at

pub returns-clause-leads : goal.returns-clause-leads
returns-clause-leads c = λ code valid m signature lines is p l at.
    leads_on code.heads signature lines p l at (valid_passes code m signature lines p l valid is at)

pub returns-clause-begins : goal.returns-clause-begins
returns-clause-begins c = λ code valid m signature lines is. begins_well code m signature lines valid is

pub returns-clause-ends : goal.returns-clause-ends
returns-clause-ends c = λ code valid m signature lines is p l at end.
    ends_well code.heads signature lines p l (ap is_end end) (valid_passes code m signature lines p l valid is at)

pub returns-clause-turns : goal.returns-clause-turns
returns-clause-turns c = λ code valid m signature lines is p t l at turn.
    turn_counts code.heads signature lines p t l turn (valid_passes code m signature lines p l valid is at)

pub returns-clause-stops : goal.returns-clause-stops
returns-clause-stops c = λ code valid m signature lines is p k l at stop.
    small_stop code.heads signature lines p k l stop (valid_passes code m signature lines p l valid is at)

pub returns-clause-jumps : goal.returns-clause-jumps
returns-clause-jumps c = λ code valid m signature lines is p t l at jump.
    jump_leads code.heads signature lines p t l jump (valid_passes code m signature lines p l valid is at)

pub returns-clause-one_stop : goal.returns-clause-one_stop
returns-clause-one_stop c = λ code valid m signature lines is p q k l n at also stop other.
    one_stop code.heads signature lines p q k l n at also stop other (valid_passes code m signature lines p l valid is at)
    (valid_passes code m signature lines q n valid is also)
