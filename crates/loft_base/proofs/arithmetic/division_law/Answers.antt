use Rattle.std.proofs.Common.{refl}
use Rattle.std.specs.Int.{int_wrap}
use Rattle.std.proofs.lemmas.Int.{quot-rem}
use Rattle.loft_base.proofs.Division.{remainder-near, remainder-not_below, remainder-not_above}
use Rattle.loft_base.proofs.arithmetic.division_law.Goals as goal

pub returns-clause-whole : goal.returns-clause-whole
returns-clause-whole c = quot-rem

pub returns-clause-near : goal.returns-clause-near
returns-clause-near c = remainder-near

pub returns-clause-not_below : goal.returns-clause-not_below
returns-clause-not_below c = remainder-not_below

pub returns-clause-not_above : goal.returns-clause-not_above
returns-clause-not_above c = remainder-not_above

pub returns-clause-least_quotient : goal.returns-clause-least_quotient
unfolding int_wrap
returns-clause-least_quotient c = refl

pub returns-clause-least_remainder : goal.returns-clause-least_remainder
returns-clause-least_remainder c = refl
