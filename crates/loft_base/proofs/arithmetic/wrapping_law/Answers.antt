use Rattle.std.specs.Int.{w64}
use Rattle.std.proofs.lemmas.Int.{SFits-int_wrap}
use Rattle.loft_base.proofs.Wrapping.{wrapped-congruent, only-wrapped}
use Rattle.loft_base.proofs.arithmetic.wrapping_law.Goals as goal

pub returns-clause-in_range : goal.returns-clause-in_range
returns-clause-in_range c = SFits-int_wrap w64

pub returns-clause-congruent : goal.returns-clause-congruent
returns-clause-congruent c = wrapped-congruent

pub returns-clause-only : goal.returns-clause-only
returns-clause-only c = only-wrapped
