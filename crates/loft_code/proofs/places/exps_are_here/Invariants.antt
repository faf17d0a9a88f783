use Rattle.std.proofs.Common.{◌≡◌, drop}
use Rattle.loft_code.specs.View.{exps_in}
use Rattle.loft_code.specs.Places.{exps_are_here}
use Rattle.loft_code.proofs.places.exps_are_here.Given as goal

-- the expressions that are left decide
abbrev pub invariant-loop-exp : goal.invariant-loop-exp
invariant-loop-exp l = exps_are_here l.heads l.here (exps_in (drop l.exp-index l.exps)) ≡ exps_are_here l.heads l.here (exps_in l.exps)
