use Rattle.std.proofs.Common.{◌≡◌, drop}
use Rattle.loft_tree.specs.NamedFits.{slots_of}
use Rattle.loft_code.specs.View.{exps_in}
use Rattle.loft_code.specs.Names.{exps_have}
use Rattle.loft_code.proofs.names.exps_have.Given as goal

-- the expressions that are left decide
abbrev pub invariant-loop-exp : goal.invariant-loop-exp
invariant-loop-exp l =
    exps_have l.heads (slots_of l.signature) (exps_in (drop l.exp-index l.exps)) ≡ exps_have l.heads (slots_of l.signature) (exps_in l.exps)
