use Rattle.std.proofs.Common.{◌≡◌, length}
use Rattle.loft_tree.specs.ProgramView.{program_of}
use Rattle.loft_budget.specs.Verdicts.{VerdictsFrom}
use Rattle.loft_bound.proofs.verdicts.verdicts_of.Given as goal

abbrev pub invariant-loop-number : goal.invariant-loop-number
invariant-loop-number l = (length l.verdicts ≡ l.number) × VerdictsFrom (program_of l.p) 0 l.verdicts
