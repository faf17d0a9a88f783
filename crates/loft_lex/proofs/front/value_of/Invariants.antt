use Rattle.std.proofs.Common.{drop, ◌+◌, ◌*◌, ◌-◌, ◌≡◌, ◌≤◌}
use Rattle.std.specs.List.{fold}
use Rattle.loft_lex.specs.Bytes.{value_of, max_number}
use Rattle.loft_lex.proofs.front.value_of.Given as goal

abbrev pub invariant-loop-b : goal.invariant-loop-b
invariant-loop-b l = (l.value ≤ max_number) × (fold (λ value digit. value * 10 + (digit - 48)) l.value (drop l.b-index l.digits) ≡ value_of l.digits)
