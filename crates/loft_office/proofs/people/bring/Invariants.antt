use Rattle.loft_host.specs.Callers.{GoesOn}
use Rattle.loft_office.proofs.people.bring.Given as goal

-- the letters so far were brought by the same caller
abbrev pub invariant-loop-weight : goal.invariant-loop-weight
invariant-loop-weight g l = GoesOn l.b l.c l.initial.p l.p
