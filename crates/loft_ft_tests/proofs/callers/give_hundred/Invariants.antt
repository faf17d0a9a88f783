use Rattle.loft_ft_tests.specs.Passes.{IsOfCaller, HasEvent}
use Rattle.loft_ft_tests.proofs.callers.give_hundred.Given as goal

abbrev pub invariant-loop-value : goal.invariant-loop-value
invariant-loop-value g l = record {
  pass : IsOfCaller l.b l.caller l.pass;
  event : HasEvent l.pass.knows.code;
}
