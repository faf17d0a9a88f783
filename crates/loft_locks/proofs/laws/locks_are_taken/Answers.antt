use Rattle.loft_locks.proofs.ExampleLemmas.{is_expanded, first_instant, second_instant, third_instant, both_inside}
use Rattle.loft_locks.proofs.laws.locks_are_taken.Goals as goal

pub returns-clause-expanded : goal.returns-clause-expanded
returns-clause-expanded c = is_expanded

pub returns-clause-first : goal.returns-clause-first
returns-clause-first c = first_instant

pub returns-clause-second : goal.returns-clause-second
returns-clause-second c = second_instant

pub returns-clause-third : goal.returns-clause-third
returns-clause-third c = third_instant

pub returns-clause-both : goal.returns-clause-both
returns-clause-both c = both_inside
