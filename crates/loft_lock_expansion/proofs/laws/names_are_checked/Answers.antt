use Rattle.loft_lock_expansion.proofs.ExampleLemmas.{variable_is, module_is, long_is}
use Rattle.loft_lock_expansion.proofs.laws.names_are_checked.Goals as goal

pub returns-clause-variable : goal.returns-clause-variable
returns-clause-variable c = variable_is

pub returns-clause-module_name : goal.returns-clause-module_name
returns-clause-module_name c = module_is

pub returns-clause-long : goal.returns-clause-long
returns-clause-long c = long_is
