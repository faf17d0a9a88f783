use Rattle.loft_lock_expansion.proofs.OneAnswer.{one_answer}
use Rattle.loft_lock_expansion.proofs.SomeAnswer.{some_answer}
use Rattle.loft_lock_expansion.proofs.laws.texts_come_to_one_answer.Goals as goal

pub returns-clause-some : goal.returns-clause-some
returns-clause-some c = some_answer

pub returns-clause-one : goal.returns-clause-one
returns-clause-one c = one_answer
