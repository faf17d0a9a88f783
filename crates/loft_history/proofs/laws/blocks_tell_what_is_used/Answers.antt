use Rattle.loft_history.proofs.TallyLemmas.{is_told}
use Rattle.loft_history.proofs.laws.blocks_tell_what_is_used.Goals as goal

pub returns-clause-number : goal.returns-clause-number
returns-clause-number c = λ x limits s batches. (is_told x limits s batches).number

pub returns-clause-bytes : goal.returns-clause-bytes
returns-clause-bytes c = λ x limits s batches. (is_told x limits s batches).bytes

pub returns-clause-gone : goal.returns-clause-gone
returns-clause-gone c = λ x limits s batches. (is_told x limits s batches).gone
