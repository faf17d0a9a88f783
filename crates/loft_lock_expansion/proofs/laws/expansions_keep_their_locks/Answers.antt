use Rattle.loft_lock_expansion.proofs.KeptLemmas.{expansion_kept}
use Rattle.loft_lock_expansion.proofs.CodeLemmas.{code_kept, code_replayed}
use Rattle.loft_lock_expansion.proofs.laws.expansions_keep_their_locks.Goals as goal

pub returns-clause-tree : goal.returns-clause-tree
returns-clause-tree c = expansion_kept

pub returns-clause-code : goal.returns-clause-code
returns-clause-code c = code_kept

pub returns-clause-machines : goal.returns-clause-machines
returns-clause-machines c = code_replayed
