use Rattle.loft_budget.proofs.OverLemmas.{instants_over, blocks_over, sents_spared, notes_spared}
use Rattle.loft_budget.proofs.laws.bounded_threads_never_run_over.Goals as goal

pub returns-clause-instants : goal.returns-clause-instants
returns-clause-instants c = instants_over

pub returns-clause-blocks : goal.returns-clause-blocks
returns-clause-blocks c = blocks_over

pub returns-clause-told : goal.returns-clause-told
returns-clause-told c = sents_spared

pub returns-clause-notes : goal.returns-clause-notes
returns-clause-notes c = notes_spared
