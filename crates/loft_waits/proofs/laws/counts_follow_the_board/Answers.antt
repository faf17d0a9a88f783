use Rattle.loft_waits.proofs.LawLemmas.{counts_none, counts_generate}
use Rattle.loft_waits.proofs.laws.counts_follow_the_board.Goals as goal

pub returns-clause-none : goal.returns-clause-none
returns-clause-none c = counts_none

pub returns-clause-generate : goal.returns-clause-generate
returns-clause-generate c = counts_generate
