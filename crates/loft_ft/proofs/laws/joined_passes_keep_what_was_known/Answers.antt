use Rattle.loft_ft.proofs.KeptLemmas.{keeps_itself, keeps_first, keeps_second, keeps_on}
use Rattle.loft_ft.proofs.laws.joined_passes_keep_what_was_known.Goals as goal

pub returns-clause-itself : goal.returns-clause-itself
returns-clause-itself c = keeps_itself

pub returns-clause-first : goal.returns-clause-first
returns-clause-first c = keeps_first

pub returns-clause-second : goal.returns-clause-second
returns-clause-second c = keeps_second

pub returns-clause-on : goal.returns-clause-on
returns-clause-on c = keeps_on
