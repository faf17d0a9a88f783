use Rattle.loft_sense.proofs.InstantLemmas.{instant_entries, instant_creates}
use Rattle.loft_sense.proofs.run_laws.instants_make_few_entries.Goals as goal

pub returns-clause-entries : goal.returns-clause-entries
returns-clause-entries c = instant_entries

pub returns-clause-creates : goal.returns-clause-creates
returns-clause-creates c = instant_creates
