use Rattle.loft_offsets.proofs.SamePrograms.{same_names, same_links, same_runs}
use Rattle.loft_offsets.proofs.law.offsets_dont_matter.Goals as goal

pub returns-clause-names : goal.returns-clause-names
returns-clause-names c = same_names

pub returns-clause-links : goal.returns-clause-links
returns-clause-links c = same_links

pub returns-clause-runs : goal.returns-clause-runs
returns-clause-runs c = same_runs
