use Rattle.loft_generated.proofs.Text.{canonical}
use Rattle.loft_generated.proofs.Limits.{limits}
use Rattle.loft_generated.proofs.Sizes.{short}
use Rattle.loft_generated.proofs.Read.{links, names, read, read_links, read_names, read_runs, same}
use Rattle.loft_generated.proofs.law.generated_sources_are_correct.Goals as goal

pub returns-clause-canonical : goal.returns-clause-canonical
returns-clause-canonical c = canonical

pub returns-clause-limits : goal.returns-clause-limits
returns-clause-limits c = limits

pub returns-clause-names : goal.returns-clause-names
returns-clause-names c = names

pub returns-clause-links : goal.returns-clause-links
returns-clause-links c = links

pub returns-clause-short : goal.returns-clause-short
returns-clause-short c = short

pub returns-clause-read : goal.returns-clause-read
returns-clause-read c = read

pub returns-clause-same : goal.returns-clause-same
returns-clause-same c = same

pub returns-clause-read_names : goal.returns-clause-read_names
returns-clause-read_names c = read_names

pub returns-clause-read_links : goal.returns-clause-read_links
returns-clause-read_links c = read_links

pub returns-clause-read_runs : goal.returns-clause-read_runs
returns-clause-read_runs c = read_runs
