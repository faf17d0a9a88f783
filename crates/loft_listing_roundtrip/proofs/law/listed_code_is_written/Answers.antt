-- The law is proved in the lemmas on texts that are read.
use Rattle.loft_listing_roundtrip.proofs.Canonical.{keeps_limits, text_is_written, threads_are_named}
use Rattle.loft_listing_roundtrip.proofs.law.listed_code_is_written.Goals as goal

pub returns-clause-text : goal.returns-clause-text
returns-clause-text c = text_is_written

pub returns-clause-limits : goal.returns-clause-limits
returns-clause-limits c = keeps_limits

pub returns-clause-threads : goal.returns-clause-threads
returns-clause-threads c = threads_are_named
