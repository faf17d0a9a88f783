-- The law is proved in the lemmas on texts of lines.
use Rattle.loft_listing_laws.proofs.OneLine.{one_line, one_next}
use Rattle.loft_listing_laws.proofs.law.lines_say_one_thing.Goals as goal

pub returns-clause-line : goal.returns-clause-line
returns-clause-line c = one_line

pub returns-clause-next : goal.returns-clause-next
returns-clause-next c = one_next
