use Rattle.loft_sense.proofs.OriginLemmas.{held_from, left_from}
use Rattle.loft_sense.proofs.code_laws.codes_come_from_waits_and_limits.Goals as goal

pub returns-clause-held : goal.returns-clause-held
returns-clause-held c = held_from

pub returns-clause-left : goal.returns-clause-left
returns-clause-left c = left_from
