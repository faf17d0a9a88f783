use Rattle.loft_sense.proofs.CodeLemmas.{begun_code, begun_same_code, did_same_code}
use Rattle.loft_sense.proofs.code_laws.stops_set_codes_as_they_begin.Goals as goal

pub returns-clause-sets : goal.returns-clause-sets
returns-clause-sets c = begun_code

pub returns-clause-keeps : goal.returns-clause-keeps
returns-clause-keeps c = begun_same_code

pub returns-clause-acts : goal.returns-clause-acts
returns-clause-acts c = did_same_code
