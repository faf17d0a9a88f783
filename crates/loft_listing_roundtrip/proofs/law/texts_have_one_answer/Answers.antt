-- The law is proved in the lemmas on answers.
use Rattle.loft_listing_roundtrip.proofs.OneAnswer.{never_faulty, one_code, one_fault}
use Rattle.loft_listing_roundtrip.proofs.law.texts_have_one_answer.Goals as goal

pub returns-clause-one_code : goal.returns-clause-one_code
returns-clause-one_code c = one_code

pub returns-clause-one_line : goal.returns-clause-one_line
returns-clause-one_line c = one_fault

pub returns-clause-never_both : goal.returns-clause-never_both
returns-clause-never_both c = never_faulty
