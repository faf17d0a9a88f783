-- The law is proved in the lemmas on drafts.
use Rattle.loft_listing_laws.proofs.OneDraft.{never_both, one_draft, one_stop}
use Rattle.loft_listing_laws.proofs.law.texts_say_one_thing.Goals as goal

pub returns-clause-one_draft : goal.returns-clause-one_draft
returns-clause-one_draft c = one_draft

pub returns-clause-one_stop : goal.returns-clause-one_stop
returns-clause-one_stop c = one_stop

pub returns-clause-never_both : goal.returns-clause-never_both
returns-clause-never_both c = never_both
