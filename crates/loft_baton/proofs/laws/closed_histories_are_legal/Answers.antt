use Rattle.loft_baton.proofs.LawLemmas.{closed_legal}
use Rattle.loft_baton.proofs.laws.closed_histories_are_legal.Goals as goal

pub returns : goal.returns
returns c = closed_legal
