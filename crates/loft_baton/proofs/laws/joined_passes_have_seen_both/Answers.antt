use Rattle.loft_baton.proofs.HistoryLemmas.{longer_first, longer_second}
use Rattle.loft_baton.proofs.laws.joined_passes_have_seen_both.Goals as goal

pub returns-clause-first : goal.returns-clause-first
returns-clause-first c v w h p q = longer_first v.seen w.seen h p q

pub returns-clause-second : goal.returns-clause-second
returns-clause-second c v w h p q = longer_second v.seen w.seen h p q
