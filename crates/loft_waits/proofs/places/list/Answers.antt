use Rattle.loft_waits.proofs.PlaceLemmas.{keeps_more}
use Rattle.loft_waits.proofs.places.list.Goals as goal

pub returns-clause-keeps : goal.returns-clause-keeps
returns-clause-keeps c = keeps_more c.args.places.now c.insert.new.self (c.args.key, c.args.pos) c.in_ok-insert.ensures.updates.0
