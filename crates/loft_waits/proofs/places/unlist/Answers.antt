use Rattle.loft_waits.proofs.PlaceLemmas.{keeps_less}
use Rattle.loft_waits.proofs.places.unlist.Goals as goal

pub returns : goal.returns
returns c = keeps_less c.args.places.now c.remove.new.self c.args.key c.args.pos c.remove.ensures.updates.2
