use Rattle.loft_finder.specs.Keys.{id_key}
use Rattle.loft_finder.proofs.PlaceLemmas.{less_stand}
use Rattle.loft_finder.proofs.finder.Finder.remove.Goals as goal

pub returns-then-self : goal.returns-then-self
returns-then-self c = λ t i apart h. less_stand c.args.self.now.is_on c.args.self.now.places c.remove.new.self c.of-key.result c.args.pos c.remove.ensures.updates.2 (id_key t) i apart h
