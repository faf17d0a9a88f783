use Rattle.loft_finder.specs.Keys.{id_key}
use Rattle.loft_finder.proofs.PlaceLemmas.{more_stand}
use Rattle.loft_finder.proofs.finder.Finder.add.Goals as goal

pub returns-in-Ok-clause-keeps : goal.returns-in-Ok-clause-keeps
returns-in-Ok-clause-keeps c = λ t i h. more_stand c.args.self.now.is_on c.args.self.now.places c.insert.new.self (c.of-key.result, c.args.pos) c.in-Ok.ensures.updates.0 (id_key t) i h
