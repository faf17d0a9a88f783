use Rattle.std.proofs.Common.{refl}
use Rattle.loft_actor.proofs.LookLemmas.{adds_none}
use Rattle.loft_host.proofs.round.length_of.Goals as goal

pub release-requires-clause-adds : goal.release-requires-clause-adds
release-requires-clause-adds g c =
    adds_none c.args.giver.now.knows c.hold-held.new.p c.args.giver.now c.hold-held.result c.world.result.now refl c.hold-held.ensures.knows c.hold-held.ensures.follows c.world.ensures.value
