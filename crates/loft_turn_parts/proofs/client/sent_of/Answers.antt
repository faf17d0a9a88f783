use Rattle.std.proofs.Common.{subst}
use Rattle.loft_turn_parts.specs.Clients.{HasEvent}
use Rattle.loft_turn_parts.proofs.client.sent_of.Goals as goal

pub index-requires : goal.index-requires
index-requires c = subst (HasEvent c.args.heads.now) c.in-Broadcast.is c.requires.event
