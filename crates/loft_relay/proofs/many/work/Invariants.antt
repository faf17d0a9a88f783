use Rattle.std.proofs.Common.{◌≡◌, take}
use Rattle.loft_relay.specs.Gives.{HasGiven}
use Rattle.loft_relay.proofs.many.work.Given as goal

abbrev pub invariant-loop-sent : goal.invariant-loop-sent
invariant-loop-sent g l = (l.hand.client ≡ l.initial.hand.client) × (l.client ≡ l.hand.client) × (l.hand.pass.knows.code ≡ l.initial.hand.pass.knows.code) × HasGiven l.b l.hand.client (take l.sent-index l.sents) l.hand.pass
