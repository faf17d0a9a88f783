use Rattle.std.proofs.Common.{◌≡◌, take}
use Rattle.loft_relay.specs.Gives.{HasGiven}
use Rattle.loft_relay.proofs.one.give_all.Given as goal

abbrev pub invariant-loop-sent : goal.invariant-loop-sent
invariant-loop-sent g l = (l.pass.knows.code ≡ l.initial.pass.knows.code) × HasGiven l.b l.c (take l.sent-index l.sents) l.pass
