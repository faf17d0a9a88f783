use Rattle.loft_relay.proofs.HandLemmas.{apart_before}
use Rattle.loft_relay.proofs.many.hands_of.Goals as goal

pub split-pass-requires-clause-new : goal.split-pass-requires-clause-new
split-pass-requires-clause-new c = rw c.loop-client.invariant.main.given (apart_before c.args.clients.now c.loop-client.client-index 0 c.requires.apart c.loop-client-test.true)
