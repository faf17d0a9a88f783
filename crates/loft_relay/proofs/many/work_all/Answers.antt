use Rattle.std.proofs.Common.{◌≡◌, length, ap, ◌∙◌, arith}
use Rattle.loft_relay.specs.Hands.{clients_of}
use Rattle.loft_relay.proofs.HandLemmas.{clients_same, put_back}
use Rattle.loft_relay.proofs.many.work_all.Goals as goal

pub returns-clause-clients : goal.returns-clause-clients
returns-clause-clients g c =
    let was = c.as_mut_slice.ensures.value in
    let len : length c.work_each.new.hands ≡ length c.as_mut_slice.result.now = grind arith in
    let len' : c.args.hands.len ≡ length c.args.hands.items = grind arith in
    let len'' : length c.work_each.new.hands ≡ length c.args.hands.items = len ∙ ap length was in
    ap clients_of (put_back c.args.hands.len c.work_each.new.hands c.args.hands.items len'' len')
    ∙ clients_same c.as_mut_slice.result.now c.work_each.new.hands len c.work_each.ensures.clients
    ∙ ap clients_of was
