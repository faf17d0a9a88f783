use Rattle.std.proofs.Common.{refl, ◌+◌}
use Rattle.loft_station.specs.declared.outsider.Outsider.{Outsider}
use Rattle.loft_station.proofs.OutsiderLemmas.{next_to_one, next_kind, next_fits, ready_still, ready_more}
use Rattle.loft_station.proofs.outsider.Outsider.give.Goals as goal

pub give_order-requires-clause-one : goal.give_order-requires-clause-one
give_order-requires-clause-one g c = next_to_one c.args.c.now c.args.self.now c.args.sent.now c.code_is_well_formed.ensures c.requires.next

pub give_order-requires-clause-kind : goal.give_order-requires-clause-kind
give_order-requires-clause-kind g c = next_kind c.args.c.now c.args.self.now c.args.sent.now c.requires.next

pub give_order-requires-clause-fits : goal.give_order-requires-clause-fits
give_order-requires-clause-fits g c = next_fits c.args.c.now c.args.self.now c.args.sent.now c.code_is_well_formed.ensures c.requires.next

pub returns-in_err-give_order-clause-ready : goal.returns-in_err-give_order-clause-ready
returns-in_err-give_order-clause-ready g c =
    let v = c.args.self.now in
    let w : Outsider = record { seat = c.give_order.new.seat; client = v.client; given = v.given; creates = v.creates; refused = v.refused } in
    ready_still c.args.b.now c.args.c.now v w c.requires.ready c.in_err-give_order.ensures.err refl refl refl

pub returns-clause-ready : goal.returns-clause-ready
returns-clause-ready g c =
    let v = c.args.self.now in
    let w : Outsider = record { seat = c.give_order.new.seat; client = v.client; given = v.given + 1; creates = c.creates_with-self.result; refused = v.refused } in
    ready_more c.args.b.now c.args.c.now v w c.args.sent.now c.requires.ready c.requires.next c.in_ok-give_order.ensures.ok refl refl c.creates_with-self.ensures
