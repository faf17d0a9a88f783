use Rattle.std.proofs.Common.{refl}
use Rattle.loft_station.proofs.OutsiderLemmas.{events_declared, next_given, all_given}
use Rattle.loft_station.proofs.outsider.Outsider.turn.Goals as goal

pub next_order-requires : goal.next_order-requires
next_order-requires g c = record { events = events_declared c.args.c.now c.code_is_well_formed.ensures c.args.self.now.client c.args.self.now.given c.heads.result.now c.heads.ensures }

pub returns-in_default-clause-gave : goal.returns-in_default-clause-gave
returns-in_default-clause-gave g c =
    (all_given c.args.b.now c.args.c.now c.args.self.now c.heads.result.now c.in_ok-next.next c.requires.ready c.heads.ensures c.in_ok-next.ensures.order c.in_default.is, refl)

pub give-requires-clause-next : goal.give-requires-clause-next
give-requires-clause-next g c =
    next_given c.args.b.now c.args.c.now c.args.self.now c.in-Some.sent c.heads.result.now c.in_ok-next.next c.requires.ready c.heads.ensures c.in_ok-next.ensures.order c.in-Some.is
