use Rattle.std.proofs.Common.{List, Option, IfSome, subst}
use Rattle.loft_orders.specs.declared.order.Order.{Order}
use Rattle.loft_seat.specs.Seats.{entries_of}
use Rattle.loft_station.specs.Stations.{HasTaken}
use Rattle.loft_station.proofs.StationLemmas.{turn_made}
use Rattle.loft_station.proofs.station.Station.turn.Goals as goal

pub returns-clause-turned : goal.returns-clause-turned
returns-clause-turned g c =
    let b = c.args.b.now in
    let x = c.args.c.now in
    let v = c.args.self.now in
    let m = c.begin_turn.new.self in
    let batch : List Order = c.in-Some.batch in
    let taken : HasTaken b x (entries_of v.seat) m batch = subst (λ (o : Option (List Order)). IfSome o (HasTaken b x (entries_of v.seat) m)) c.in-Some.is c.in_ok-batch.ensures.took in
    turn_made b x v m c.end_turn.new.self batch taken c.begin_turn.ensures.same c.end_turn.ensures.same c.in_ok-end_turn.ensures.gave
