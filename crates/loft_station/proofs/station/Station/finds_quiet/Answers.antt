use Rattle.std.proofs.Common.{◌≡◌, sym, subst}
use Rattle.loft_seat.specs.Seats.{entries_of}
use Rattle.loft_seat.proofs.SeatLemmas.{entries_is}
use Rattle.loft_station.specs.Stations.{StationView, IsReady}
use Rattle.loft_station.proofs.StationLemmas.{ready_still}
use Rattle.loft_station.proofs.station.Station.finds_quiet.Goals as goal

pub returns-clause-ready : goal.returns-clause-ready
returns-clause-ready g c =
    let e = g.E.Engine in
    let b = c.args.b.now in
    let x = c.args.c.now in
    let t = c.self.inside in
    let v : StationView = record { seat = t.seat; scheduler = t.s; limits = e.limits t.engine; machine = e.machine t.engine; failed = e.has_failed t.engine; notes = t.notes; refused = t.refused } in
    let ready : IsReady b x v = subst (IsReady b x) (sym c.self.view_is) c.requires.ready in
    ready_still b x v c.sees_quiet.new.seat ready c.sees_quiet.ensures.kept

pub returns-clause-entries : goal.returns-clause-entries
returns-clause-entries g c =
    let p = c.sees_quiet.new.seat in
    subst (λ (q : StationView). entries_of p ≡ entries_of q.seat) c.self.view_is (entries_is c.sees_quiet.ensures.kept)
