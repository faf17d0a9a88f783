use Rattle.std.proofs.Common.{OnOk, sym, subst}
use Rattle.loft_station.specs.Stations.{StationView, IsKept, IsReady, IsSame, HasMade}
use Rattle.loft_station.proofs.StationLemmas.{went_on}
use Rattle.loft_station.proofs.station.Station.go_on.Goals as goal

pub returns : goal.returns
returns g c =
    let e = g.E.Engine in
    let b = c.args.b.now in
    let x = c.args.c.now in
    let was = c.args.self.now in
    let t = c.self.inside in
    let m : StationView = record { seat = t.seat; scheduler = t.s; limits = e.limits t.engine; machine = e.machine t.engine; failed = e.has_failed t.engine; notes = t.notes; refused = t.refused } in
    let r = c.turns-done.result in
    went_on r b x was m c.is_err-self-inside.result c.is_err-self-inside.ensures.value
    (subst (IsKept b x) (sym c.self.view_is) c.turns-done.ensures.kept)
    (subst (IsSame was) (sym c.self.view_is) c.turns-done.ensures.same)
    (subst (λ (q : StationView). OnOk r (IsReady b x q)) (sym c.self.view_is) c.turns-done.ensures.ready)
    (subst (λ (q : StationView). OnOk r (HasMade 32 x was q)) (sym c.self.view_is) c.turns-done.ensures.made)
