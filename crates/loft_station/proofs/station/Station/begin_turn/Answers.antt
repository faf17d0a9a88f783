use Rattle.std.proofs.Common.{◌≡◌, false, sym, subst, IfOk, IfSome, IfNone, OnErr}
use Rattle.loft_code.specs.View.{automata_of}
use Rattle.loft_sense.specs.Machine.{Code}
use Rattle.loft_seat.specs.Seats.{entries_of}
use Rattle.loft_station.specs.Stations.{StationView, IsKept, IsReady, HasTaken, Turned}
use Rattle.loft_station.proofs.StationLemmas.{with_seat, on_took, on_none, on_refused}
use Rattle.loft_station.proofs.station.Station.begin_turn.Goals as goal

pub returns-clause-took : goal.returns-clause-took
returns-clause-took g c =
    let e = g.E.Engine in
    let b = c.args.b.now in
    let x = c.args.c.now in
    let t = c.self.inside in
    let v : StationView = record { seat = t.seat; scheduler = t.s; limits = e.limits t.engine; machine = e.machine t.engine; failed = e.has_failed t.engine; notes = t.notes; refused = t.refused } in
    let ready : IsReady b x v = subst (IsReady b x) (sym c.self.view_is) c.requires.ready in
    let program : e.program t.engine ≡ Code (automata_of x) = c.self.invariant.1 x ready.kept.seat.code in
    let p = c.take.new.seat in
    subst (λ (q : StationView). IfOk c.take.result (λ taken. IfSome taken (HasTaken b x (entries_of q.seat) (with_seat v p)))) c.self.view_is
    (on_took c.take.result b x v (e.program t.engine) p program ready c.take.ensures.took)

pub returns-clause-none : goal.returns-clause-none
returns-clause-none g c =
    let e = g.E.Engine in
    let b = c.args.b.now in
    let x = c.args.c.now in
    let t = c.self.inside in
    let v : StationView = record { seat = t.seat; scheduler = t.s; limits = e.limits t.engine; machine = e.machine t.engine; failed = e.has_failed t.engine; notes = t.notes; refused = t.refused } in
    let ready : IsReady b x v = subst (IsReady b x) (sym c.self.view_is) c.requires.ready in
    let program : e.program t.engine ≡ Code (automata_of x) = c.self.invariant.1 x ready.kept.seat.code in
    let p = c.take.new.seat in
    subst (λ (q : StationView). IfOk c.take.result (λ taken. IfNone taken (IsReady b x (with_seat v p) × Turned x q (with_seat v p) false))) c.self.view_is
    (on_none c.take.result b x v (e.program t.engine) p program ready c.take.ensures.none)

pub returns-clause-err : goal.returns-clause-err
returns-clause-err g c =
    let e = g.E.Engine in
    let b = c.args.b.now in
    let x = c.args.c.now in
    let t = c.self.inside in
    let v : StationView = record { seat = t.seat; scheduler = t.s; limits = e.limits t.engine; machine = e.machine t.engine; failed = e.has_failed t.engine; notes = t.notes; refused = t.refused } in
    let ready : IsReady b x v = subst (IsReady b x) (sym c.self.view_is) c.requires.ready in
    let program : e.program t.engine ≡ Code (automata_of x) = c.self.invariant.1 x ready.kept.seat.code in
    let p = c.take.new.seat in
    subst (λ (q : StationView). OnErr c.take.result (IsKept b x (with_seat v p) × (entries_of p ≡ entries_of q.seat))) c.self.view_is
    (on_refused c.take.result b x v p ready c.take.ensures.err)
