use Rattle.std.proofs.Common.{List, refl, sym, subst}
use Rattle.loft_code.specs.View.{automata_of}
use Rattle.loft_orders.specs.declared.entry.Entry.{Entry}
use Rattle.loft_orders.specs.declared.order.Order.{Order}
use Rattle.loft_sense.specs.Machine.{Code}
use Rattle.loft_station.specs.Stations.{StationView, HasTaken}
use Rattle.loft_station.proofs.StationLemmas.{replay_on, HasInstant, Goes, kept_goes, instant_made, sent_fits, on_gave, kept_gave}
use Rattle.loft_station.proofs.station.Station.end_turn.Goals as goal

pub returns-in_err-make_instant-clause-kept : goal.returns-in_err-make_instant-clause-kept
returns-in_err-make_instant-clause-kept g c =
    let e = g.E.Engine in
    let b = c.args.b.now in
    let x = c.args.c.now in
    let t = c.self.inside in
    let v : StationView = record { seat = t.seat; scheduler = t.s; limits = e.limits t.engine; machine = e.machine t.engine; failed = e.has_failed t.engine; notes = t.notes; refused = t.refused } in
    let before : List Entry = c.requires.taken.0 in
    let batch : List Order = c.args.batch.now in
    let taken : HasTaken b x before v batch = subst (λ (q : StationView). HasTaken b x before q batch) (sym c.self.view_is) c.requires.taken.1 in
    let new = c.make_instant.new.engine in
    let notes = c.make_instant.new.notes in
    let w : StationView = record { seat = t.seat; scheduler = t.s; limits = e.limits new; machine = e.machine new; failed = e.has_failed new; notes = notes; refused = t.refused } in
    let goes : Goes v w = record { same = record { scheduler = refl; limits = c.make_instant.ensures.same_limits }; seat = refl } in
    kept_goes b x v w goes taken.kept

pub give-requires-clause-fits : goal.give-requires-clause-fits
give-requires-clause-fits g c =
    let e = g.E.Engine in
    let b = c.args.b.now in
    let x = c.args.c.now in
    let t = c.self.inside in
    let v : StationView = record { seat = t.seat; scheduler = t.s; limits = e.limits t.engine; machine = e.machine t.engine; failed = e.has_failed t.engine; notes = t.notes; refused = t.refused } in
    let before : List Entry = c.requires.taken.0 in
    let batch : List Order = c.args.batch.now in
    let taken : HasTaken b x before v batch = subst (λ (q : StationView). HasTaken b x before q batch) (sym c.self.view_is) c.requires.taken.1 in
    let new = c.make_instant.new.engine in
    let notes = c.make_instant.new.notes in
    let w : StationView = record { seat = t.seat; scheduler = t.s; limits = e.limits new; machine = e.machine new; failed = e.has_failed new; notes = notes; refused = t.refused } in
    let goes : Goes v w = record { same = record { scheduler = refl; limits = c.make_instant.ensures.same_limits }; seat = refl } in
    let i : HasInstant b x w = instant_made b x before v w batch taken goes c.in_ok-make_instant.ensures.works.1
    (replay_on (Code (automata_of x)) (e.program t.engine) (e.program new) (e.limits t.engine) (e.limits new) t.s (e.scheduler t.engine) (e.scheduler new) before batch (e.machine t.engine) (e.machine new) t.notes notes
    (c.self.invariant.1 x taken.kept.seat.code) c.make_instant.ensures.same_program c.make_instant.ensures.same_limits c.self.invariant.0 c.make_instant.ensures.same_scheduler
    c.in_ok-make_instant.ensures.own taken.rested.replay) in
    sent_fits b x w c.code_is_well_formed.ensures i

pub returns-clause-kept : goal.returns-clause-kept
returns-clause-kept g c =
    let e = g.E.Engine in
    let b = c.args.b.now in
    let x = c.args.c.now in
    let t = c.self.inside in
    let v : StationView = record { seat = t.seat; scheduler = t.s; limits = e.limits t.engine; machine = e.machine t.engine; failed = e.has_failed t.engine; notes = t.notes; refused = t.refused } in
    let before : List Entry = c.requires.taken.0 in
    let batch : List Order = c.args.batch.now in
    let taken : HasTaken b x before v batch = subst (λ (q : StationView). HasTaken b x before q batch) (sym c.self.view_is) c.requires.taken.1 in
    let new = c.make_instant.new.engine in
    let notes = c.make_instant.new.notes in
    let w : StationView = record { seat = t.seat; scheduler = t.s; limits = e.limits new; machine = e.machine new; failed = e.has_failed new; notes = notes; refused = t.refused } in
    let goes : Goes v w = record { same = record { scheduler = refl; limits = c.make_instant.ensures.same_limits }; seat = refl } in
    let i : HasInstant b x w = instant_made b x before v w batch taken goes c.in_ok-make_instant.ensures.works.1
    (replay_on (Code (automata_of x)) (e.program t.engine) (e.program new) (e.limits t.engine) (e.limits new) t.s (e.scheduler t.engine) (e.scheduler new) before batch (e.machine t.engine) (e.machine new) t.notes notes
    (c.self.invariant.1 x taken.kept.seat.code) c.make_instant.ensures.same_program c.make_instant.ensures.same_limits c.self.invariant.0 c.make_instant.ensures.same_scheduler
    c.in_ok-make_instant.ensures.own taken.rested.replay) in
    kept_gave c.give.result b x w c.give.new.seat i c.give.ensures.ok c.give.ensures.err

pub returns-clause-ready : goal.returns-clause-ready
returns-clause-ready g c =
    let e = g.E.Engine in
    let b = c.args.b.now in
    let x = c.args.c.now in
    let t = c.self.inside in
    let v : StationView = record { seat = t.seat; scheduler = t.s; limits = e.limits t.engine; machine = e.machine t.engine; failed = e.has_failed t.engine; notes = t.notes; refused = t.refused } in
    let before : List Entry = c.requires.taken.0 in
    let batch : List Order = c.args.batch.now in
    let taken : HasTaken b x before v batch = subst (λ (q : StationView). HasTaken b x before q batch) (sym c.self.view_is) c.requires.taken.1 in
    let new = c.make_instant.new.engine in
    let notes = c.make_instant.new.notes in
    let w : StationView = record { seat = t.seat; scheduler = t.s; limits = e.limits new; machine = e.machine new; failed = e.has_failed new; notes = notes; refused = t.refused } in
    let goes : Goes v w = record { same = record { scheduler = refl; limits = c.make_instant.ensures.same_limits }; seat = refl } in
    let i : HasInstant b x w = instant_made b x before v w batch taken goes c.in_ok-make_instant.ensures.works.1
    (replay_on (Code (automata_of x)) (e.program t.engine) (e.program new) (e.limits t.engine) (e.limits new) t.s (e.scheduler t.engine) (e.scheduler new) before batch (e.machine t.engine) (e.machine new) t.notes notes
    (c.self.invariant.1 x taken.kept.seat.code) c.make_instant.ensures.same_program c.make_instant.ensures.same_limits c.self.invariant.0 c.make_instant.ensures.same_scheduler
    c.in_ok-make_instant.ensures.own taken.rested.replay) in
    on_gave c.give.result b x w c.give.new.seat i c.give.ensures.ok
