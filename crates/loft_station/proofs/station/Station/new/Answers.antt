use Rattle.std.proofs.Common.{◌≡◌, ◌∙◌, ap, subst, false, Some}
use Rattle.loft_base.specs.declared.ids.SchedId.{SchedId}
use Rattle.loft_tree.specs.NamedFits.{IsScheduler}
use Rattle.loft_orders.specs.declared.entry.Actor.TheVariants.{Sched}
use Rattle.loft_sense.specs.Machine.{empty}
use Rattle.loft_seat.specs.Seats.{IsNewPass}
use Rattle.loft_station.specs.Stations.{StationView}
use Rattle.loft_station.proofs.StationLemmas.{the_scheduler, ready_new}
use Rattle.loft_station.proofs.station.Station.new.Goals as goal

pub returns-clause-ready : goal.returns-clause-ready
returns-clause-ready g c = λ x known declared.
    let e = g.E.Engine in
    let engine = c.args.engine in
    let s : SchedId = c.in-Some-Sched.s in
    let here : c.one.result ≡ Some (Sched s) = let is = c.in-Some-Sched.is in let named = c.in-Some-Sched.field-0-is in cc in
    let same' : e.scheduler engine ≡ s = the_scheduler c.args.pass.knows.own s (e.scheduler engine) c.one.result c.requires.pass.own c.one.ensures here in
    let v : StationView = record { seat = record { pass = c.args.pass; length = 0 }; scheduler = s; limits = e.limits engine; machine = e.machine engine; failed = e.has_failed engine; notes = c.new.result; refused = false } in
    ready_new x v (e.program engine) (subst (λ (k : SchedId). IsNewPass (Sched k) c.args.pass) same' c.requires.pass) known (c.requires.code x known) (subst (IsScheduler x.heads) same' declared)
    (c.requires.fresh ∙ ap (empty (e.program engine)) same') c.requires.works c.new.ensures
