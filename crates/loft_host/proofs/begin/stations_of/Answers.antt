use Rattle.std.proofs.Common.{◌≡◌, ◌+◌, ◌<◌, ℕ, sym, ap, ◌∙◌, subst, arith, map, [], ◌∷◌, ◌++◌, List, length, get_or, length-append}
use Rattle.std.specs.List.{All}
use Rattle.loft_base.specs.declared.ids.SchedId.{SchedId}
use Rattle.loft_orders.specs.declared.entry.Actor.{Actor}
use Rattle.loft_orders.specs.declared.entry.Actor.TheVariants.{Sched}
use Rattle.loft_sense.specs.Heads.{scheduler}
use Rattle.loft_baton.specs.Knowing.{among}
use Rattle.loft_station.specs.Stations.{StationView}
use Rattle.loft_actor.specs.Members.{AtIndex, IsGiver, IsStationOf, station_member, names_of}
use Rattle.loft_actor.proofs.ListLemmas.{index_push}
use Rattle.loft_actor.proofs.BeginLemmas.{names_push, fresh_scheduler}
use Rattle.loft_host.proofs.begin.stations_of.Goals as goal

pub station_of-requires-clause-new : goal.station_of-requires-clause-new
station_of-requires-clause-new c =
    let i = c.loop-k.invariant in
    let vs : List StationView = c.loop-k.stations in
    let k : ℕ = c.loop-k.k in
    let below : All (λ v. v.scheduler.0 < k) vs = λ n d lt. let e : (get_or vs n d).scheduler.0 ≡ n = ap (λ (q : SchedId). q.0) (i.stations n d lt).scheduler in omega (arith, i.many) in
    ap (λ (l : List Actor). among l (Sched (scheduler k))) i.giver.given_out ∙ fresh_scheduler vs k below

pub loop-k-preserved : goal.loop-k-preserved
loop-k-preserved c =
    let b = c.args.b.now in
    let x = c.args.c.now in
    let l = c.args.l in
    let i = c.loop-k.invariant in
    let k : ℕ = c.loop-k.k in
    let vs : List StationView = c.loop-k.stations in
    let v : StationView = c.in_ok-station.station in
    let is = c.in_ok-push.ensures.ok in
    let number : v.scheduler ≡ scheduler k = c.in_ok-station.ensures.station.scheduler in
    record {
      giver = subst (λ (t : List Actor). IsGiver b x t c.station_of.new.giver)
          (ap (λ (t : List Actor). t ++ Sched (scheduler k) ∷ []) i.giver.given_out ∙ sym (ap (λ (t : List StationView). names_of (map station_member t)) is ∙ names_push station_member vs v ∙ ap (λ (q : SchedId). names_of (map station_member vs) ++ Sched q ∷ []) number)) c.in_ok-station.ensures.giver;
      many = ap length is ∙ length-append vs (v ∷ []) ∙ ap (λ (n : ℕ). n + 1) i.many;
      stations = subst (AtIndex (IsStationOf b x l)) (sym is) (index_push (IsStationOf b x l) vs v i.stations (subst (λ (n : ℕ). IsStationOf b x l n v) (sym i.many) c.in_ok-station.ensures.station));
    }
