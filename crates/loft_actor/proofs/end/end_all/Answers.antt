use Rattle.std.proofs.Common.{List, ◌++◌, map, sym, subst}
use Rattle.std.specs.List.{All}
use Rattle.loft_station.specs.declared.worker.Worker.{Worker}
use Rattle.loft_station.specs.declared.outsider.Outsider.{Outsider}
use Rattle.loft_station.specs.Stations.{StationView}
use Rattle.loft_station.specs.Workers.{IsReady as IsReadyWorker}
use Rattle.loft_station.specs.Outsiders.{IsReady as IsReadyOutsider}
use Rattle.loft_actor.specs.Members.{Joins, station_member, worker_member, outsider_member}
use Rattle.loft_actor.proofs.JoinLemmas.{joins_then}
use Rattle.loft_actor.proofs.end.end_all.Goals as goal

pub end_workers-giver-requires-clause-workers : goal.end_workers-giver-requires-clause-workers
end_workers-giver-requires-clause-workers g c = subst (λ (k : List Worker). All (IsReadyWorker c.args.b.now c.args.c.now) k) (sym c.into_vec-2.ensures) c.requires.workers

pub end_outsiders-giver-requires-clause-outsiders : goal.end_outsiders-giver-requires-clause-outsiders
end_outsiders-giver-requires-clause-outsiders g c = subst (λ (k : List Outsider). All (IsReadyOutsider c.args.b.now c.args.c.now) k) (sym c.into_vec-3.ensures) c.requires.outsiders

pub returns-clause-giver : goal.returns-clause-giver
returns-clause-giver g c =
    let b = c.args.b.now in
    let giver = c.args.giver in
    let ss : List StationView = c.args.a.stations in
    let ws : List Worker = c.args.a.workers in
    let os : List Outsider = c.args.a.outsiders in
    let one = subst (λ (k : List StationView). Joins b giver (map station_member k) c.in_ok-giver.giver) c.into_vec.ensures c.in_ok-giver.ensures.giver in
    let two = subst (λ (k : List Worker). Joins b c.in_ok-giver.giver (map worker_member k) c.end_workers-giver.result) c.into_vec-2.ensures c.end_workers-giver.ensures in
    let three = subst (λ (k : List Outsider). Joins b c.end_workers-giver.result (map outsider_member k) c.end_outsiders-giver.result) c.into_vec-3.ensures c.end_outsiders-giver.ensures in
    joins_then b giver (map station_member ss ++ map worker_member ws) c.end_workers-giver.result (map outsider_member os) c.end_outsiders-giver.result
    (joins_then b giver (map station_member ss) c.in_ok-giver.giver (map worker_member ws) c.end_workers-giver.result one two) three
