use Rattle.std.proofs.Common.{◌∙◌, List, length, map, sym, ap, subst}
use Rattle.std.specs.List.{All}
use Rattle.loft_orders.specs.declared.entry.Actor.{Actor}
use Rattle.loft_station.specs.declared.worker.Worker.{Worker}
use Rattle.loft_station.specs.declared.outsider.Outsider.{Outsider}
use Rattle.loft_station.specs.Stations.{StationView, IsReady as IsReadyStation}
use Rattle.loft_station.specs.Workers.{IsReady as IsReadyWorker}
use Rattle.loft_station.specs.Outsiders.{IsReady as IsReadyOutsider}
use Rattle.loft_host.specs.Gathered.{everyone}
use Rattle.loft_host.proofs.EndLemmas.{as_many, ending, gathered_none, gathered_itself, all_gathered, whole, legal, same_heads, notes}
use Rattle.loft_host.proofs.run.finish.Goals as goal

pub end_stations-requires-clause-giver : goal.end_stations-requires-clause-giver
end_stations-requires-clause-giver g c = gathered_none c.args.b c.args.c.now _ c.args.giver c.requires.giver

pub end_stations-requires-clause-stations : goal.end_stations-requires-clause-stations
end_stations-requires-clause-stations g c = subst (λ (l : List StationView). All (IsReadyStation c.args.b c.args.c.now) l) (sym c.into_vec.ensures) (λ k d lt. (c.requires.stations k d lt).ready)

pub end_workers-second-requires-clause-giver : goal.end_workers-second-requires-clause-giver
end_workers-second-requires-clause-giver g c = gathered_itself c.args.b c.args.c.now _ _ c.in_ok-first.first c.in_ok-first.ensures.giver

pub end_workers-second-requires-clause-workers : goal.end_workers-second-requires-clause-workers
end_workers-second-requires-clause-workers g c = subst (λ (l : List Worker). All (IsReadyWorker c.args.b c.args.c.now) l) (sym c.into_vec-2.ensures) (λ k d lt. (c.requires.workers k d lt).ready)

pub end_outsiders-third-requires-clause-giver : goal.end_outsiders-third-requires-clause-giver
end_outsiders-third-requires-clause-giver g c = gathered_itself c.args.b c.args.c.now _ _ c.end_workers-second.result c.end_workers-second.ensures

pub end_outsiders-third-requires-clause-outsiders : goal.end_outsiders-third-requires-clause-outsiders
end_outsiders-third-requires-clause-outsiders g c = subst (λ (l : List Outsider). All (IsReadyOutsider c.args.b c.args.c.now) l) (sym c.into_vec-3.ensures) (λ k d lt. (c.requires.outsiders k d lt).ready)

pub end_desks-requires-clause-giver : goal.end_desks-requires-clause-giver
end_desks-requires-clause-giver g c = gathered_itself c.args.b c.args.c.now _ _ c.end_outsiders-third.result c.end_outsiders-third.ensures

pub end_desks-requires-clause-at_work : goal.end_desks-requires-clause-at_work
end_desks-requires-clause-at_work g c = λ k d lt. (c.requires.callers k d lt).at_work

pub close-world-requires-clause-whole : goal.close-world-requires-clause-whole
close-world-requires-clause-whole g c =
    let b = c.args.b in
    let x = c.args.c.now in
    let o = c.args.o in
    let a = c.args.a in
    let ds = c.args.desks.items in
    let r = c.requires in
    let given : List Actor = everyone (length x.heads.schedulers) o.workers (length x.heads.clients) (length ds) in
    let all =
    all_gathered b x given c.args.giver c.in_ok-first.first c.end_workers-second.result c.end_outsiders-third.result c.in_ok-last.last a.stations c.into_vec.result.items a.workers c.into_vec-2.result.items a.outsiders c.into_vec-3.result.items (λ d. d.pass) ds
    r.giver c.into_vec.ensures c.into_vec-2.ensures c.into_vec-3.ensures c.in_ok-first.ensures.giver c.end_workers-second.ensures c.end_outsiders-third.ensures c.in_ok-last.ensures in
    let end = ending b x o a.stations a.workers a.outsiders (λ d. d.pass) ds r.stations r.workers r.outsiders r.callers r.many in
    whole b x o a.stations a.workers a.outsiders (map (λ d. d.pass) ds) end (length ds) (as_many (λ d. d.pass) ds) c.in_ok-last.last all

pub returns-clause-heads : goal.returns-clause-heads
returns-clause-heads g c =
    let b = c.args.b in
    let x = c.args.c.now in
    let o = c.args.o in
    let a = c.args.a in
    let ds = c.args.desks.items in
    let r = c.requires in
    let given : List Actor = everyone (length x.heads.schedulers) o.workers (length x.heads.clients) (length ds) in
    let all =
    all_gathered b x given c.args.giver c.in_ok-first.first c.end_workers-second.result c.end_outsiders-third.result c.in_ok-last.last a.stations c.into_vec.result.items a.workers c.into_vec-2.result.items a.outsiders c.into_vec-3.result.items (λ d. d.pass) ds
    r.giver c.into_vec.ensures c.into_vec-2.ensures c.into_vec-3.ensures c.in_ok-first.ensures.giver c.end_workers-second.ensures c.end_outsiders-third.ensures c.in_ok-last.ensures in
    let end = ending b x o a.stations a.workers a.outsiders (λ d. d.pass) ds r.stations r.workers r.outsiders r.callers r.many in
    same_heads b x o a.stations a.workers a.outsiders (map (λ d. d.pass) ds) end c.in_ok-last.last c.close-world.result given all c.close-world.ensures.follows

pub returns-clause-legal : goal.returns-clause-legal
returns-clause-legal g c =
    let b = c.args.b in
    let x = c.args.c.now in
    let o = c.args.o in
    let a = c.args.a in
    let ds = c.args.desks.items in
    let r = c.requires in
    let given : List Actor = everyone (length x.heads.schedulers) o.workers (length x.heads.clients) (length ds) in
    let all =
    all_gathered b x given c.args.giver c.in_ok-first.first c.end_workers-second.result c.end_outsiders-third.result c.in_ok-last.last a.stations c.into_vec.result.items a.workers c.into_vec-2.result.items a.outsiders c.into_vec-3.result.items (λ d. d.pass) ds
    r.giver c.into_vec.ensures c.into_vec-2.ensures c.into_vec-3.ensures c.in_ok-first.ensures.giver c.end_workers-second.ensures c.end_outsiders-third.ensures c.in_ok-last.ensures in
    let end = ending b x o a.stations a.workers a.outsiders (λ d. d.pass) ds r.stations r.workers r.outsiders r.callers r.many in
    legal b x o a.stations a.workers a.outsiders (map (λ d. d.pass) ds) end c.in_ok-last.last c.close-world.result given all c.close-world.ensures.follows c.close-world.ensures.only c.length-length.ensures.routed c.closed_histories_are_legal.ensures

pub returns-clause-notes : goal.returns-clause-notes
returns-clause-notes g c =
    let b = c.args.b in
    let x = c.args.c.now in
    let o = c.args.o in
    let a = c.args.a in
    let ds = c.args.desks.items in
    let r = c.requires in
    let given : List Actor = everyone (length x.heads.schedulers) o.workers (length x.heads.clients) (length ds) in
    let all =
    all_gathered b x given c.args.giver c.in_ok-first.first c.end_workers-second.result c.end_outsiders-third.result c.in_ok-last.last a.stations c.into_vec.result.items a.workers c.into_vec-2.result.items a.outsiders c.into_vec-3.result.items (λ d. d.pass) ds
    r.giver c.into_vec.ensures c.into_vec-2.ensures c.into_vec-3.ensures c.in_ok-first.ensures.giver c.end_workers-second.ensures c.end_outsiders-third.ensures c.in_ok-last.ensures in
    let end = ending b x o a.stations a.workers a.outsiders (λ d. d.pass) ds r.stations r.workers r.outsiders r.callers r.many in
    c.in_ok-first.ensures.notes ∙ ap (map (λ (v : StationView). v.notes)) c.into_vec.ensures
    ∙ notes b x o a.stations a.workers a.outsiders (map (λ d. d.pass) ds) end c.in_ok-last.last c.close-world.result given all c.close-world.ensures.follows
