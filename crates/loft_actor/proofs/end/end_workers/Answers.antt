use Rattle.std.proofs.Common.{[], ◌∷◌, List, map, sym, subst}
use Rattle.std.proofs.lemmas.List.{map-append}
use Rattle.loft_station.specs.declared.worker.Worker.{Worker}
use Rattle.loft_actor.specs.Members.{Joins, Member, worker_member}
use Rattle.loft_actor.proofs.JoinLemmas.{joins_more}
use Rattle.loft_actor.proofs.end.end_workers.Goals as goal

pub loop-worker-preserved : goal.loop-worker-preserved
loop-worker-preserved c =
    let b = c.args.b.now in
    let v : Worker = c.in-Some.worker in
    let vs : List Worker = c.loop-worker.yielded in
    let e = c.end_worker-giver.ensures in
    subst (λ (ms : List Member). Joins b c.args.giver ms c.end_worker-giver.result) (sym (map-append worker_member vs (v ∷ [])))
    (joins_more b c.args.c.now c.args.giver (map worker_member vs) c.loop-worker.giver (worker_member v) c.end_worker-giver.result c.loop-worker.invariant e.seat e.joined)
