use Rattle.std.proofs.Common.{List}
use Rattle.loft_station.specs.declared.worker.Worker.{Worker}
use Rattle.loft_host.specs.Gathered.{worker_own}
use Rattle.loft_host.proofs.EndLemmas.{gathered_push}
use Rattle.loft_host.proofs.end.end_workers.Goals as goal

pub loop-worker-preserved : goal.loop-worker-preserved
loop-worker-preserved c =
    let v : Worker = c.in-Some.worker in
    let vs : List Worker = c.loop-worker.yielded in
    let e = c.end_worker-giver.ensures in
    gathered_push c.args.b.now c.args.c.now c.args.giver.knows.given c.args.giver.knows.own c.loop-worker.giver v.seat.pass.knows c.end_worker-giver.result worker_own vs v c.loop-worker.invariant e.own e.joined
