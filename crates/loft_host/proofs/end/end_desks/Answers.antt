use Rattle.loft_host.specs.Gathered.{caller_own}
use Rattle.loft_host.proofs.EndLemmas.{gathered_push}
use Rattle.loft_host.proofs.end.end_desks.Goals as goal

pub loop-desk-preserved : goal.loop-desk-preserved
loop-desk-preserved g c =
    let v = c.in-Some.desk in
    let e = c.end_desk-pass.ensures in
    gathered_push c.args.b.now c.args.c.now c.args.giver.knows.given c.args.giver.knows.own c.loop-desk.giver v.pass.knows c.end_desk-pass.result.0 (λ d. caller_own d.pass) c.loop-desk.yielded v c.loop-desk.invariant e.own e.joined
