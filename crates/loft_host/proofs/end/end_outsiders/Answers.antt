use Rattle.std.proofs.Common.{List}
use Rattle.loft_station.specs.declared.outsider.Outsider.{Outsider}
use Rattle.loft_host.specs.Gathered.{outsider_own}
use Rattle.loft_host.proofs.EndLemmas.{gathered_push}
use Rattle.loft_host.proofs.end.end_outsiders.Goals as goal

pub loop-outsider-preserved : goal.loop-outsider-preserved
loop-outsider-preserved c =
    let v : Outsider = c.in-Some.outsider in
    let vs : List Outsider = c.loop-outsider.yielded in
    let e = c.end_outsider-giver.ensures in
    gathered_push c.args.b.now c.args.c.now c.args.giver.knows.given c.args.giver.knows.own c.loop-outsider.giver v.seat.pass.knows c.end_outsider-giver.result outsider_own vs v c.loop-outsider.invariant e.own e.joined
