use Rattle.loft_orders.specs.declared.entry.Actor.TheVariants.{Sched}
use Rattle.loft_sense.specs.Heads.{scheduler}
use Rattle.loft_actor.proofs.BeginLemmas.{giver_more, new_pass, IsNewcomer, station_ready}
use Rattle.loft_actor.proofs.begin.station_of.Goals as goal

pub returns-clause-giver : goal.returns-clause-giver
returns-clause-giver g c = giver_more c.args.b.now c.args.c.now c.args.giver.now.knows.given c.args.giver.now c.split-pass.new.p (Sched (scheduler c.args.k)) c.requires.giver c.split-pass.ensures.giver

pub returns-clause-station : goal.returns-clause-station
returns-clause-station g c =
    let e = g.E.Engine in
    let b = c.args.b.now in
    let x = c.args.c.now in
    let n : IsNewcomer b x (Sched (scheduler c.args.k)) c.split-pass.result = new_pass b x c.args.giver.now.knows.given c.args.giver.now c.split-pass.result (Sched (scheduler c.args.k)) c.requires.giver c.split-pass.ensures.new in
    station_ready b x c.args.l c.args.k c.split-pass.result c.new.result (e.program c.args.engine) (e.scheduler c.args.engine) (e.limits c.args.engine) (e.machine c.args.engine) (e.has_failed c.args.engine) n c.requires.engine c.requires.declared
    c.new.ensures.ready c.new.ensures.scheduler c.new.ensures.limits
