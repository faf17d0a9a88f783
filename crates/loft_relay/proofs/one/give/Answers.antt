use Rattle.std.proofs.Common.{ap}
use Rattle.loft_orders.specs.declared.entry.Entry.TheVariants.{Client}
use Rattle.loft_baton.specs.PassValue.{PassValue}
use Rattle.loft_relay.proofs.GiveLemmas.{adds_either, ok_own, err_own}
use Rattle.loft_relay.proofs.one.give.Goals as goal

pub release-requires-clause-adds : goal.release-requires-clause-adds
release-requires-clause-adds g c =
    adds_either c.client-given.result c.args.p.now.knows c.hold-held.new.p.knows c.world.result.now c.hold-held.result c.client-given.new.self c.args.c c.args.sent.now
    (ap (λ (t : PassValue). t.knows) c.hold-held.ensures.knows) c.hold-held.ensures.follows c.world.ensures.value
    c.client-given.ensures.ok c.client-given.ensures.err c.requires.order c.requires.own

pub returns-clause-ok : goal.returns-clause-ok
returns-clause-ok g c =
    ok_own c.client-given.result c.args.p.now.knows c.hold-held.new.p.knows c.world.result.now c.hold-held.result c.client-given.new.self (Client c.args.c c.args.sent.now) c.release.new.p.knows.own
    (ap (λ (t : PassValue). t.knows) c.hold-held.ensures.knows) c.world.ensures.value c.client-given.ensures.ok (ap (λ (t : PassValue). t.knows.own) c.release.ensures.knows)

pub returns-clause-err : goal.returns-clause-err
returns-clause-err g c =
    err_own c.client-given.result c.args.p.now.knows c.hold-held.new.p.knows c.world.result.now c.hold-held.result c.client-given.new.self c.release.new.p.knows.own
    (ap (λ (t : PassValue). t.knows) c.hold-held.ensures.knows) c.world.ensures.value c.client-given.ensures.err (ap (λ (t : PassValue). t.knows.own) c.release.ensures.knows)
