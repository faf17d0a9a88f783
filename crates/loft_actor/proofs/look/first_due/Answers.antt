use Rattle.std.proofs.Common.{◌<◌, false, length, sym, ◌∙◌, subst, rules}
use Rattle.loft_station.specs.Stations.{StationView}
use Rattle.loft_actor.specs.Members.{RestsAfter}
use Rattle.loft_actor.proofs.LookLemmas.{either, since_more}
use Rattle.loft_actor.proofs.look.first_due.Goals as goal

pub loop-k-preserved : goal.loop-k-preserved
loop-k-preserved g c =
    let P : StationView → Type 0 = RestsAfter c.args.c.now c.args.world.now.history in
    let it : StationView = c.index-stations-k.result in
    let rests : P it = sym c.is_due.ensures ∙ c.if-is_due.false in
    let lt : c.loop-k.k < length c.args.stations.now = search rules in
    since_more P c.args.stations.now c.args.from c.loop-k.k c.loop-k.invariant (λ d. subst P (c.index-stations-k.is ∙ either c.args.stations.now c.loop-k.k it d lt) rests)
