use Rattle.std.proofs.Common.{◌≡◌, ◌<◌, subst, rules, arith, take, length, take_all, IsTrue}
use Rattle.std.specs.List.{All}
use Rattle.std.proofs.lemmas.List.Elements.{All-more}
use Rattle.loft_station.specs.declared.outsider.Outsider.{Outsider}
use Rattle.loft_station.specs.Outsiders.{HasGivenAll}
use Rattle.loft_actor.proofs.look.have_given_all.Goals as goal

pub loop-outsider-preserved : goal.loop-outsider-preserved
loop-outsider-preserved c =
    let P : Outsider → Type 0 = HasGivenAll c.args.c.now in
    let it = c.outsider-item.result in
    let yes : IsTrue c.has_given_all.result = search rules in
    let lt : c.loop-outsider.outsider-index < length c.args.outsiders.now = search rules in
    All-more P c.args.outsiders.now c.loop-outsider.outsider-index it lt c.loop-outsider.invariant (subst P c.outsider-item.is (c.has_given_all.ensures yes))

pub returns : goal.returns
returns c = λ _.
    let P : Outsider → Type 0 = HasGivenAll c.args.c.now in
    let all : take c.loop-outsider.outsider-index c.args.outsiders.now ≡ c.args.outsiders.now = take_all c.loop-outsider.outsider-index c.args.outsiders.now (omega arith) in
    subst (All P) all c.loop-outsider.invariant
