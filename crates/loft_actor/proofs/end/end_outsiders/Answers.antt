use Rattle.std.proofs.Common.{[], ◌∷◌, List, map, sym, subst}
use Rattle.std.proofs.lemmas.List.{map-append}
use Rattle.loft_station.specs.declared.outsider.Outsider.{Outsider}
use Rattle.loft_actor.specs.Members.{Joins, Member, outsider_member}
use Rattle.loft_actor.proofs.JoinLemmas.{joins_more}
use Rattle.loft_actor.proofs.end.end_outsiders.Goals as goal

pub loop-outsider-preserved : goal.loop-outsider-preserved
loop-outsider-preserved c =
    let b = c.args.b.now in
    let v : Outsider = c.in-Some.outsider in
    let vs : List Outsider = c.loop-outsider.yielded in
    let e = c.end_outsider-giver.ensures in
    subst (λ (ms : List Member). Joins b c.args.giver ms c.end_outsider-giver.result) (sym (map-append outsider_member vs (v ∷ [])))
    (joins_more b c.args.c.now c.args.giver (map outsider_member vs) c.loop-outsider.giver (outsider_member v) c.end_outsider-giver.result c.loop-outsider.invariant e.seat e.joined)
