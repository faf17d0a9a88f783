use Rattle.std.proofs.Common.{◌≡◌, ap, ◌∙◌, subst, false, map, ◌++◌, List}
use Rattle.loft_orders.specs.declared.entry.Actor.{Actor}
use Rattle.loft_orders.specs.declared.entry.Actor.TheVariants as actor
use Rattle.loft_baton.specs.Knowing.{among}
use Rattle.loft_actor.specs.Members.{IsGiver, outsider_member, worker_member, names_of, members_of}
use Rattle.loft_actor.proofs.BeginLemmas.{no_worker, no_client, no_client_yet, neither}
use Rattle.loft_actor.proofs.EndLemmas.{same_names}
use Rattle.loft_actor.proofs.run.run_all.Goals as goal

pub workers_of-requires-clause-new : goal.workers_of-requires-clause-new
workers_of-requires-clause-new g c = λ w.
    ap (λ (l : List Actor). among l (actor.Worker w)) c.in_ok-stations.ensures.giver.given_out ∙ no_worker c.in_ok-stations.stations w

pub outsiders_of-requires-clause-new : goal.outsiders_of-requires-clause-new
outsiders_of-requires-clause-new g c = λ n.
    let given = c.stations_of.new.giver.knows.given in
    let ws = c.in_ok-hands.hands in
    let first : among given (actor.Client n) ≡ false = ap (λ (l : List Actor). among l (actor.Client n)) c.in_ok-stations.ensures.giver.given_out ∙ no_client c.in_ok-stations.stations n in
    ap (λ (l : List Actor). among l (actor.Client n)) c.in_ok-hands.ensures.giver.given_out ∙ neither given (names_of (map worker_member ws)) (actor.Client n) first (no_client_yet ws n)

pub finish-requires-clause-giver : goal.finish-requires-clause-giver
finish-requires-clause-giver g c κs within =
    let b = c.in_ok-b.b in
    let x = c.args.c.now in
    let ss = c.in_ok-stations.stations in
    let ws = c.in_ok-hands.hands in
    let os = c.in_ok-outsiders.outsiders in
    let e = c.in_ok-phases.ensures in
    let a = c.phases.new.a in
    let names = same_names b x c.args.l ss a.stations ws a.workers os a.outsiders
    c.in_ok-stations.ensures.stations e.stations c.in_ok-hands.ensures.workers e.workers c.in_ok-outsiders.ensures.outsiders e.outsiders c.phases.ensures.many in
    let given : c.outsiders_of.new.giver.knows.given ≡ names_of (members_of a.stations a.workers a.outsiders) =
    c.in_ok-outsiders.ensures.giver.given_out
    ∙ ap (λ (l : List Actor). l ++ names_of (map outsider_member os)) c.in_ok-hands.ensures.giver.given_out
    ∙ ap (λ (l : List Actor). (l ++ names_of (map worker_member ws)) ++ names_of (map outsider_member os)) c.in_ok-stations.ensures.giver.given_out
    ∙ names in
    subst (λ (l : List Actor). IsGiver b x l c.phases.new.giver) given e.giver
