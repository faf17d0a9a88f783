use Rattle.std.proofs.Common.{◌≡◌, ap, ◌∙◌, subst, sym, false, map, ◌++◌, List, length, arith}
use Rattle.loft_orders.specs.declared.entry.Actor.{Actor}
use Rattle.loft_orders.specs.declared.entry.Actor.TheVariants as actor
use Rattle.loft_baton.specs.Knowing.{among}
use Rattle.loft_actor.specs.Members.{IsGiver, outsider_member, worker_member, names_of}
use Rattle.loft_actor.proofs.BeginLemmas.{no_worker, no_client, no_client_yet, neither, fresh_client}
use Rattle.loft_host.specs.Callers.{callers_in}
use Rattle.loft_host.specs.Gathered.{everyone}
use Rattle.loft_host.proofs.EndLemmas.{as_many, ending, everyone_is}
use Rattle.loft_host.proofs.run.run_with_callers.Goals as goal

pub workers_of-requires-clause-new : goal.workers_of-requires-clause-new
workers_of-requires-clause-new g c = λ w.
    ap (λ (l : List Actor). among l (actor.Worker w)) c.in_ok-stations.ensures.giver.given_out ∙ no_worker c.in_ok-stations.stations w

pub outsiders_of-requires-clause-new : goal.outsiders_of-requires-clause-new
outsiders_of-requires-clause-new g c = λ n.
    let given = c.stations_of.new.giver.knows.given in
    let ws = c.in_ok-workers.workers in
    let first : among given (actor.Client n) ≡ false = ap (λ (l : List Actor). among l (actor.Client n)) c.in_ok-stations.ensures.giver.given_out ∙ no_client c.in_ok-stations.stations n in
    ap (λ (l : List Actor). among l (actor.Client n)) c.in_ok-workers.ensures.giver.given_out ∙ neither given (names_of (map worker_member ws)) (actor.Client n) first (no_client_yet ws n)

pub desks_of-requires-clause-new : goal.desks_of-requires-clause-new
desks_of-requires-clause-new g c = λ n le.
    let given = c.stations_of.new.giver.knows.given in
    let ws = c.in_ok-workers.workers in
    let os = c.in_ok-outsiders.outsiders in
    let first : among given (actor.Client n) ≡ false = ap (λ (l : List Actor). among l (actor.Client n)) c.in_ok-stations.ensures.giver.given_out ∙ no_client c.in_ok-stations.stations n in
    let second : among c.workers_of.new.giver.knows.given (actor.Client n) ≡ false =
    ap (λ (l : List Actor). among l (actor.Client n)) c.in_ok-workers.ensures.giver.given_out ∙ neither given (names_of (map worker_member ws)) (actor.Client n) first (no_client_yet ws n) in
    ap (λ (l : List Actor). among l (actor.Client n)) c.in_ok-outsiders.ensures.giver.given_out
    ∙ neither c.workers_of.new.giver.knows.given (names_of (map outsider_member os)) (actor.Client n) second
    (fresh_client os n (λ k d lt. let e = (c.in_ok-outsiders.ensures.outsiders k d lt).client in omega (arith, e, c.in_ok-outsiders.ensures.many)))

pub finish-requires-clause-giver : goal.finish-requires-clause-giver
finish-requires-clause-giver g c κs within =
    let b = c.in_ok-b.b in
    let x = c.args.c.now in
    let o = c.args.o in
    let ss = c.in_ok-stations.stations in
    let ws = c.in_ok-workers.workers in
    let os = c.in_ok-outsiders.outsiders in
    let ds = c.in_ok-desks.desks.items in
    let end = ending b x o ss ws os (λ d. d.pass) ds c.in_ok-stations.ensures.stations c.in_ok-workers.ensures.workers c.in_ok-outsiders.ensures.outsiders c.in_ok-desks.ensures.callers
    (c.in_ok-stations.ensures.many, c.in_ok-workers.ensures.many, c.in_ok-outsiders.ensures.many) in
    let given =
    c.in_ok-desks.ensures.giver.given_out
    ∙ ap (λ (l : List Actor). l ++ callers_in (map (λ d. d.pass) ds)) c.in_ok-outsiders.ensures.giver.given_out
    ∙ ap (λ (l : List Actor). (l ++ names_of (map outsider_member os)) ++ callers_in (map (λ d. d.pass) ds)) c.in_ok-workers.ensures.giver.given_out
    ∙ ap (λ (l : List Actor). ((l ++ names_of (map worker_member ws)) ++ names_of (map outsider_member os)) ++ callers_in (map (λ d. d.pass) ds)) c.in_ok-stations.ensures.giver.given_out
    ∙ everyone_is b x o ss ws os (map (λ d. d.pass) ds) end
    ∙ ap (everyone (length x.heads.schedulers) o.workers (length x.heads.clients)) (as_many (λ d. d.pass) ds ∙ sym c.in_ok-after.ensures.same) in
    subst (λ (l : List Actor). IsGiver b x l c.rounds_of_all.new.giver) given c.in_ok-after.ensures.giver

pub finish-requires-clause-many : goal.finish-requires-clause-many
finish-requires-clause-many g c κs within =
    let m = c.rounds_of_all.ensures.many in
    (m.0 ∙ c.in_ok-stations.ensures.many, m.1 ∙ c.in_ok-workers.ensures.many, m.2 ∙ c.in_ok-outsiders.ensures.many)
