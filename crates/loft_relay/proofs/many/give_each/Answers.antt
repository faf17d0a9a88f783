use Rattle.std.proofs.Common.{◌≡◌, true, List, sym, ap, ◌∙◌, subst, Some}
use Rattle.std.specs.List.{All}
use Rattle.std.specs.Prelude.{slice_index_or}
use Rattle.loft_orders.specs.declared.entry.Actor.{Actor}
use Rattle.loft_history.specs.Legal.{of}
use Rattle.loft_baton.specs.declared.knows.Knows.{Knows}
use Rattle.loft_baton.specs.declared.knows.Own.{Own}
use Rattle.loft_baton.specs.Knowing.{has}
use Rattle.loft_relay.specs.Hands.{actors_of}
use Rattle.loft_relay.proofs.HandLemmas.{owns_are, all_among_itself, has_owns, all_owns, may_give}
use Rattle.loft_relay.proofs.GiveLemmas.{orders_for}
use Rattle.loft_relay.proofs.many.give_each.Goals as goal

pub close-requires-clause-whole : goal.close-requires-clause-whole
close-requires-clause-whole g c =
    let given = c.in-Some.ensures.pass.given ∙ c.in_ok-hands.ensures.main.given in
    let own = owns_are c.in_ok-baton.baton c.args.sents.now c.work_all-hands.result.items c.in_ok-hands.hands.items c.args.clients.now c.in-Some.main.knows.own c.in-Some.ensures.own c.work_all-hands.ensures.done c.in-Some.ensures.done c.work_all-hands.ensures.clients c.in_ok-hands.ensures.clients in
    let actors : List Actor = actors_of c.args.clients.now in
    let all : All (λ a. has c.in-Some.main.knows.own a ≡ true) actors =
    λ k d l. let a : Actor = slice_index_or actors k d in ap (λ own. has own a) own ∙ has_owns c.args.sents.now c.args.clients.now a ∙ all_among_itself actors k d l in
    subst (All (λ a. has c.in-Some.main.knows.own a ≡ true)) (sym given) all

pub returns-clause-each : goal.returns-clause-each
returns-clause-each g c =
    let own = owns_are c.in_ok-baton.baton c.args.sents.now c.work_all-hands.result.items c.in_ok-hands.hands.items c.args.clients.now c.in-Some.main.knows.own c.in-Some.ensures.own c.work_all-hands.ensures.done c.in-Some.ensures.done c.work_all-hands.ensures.clients c.in_ok-hands.ensures.clients in
    let P : Own → Type 0 = λ o. of o.actor c.close.result.history ≡ o.entries in
    all_owns P c.args.sents.now c.args.clients.now (subst (All P) own c.close.ensures.follows.own)

pub work_all-hands-requires-clause-ready : goal.work_all-hands-requires-clause-ready
work_all-hands-requires-clause-ready g c κs within =
    may_give c.in_ok-baton.baton _ c.args.sents.now c.in_ok-hands.hands.items c.in_ok-hands.ensures.ready
    (orders_for c.args.code.now _ c.args.sents.now (ap (λ (k : Knows). k.code) c.in_ok-baton.ensures.knows) c.requires.orders)
