use Rattle.std.proofs.Common.{◌≡◌, ◌||◌, true, [], ◌∷◌, sym, ap, ◌∙◌, subst, IfOk}
use Rattle.std.proofs.lemmas.List.Elements.{All-weaker}
use Rattle.loft_orders.specs.declared.entry.Actor.TheVariants as actor
use Rattle.loft_history.specs.Legal.{actor_of, same_actor}
use Rattle.loft_baton.specs.declared.knows.Knows.{Knows}
use Rattle.loft_baton.specs.Knowing.{has, own_of}
use Rattle.loft_baton.specs.PassValue.{PassValue}
use Rattle.loft_relay.specs.Gives.{entries_of, HasGiven}
use Rattle.loft_relay.proofs.GiveLemmas.{own_of_three, has_two, of_two, whole_two, code_of_two, legal_two}
use Rattle.loft_relay.proofs.two.give_both.Given as given
use Rattle.loft_relay.proofs.two.give_both.Goals as goal

owns : (g : given.Over) (c : goal.After-length-length g) → c.join-main-2.result.knows.own ≡ own_of (actor.Client c.args.first) (entries_of c.args.first c.args.firsts.now) ∷ own_of (actor.Client c.args.second) (entries_of c.args.second c.args.seconds.now) ∷ []
owns g c =
    let baton = c.in_ok-baton.baton in
    let one = subst (λ o. IfOk o (HasGiven baton c.args.first c.args.firsts.now)) c.in_ok-one.was c.join-one.ensures.first in
    let other = subst (λ o. IfOk o (HasGiven baton c.args.second c.args.seconds.now)) c.in_ok-other.was c.join-one.ensures.second in
    let main = ap (λ (t : PassValue). t.knows.own) (c.split-other.ensures.giver) ∙ ap (λ (t : PassValue). t.knows.own) (c.split-one.ensures.giver) ∙ ap (λ (k : Knows). k.own) c.in_ok-baton.ensures.knows in
    own_of_three c.split-other.new.p.knows c.in_ok-one.field-0.knows c.in_ok-other.field-0.knows c.join-main.result.knows c.join-main-2.result.knows
    (own_of (actor.Client c.args.first) (entries_of c.args.first c.args.firsts.now)) (own_of (actor.Client c.args.second) (entries_of c.args.second c.args.seconds.now))
    main one.own other.own (ap (λ (t : PassValue). t.knows) c.join-main.ensures) (ap (λ (t : PassValue). t.knows) c.join-main-2.ensures)

pub close-world-requires-clause-whole : goal.close-world-requires-clause-whole
close-world-requires-clause-whole g c =
    let baton = c.in_ok-baton.baton in
    let one = subst (λ o. IfOk o (HasGiven baton c.args.first c.args.firsts.now)) c.in_ok-one.was c.join-one.ensures.first in
    let other = subst (λ o. IfOk o (HasGiven baton c.args.second c.args.seconds.now)) c.in_ok-other.was c.join-one.ensures.second in
    whole_two c.args.code.now (actor.Client c.args.first) (actor.Client c.args.second) _ c.split-one.new.p.knows c.split-other.new.p.knows c.in_ok-one.field-0.knows c.in_ok-other.field-0.knows c.join-main.result.knows c.join-main-2.result.knows
    (entries_of c.args.first c.args.firsts.now) (entries_of c.args.second c.args.seconds.now)
    c.in_ok-baton.ensures.knows (ap (λ (t : PassValue). t.knows) c.split-one.ensures.giver) (ap (λ (t : PassValue). t.knows) c.split-other.ensures.giver)
    (ap (λ (t : PassValue). t.knows) c.join-main.ensures) (ap (λ (t : PassValue). t.knows) c.join-main-2.ensures) one.own other.own

pub returns-clause-first : goal.returns-clause-first
returns-clause-first g c = (of_two c.close-world.result.history (own_of (actor.Client c.args.first) (entries_of c.args.first c.args.firsts.now)) (own_of (actor.Client c.args.second) (entries_of c.args.second c.args.seconds.now)) _ (owns g c) c.close-world.ensures.follows.own).0

pub returns-clause-second : goal.returns-clause-second
returns-clause-second g c = (of_two c.close-world.result.history (own_of (actor.Client c.args.first) (entries_of c.args.first c.args.firsts.now)) (own_of (actor.Client c.args.second) (entries_of c.args.second c.args.seconds.now)) _ (owns g c) c.close-world.ensures.follows.own).1

pub returns-clause-only : goal.returns-clause-only
returns-clause-only g c =
    All-weaker (λ e. has c.join-main-2.result.knows.own (actor_of e) ≡ true) (λ e. (same_actor (actor_of e) (actor.Client c.args.first) || same_actor (actor_of e) (actor.Client c.args.second)) ≡ true)
    (λ e h. has_two (actor.Client c.args.first) (actor.Client c.args.second) (actor_of e) (entries_of c.args.first c.args.firsts.now) (entries_of c.args.second c.args.seconds.now) (ap (λ own. has own (actor_of e)) (sym (owns g c)) ∙ h)) c.close-world.result.history c.close-world.ensures.only

pub returns-clause-legal : goal.returns-clause-legal
returns-clause-legal g c = λ o one other.
    legal_two c.args.code.now o c.join-main-2.result.knows c.close-world.result c.args.first c.args.second c.args.firsts.now c.args.seconds.now
    (owns g c) c.close-world.ensures.follows c.close-world.ensures.only c.length-length.ensures.routed
    (code_of_two c.args.code.now (actor.Client c.args.first) (actor.Client c.args.second) _ c.split-one.new.p.knows c.split-other.new.p.knows c.in_ok-one.field-0.knows c.in_ok-other.field-0.knows c.join-main.result.knows c.join-main-2.result.knows
    c.in_ok-baton.ensures.knows (ap (λ (t : PassValue). t.knows) c.split-one.ensures.giver) (ap (λ (t : PassValue). t.knows) c.split-other.ensures.giver)
    (ap (λ (t : PassValue). t.knows) c.join-main.ensures) (ap (λ (t : PassValue). t.knows) c.join-main-2.ensures))
    one other
