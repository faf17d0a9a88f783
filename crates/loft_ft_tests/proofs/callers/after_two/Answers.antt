use Rattle.std.proofs.Common.{◌≡◌, ◌≤◌, length, ap, ◌∙◌, subst, arith, rules, IfOk, Some}
use Rattle.loft_orders.specs.declared.entry.Actor.TheVariants.{Client}
use Rattle.loft_baton.specs.declared.knows.Knows.{Knows}
use Rattle.loft_baton.specs.PassValue.{PassValue}
use Rattle.loft_baton.specs.Knowing.{IsIdle, begun, gave}
use Rattle.loft_ft.specs.Calls.{IsEvent, entries_in}
use Rattle.loft_ft.proofs.CallLemmas.{for_code}
use Rattle.loft_ft_tests.specs.Passes.{IsOfCaller, HasEvent}
use Rattle.loft_ft_tests.proofs.CallerLemmas.{new_of_caller, own_of_caller, whole_two}
use Rattle.loft_ft_tests.proofs.callers.after_two.Goals as goal

pub join-one-requires-after_bounds : goal.join-one-requires-after_bounds
join-one-requires-after_bounds g c =
    let b = c.in_ok-baton.baton in
    let x = c.args.code.now in
    let m : Knows = c.in_ok-baton.main.knows in
    let n : Knows = c.split-one.new.p.knows in
    let p : PassValue = c.split-one.result in
    let q : PassValue = c.split-other.result in
    let first : m ≡ begun (Some x) = c.in_ok-baton.ensures.knows in
    let second : n ≡ gave m (Client 1) = ap (λ (t : PassValue). t.knows) c.split-one.ensures.giver in
    let idle : IsIdle m = (ap (λ (k : Knows). k.stage) first, ap (λ (k : Knows). k.holds) first) in
    let code : m.code ≡ Some x = ap (λ (k : Knows). k.code) first in
    let still : IsIdle n = (ap (λ (k : Knows). k.stage) second ∙ idle.0, ap (λ (k : Knows). k.holds) second ∙ idle.1) in
    let same : n.code ≡ Some x = ap (λ (k : Knows). k.code) second ∙ code in
    let few : length x.heads.clients ≤ 2 = omega (arith, c.requires.clients) in
    let event = c.events_have_schedulers.ensures (record { 0 = 0 }) c.requires.event in
    let one : IsOfCaller b 1 p = new_of_caller b x 1 m p idle code c.requires.clients (ap (λ (t : PassValue). t.baton) c.split-one.ensures.new ∙ c.in_ok-baton.ensures.baton) (ap (λ (t : PassValue). t.knows) c.split-one.ensures.new) in
    let one_event : HasEvent p.knows.code = for_code (λ y. IsEvent y.heads (record { 0 = 0 })) p.knows.code x (ap (λ (t : PassValue). t.knows.code) c.split-one.ensures.new ∙ code) event in
    let other : IsOfCaller b 2 q =
    new_of_caller b x 2 n q still same few (ap (λ (t : PassValue). t.baton) c.split-other.ensures.new ∙ ap (λ (t : PassValue). t.baton) c.split-one.ensures.giver ∙ c.in_ok-baton.ensures.baton) (ap (λ (t : PassValue). t.knows) c.split-other.ensures.new) in
    let other_event : HasEvent q.knows.code = for_code (λ y. IsEvent y.heads (record { 0 = 0 })) q.knows.code x (ap (λ (t : PassValue). t.knows.code) c.split-other.ensures.new ∙ same) event in
    search (rules, one, one_event, other, other_event)

pub close-requires-clause-whole : goal.close-requires-clause-whole
close-requires-clause-whole g c =
    let b = c.in_ok-baton.baton in
    let p : PassValue = c.in_ok-one.field-0 in
    let q : PassValue = c.in_ok-other.field-0 in
    let one : IsOfCaller b 1 p = subst (λ r. IfOk r (IsOfCaller b 1)) c.in_ok-one.was c.join-one.ensures.first in
    let other : IsOfCaller b 2 q = subst (λ r. IfOk r (IsOfCaller b 2)) c.in_ok-other.was c.join-one.ensures.second in
    let knows : PassValue → Knows = λ t. t.knows in
    whole_two c.args.code.now c.in_ok-baton.main.knows c.split-one.new.p.knows c.split-other.new.p.knows p.knows q.knows c.join-main.result.knows c.join-main-2.result.knows (entries_in p.knows.own) (entries_in q.knows.own)
    c.in_ok-baton.ensures.knows (ap knows c.split-one.ensures.giver) (ap knows c.split-other.ensures.giver) (own_of_caller b 1 p one) (own_of_caller b 2 q other) (ap knows c.join-main.ensures) (ap knows c.join-main-2.ensures)
