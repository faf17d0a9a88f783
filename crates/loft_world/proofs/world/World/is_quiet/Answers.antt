use Rattle.std.proofs.Common.{◌≡◌, List, sym, ap, ◌∙◌, subst, length}
use Rattle.std.specs.List.{All}
use Rattle.loft_orders.specs.declared.order.Order.{Order}
use Rattle.loft_history.specs.History.{jobs}
use Rattle.loft_world.specs.State.{State, IsQuiet, count_in}
use Rattle.loft_world.proofs.StateLemmas.{quiet}
use Rattle.loft_world.proofs.world.World.is_quiet.Goals as goal

pub returns : goal.returns
returns c = λ yes.
    let w = c.self.inside in
    let history : w.entries.items ≡ c.args.self.now.history = ap (λ (u : State). u.history) c.self.view_is in
    let none : length (jobs w.entries.items) ≡ 0 = ap (λ es. length (jobs es)) history ∙ sym c.jobs.ensures ∙ c.nobody_waits.ensures.jobs yes in
    let empty : All (λ (orders : List Order). length orders ≡ 0) w.waits.items = subst (All (λ (orders : List Order). length orders ≡ 0)) c.as_slice.ensures.value (c.nobody_waits.ensures.orders yes) in
    subst (λ (u : State). IsQuiet u.heads u.history) c.self.view_is
    (quiet w.heads w.entries.items w.waits.items w.jobs.items (count_in w.creates) c.self.invariant none empty)
