use Rattle.std.proofs.Common.{◌≡◌, ◌<◌, List, [], ◌∷◌, ◌++◌, length, ◌∙◌, ap, sym, subst, set}
use Rattle.loft_orders.specs.declared.order.Order.{Order}
use Rattle.loft_orders.specs.declared.entry.Entry.{Entry}
use Rattle.loft_orders.specs.declared.entry.Entry.TheVariants as entry
use Rattle.loft_history.specs.History.{waiting}
use Rattle.loft_world.specs.State.{State, IsWorld, count_in}
use Rattle.loft_world.proofs.StateLemmas.{taking}
use Rattle.loft_world.proofs.world.World.record_take.Goals as goal

pub invariant_of-self-2 : goal.invariant_of-self-2
invariant_of-self-2 c =
    let w = c.self.inside in
    let s = c.args.s in
    let batch = c.args.copy in
    let items : c.push_reserved.new.self.items ≡ w.entries.items ++ entry.Take s batch ∷ [] =
    c.push_reserved.ensures.items ∙ ap (λ (es : List Entry). es ++ entry.Take s batch ∷ []) c.reserve.ensures.items in
    let declared : s.0 < length w.heads.schedulers = subst (λ (v : State). s.0 < length v.heads.schedulers) (sym c.self.view_is) c.requires.declared in
    let none : c.replace-batch.new.dest ≡ [] = c.replace-batch.ensures.after ∙ c.new.ensures in
    let due : batch ≡ waiting w.heads s w.entries.items = subst (λ (v : State). batch ≡ waiting v.heads s v.history) (sym c.self.view_is) c.requires.copy in
    subst (λ (l : List Order). IsWorld w.heads c.push_reserved.new.self.items (set w.waits.items s.0 l) w.jobs.items (count_in w.creates)) (sym none)
    (subst (λ (es : List Entry). IsWorld w.heads es (set w.waits.items s.0 []) w.jobs.items (count_in w.creates)) (sym items)
    (taking w.heads w.entries.items w.waits.items w.jobs.items (count_in w.creates) s batch c.self.invariant declared due))
