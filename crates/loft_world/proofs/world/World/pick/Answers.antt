use Rattle.std.proofs.Common.{◌≡◌, List, [], ◌∷◌, ◌++◌, ap, ◌∙◌, sym, refl, subst}
use Rattle.loft_orders.specs.declared.entry.Entry.{Entry}
use Rattle.loft_orders.specs.declared.entry.Entry.TheVariants as entry
use Rattle.loft_world.specs.State.{IsWorld, count_in}
use Rattle.loft_world.proofs.StateLemmas.{picking}
use Rattle.loft_world.proofs.world.World.pick.Goals as goal

pub invariant_of-self-2 : goal.invariant_of-self-2
invariant_of-self-2 c =
    let w = c.self.inside in
    let job = c.unwrap.result in
    let items : c.push_reserved.new.self.items ≡ w.entries.items ++ entry.Pick c.args.w job ∷ [] =
    c.push_reserved.ensures.items ∙ ap (λ (es : List Entry). es ++ entry.Pick c.args.w job ∷ []) c.reserve.ensures.items in
    subst (λ (es : List Entry). IsWorld w.heads es w.waits.items c.pop_front-job.new.self.items (count_in w.creates)) (sym items)
    (picking w.heads w.entries.items w.waits.items w.jobs.items c.pop_front-job.new.self.items (count_in w.creates) c.args.w job c.self.invariant (c.pop_front-job.ensures.items ∙ rw c.unwrap.ensures refl))
