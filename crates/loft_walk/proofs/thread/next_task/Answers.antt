use Rattle.std.proofs.Common.{◌<◌, ◌-◌, List, take, vec_len, refl, sym, ap, ◌∙◌}
use Rattle.loft_sense.specs.Tree.{tree}
use Rattle.loft_sense.specs.Run.{live}
use Rattle.loft_walk.specs.declared.running.Running.{Running}
use Rattle.loft_walk.specs.Frames.{actives}
use Rattle.loft_walk.proofs.Lasts.{last_is, last_set, last_off}
use Rattle.loft_walk.proofs.Live.{top_drops, top_stays}
use Rattle.loft_walk.proofs.thread.next_task.Goals as goal

pub returns-in-Some-take-clause-live : goal.returns-in-Some-take-clause-live
returns-in-Some-take-clause-live c p =
    let some : 0 < vec_len c.seeking.running = c.in-Some.ensures.variant.0 refl in
    let top = c.in-Some.top.now in
    sym (c.seeking.invariant p)
    ∙ top_stays p c.seeking.running.items (take (vec_len c.seeking.running - 1) c.seeking.running.items) top (last_is _ _ c.seeking.running.ok.0 some top c.in-Some.ensures.value)
    c.take.result c.in-Some-take.task c.take.new.work _ c.in-Some-take.is c.take.ensures (last_set _ _ c.seeking.running.ok.0 some (record top { work = c.take.new.work }))

pub seeking-preserved-in_default-take : goal.seeking-preserved-in_default-take
seeking-preserved-in_default-take c p =
    let some : 0 < vec_len c.seeking.running = c.in-Some.ensures.variant.0 refl in
    let top = c.in-Some.top.now in
    ap (λ (rs : List Running). live (tree p) (actives rs)) (last_off c.seeking.running.items _ c.seeking.running.ok.0 some (record top { work = c.take.new.work }) c.pop.new.self.items c.pop.ensures.rest)
    ∙ (top_drops p c.seeking.running.items (take (vec_len c.seeking.running - 1) c.seeking.running.items) top (last_is _ _ c.seeking.running.ok.0 some top c.in-Some.ensures.value)
    c.take.result c.take.new.work.items c.in_default-take.is c.take.ensures
    ∙ c.seeking.invariant p)
