use Rattle.std.proofs.Common.{◌≡◌, ◌∙◌, ◌∷◌, Option, sym, ap, subst, refl, not}
use Rattle.loft_orders.specs.declared.order.Sent.{Sent}
use Rattle.loft_history.specs.History.{ends_block, unposted}
use Rattle.loft_world.specs.State.{State}
use Rattle.loft_sense.specs.Async.{GivesNext}
use Rattle.loft_course.specs.Course.{Hand, hand_after}
use Rattle.loft_course.proofs.RunsOn.{same_hand}
use Rattle.loft_course.proofs.WorkersRun.{posted_hand}
use Rattle.loft_course.proofs.worker.Worker.post.Goals as goal

pub returns-clause-hand : goal.returns-clause-hand
returns-clause-hand g c =
    let e = g.B.BlockEngine in
    let x = g.X.Setting.program in
    let o = g.X.Setting.options in
    let w = c.args.w in
    let m = c.in-Some.sent in
    let h = c.args.world.now.history in
    let rest = e.left c.next.new.self in
    let next : e.left c.self.inside.engine ≡ m ∷ rest = subst (λ (q : Option Sent). GivesNext q (e.left c.self.inside.engine) rest) c.in-Some.is c.in_ok-sent.ensures.next in
    let is : unposted x o w h ≡ m ∷ rest = sym (ap (λ (q : Hand). q.left) (c.self.view_is ∙ c.requires.hand)) ∙ next in
    same_hand (record { left = rest; busy = not c.ends_block-ends.result }) (record { left = rest; busy = not (ends_block m.order) }) refl (ap not c.ends_block-ends.ensures)
    ∙ (sym (posted_hand x o h w m rest is) ∙ ap (λ (s : State). hand_after x o s.history w) (sym c.in_ok-posted.ensures.ok))
