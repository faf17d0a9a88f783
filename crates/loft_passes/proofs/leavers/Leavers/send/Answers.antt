use Rattle.std.proofs.Common.{◌≡◌, ◌∙◌, ◌++◌, [], List, length, drop, sym, ap, append-nil}
use Rattle.std.specs.Arc.{arc_value}
use Rattle.std.proofs.Math.ListN.{drop_of_length-le}
use Rattle.loft_orders.specs.declared.order.Sent.{Sent}
use Rattle.loft_orders.specs.declared.order.To.{To}
use Rattle.loft_orders.specs.declared.thread.Thread.{Thread}
use Rattle.loft_orders.specs.Group.{member}
use Rattle.loft_passes.specs.Leavers.{sends_of}
use Rattle.loft_passes.proofs.LeaverLemmas.{then_sent}
use Rattle.loft_passes.proofs.leavers.Leavers.send.Goals as goal

pub loop-index-init : goal.loop-index-init
loop-index-init c =
    let ts : List Thread = (arc_value c.group.inside.threads).items in
    let threads : ts ≡ c.self.inside.threads.items = c.group.view_is ∙ c.in_ok-group.ensures in
    ap (λ (l : List Sent). l ++ sends_of c.deref-to-items.result.now ts) c.in_ok-reserve.ensures
    ∙ ap (λ (l : List Sent). c.args.sent.now ++ l)
    (ap (λ (l : List To). sends_of l ts) c.deref-to-items.ensures.value
    ∙ (ap (λ (l : List Thread). sends_of c.self.inside.to.items l) threads ∙ c.self.view_is))

pub loop-index-preserved : goal.loop-index-preserved
loop-index-preserved c =
    let i = c.loop-index.index in
    let tos : List To = c.deref-to-items.result.now in
    let ts : List Thread = (arc_value c.group.inside.threads).items in
    let threads : ts ≡ c.self.inside.threads.items = c.group.view_is ∙ c.in_ok-group.ensures in
    let same : length tos ≡ length ts = ap length c.deref-to-items.ensures.value ∙ (c.self.invariant ∙ ap length (sym threads)) in
    let is = c.in_ok-share.ensures ∙ ap (λ (l : List Thread). member l i) (sym c.group.view_is) in
    then_sent c.loop-index.sent c.push.new.self tos ts i _ c.in_ok-share.field-0 same c.loop-index-test.true is c.in_ok-push.ensures.ok ∙ c.loop-index.invariant

pub returns : goal.returns
returns c =
    let tos : List To = c.deref-to-items.result.now in
    let ts : List Thread = (arc_value c.group.inside.threads).items in
    let left : sends_of (drop c.loop-index.index tos) (drop c.loop-index.index ts) ≡ [] = ap (λ (l : List To). sends_of l (drop c.loop-index.index ts)) (drop_of_length-le tos c.loop-index-test.false) in
    sym (append-nil c.loop-index.sent) ∙ (ap (λ (l : List Sent). c.loop-index.sent ++ l) (sym left) ∙ c.loop-index.invariant)
