use Rattle.std.proofs.Common.{◌≡◌, ◌∙◌, ◌++◌, ◌∷◌, [], List, ap}
use Rattle.loft_orders.specs.declared.order.Sent.{Sent}
use Rattle.loft_orders.specs.declared.order.To.{To}
use Rattle.loft_orders.specs.declared.thread.Thread.{Thread}
use Rattle.loft_passes.specs.Leavers.{sends_of}
use Rattle.loft_passes.proofs.LeaverLemmas.{sends, one_more}
use Rattle.loft_passes.proofs.leavers.Leavers.push.Goals as goal

pub returns : goal.returns
returns c =
    let tos : c.push_reserved.new.self.items ≡ c.self.inside.to.items ++ c.args.to ∷ [] =
    c.push_reserved.ensures.items ∙ ap (λ (l : List To). l ++ c.args.to ∷ []) c.reserve.ensures.items in
    ap (λ (l : List To). sends_of l c.push.new.self.items) tos
    ∙ (ap (λ (l : List Thread). sends_of (c.self.inside.to.items ++ c.args.to ∷ []) l) c.in_ok-push.ensures.items
    ∙ (one_more c.self.inside.to.items c.self.inside.threads.items c.args.to c.args.thread c.self.invariant
    ∙ ap (λ (l : List Sent). l ++ sends c.args.to c.args.thread ∷ []) c.self.view_is))
