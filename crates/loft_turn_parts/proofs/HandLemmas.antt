-- What a worker has still to post, by one entry more.
use Rattle.std.proofs.Common.{◌≡◌, ℕ, Bool, true, false, ◌||◌, List, [], ◌∷◌, ◌++◌, refl, ◌∙◌, ap, eq-eqb}
use Rattle.std.specs.Prelude.{if◌then◌else◌, not, drop}
use Rattle.std.proofs.lemmas.List.Sums.{fold-append}
use Rattle.loft_orders.specs.declared.entry.Entry.{Entry}
use Rattle.loft_orders.specs.declared.entry.Entry.TheVariants.{Pick, Post}
use Rattle.loft_base.specs.declared.options.RunOptions.{RunOptions}
use Rattle.loft_orders.specs.declared.order.Sent.{Sent}
use Rattle.loft_orders.specs.declared.thread.Thread.{Thread}
use Rattle.loft_sense.specs.Machine.{Prog}
use Rattle.loft_sense.specs.Async.{async}
use Rattle.loft_history.specs.History.{ends_block, unposted, is_busy, unposted_step, busy_step}

-- ---- what a Pick and a Post leave

pub left_picked : (x : Prog) (o : RunOptions) (w : ℕ) (h : List Entry) (t : Thread) → unposted x o w (h ++ Pick w t ∷ []) ≡ async x t o.limits.block
left_picked x o w h t = fold-append (unposted_step x o w) [] h (Pick w t ∷ []) ∙ ap (λ (own : Bool). if own then async x t o.limits.block else unposted x o w h) (eq-eqb w w refl)

pub busy_picked : (w : ℕ) (h : List Entry) (t : Thread) → is_busy w (h ++ Pick w t ∷ []) ≡ true
busy_picked w h t = fold-append (busy_step w) false h (Pick w t ∷ []) ∙ ap (λ (own : Bool). own || is_busy w h) (eq-eqb w w refl)

pub left_posted : (x : Prog) (o : RunOptions) (w : ℕ) (h : List Entry) (m : Sent) (rest : List Sent) → unposted x o w h ≡ m ∷ rest → unposted x o w (h ++ Post w m ∷ []) ≡ rest
left_posted x o w h m rest is =
    fold-append (unposted_step x o w) [] h (Post w m ∷ [])
    ∙ (ap (λ (own : Bool). if own then drop 1 (unposted x o w h) else unposted x o w h) (eq-eqb w w refl) ∙ ap (λ (l : List Sent). drop 1 l) is)

pub busy_posted : (w : ℕ) (h : List Entry) (m : Sent) → is_busy w (h ++ Post w m ∷ []) ≡ not (ends_block m.order)
busy_posted w h m = fold-append (busy_step w) false h (Post w m ∷ []) ∙ ap (λ (own : Bool). if own then not (ends_block m.order) else is_busy w h) (eq-eqb w w refl)
