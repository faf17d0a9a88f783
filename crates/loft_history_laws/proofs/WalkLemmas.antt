-- Histories that grow by one entry.
use Rattle.std.proofs.Common.{◌≡◌, Bool, true, false, List, [], ◌∷◌, ◌++◌, refl, sym, ap, ◌∙◌, subst, append_assoc, append-nil}
use Rattle.std.specs.Prelude.{if◌then◌else◌}
use Rattle.std.proofs.lemmas.Grind.{flat_map-append}
use Rattle.std.proofs.lemmas.List.Sums.{fold-append}
use Rattle.loft_base.specs.declared.ids.SchedId.{SchedId}
use Rattle.loft_tree.specs.declared.heads.Heads.{Heads}
use Rattle.loft_orders.specs.declared.order.Order.{Order}
use Rattle.loft_orders.specs.declared.order.Sent.{Sent}
use Rattle.loft_orders.specs.declared.entry.Entry.{Entry}
use Rattle.loft_history.specs.History.{sends, sent_in, is_addressed, orders_to, log, starts_of, waiting_after, waiting, waiting_step}
use Rattle.loft_history.specs.Legal.{AtEach}
use Rattle.loft_history.proofs.HistoryLemmas.{log-append}

-- what holds at first, and after each entry where it holds before it, holds of the history
pub walk : (Q : List Entry → Type 0) (P : List Entry → Entry → Type 0) → Q [] → ((before : List Entry) (e : Entry) → Q before → P before e → Q (before ++ e ∷ [])) → (es : List Entry) → AtEach P es → Q es
walk Q P none step es each = go [] es none each
  where
    go : (before rest : List Entry) → Q before → ((b : List Entry) (e : Entry) (r : List Entry) → before ++ rest ≡ b ++ e ∷ r → P b e) → Q (before ++ rest)
    go before [] q each = subst Q (sym (append-nil before)) q
    go before (e ∷ rest) q each =
        subst Q (append_assoc before (e ∷ []) rest)
        (go (before ++ e ∷ []) rest (step before e q (each before e rest refl)) (λ b f r eq. each b f r (sym (append_assoc before (e ∷ []) rest) ∙ eq)))

pub orders_to-append : (s : SchedId) (xs ys : List Sent) → orders_to s (xs ++ ys) ≡ orders_to s xs ++ orders_to s ys
orders_to-append s [] ys = refl
orders_to-append s (m ∷ xs) ys = one (is_addressed s m.to) (orders_to-append s xs ys)
  where
    one : (b : Bool) → orders_to s (xs ++ ys) ≡ orders_to s xs ++ orders_to s ys
        → (if b then m.order ∷ orders_to s (xs ++ ys) else orders_to s (xs ++ ys)) ≡ (if b then m.order ∷ orders_to s xs else orders_to s xs) ++ orders_to s ys
    one true q = ap (λ (l : List Order). m.order ∷ l) q
    one false q = q

pub sent_more : (es : List Entry) (e : Entry) → sent_in (es ++ e ∷ []) ≡ sent_in es ++ sends e
sent_more es e = flat_map-append sends es (e ∷ []) ∙ ap (λ (l : List Sent). sent_in es ++ l) (append-nil (sends e))

pub log_more : (s : SchedId) (es : List Entry) (e : Entry) → log s (es ++ e ∷ []) ≡ log s es ++ log s (e ∷ [])
log_more s es e = log-append s es (e ∷ [])

pub waiting_more : (h : Heads) (s : SchedId) (es : List Entry) (e : Entry) → waiting h s (es ++ e ∷ []) ≡ waiting_after s (waiting h s es) (e ∷ [])
waiting_more h s es e = fold-append (waiting_step s) (starts_of h s) es (e ∷ [])
