-- Each order is in one batch, or left over.
use Rattle.std.proofs.Common.{◌≡◌, ◌⊎◌, inl, inr, Bool, true, false, List, [], ◌∷◌, ◌++◌, refl, sym, ap, ◌∙◌, append_assoc, append-nil}
use Rattle.std.specs.Prelude.{if◌then◌else◌}
use Rattle.std.proofs.lemmas.List.Sums.{fold-append}
use Rattle.loft_base.specs.declared.ids.SchedId.{SchedId}
use Rattle.loft_tree.specs.declared.heads.Heads.{Heads}
use Rattle.loft_orders.specs.declared.order.Order.{Order}
use Rattle.loft_orders.specs.declared.order.Sent.{Sent}
use Rattle.loft_orders.specs.declared.entry.Entry.{Entry}
use Rattle.loft_orders.specs.declared.entry.Entry.TheVariants.{Take, Give, Pick, Post, Client}
use Rattle.loft_sense.specs.Heads.{same_scheduler}
use Rattle.loft_history.specs.History.{sends, sent_in, log, orders_to, starts_of, waiting_after, waiting, waiting_step}
use Rattle.loft_history.specs.Legal.{TakesDue, IsRouted}
use Rattle.loft_history.proofs.HistoryLemmas.{same_self, is_same}
use Rattle.loft_history_laws.specs.Batches.{joined, InBatches, InBatch, LeftOver, InFirst}
use Rattle.loft_history_laws.proofs.WalkLemmas.{walk, orders_to-append, sent_more, log_more, waiting_more}

joined-append : (xs ys : List (List Order)) → joined (xs ++ ys) ≡ joined xs ++ joined ys
joined-append [] ys = refl
joined-append (b ∷ xs) ys = ap (λ (l : List Order). b ++ l) (joined-append xs ys) ∙ sym (append_assoc b (joined xs) (joined ys))

-- ---- all batches

-- nothing is sent, and nothing is taken
still : (s : SchedId) (l : List (List Order)) (w st : List Order) (ms : List Sent) → joined l ++ w ≡ st ++ orders_to s ms → joined (l ++ []) ++ w ≡ st ++ orders_to s (ms ++ [])
still s l w st ms e = ap (λ (k : List (List Order)). joined k ++ w) (append-nil l) ∙ e ∙ ap (λ (k : List Sent). st ++ orders_to s k) (sym (append-nil ms))

sending : (s : SchedId) (l : List (List Order)) (w st : List Order) (ms new : List Sent) → joined l ++ w ≡ st ++ orders_to s ms
    → joined (l ++ []) ++ (w ++ orders_to s new) ≡ st ++ orders_to s (ms ++ new)
sending s l w st ms new e =
    ap (λ (k : List (List Order)). joined k ++ (w ++ orders_to s new)) (append-nil l) ∙ sym (append_assoc (joined l) w (orders_to s new))
    ∙ ap (λ (k : List Order). k ++ orders_to s new) e ∙ append_assoc st (orders_to s ms) (orders_to s new) ∙ ap (λ (k : List Order). st ++ k) (sym (orders_to-append s ms new))

taking : (s : SchedId) (l : List (List Order)) (w st batch : List Order) (ms : List Sent) (b : Bool) → (b ≡ true → batch ≡ w) → joined l ++ w ≡ st ++ orders_to s ms
    → joined (l ++ (if b then batch ∷ [] else [])) ++ (if b then [] else w) ≡ st ++ orders_to s (ms ++ [])
taking s l w st batch ms true is e =
    append-nil (joined (l ++ batch ∷ [])) ∙ joined-append l (batch ∷ []) ∙ ap (λ (k : List Order). joined l ++ k) (append-nil batch ∙ is refl) ∙ e
    ∙ ap (λ (k : List Sent). st ++ orders_to s k) (sym (append-nil ms))
taking s l w st batch ms false is e = still s l w st ms e

batch_is : (h : Heads) (s q : SchedId) (batch : List Order) (es : List Entry) → same_scheduler s q ≡ true → batch ≡ waiting h q es → batch ≡ waiting h s es
batch_is h s q batch es is e = e ∙ ap (λ k. waiting h k es) (sym (is_same s q is))

one_step : (h : Heads) (s : SchedId) (es : List Entry) (e : Entry) (l : List (List Order)) (st : List Order) (ms : List Sent) → TakesDue h es e → joined l ++ waiting h s es ≡ st ++ orders_to s ms
    → joined (l ++ log s (e ∷ [])) ++ waiting_after s (waiting h s es) (e ∷ []) ≡ st ++ orders_to s (ms ++ sends e)
one_step h s es (Take q batch) l st ms is e = taking s l (waiting h s es) st batch ms (same_scheduler s q) (λ same. batch_is h s q batch es same is) e
one_step h s es (Give q sent) l st ms is e = sending s l (waiting h s es) st ms sent e
one_step h s es (Pick w job) l st ms is e = still s l (waiting h s es) st ms e
one_step h s es (Post w sent) l st ms is e = sending s l (waiting h s es) st ms (sent ∷ []) e
one_step h s es (Client c sent) l st ms is e = sending s l (waiting h s es) st ms (sent ∷ []) e

-- the batches and what is left over are all that was addressed to a scheduler, in order
pub in_batches : (h : Heads) (es : List Entry) → IsRouted h es → InBatches h es
in_batches h es routed s =
    walk (λ l. joined (log s l) ++ waiting h s l ≡ starts_of h s ++ orders_to s (sent_in l)) (TakesDue h) (sym (append-nil (starts_of h s)))
    (λ before e so_far is.
    ap (λ (l : List (List Order)). joined l ++ waiting h s (before ++ e ∷ [])) (log_more s before e)
    ∙ ap (λ (l : List Order). joined (log s before ++ log s (e ∷ [])) ++ l) (waiting_more h s before e)
    ∙ one_step h s before e (log s before) (starts_of h s) (sent_in before) is so_far
    ∙ ap (λ (l : List Sent). starts_of h s ++ orders_to s l) (sym (sent_more before e)))
    es routed

-- ---- the first batch after an entry

-- entries of which none is a take of s add what they send
add : (s : SchedId) (w : List Order) (es : List Entry) → log s es ≡ [] → waiting_after s w es ≡ w ++ orders_to s (sent_in es)
add s w [] none = sym (append-nil w)
add s w (Take q batch ∷ es) none = by (same_scheduler s q) none (add s w es)
  where
    by : (b : Bool) → (if b then batch ∷ log s es else log s es) ≡ [] → (log s es ≡ [] → waiting_after s w es ≡ w ++ orders_to s (sent_in es))
        → waiting_after s (if b then [] else w) es ≡ w ++ orders_to s (sent_in es)
    by true p rest = absurd cc
    by false p rest = rest p
add s w (Give q sent ∷ es) none =
    add s (w ++ orders_to s sent) es none ∙ append_assoc w (orders_to s sent) (orders_to s (sent_in es)) ∙ ap (λ (l : List Order). w ++ l) (sym (orders_to-append s sent (sent_in es)))
add s w (Pick v job ∷ es) none = add s w es none
add s w (Post v m ∷ es) none =
    add s (w ++ orders_to s (m ∷ [])) es none ∙ append_assoc w (orders_to s (m ∷ [])) (orders_to s (sent_in es)) ∙ ap (λ (l : List Order). w ++ l) (sym (orders_to-append s (m ∷ []) (sent_in es)))
add s w (Client c m ∷ es) none =
    add s (w ++ orders_to s (m ∷ [])) es none ∙ append_assoc w (orders_to s (m ∷ [])) (orders_to s (sent_in es)) ∙ ap (λ (l : List Order). w ++ l) (sym (orders_to-append s (m ∷ []) (sent_in es)))

-- the first take of s
abbrev Found : SchedId → List Entry → Type 0
Found s es = (until : List Entry) × (batch : List Order) × (rest : List Entry) × (es ≡ until ++ Take s batch ∷ rest) × (log s until ≡ [])

later : (s : SchedId) (e : Entry) (es : List Entry) → ((l : List Entry) → log s (e ∷ l) ≡ log s l) → Found s es ⊎ (log s es ≡ []) → Found s (e ∷ es) ⊎ (log s (e ∷ es) ≡ [])
later s e es none (inl (until, batch, rest, is, first)) = inl (e ∷ until, batch, rest, ap (λ (l : List Entry). e ∷ l) is, none until ∙ first)
later s e es none (inr p) = inr (none es ∙ p)

look : (s : SchedId) (es : List Entry) → Found s es ⊎ (log s es ≡ [])
look s [] = inr refl
look s (Take q batch ∷ es) = by (same_scheduler s q) refl (look s es)
  where
    by : (b : Bool) → same_scheduler s q ≡ b → Found s es ⊎ (log s es ≡ []) → Found s (Take q batch ∷ es) ⊎ (log s (Take q batch ∷ es) ≡ [])
    by true is rest = inl ([], batch, es, ap (λ k. Take k batch ∷ es) (sym (is_same s q is)), refl)
    by false is rest = later s (Take q batch) es (λ l. ap (λ (b : Bool). if b then batch ∷ log s l else log s l) is) rest
look s (Give q ms ∷ es) = later s (Give q ms) es (λ l. refl) (look s es)
look s (Pick w job ∷ es) = later s (Pick w job) es (λ l. refl) (look s es)
look s (Post w m ∷ es) = later s (Post w m) es (λ l. refl) (look s es)
look s (Client c m ∷ es) = later s (Client c m) es (λ l. refl) (look s es)

-- an entry that isn't a take of s, and entries of which none is
none_more : (s : SchedId) (e : Entry) (es : List Entry) → log s (e ∷ []) ≡ [] → log s es ≡ [] → log s (e ∷ es) ≡ []
none_more s (Take q batch) es here none = by (same_scheduler s q) here
  where
    by : (b : Bool) → (if b then batch ∷ [] else []) ≡ [] → (if b then batch ∷ log s es else log s es) ≡ []
    by true p = absurd cc
    by false p = none
none_more s (Give q ms) es here none = none
none_more s (Pick w job) es here none = none
none_more s (Post w m) es here none = none
none_more s (Client c m) es here none = none

along : (h : Heads) (s : SchedId) (before : List Entry) (e : Entry) (until : List Entry) → log s (e ∷ []) ≡ [] → log s until ≡ []
    → waiting h s (before ++ e ∷ until) ≡ waiting h s before ++ (orders_to s (sends e) ++ orders_to s (sent_in until))
along h s before e until here none =
    fold-append (waiting_step s) (starts_of h s) before (e ∷ until) ∙ add s (waiting h s before) (e ∷ until) (none_more s e until here none)
    ∙ ap (λ (l : List Order). waiting h s before ++ l) (orders_to-append s (sends e) (sent_in until))

pub in_first : (h : Heads) (es : List Entry) → IsRouted h es → InFirst h es
in_first h es routed before e after s eq here = by (look s after)
  where
    by : Found s after ⊎ (log s after ≡ []) → InBatch h before e after s ⊎ LeftOver h es before e after s
    by (inl (until, batch, rest, is, first)) = inl (record {
      until = until;
      batch = batch;
      rest = rest;
      splits = is;
      first = first;
      is = routed (before ++ e ∷ until) (Take s batch) rest (eq ∙ ap (λ (l : List Entry). before ++ e ∷ l) is ∙ sym (append_assoc before (e ∷ until) (Take s batch ∷ rest))) ∙ along h s before e until here first;
    })
    by (inr none) = inr (record { none = none; is = ap (waiting h s) eq ∙ along h s before e after here none })

-- ---- since the last take

-- what waits was sent since the scheduler's last take
pub sent_since : (h : Heads) (s : SchedId) (es : List Entry) (batch : List Order) (later : List Entry) → log s later ≡ [] → waiting h s (es ++ Take s batch ∷ later) ≡ orders_to s (sent_in later)
sent_since h s es batch later none =
    fold-append (waiting_step s) (starts_of h s) es (Take s batch ∷ later)
    ∙ ap (λ (own : Bool). waiting_after s (if own then [] else waiting h s es) later) (same_self s)
    ∙ add s [] later none

-- where it has taken nothing, its starts come first
pub sent_at_all : (h : Heads) (s : SchedId) (es : List Entry) → log s es ≡ [] → waiting h s es ≡ starts_of h s ++ orders_to s (sent_in es)
sent_at_all h s es none = add s (starts_of h s) es none
