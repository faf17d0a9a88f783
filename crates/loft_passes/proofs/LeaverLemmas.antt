-- What leaving threads send, one after the other.
use Rattle.std.proofs.Common.{◌≡◌, ℕ, ◌+◌, ◌<◌, List, [], ◌∷◌, ◌++◌, length, drop, get_or, append_assoc, refl, sym, ap, ◌∙◌, subst}
use Rattle.std.proofs.lemmas.List.{drop_more}
use Rattle.loft_orders.specs.declared.order.Order.TheVariants.{Arrive}
use Rattle.loft_orders.specs.declared.order.Sent.{Sent}
use Rattle.loft_orders.specs.declared.order.To.{To}
use Rattle.loft_orders.specs.declared.thread.Thread.{Thread}
use Rattle.loft_orders.specs.Group.{member, no_thread}
use Rattle.loft_passes.specs.Leavers.{sends_of}

abbrev pub sends : To → Thread → Sent
sends to t = record { to = to; order = Arrive t }

pub one_more : (tos : List To) (ts : List Thread) (to : To) (t : Thread) → length tos ≡ length ts → sends_of (tos ++ to ∷ []) (ts ++ t ∷ []) ≡ sends_of tos ts ++ sends to t ∷ []
one_more [] [] to t same = refl
one_more [] (u ∷ us) to t same = absurd (cc same)
one_more (a ∷ tos) [] to t same = absurd (cc same)
one_more (a ∷ tos) (u ∷ us) to t same = ap (λ (l : List Sent). sends a u ∷ l) (one_more tos us to t (cc same))

-- the thread with this index sends itself, and then those after it do
pub next_sent : (tos : List To) (ts : List Thread) (i : ℕ) (to : To) (t : Thread) → length tos ≡ length ts → i < length tos → t ≡ member ts i
    → sends_of (drop i tos) (drop i ts) ≡ sends (get_or tos i to) t ∷ sends_of (drop (i + 1) tos) (drop (i + 1) ts)
next_sent tos ts i to t same within is =
    let inside : i < length ts = subst (λ (n : ℕ). i < n) same within in
    ap (λ (l : List To). sends_of l (drop i ts)) (drop_more tos i to within)
    ∙ (ap (λ (l : List Thread). sends_of (get_or tos i to ∷ drop (i + 1) tos) l) (drop_more ts i no_thread inside)
    ∙ ap (λ (u : Thread). sends (get_or tos i to) u ∷ sends_of (drop (i + 1) tos) (drop (i + 1) ts)) (sym is))

-- the same after what was sent
pub then_sent : (sent now : List Sent) (tos : List To) (ts : List Thread) (i : ℕ) (to : To) (t : Thread) → length tos ≡ length ts → i < length tos → t ≡ member ts i
    → now ≡ sent ++ sends (get_or tos i to) t ∷ [] → now ++ sends_of (drop (i + 1) tos) (drop (i + 1) ts) ≡ sent ++ sends_of (drop i tos) (drop i ts)
then_sent sent now tos ts i to t same within is next =
    ap (λ (l : List Sent). l ++ sends_of (drop (i + 1) tos) (drop (i + 1) ts)) next
    ∙ (append_assoc sent (sends (get_or tos i to) t ∷ []) (sends_of (drop (i + 1) tos) (drop (i + 1) ts))
    ∙ ap (λ (l : List Sent). sent ++ l) (sym (next_sent tos ts i to t same within is)))
