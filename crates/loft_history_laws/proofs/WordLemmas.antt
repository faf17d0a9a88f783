-- One place, in words.
use Rattle.std.proofs.Common.{◌≡◌, ◌==◌, ◌⊎◌, inl, inr, ⊎_elim, ℕ, zero, suc, ◌<◌, ◌≤◌, Bool, true, false, List, [], ◌∷◌, ◌++◌, length, refl, sym, ap, ◌∙◌, subst, arith, eqb-true}
use Rattle.std.specs.Prelude.{◌||◌, not, if◌then◌else◌}
use Rattle.std.proofs.lemmas.List.Sums.{fold-append}
use mathlib.Core.Logic.{dite}
use native.Mathlib.Decide.{ℕ_discrete}
use Rattle.loft_base.specs.declared.ids.ThreadId.{ThreadId}
use Rattle.loft_orders.specs.declared.entry.Entry.{Entry}
use Rattle.loft_orders.specs.declared.entry.Entry.TheVariants.{Take, Give, Pick, Post, Client}
use Rattle.loft_base.specs.declared.options.RunOptions.{RunOptions}
use Rattle.loft_orders.specs.declared.thread.Thread.{Thread}
use Rattle.loft_sense.specs.Machine.{Prog, heads}
use Rattle.loft_history.specs.History.{sent_in, jobs, ends_block, in_hand, is_busy, unposted, busy_step}
use Rattle.loft_history.specs.Legal.{IsLegal}
use Rattle.loft_soundness.specs.WellFormed.{IsWellFormed}
use Rattle.loft_conservation.specs.Counts.{threads_in, ended_in}
use Rattle.loft_history_laws.specs.Places.{IsOneIf, HandsAgree, hand_after, hand_of, linked_at, arriving_at, in_hand_of, total, everywhere, made_by_all, ThreadPlace, LinkedAt, ArrivesAt, Waits, InHandOf, HasEnded, IsPlaceOf, times, InOne, Nowhere}
use Rattle.loft_history_laws.proofs.SumLemmas.{total_le}
use Rattle.loft_history_laws.proofs.DeskLemmas.{hand_more, open_hand}
use Rattle.loft_history_laws.proofs.AllowedLemmas.{Known, Allowed, busy, legal_walk}
use Rattle.loft_history_laws.proofs.FreshLemmas.{one_place}

all_zero : (n q : ℕ) (f : ℕ → ℕ) → total n f ≡ 0 → q < n → f q ≡ 0
all_zero n q f none lt = let p = total_le n q f lt in omega (arith, p, none)

OnlyAt : ℕ → (ℕ → ℕ) → Type 0
OnlyAt n f = (s : ℕ) × (s < n) × (f s ≡ 1) × ((q : ℕ) → q < n → (q ≡ s) ⊎ (f q ≡ 0))

-- a sum of 1 is 1 at one place
only_at : (n : ℕ) (f : ℕ → ℕ) → total n f ≡ 1 → OnlyAt n f
unfolding OnlyAt
only_at zero f e = absurd (omega (arith, e))
only_at (suc n) f e =
    dite (ℕ_discrete (f n) 0)
    (λ none. further none (only_at n f (omega (arith, e, none))))
    (λ some. let one : f n ≡ 1 = omega (arith, some, e) in let rest : total n f ≡ 0 = omega (arith, some, e) in
    (n, omega arith, one, λ q lt. dite (ℕ_discrete q n) (λ is. inl is) (λ off. inr (all_zero n q f rest (omega (arith, off, lt))))))
  where
    further : f n ≡ 0 → OnlyAt n f → OnlyAt (suc n) f
    further none p = (p.0, let lt = p.1 in omega (arith, lt), p.2, λ q lt. dite (ℕ_discrete q n) (λ is. inr (ap f is ∙ none)) (λ off. p.3 q (omega (arith, off, lt))))

module _ (x : Prog) (o : RunOptions) (es : List Entry) (t : ThreadId) where
  abbrev schedulers : ℕ
  schedulers = length (heads x).schedulers

  -- the thread is in one place, once, and in no other
  abbrev Stays : Type 0
  Stays = (p : ThreadPlace) × IsPlaceOf x o p × (times x o es t p ≡ 1) × ((q : ThreadPlace) → IsPlaceOf x o q → (q ≡ p) ⊎ (times x o es t q ≡ 0))

  -- how often it is in each kind of place
  record Sums (l a j w e : ℕ) : Type 0 where
    linked : total schedulers (linked_at x o es t) ≡ l
    arriving : total schedulers (arriving_at x es t) ≡ a
    waits : threads_in t (jobs es) ≡ j
    hands : total o.workers (in_hand_of es t) ≡ w
    ended : ended_in t (sent_in es) ≡ e

  linked_in_one : Sums 1 0 0 0 0 → Stays
  unfolding OnlyAt
  linked_in_one e = let p = only_at schedulers (linked_at x o es t) e.linked in (LinkedAt p.0, p.1, p.2, others p.0 p.3)
    where
      others : (s : ℕ) → ((q : ℕ) → q < schedulers → (q ≡ s) ⊎ (linked_at x o es t q ≡ 0)) → (q : ThreadPlace) → IsPlaceOf x o q → (q ≡ LinkedAt s) ⊎ (times x o es t q ≡ 0)
      others s rest (LinkedAt q) lt = ⊎_elim (λ is. inl (ap LinkedAt is)) (λ z. inr z) (rest q lt)
      others s rest (ArrivesAt q) lt = inr (all_zero schedulers q (arriving_at x es t) e.arriving lt)
      others s rest Waits lt = inr e.waits
      others s rest (InHandOf w) lt = inr (all_zero o.workers w (in_hand_of es t) e.hands lt)
      others s rest HasEnded lt = inr e.ended

  arrives_in_one : Sums 0 1 0 0 0 → Stays
  unfolding OnlyAt
  arrives_in_one e = let p = only_at schedulers (arriving_at x es t) e.arriving in (ArrivesAt p.0, p.1, p.2, others p.0 p.3)
    where
      others : (s : ℕ) → ((q : ℕ) → q < schedulers → (q ≡ s) ⊎ (arriving_at x es t q ≡ 0)) → (q : ThreadPlace) → IsPlaceOf x o q → (q ≡ ArrivesAt s) ⊎ (times x o es t q ≡ 0)
      others s rest (LinkedAt q) lt = inr (all_zero schedulers q (linked_at x o es t) e.linked lt)
      others s rest (ArrivesAt q) lt = ⊎_elim (λ is. inl (ap ArrivesAt is)) (λ z. inr z) (rest q lt)
      others s rest Waits lt = inr e.waits
      others s rest (InHandOf w) lt = inr (all_zero o.workers w (in_hand_of es t) e.hands lt)
      others s rest HasEnded lt = inr e.ended

  waits_in_one : Sums 0 0 1 0 0 → Stays
  waits_in_one e = (Waits, tt, e.waits, others)
    where
      others : (q : ThreadPlace) → IsPlaceOf x o q → (q ≡ Waits) ⊎ (times x o es t q ≡ 0)
      others (LinkedAt q) lt = inr (all_zero schedulers q (linked_at x o es t) e.linked lt)
      others (ArrivesAt q) lt = inr (all_zero schedulers q (arriving_at x es t) e.arriving lt)
      others Waits lt = inl refl
      others (InHandOf w) lt = inr (all_zero o.workers w (in_hand_of es t) e.hands lt)
      others HasEnded lt = inr e.ended

  hand_in_one : Sums 0 0 0 1 0 → Stays
  unfolding OnlyAt
  hand_in_one e = let p = only_at o.workers (in_hand_of es t) e.hands in (InHandOf p.0, p.1, p.2, others p.0 p.3)
    where
      others : (s : ℕ) → ((q : ℕ) → q < o.workers → (q ≡ s) ⊎ (in_hand_of es t q ≡ 0)) → (q : ThreadPlace) → IsPlaceOf x o q → (q ≡ InHandOf s) ⊎ (times x o es t q ≡ 0)
      others s rest (LinkedAt q) lt = inr (all_zero schedulers q (linked_at x o es t) e.linked lt)
      others s rest (ArrivesAt q) lt = inr (all_zero schedulers q (arriving_at x es t) e.arriving lt)
      others s rest Waits lt = inr e.waits
      others s rest (InHandOf w) lt = ⊎_elim (λ is. inl (ap InHandOf is)) (λ z. inr z) (rest w lt)
      others s rest HasEnded lt = inr e.ended

  ended_in_one : Sums 0 0 0 0 1 → Stays
  ended_in_one e = (HasEnded, tt, e.ended, others)
    where
      others : (q : ThreadPlace) → IsPlaceOf x o q → (q ≡ HasEnded) ⊎ (times x o es t q ≡ 0)
      others (LinkedAt q) lt = inr (all_zero schedulers q (linked_at x o es t) e.linked lt)
      others (ArrivesAt q) lt = inr (all_zero schedulers q (arriving_at x es t) e.arriving lt)
      others Waits lt = inr e.waits
      others (InHandOf w) lt = inr (all_zero o.workers w (in_hand_of es t) e.hands lt)
      others HasEnded lt = inl refl

  sums : (l a j w e : ℕ) → total schedulers (linked_at x o es t) ≡ l → total schedulers (arriving_at x es t) ≡ a → threads_in t (jobs es) ≡ j → total o.workers (in_hand_of es t) ≡ w → ended_in t (sent_in es) ≡ e → Sums l a j w e
  sums l a j w e p q r u v = record { linked = p; arriving = q; waits = r; hands = u; ended = v }

  -- five numbers whose sum is 1
  in_one_at : everywhere x o es t ≡ 1 → Stays
  in_one_at one =
      dite (ℕ_discrete (total schedulers (linked_at x o es t)) 0)
      (λ l0. dite (ℕ_discrete (total schedulers (arriving_at x es t)) 0)
      (λ a0. dite (ℕ_discrete (threads_in t (jobs es)) 0)
      (λ j0. dite (ℕ_discrete (total o.workers (in_hand_of es t)) 0)
      (λ w0. ended_in_one (sums 0 0 0 0 1 l0 a0 j0 w0 (omega (arith, one, l0, a0, j0, w0))))
      (λ w1. hand_in_one (sums 0 0 0 1 0 l0 a0 j0 (omega (arith, one, w1)) (omega (arith, one, w1)))))
      (λ j1. waits_in_one (sums 0 0 1 0 0 l0 a0 (omega (arith, one, j1)) (omega (arith, one, j1)) (omega (arith, one, j1)))))
      (λ a1. arrives_in_one (sums 0 1 0 0 0 l0 (omega (arith, one, a1)) (omega (arith, one, a1)) (omega (arith, one, a1)) (omega (arith, one, a1)))))
      (λ l1. linked_in_one (sums 1 0 0 0 0 (omega (arith, one, l1)) (omega (arith, one, l1)) (omega (arith, one, l1)) (omega (arith, one, l1)) (omega (arith, one, l1))))

  none_at : everywhere x o es t ≡ 0 → (q : ThreadPlace) → IsPlaceOf x o q → times x o es t q ≡ 0
  none_at e (LinkedAt s) lt = all_zero schedulers s (linked_at x o es t) (omega (arith, e)) lt
  none_at e (ArrivesAt s) lt = all_zero schedulers s (arriving_at x es t) (omega (arith, e)) lt
  none_at e Waits lt = omega (arith, e)
  none_at e (InHandOf w) lt = all_zero o.workers w (in_hand_of es t) (omega (arith, e)) lt
  none_at e HasEnded lt = omega (arith, e)

exactly_one : (m e : ℕ) → 0 < m → m ≤ 1 → e ≡ m → e ≡ 1
exactly_one m e some few same = omega (arith, some, few, same)

module _ (x : Prog) (well : IsWellFormed x) (o : RunOptions) (es : List Entry) (legal : IsLegal x o es) where
  pub in_one : InOne x o es
  in_one t some = let p = one_place x well o es legal t in in_one_at x o es t (exactly_one (made_by_all x es t) (everywhere x o es t) some p.0 p.1)

  pub nowhere : Nowhere x o es
  nowhere t none q is = none_at x o es t ((one_place x well o es legal t).1 ∙ none) q is

-- ---- hands

module _ (x : Prog) (well : IsWellFormed x) (o : RunOptions) where
  -- a worker is busy where it has a job in hand
  abbrev Agrees : List Entry → Type 0
  Agrees es = (w : ℕ) → IsOneIf (is_busy w es) (hand_of w es)

  pick_agrees : (own was : Bool) (job : Thread) (had : List Thread) → IsOneIf was had → IsOneIf (own || was) (if own then job ∷ [] else had)
  pick_agrees true was job had f = (job, refl)
  pick_agrees false was job had f = f

  post_agrees : (own last was : Bool) (had : List Thread) → (own ≡ true → (job : Thread) × (had ≡ job ∷ [])) → IsOneIf was had
      → IsOneIf (if own then not last else was) (if own then (if last then [] else had) else had)
  post_agrees true true was had one f = refl
  post_agrees true false was had one f = one refl
  post_agrees false last was had one f = f

  agree_one : (es : List Entry) (e : Entry) → Known x well o es → Allowed x well o es e → Agrees es → (w : ℕ) → IsOneIf (in_hand w (is_busy w es) (e ∷ [])) (hand_after w (hand_of w es) (e ∷ []))
  agree_one es (Take s batch) k a f w = f w
  agree_one es (Give s sent) k a f w = f w
  agree_one es (Pick v job) k a f w = pick_agrees (w == v) (is_busy w es) job (hand_of w es) (f w)
  agree_one es (Post v m) k a f w =
      post_agrees (w == v) (ends_block m.order) (is_busy w es) (hand_of w es)
      (λ same.
      let b = busy x well o (unposted x o v es) (hand_of v es) m a.rest (k.benches v) a.left in
      (b.job, ap (λ (u : ℕ). hand_of u es) (eqb-true w v same) ∙ b.in_hand)) (f w)
  agree_one es (Client c sent) k a f w = f w

  agree_more : (es : List Entry) (e : Entry) → Known x well o es → Allowed x well o es e → Agrees es → Agrees (es ++ e ∷ [])
  agree_more es e k a f w =
      subst (λ (b : Bool). IsOneIf b (hand_of w (es ++ e ∷ []))) (sym (fold-append (busy_step w) false es (e ∷ [])))
      (subst (IsOneIf (in_hand w (is_busy w es) (e ∷ []))) (sym (hand_more w es e)) (agree_one es e k a f w))

  pub hands_agree : (es : List Entry) → IsLegal x o es → HandsAgree es
  hands_agree es legal =
      let all = legal_walk x well o Agrees (λ w. refl) agree_more es legal in
      record { logs = all.0.logs; instants = λ s. open_hand s es; busy = all.1 }
