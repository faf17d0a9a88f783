-- Ids are fresh: no thread is made twice.
use Rattle.std.proofs.Common.{◌≡◌, ◌==◌, ℕ, ◌+◌, ◌<◌, ◌≤◌, Bool, true, false, List, [], ◌∷◌, ◌++◌, length, refl, sym, ap, ◌∙◌, arith, eq-eqb, ne_eqb}
use Rattle.std.specs.Prelude.{◌&&◌, nat_le, nat_lt, if◌then◌else◌}
use mathlib.Core.Logic.{dite}
use native.Mathlib.Decide.{ℕ_discrete}
use Rattle.loft_base.specs.declared.ids.Maker.{Maker}
use Rattle.loft_base.specs.declared.ids.Maker.TheVariants as maker
use Rattle.loft_base.specs.declared.ids.SchedId.{SchedId}
use Rattle.loft_base.specs.declared.ids.ThreadId.{ThreadId}
use Rattle.loft_tree.specs.declared.heads.Start.{Start}
use Rattle.loft_orders.specs.declared.entry.Entry.{Entry}
use Rattle.loft_orders.specs.declared.entry.Entry.TheVariants.{Take, Give, Pick, Post, Client}
use Rattle.loft_base.specs.declared.options.RunOptions.{RunOptions}
use Rattle.loft_orders.specs.declared.order.Order.{Order}
use Rattle.loft_orders.specs.declared.order.Order.TheVariants as order
use Rattle.loft_orders.specs.declared.order.Sent.{Sent}
use Rattle.loft_sense.specs.Machine.{Prog, heads, Mach}
use Rattle.loft_sense.specs.CanGo.{same_maker, same_thread}
use Rattle.loft_history.specs.Clients.{made_by}
use Rattle.loft_sense.specs.Instant.{instant}
use Rattle.loft_history.specs.History.{sends, sent_in, is_create, creates, unposted}
use Rattle.loft_history.specs.Legal.{IsCallersOrder, IsLegal}
use Rattle.loft_soundness.specs.WellFormed.{IsWellFormed}
use Rattle.loft_conservation.specs.Counts.{one, makes, made_in, among_made}
use Rattle.loft_conservation.proofs.CountLemmas.{none_made, numbers_join}
use Rattle.loft_conservation.proofs.RunAdds.{next_number}
use Rattle.loft_sense.specs.Heads.{scheduler}
use Rattle.loft_history_laws.specs.Places.{settled, hand_of, linked_at, started_from, made_by_all, OnePlace, LinkedOnce}
use Rattle.loft_history_laws.proofs.SumLemmas.{total_two}
use Rattle.loft_history_laws.proofs.AllowedLemmas.{creates_more, Known, Given, Told, Allowed, busy, legal_walk}
use Rattle.loft_history_laws.proofs.KeptLemmas.{post_kept, settled_given, settled_off, settled_same, settled_taken, made_more, kept}

-- ---- the starts

small : (b : Bool) → one b ≤ 1
small true = omega arith
small false = omega arith

started_other : (t : ThreadId) (k : ℕ) (us : List Start) → same_maker t.maker maker.Source ≡ false → started_from t k us ≡ 0
started_other t k [] off = refl
started_other t k (u ∷ us) off = let p = started_other t (k + 1) us off in let q = ap (λ (b : Bool). one (b && t.seq == k)) off in omega (arith, p, q)

none_there : (b c : Bool) → c ≡ false → one (b && c) ≡ 0
none_there true c e = ap one e
none_there false c e = refl

started_later : (t : ThreadId) (k : ℕ) (us : List Start) → t.seq < k → started_from t k us ≡ 0
started_later t k [] lt = refl
started_later t k (u ∷ us) lt =
    let p = started_later t (k + 1) us (omega (arith, lt)) in
    let q = none_there (same_maker t.maker maker.Source) (t.seq == k) (ne_eqb t.seq k (λ e. omega (arith, lt, e))) in
    omega (arith, p, q)

started_once : (t : ThreadId) (k : ℕ) (us : List Start) → started_from t k us ≤ 1
started_once t k [] = omega arith
started_once t k (u ∷ us) =
    dite (ℕ_discrete t.seq k)
    (λ is. let p = started_later t (k + 1) us (omega (arith, is)) in let q = small (same_maker t.maker maker.Source && t.seq == k) in omega (arith, p, q))
    (λ off. let p = started_once t (k + 1) us in let q = none_there (same_maker t.maker maker.Source) (t.seq == k) (ne_eqb t.seq k off) in omega (arith, p, q))

-- ---- what each maker has made

abbrev thread : Maker → ℕ → ThreadId
thread m k = record { maker = m; seq = k }

module _ (x : Prog) (well : IsWellFormed x) (o : RunOptions) where
  -- of a maker's threads, those whose numbers it has reached
  abbrev fresh_by : List Entry → ThreadId → Maker → ℕ
  fresh_by es t maker.Source = 0
  fresh_by es t (maker.Sched s) = among_made t (maker.Sched s) 0 (settled x o (scheduler s) es).made
  fresh_by es t (maker.Client c) = among_made t (maker.Client c) 0 (creates c es)

  abbrev Fresh : List Entry → Type 0
  Fresh es = (t : ThreadId) → made_in t (sent_in es) ≡ fresh_by es t t.maker

  at_first : Fresh []
  at_first t = by t.maker
    where
      by : (m : Maker) → 0 ≡ fresh_by [] t m
      by maker.Source = refl
      by (maker.Sched s) = sym (none_made t (maker.Sched s) 0)
      by (maker.Client c) = sym (none_made t (maker.Client c) 0)

  -- an entry that makes nobody, and leaves what is settled and the numbers of clients
  quiet : (es : List Entry) (e : Entry) → Fresh es → ((s : ℕ) → settled x o (scheduler s) (es ++ e ∷ []) ≡ settled x o (scheduler s) es) → ((c : ℕ) → creates c (es ++ e ∷ []) ≡ creates c es) → ((t : ThreadId) → made_in t (sends e) ≡ 0) → Fresh (es ++ e ∷ [])
  quiet es e f same numbers none t =
      let p = made_more x well o t es e in let q = none t in
      let r : made_in t (sent_in (es ++ e ∷ [])) ≡ made_in t (sent_in es) = omega (arith, p, q) in
      r ∙ f t ∙ by t.maker
    where
      by : (m : Maker) → fresh_by es t m ≡ fresh_by (es ++ e ∷ []) t m
      by maker.Source = refl
      by (maker.Sched s) = ap (λ (m : Mach). among_made t (maker.Sched s) 0 m.made) (sym (same s))
      by (maker.Client c) = ap (λ (n : ℕ). among_made t (maker.Client c) 0 n) (sym (numbers c))

  -- what a maker reaches by an entry that makes threads of maker n from number a to number b
  abbrev Reaches : List Entry → Entry → Maker → ℕ → ℕ → Type 0
  Reaches es e n a b = (m : Maker) (k : ℕ) → fresh_by es (thread m k) m + among_made (thread m k) n a b ≡ fresh_by (es ++ e ∷ []) (thread m k) m

  reached : (es : List Entry) (e : Entry) (n : Maker) (a b : ℕ) → Fresh es → ((t : ThreadId) → made_in t (sends e) ≡ among_made t n a b) → Reaches es e n a b → Fresh (es ++ e ∷ [])
  reached es e n a b f makes by t =
      made_more x well o t es e ∙ ap (λ (k : ℕ). k + made_in t (sends e)) (f t) ∙ ap (λ (k : ℕ). fresh_by es t t.maker + k) (makes t) ∙ by t.maker t.seq

  other_number : (k a b : ℕ) (own : Bool) → own ≡ false → one (own && nat_le a k && nat_lt k b) ≡ 0
  other_number k a b true e = absurd cc
  other_number k a b false e = refl

  give_fresh : (es : List Entry) (s : SchedId) (sent : List Sent) → Given x well o es s sent → Fresh es → Fresh (es ++ Give s sent ∷ [])
  give_fresh es s sent a f =
      let m = settled x o s es in
      let did = instant x o.limits m a.batch in
      reached es (Give s sent) (maker.Sched s.0) m.made did.machine.made f
      (λ t. ap (made_in t) a.is ∙ a.law.fresh t ∙ ap (λ (q : SchedId). among_made t (maker.Sched q.0) m.made did.machine.made) a.own) by
    where
      by : Reaches es (Give s sent) (maker.Sched s.0) (settled x o s es).made (instant x o.limits (settled x o s es) a.batch).machine.made
      by maker.Source k = refl
      by (maker.Client c) k = omega arith ∙ ap (λ (n : ℕ). among_made (thread (maker.Client c) k) (maker.Client c) 0 n) (sym (creates_more c es (Give s sent)))
      by (maker.Sched q) k =
          dite (ℕ_discrete q s.0)
          (λ is.
          let join : among_made (thread (maker.Sched q) k) (maker.Sched s.0) 0 (settled x o s es).made + among_made (thread (maker.Sched q) k) (maker.Sched s.0) (settled x o s es).made (instant x o.limits (settled x o s es) a.batch).machine.made
          ≡ among_made (thread (maker.Sched q) k) (maker.Sched s.0) 0 (instant x o.limits (settled x o s es) a.batch).machine.made =
          numbers_join (thread (maker.Sched q) k) (maker.Sched s.0) 0 (settled x o s es).made (instant x o.limits (settled x o s es) a.batch).machine.made (omega arith) a.law.more in
          ap (λ (v : ℕ). among_made (thread (maker.Sched q) k) (maker.Sched v) 0 (settled x o (scheduler v) es).made + among_made (thread (maker.Sched q) k) (maker.Sched s.0) (settled x o s es).made (instant x o.limits (settled x o s es) a.batch).machine.made) is
          ∙ join
          ∙ ap (λ (m : Mach). among_made (thread (maker.Sched q) k) (maker.Sched s.0) 0 m.made) (sym (settled_given x well o es s sent a))
          ∙ ap (λ (v : ℕ). among_made (thread (maker.Sched q) k) (maker.Sched v) 0 (settled x o (scheduler v) (es ++ Give s sent ∷ [])).made) (sym is))
          (λ off.
          let none = other_number k (settled x o s es).made (instant x o.limits (settled x o s es) a.batch).machine.made (q == s.0) (ne_eqb q s.0 off) in
          ap (λ (n : ℕ). among_made (thread (maker.Sched q) k) (maker.Sched q) 0 (settled x o (scheduler q) es).made + n) none ∙ omega arith
          ∙ ap (λ (m : Mach). among_made (thread (maker.Sched q) k) (maker.Sched q) 0 m.made) (sym (settled_off x well o es (scheduler q) s sent off)))

  -- the number of creates after an order of a client, and what the order makes
  call_makes : (t : ThreadId) (c k : ℕ) (q : Order) → IsCallersOrder (made_by c k) q → makes t q ≡ among_made t (maker.Client c) k (if is_create q then k + 1 else k)
  call_makes t c k (order.Create u m args) call = ap (λ (v : ThreadId). one (same_thread t v)) call ∙ next_number t (maker.Client c) k
  call_makes t c k (order.Arrive u) call = absurd call
  call_makes t c k (order.Stop u) call = sym (none_made t (maker.Client c) k)
  call_makes t c k (order.Suspend u) call = sym (none_made t (maker.Client c) k)
  call_makes t c k (order.Resume u) call = sym (none_made t (maker.Client c) k)
  call_makes t c k (order.Broadcast event value) call = sym (none_made t (maker.Client c) k)
  call_makes t c k (order.Ended u end) call = absurd call

  up_if : (b : Bool) (k : ℕ) → k ≤ (if b then k + 1 else k)
  up_if true k = omega arith
  up_if false k = omega arith

  client_fresh : (es : List Entry) (c : ℕ) (m : Sent) → Told x well o es c m → Fresh es → Fresh (es ++ Client c m ∷ [])
  client_fresh es c m a f =
      reached es (Client c m) (maker.Client c) (creates c es) (if is_create m.order then creates c es + 1 else creates c es) f
      (λ t. let e = call_makes t c (creates c es) m.order a.call in omega (arith, e)) by
    where
      own : creates c (es ++ Client c m ∷ []) ≡ (if is_create m.order then creates c es + 1 else creates c es)
      own = creates_more c es (Client c m) ∙ ap (λ (b : Bool). if b && is_create m.order then creates c es + 1 else creates c es) (eq-eqb c c refl)

      other : (d : ℕ) → (d ≡ c → ⊥) → creates d (es ++ Client c m ∷ []) ≡ creates d es
      other d off = creates_more d es (Client c m) ∙ ap (λ (b : Bool). if b && is_create m.order then creates d es + 1 else creates d es) (ne_eqb d c off)

      by : Reaches es (Client c m) (maker.Client c) (creates c es) (if is_create m.order then creates c es + 1 else creates c es)
      by maker.Source k = refl
      by (maker.Sched s) k = omega arith ∙ ap (λ (w : Mach). among_made (thread (maker.Sched s) k) (maker.Sched s) 0 w.made) (sym (settled_same x well o es (Client c m) (scheduler s) refl))
      by (maker.Client d) k =
          dite (ℕ_discrete d c)
          (λ is.
          ap (λ (v : ℕ). among_made (thread (maker.Client d) k) (maker.Client v) 0 (creates v es) + among_made (thread (maker.Client d) k) (maker.Client c) (creates c es) (if is_create m.order then creates c es + 1 else creates c es)) is
          ∙ numbers_join (thread (maker.Client d) k) (maker.Client c) 0 (creates c es) (if is_create m.order then creates c es + 1 else creates c es) (omega arith) (up_if (is_create m.order) (creates c es))
          ∙ ap (λ (n : ℕ). among_made (thread (maker.Client d) k) (maker.Client c) 0 n) (sym own)
          ∙ ap (λ (v : ℕ). among_made (thread (maker.Client d) k) (maker.Client v) 0 (creates v (es ++ Client c m ∷ []))) (sym is))
          (λ off.
          let none = other_number k (creates c es) (if is_create m.order then creates c es + 1 else creates c es) (d == c) (ne_eqb d c off) in
          ap (λ (n : ℕ). among_made (thread (maker.Client d) k) (maker.Client d) 0 (creates d es) + n) none ∙ omega arith
          ∙ ap (λ (n : ℕ). among_made (thread (maker.Client d) k) (maker.Client d) 0 n) (sym (other d off)))

  step : (es : List Entry) (e : Entry) → Known x well o es → Allowed x well o es e → Fresh es → Fresh (es ++ e ∷ [])
  step es (Take s batch) k a f = quiet es (Take s batch) f (λ q. settled_taken x well o es s (scheduler q) batch) (λ c. creates_more c es (Take s batch)) (λ t. refl)
  step es (Give s sent) k a f = give_fresh es s sent a f
  step es (Pick w job) k a f = quiet es (Pick w job) f (λ q. settled_same x well o es (Pick w job) (scheduler q) refl) (λ c. creates_more c es (Pick w job)) (λ t. refl)
  step es (Post w m) k a f =
      let b = busy x well o (unposted x o w es) (hand_of w es) m a.rest (k.benches w) a.left in
      quiet es (Post w m) f (λ q. settled_same x well o es (Post w m) (scheduler q) refl) (λ c. creates_more c es (Post w m)) (λ t. let p = (post_kept (heads x) t b.job m a.rest b.block).1 in omega (arith, p))
  step es (Client c m) k a f = client_fresh es c m a f

  -- ---- no thread is made twice

  made_once : (es : List Entry) (t : ThreadId) → Fresh es → made_by_all x es t ≤ 1
  made_once es t f = by t.maker t.seq (f t)
    where
      by : (m : Maker) (k : ℕ) → made_in (thread m k) (sent_in es) ≡ fresh_by es (thread m k) m → made_by_all x es (thread m k) ≤ 1
      by maker.Source k e = let p = started_once (thread maker.Source k) 0 (heads x).starts in omega (arith, e, p)
      by (maker.Sched s) k e =
          let p = started_other (thread (maker.Sched s) k) 0 (heads x).starts refl in
          let q = small (same_maker (maker.Sched s) (maker.Sched s) && nat_le 0 k && nat_lt k (settled x o (scheduler s) es).made) in
          omega (arith, e, p, q)
      by (maker.Client c) k e =
          let p = started_other (thread (maker.Client c) k) 0 (heads x).starts refl in
          let q = small (same_maker (maker.Client c) (maker.Client c) && nat_le 0 k && nat_lt k (creates c es)) in
          omega (arith, e, p, q)

  pub one_place : (es : List Entry) → IsLegal x o es → OnePlace x o es
  one_place es legal t = (made_once es t (legal_walk x well o Fresh at_first step es legal).1, kept x well o t es legal)

  pub linked_once : (es : List Entry) → IsLegal x o es → LinkedOnce x o es
  linked_once es legal t s q ls lq here there =
      dite (ℕ_discrete s q) (λ is. is)
      (λ off.
      let two = total_two (length (heads x).schedulers) s q (linked_at x o es t) ls lq off in
      let p = one_place es legal t in let p0 = p.0 in let p1 = p.1 in
      absurd (omega (arith, two, p0, p1, here, there)))
