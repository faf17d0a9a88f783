-- What is known of a legal history, and what of an entry that comes next.
use Rattle.std.proofs.Common.{◌≡◌, ◌==◌, ◌⊎◌, inl, inr, ℕ, zero, suc, ◌+◌, ◌<◌, Bool, true, false, List, [], ◌∷◌, ◌++◌, length, Some, refl, sym, ap, ◌∙◌, subst, append-nil}
use Rattle.std.specs.Prelude.{All, ◌&&◌, not, nat_lt, drop, if◌then◌else◌}
use Rattle.std.proofs.lemmas.Bool.{and_parts, ltb-true, eqb-true}
use Rattle.std.proofs.lemmas.List.Sums.{fold-append}
use Rattle.loft_base.specs.declared.ids.SchedId.{SchedId}
use Rattle.loft_base.specs.declared.ids.ThreadId.{ThreadId}
use Rattle.loft_tree.specs.declared.heads.ClientOrder.{ClientOrder}
use Rattle.loft_tree.specs.declared.heads.ClientOrder.TheVariants as client
use Rattle.loft_tree.specs.declared.heads.Heads.{Heads}
use Rattle.loft_tree.specs.declared.kinds.Control.{Control}
use Rattle.loft_tree.specs.declared.kinds.Control.TheVariants as control
use Rattle.loft_tree.specs.Fits.{Each}
use Rattle.loft_orders.specs.declared.entry.Actor.TheVariants as actor
use Rattle.loft_orders.specs.declared.entry.Entry.{Entry}
use Rattle.loft_orders.specs.declared.entry.Entry.TheVariants.{Take, Give, Pick, Post, Client}
use Rattle.loft_base.specs.declared.options.RunOptions.{RunOptions}
use Rattle.loft_orders.specs.declared.order.Order.{Order}
use Rattle.loft_orders.specs.declared.order.Order.TheVariants as order
use Rattle.loft_orders.specs.declared.order.Sent.{Sent}
use Rattle.loft_orders.specs.declared.order.To.{To}
use Rattle.loft_orders.specs.declared.thread.Thread.{Thread}
use Rattle.loft_sense.specs.Heads.{same_scheduler}
use Rattle.loft_sense.specs.Machine.{Prog, heads, empty}
use Rattle.loft_sense.specs.Fits.{Fits}
use Rattle.loft_sense.specs.Instant.{instant, Replayed, one_more, replay_on, replay}
use Rattle.loft_sense.specs.Async.{async}
use Rattle.loft_sense.specs.Statements.{order_of}
use Rattle.loft_history.specs.Clients.{made_by, orders_from, outside_of, orders_of}
use Rattle.loft_history.specs.History.{log, is_open, waiting, jobs, ends_block, unposted_after, unposted, unsent_after, unsent, is_create, creates_after, creates, replayed, has_turn, sent_last, entry_of_first, pick_of, creates_step, unposted_step, unsent_step}
use Rattle.loft_history.specs.Legal.{of, IsCallersOrder, FitsOne, IsLegal, ComesNext}
use Rattle.loft_sense.proofs.ReplayLemmas.{replay_on-append}
use Rattle.loft_history.proofs.HistoryLemmas.{is_same, on_if, on_first, on_pick, sent_last-append, unsent_none}
use Rattle.loft_history.proofs.OwnLemmas.{given}
use Rattle.loft_history.proofs.LegalEntries.{legal_exactly}
use Rattle.loft_soundness.specs.WellFormed.{IsWellFormed}
use Rattle.loft_soundness.proofs.ListLemmas.{all_of}
use Rattle.loft_soundness.proofs.OrderLemmas.{outside_for_one}
use Rattle.loft_soundness.proofs.HistoryFits.{BatchFits, ReplayedFits, begun_fits, one_more_fits, HistoryFits, picked_fits, entry_fits, starts_wait}
use Rattle.loft_conservation.specs.Instants.{KeepsThreads}
use Rattle.loft_conservation.specs.Blocks.{IsExit, IsQuiet, IsBlock}
use Rattle.loft_conservation.proofs.InstantKeeps.{instant_keeps}
use Rattle.loft_conservation.proofs.BlockKeeps.{is_block}
use Rattle.loft_history_laws.specs.Places.{Desk, desk_after, desk, settled, hand_after, hand_of, IsOneIf}
use Rattle.loft_history_laws.proofs.WalkLemmas.{walk, log_more}
use Rattle.loft_history_laws.proofs.DeskLemmas.{desk_more, hand_more, open_hand}

-- ---- lists

each_left : {A : Type 0} (P : A → Type 0) (xs ys : List A) → Each P (xs ++ ys) → Each P xs
each_left P [] ys f = tt
each_left P (x ∷ xs) ys f = (f.0, each_left P xs ys f.1)

each_right : {A : Type 0} (P : A → Type 0) (xs ys : List A) → Each P (xs ++ ys) → Each P ys
each_right P [] ys f = f
each_right P (x ∷ xs) ys f = each_right P xs ys f.1

each_dropped : {A : Type 0} (P : A → Type 0) (n : ℕ) (xs : List A) → Each P xs → Each P (drop n xs)
each_dropped P zero xs f = f
each_dropped P (suc n) [] f = tt
each_dropped P (suc n) (x ∷ xs) f = each_dropped P n xs f.1

-- ---- clients

pub creates_more : (c : ℕ) (es : List Entry) (e : Entry) → creates c (es ++ e ∷ []) ≡ creates_after c (creates c es) (e ∷ [])
creates_more c es e = fold-append (creates_step c) 0 es (e ∷ [])

-- orders of a client from its create number k on, without the first
abbrev Further : Heads → ℕ → ℕ → Sent → List Sent → Type 0
Further h c k m rest = (os : List ClientOrder) × (rest ≡ orders_from h c (if is_create m.order then k + 1 else k) os)

further : (h : Heads) (c k : ℕ) (m first : Sent) (rest others : List Sent) (create : Bool) (os : List ClientOrder) → m ∷ rest ≡ first ∷ others → is_create first.order ≡ create
    → others ≡ orders_from h c (if create then k + 1 else k) os → Further h c k m rest
further h c k m first rest others create os e is same =
    let one : m ≡ first = cc in let two : rest ≡ others = cc in
    (os, two ∙ same ∙ ap (λ (b : Bool). orders_from h c (if b then k + 1 else k) os) (sym (ap (λ (y : Sent). is_create y.order) one ∙ is)))

control_creates : (kind : Control) (t : ThreadId) → is_create (order_of kind t) ≡ false
control_creates control.Stop t = refl
control_creates control.Suspend t = refl
control_creates control.Resume t = refl

goes_further : (h : Heads) (c k : ℕ) (m : Sent) (rest : List Sent) (os : List ClientOrder) → m ∷ rest ≡ orders_from h c k os → Further h c k m rest
goes_further h c k m rest [] e = absurd cc
goes_further h c k m rest (client.Create s n arguments ∷ os) e = further h c k m _ rest _ true os e refl refl
goes_further h c k m rest (client.Control kind t s ∷ os) e = further h c k m _ rest _ false os e (control_creates kind t) refl
goes_further h c k m rest (client.Broadcast event value ∷ os) e = further h c k m _ rest _ false os e refl refl

control_called : (next : ThreadId) (kind : Control) (t : ThreadId) → IsCallersOrder next (order_of kind t)
control_called next control.Stop t = tt
control_called next control.Suspend t = tt
control_called next control.Resume t = tt

first_called : (next : ThreadId) (m first : Sent) (rest others : List Sent) → m ∷ rest ≡ first ∷ others → IsCallersOrder next first.order → IsCallersOrder next m.order
first_called next m first rest others e f = let one : first ≡ m = cc in subst (λ (y : Sent). IsCallersOrder next y.order) one f

-- the first order of a client of the source is one that a caller might give
is_called : (h : Heads) (c k : ℕ) (m : Sent) (rest : List Sent) (os : List ClientOrder) → m ∷ rest ≡ orders_from h c k os → IsCallersOrder (made_by c k) m.order
is_called h c k m rest [] e = absurd cc
is_called h c k m rest (client.Create s n arguments ∷ os) e = first_called (made_by c k) m _ rest _ e refl
is_called h c k m rest (client.Control kind t s ∷ os) e = first_called (made_by c k) m _ rest _ e (control_called (made_by c k) kind t)
is_called h c k m rest (client.Broadcast event value ∷ os) e = first_called (made_by c k) m _ rest _ e tt

module _ (x : Prog) (well : IsWellFormed x) (o : RunOptions) where
  -- ---- what is known of a history

  -- nothing is in hand, or a job with what is left of its block
  abbrev pub IsBench : List Sent → List Thread → Type 0
  IsBench left hand = ((left ≡ []) × (hand ≡ [])) ⊎ ((job : Thread) × (hand ≡ job ∷ []) × IsBlock (heads x) job.id left)

  -- what a client of the source has still to give is numbered from the creates that it has given
  abbrev pub IsNumbered : ℕ → List Entry → Type 0
  IsNumbered c es = (os : List ClientOrder) × (unsent (heads x) c es ≡ orders_from (heads x) c (creates c es) os)

  pub record Known (es : List Entry) : Type 0 where
    pub fits : HistoryFits x well o es
    pub logs : (s : SchedId) → log s es ≡ (desk s es).given ++ (desk s es).hand
    pub benches : (w : ℕ) → IsBench (unposted x o w es) (hand_of w es)
    pub numbers : (c : ℕ) → IsNumbered c es

  -- ---- what is known of an entry

  pub record Taken (es : List Entry) (s : SchedId) (batch : List Order) : Type 0 where
    pub declared : s.0 < length (heads x).schedulers
    pub all : batch ≡ waiting (heads x) s es
    pub shut : (desk s es).hand ≡ []

  pub record Given (es : List Entry) (s : SchedId) (sent : List Sent) : Type 0 where
    pub declared : s.0 < length (heads x).schedulers
    pub batch : List Order
    pub hand : (desk s es).hand ≡ batch ∷ []
    pub is : sent ≡ (instant x o.limits (settled x o s es) batch).note.sent
    pub own : (settled x o s es).s ≡ s
    pub law : KeepsThreads (heads x) (settled x o s es) batch (instant x o.limits (settled x o s es) batch)

  pub record Picked (es : List Entry) (w : ℕ) (job : Thread) : Type 0 where
    pub declared : w < o.workers
    pub rest : List Thread
    pub first : jobs es ≡ job ∷ rest
    pub free : unposted x o w es ≡ []
    pub block : IsBlock (heads x) job.id (async x job o.limits.block)

  pub record Posted (es : List Entry) (w : ℕ) (m : Sent) : Type 0 where
    pub declared : w < o.workers
    pub rest : List Sent
    pub left : unposted x o w es ≡ m ∷ rest

  pub record Told (es : List Entry) (c : ℕ) (m : Sent) : Type 0 where
    pub for_one : FitsOne x m.to m.order
    pub call : IsCallersOrder (made_by c (creates c es)) m.order
    pub left : (unsent (heads x) c es ≡ []) ⊎ ((rest : List Sent) × (unsent (heads x) c es ≡ m ∷ rest))

  abbrev pub Allowed : List Entry → Entry → Type 0
  Allowed es (Take s batch) = Taken es s batch
  Allowed es (Give s sent) = Given es s sent
  Allowed es (Pick w job) = Picked es w job
  Allowed es (Post w sent) = Posted es w sent
  Allowed es (Client c sent) = Told es c sent

  -- ---- an entry that may come next is so

  same_batch : (s : SchedId) (a b : List Order) → Some (Take s a) ≡ Some (Take s b) → b ≡ a
  same_batch s a b e = cc

  same_sent : (s : SchedId) (a b : List Sent) → Some (Give s a) ≡ Some (Give s b) → b ≡ a
  same_sent s a b e = cc

  same_job : (w : ℕ) (t u : Thread) → Pick w t ≡ Pick w u → t ≡ u
  same_job w t u e = cc

  same_post : (w : ℕ) (a b : Sent) → Post w a ≡ Post w b → a ≡ b
  same_post w a b e = cc

  same_client : (c : ℕ) (a b : Sent) → Client c a ≡ Client c b → a ≡ b
  same_client c a b e = cc

  closed_hand : (s : SchedId) (es : List Entry) → not (is_open s es) ≡ true → (desk s es).hand ≡ []
  closed_hand s es e = by (is_open s es) e (open_hand s es)
    where
      by : (b : Bool) → not b ≡ true → IsOneIf b (desk s es).hand → (desk s es).hand ≡ []
      by true e f = absurd cc
      by false e f = f

  one_hand : (s : SchedId) (es : List Entry) → is_open s es ≡ true → (batch : List Order) × ((desk s es).hand ≡ batch ∷ [])
  one_hand s es e = subst (λ (b : Bool). IsOneIf b (desk s es).hand) e (open_hand s es)

  -- the instants of the batches that were given
  replay_fits : (s : SchedId) (r : Replayed) (batches : List (List Order)) → ReplayedFits x well o s r → Each (BatchFits x well o s) batches → ReplayedFits x well o s (replay_on x o.limits r batches)
  replay_fits s r [] f g = f
  replay_fits s r (batch ∷ batches) f g = replay_fits s (one_more x o.limits r batch) batches (one_more_fits x well o s r batch f g.0) g.1

  given_one : (es : List Entry) (s : SchedId) → Known es → s.0 < length (heads x).schedulers → (batch : List Order) → (desk s es).hand ≡ batch ∷ [] → Given es s (sent_last (replayed x o.limits s es).notes)
  given_one es s k declared batch hand =
      let d = desk s es in
      let logs : log s es ≡ d.given ++ batch ∷ [] = k.logs s ∙ ap (λ (l : List (List Order)). d.given ++ l) hand in
      let took = subst (Each (BatchFits x well o s)) logs (k.fits.took s declared) in
      let r = replay x o.limits s d.given in
      let fits = replay_fits s (record { machine = empty x s; notes = [] }) d.given (begun_fits x well o s declared) (each_left (BatchFits x well o s) d.given (batch ∷ []) took) in
      let did = instant x o.limits (settled x o s es) batch in
      let notes : (replayed x o.limits s es).notes ≡ r.notes ++ did.note ∷ [] =
      ap (λ (l : List (List Order)). (replay x o.limits s l).notes) logs ∙ ap (λ (y : Replayed). y.notes) (replay_on-append x o.limits (record { machine = empty x s; notes = [] }) d.given batch) in
      record {
        declared = declared;
        batch = batch;
        hand = hand;
        is = ap sent_last notes ∙ sent_last-append r.notes did.note;
        own = fits.own;
        law = instant_keeps x well o.limits (settled x o s es) batch fits.machine
            (subst (λ (q : SchedId). All (Fits x q) batch) (sym fits.own) (all_of (Fits x s) batch (each_right (BatchFits x well o s) d.given (batch ∷ []) took).0));
      }

  told_source : (es : List Entry) (c : ℕ) (m : Sent) (rest : List Sent) → Known es → unsent (heads x) c es ≡ m ∷ rest → Told es c m
  told_source es c m rest k left =
      let all = each_dropped (λ (y : Sent). FitsOne x y.to y.order) (length (of (actor.Client c) es)) (outside_of (heads x) c) (outside_for_one x well c) in
      record {
        for_one = (subst (Each (λ (y : Sent). FitsOne x y.to y.order)) (sym (given (heads x) c es) ∙ left) all).0;
        call = is_called (heads x) c (creates c es) m rest (k.numbers c).0 (sym left ∙ (k.numbers c).1);
        left = inr (rest, left);
      }

  pub allowed : (es : List Entry) (e : Entry) → Known es → ComesNext x o es e → Allowed es e
  allowed es (Take s batch) k (inl is) =
      on_if (nat_lt s.0 (length (heads x).schedulers) && not (is_open s es) && has_turn x o.limits (replayed x o.limits s es).machine (waiting (heads x) s es)) (Some (Take s (waiting (heads x) s es))) (Take s batch) is
      (λ good same.
      let parts = and_parts (nat_lt s.0 (length (heads x).schedulers)) (not (is_open s es)) (and_parts (nat_lt s.0 (length (heads x).schedulers) && not (is_open s es)) (has_turn x o.limits (replayed x o.limits s es).machine (waiting (heads x) s es)) good).0 in
      record { declared = ltb-true s.0 (length (heads x).schedulers) parts.0; all = same_batch s (waiting (heads x) s es) batch same; shut = closed_hand s es parts.1 })
  allowed es (Give s sent) k (inl is) =
      on_if (nat_lt s.0 (length (heads x).schedulers) && is_open s es) (Some (Give s (sent_last (replayed x o.limits s es).notes))) (Give s sent) is
      (λ good same.
      let parts = and_parts (nat_lt s.0 (length (heads x).schedulers)) (is_open s es) good in
      let one = one_hand s es parts.1 in
      subst (Given es s) (sym (same_sent s (sent_last (replayed x o.limits s es).notes) sent same)) (given_one es s k (ltb-true s.0 (length (heads x).schedulers) parts.0) one.0 one.1))
  allowed es (Pick w job) k (inl is) =
      let fits = picked_fits x well o es w job k.fits (inl is) in
      on_if (nat_lt w o.workers) (pick_of w (unposted x o w es) (jobs es)) (Pick w job) is (λ declared picks.
      on_pick w (unposted x o w es) (jobs es) (Pick w job) picks (λ free first.
      on_first (Pick w) (jobs es) (Pick w job) first (λ t rest all same.
      record { declared = ltb-true w o.workers declared; rest = rest; first = all ∙ ap (λ (u : Thread). u ∷ rest) (same_job w t job same); free = free; block = is_block x well job o.limits.block fits })))
  allowed es (Post w sent) k (inl is) =
      on_if (nat_lt w o.workers) (entry_of_first (Post w) (unposted x o w es)) (Post w sent) is (λ declared first.
      on_first (Post w) (unposted x o w es) (Post w sent) first (λ m rest all same.
      record { declared = ltb-true w o.workers declared; rest = rest; left = all ∙ ap (λ (y : Sent). y ∷ rest) (same_post w m sent same) }))
  allowed es (Client c sent) k (inl is) =
      on_first (Client c) (unsent (heads x) c es) (Client c sent) is (λ m rest all same.
      told_source es c sent rest k (all ∙ ap (λ (y : Sent). y ∷ rest) (same_client c m sent same)))
  allowed es (Take s batch) k (inr call) = absurd call
  allowed es (Give s sent) k (inr call) = absurd call
  allowed es (Pick w job) k (inr call) = absurd call
  allowed es (Post w sent) k (inr call) = absurd call
  allowed es (Client c sent) k (inr call) = record { for_one = call.1.1; call = call.1.0; left = inl (unsent_none (heads x) c es call.0) }

  -- ---- one entry more

  -- the log and the desk by one entry
  abbrev LogsAre : SchedId → List Entry → Entry → Type 0
  LogsAre s es e = log s es ++ log s (e ∷ []) ≡ (desk_after s (desk s es) (e ∷ [])).given ++ (desk_after s (desk s es) (e ∷ [])).hand

  take_logs : (l : List (List Order)) (d : Desk) (batch : List Order) (b : Bool) → l ≡ d.given ++ d.hand → (b ≡ true → d.hand ≡ [])
      → l ++ (if b then batch ∷ [] else []) ≡ (if b then record { given = d.given; hand = batch ∷ [] } else d).given ++ (if b then record { given = d.given; hand = batch ∷ [] } else d).hand
  take_logs l d batch true e shut = ap (λ (k : List (List Order)). k ++ batch ∷ []) (e ∙ ap (λ (k : List (List Order)). d.given ++ k) (shut refl) ∙ append-nil d.given)
  take_logs l d batch false e shut = append-nil l ∙ e

  give_logs : (l : List (List Order)) (d : Desk) (b : Bool) → l ≡ d.given ++ d.hand
      → l ++ [] ≡ (if b then record { given = d.given ++ d.hand; hand = [] } else d).given ++ (if b then record { given = d.given ++ d.hand; hand = [] } else d).hand
  give_logs l d true e = append-nil l ∙ e ∙ sym (append-nil (d.given ++ d.hand))
  give_logs l d false e = append-nil l ∙ e

  logs_one : (s : SchedId) (es : List Entry) (e : Entry) → Known es → Allowed es e → LogsAre s es e
  logs_one s es (Take q batch) k a = take_logs (log s es) (desk s es) batch (same_scheduler s q) (k.logs s) (λ same. ap (λ (r : SchedId). (desk r es).hand) (is_same s q same) ∙ a.shut)
  logs_one s es (Give q sent) k a = give_logs (log s es) (desk s es) (same_scheduler s q) (k.logs s)
  logs_one s es (Pick w job) k a = append-nil (log s es) ∙ k.logs s
  logs_one s es (Post w sent) k a = append-nil (log s es) ∙ k.logs s
  logs_one s es (Client c sent) k a = append-nil (log s es) ∙ k.logs s

  -- what a worker has in hand at a post
  pub record Busy (left : List Sent) (hand : List Thread) (m : Sent) (rest : List Sent) : Type 0 where
    pub job : Thread
    pub in_hand : hand ≡ job ∷ []
    pub block : IsBlock (heads x) job.id (m ∷ rest)

  pub busy : (left : List Sent) (hand : List Thread) (m : Sent) (rest : List Sent) → IsBench left hand → left ≡ m ∷ rest → Busy left hand m rest
  busy left hand m rest (inl none) e = let never : [] ≡ m ∷ rest = sym none.0 ∙ e in absurd cc
  busy left hand m rest (inr one) e = record { job = one.0; in_hand = one.1; block = subst (IsBlock (heads x) one.0.id) e one.2 }

  -- and at a pick
  pub idle : (left : List Sent) (hand : List Thread) → IsBench left hand → left ≡ [] → hand ≡ []
  idle left hand (inl none) e = none.1
  idle left hand (inr one) e = absurd (subst (IsBlock (heads x) one.0.id) e one.2)

  exit_ends : (h : Heads) (t : ThreadId) (q : Order) (there : To) → IsExit h t q there → ends_block q ≡ true
  exit_ends h t (order.Create u m args) there f = absurd f
  exit_ends h t (order.Arrive u) there f = refl
  exit_ends h t (order.Stop u) there f = absurd f
  exit_ends h t (order.Suspend u) there f = absurd f
  exit_ends h t (order.Resume u) there f = absurd f
  exit_ends h t (order.Broadcast event value) there f = absurd f
  exit_ends h t (order.Ended u end) there f = refl

  quiet_goes_on : (q : Order) → IsQuiet q → ends_block q ≡ false
  quiet_goes_on (order.Create u m args) f = absurd f
  quiet_goes_on (order.Arrive u) f = absurd f
  quiet_goes_on (order.Stop u) f = refl
  quiet_goes_on (order.Suspend u) f = refl
  quiet_goes_on (order.Resume u) f = refl
  quiet_goes_on (order.Broadcast event value) f = refl
  quiet_goes_on (order.Ended u end) f = absurd f

  posted : (hand : List Thread) (job : Thread) (m : Sent) (rest : List Sent) → hand ≡ job ∷ [] → IsBlock (heads x) job.id (m ∷ rest) → IsBench rest (if ends_block m.order then [] else hand)
  posted hand job m [] is block = inl (refl, ap (λ (b : Bool). if b then [] else hand) (exit_ends (heads x) job.id m.order m.to block))
  posted hand job m (n ∷ rest) is block = inr (job, ap (λ (b : Bool). if b then [] else hand) (quiet_goes_on m.order block.0) ∙ is, block.1)

  -- a worker's own post, or another's
  post_bench : (w v : ℕ) (es : List Entry) (m : Sent) (rest : List Sent) (b : Bool) → (b ≡ true → unposted x o w es ≡ m ∷ rest) → IsBench (unposted x o w es) (hand_of w es)
      → IsBench (if b then drop 1 (unposted x o w es) else unposted x o w es) (if b then (if ends_block m.order then [] else hand_of w es) else hand_of w es)
  post_bench w v es m rest true left f =
      let is = busy (unposted x o w es) (hand_of w es) m rest f (left refl) in
      subst (λ (l : List Sent). IsBench (drop 1 l) (if ends_block m.order then [] else hand_of w es)) (sym (left refl)) (posted (hand_of w es) is.job m rest is.in_hand is.block)
  post_bench w v es m rest false left f = f

  pick_bench : (w : ℕ) (es : List Entry) (job : Thread) (b : Bool) → IsBlock (heads x) job.id (async x job o.limits.block) → IsBench (unposted x o w es) (hand_of w es)
      → IsBench (if b then async x job o.limits.block else unposted x o w es) (if b then job ∷ [] else hand_of w es)
  pick_bench w es job true block f = inr (job, refl, block)
  pick_bench w es job false block f = f

  bench_one : (w : ℕ) (es : List Entry) (e : Entry) → Known es → Allowed es e → IsBench (unposted_after x o w (unposted x o w es) (e ∷ [])) (hand_after w (hand_of w es) (e ∷ []))
  bench_one w es (Take q batch) k a = k.benches w
  bench_one w es (Give q sent) k a = k.benches w
  bench_one w es (Pick v job) k a = pick_bench w es job (w == v) a.block (k.benches w)
  bench_one w es (Post v m) k a = post_bench w v es m a.rest (w == v) (λ same. ap (λ (u : ℕ). unposted x o u es) (eqb-true w v same) ∙ a.left) (k.benches w)
  bench_one w es (Client c sent) k a = k.benches w

  abbrev NumbersAre : ℕ → List Entry → Entry → Type 0
  NumbersAre c es e = (os : List ClientOrder) × (unsent_after c (unsent (heads x) c es) (e ∷ []) ≡ orders_from (heads x) c (creates_after c (creates c es) (e ∷ [])) os)

  told_numbers : (c d k : ℕ) (left : List Sent) (m : Sent) (b : Bool) → (b ≡ true → (left ≡ []) ⊎ ((rest : List Sent) × (left ≡ m ∷ rest))) → (os : List ClientOrder) → left ≡ orders_from (heads x) c k os
      → (ps : List ClientOrder) × ((if b then drop 1 left else left) ≡ orders_from (heads x) c (if b && is_create m.order then k + 1 else k) ps)
  told_numbers c d k left m true what os e = by (what refl)
    where
      by : (left ≡ []) ⊎ ((rest : List Sent) × (left ≡ m ∷ rest)) → (ps : List ClientOrder) × (drop 1 left ≡ orders_from (heads x) c (if is_create m.order then k + 1 else k) ps)
      by (inl none) = ([], ap (λ (l : List Sent). drop 1 l) none)
      by (inr some) =
          let more = goes_further (heads x) c k m some.0 os (sym some.1 ∙ e) in
          (more.0, ap (λ (l : List Sent). drop 1 l) some.1 ∙ more.1)
  told_numbers c d k left m false what os e = (os, e)

  numbers_one : (c : ℕ) (es : List Entry) (e : Entry) → Known es → Allowed es e → NumbersAre c es e
  numbers_one c es (Take q batch) k a = k.numbers c
  numbers_one c es (Give q sent) k a = k.numbers c
  numbers_one c es (Pick v job) k a = k.numbers c
  numbers_one c es (Post v m) k a = k.numbers c
  numbers_one c es (Client d m) k a =
      told_numbers c d (creates c es) (unsent (heads x) c es) m (c == d)
      (λ same. subst (λ (e : ℕ). (unsent (heads x) e es ≡ []) ⊎ ((rest : List Sent) × (unsent (heads x) e es ≡ m ∷ rest))) (sym (eqb-true c d same)) a.left) (k.numbers c).0 (k.numbers c).1

  known_more : (es : List Entry) (e : Entry) → Known es → ComesNext x o es e → Known (es ++ e ∷ [])
  known_more es e k comes =
      let a = allowed es e k comes in
      record {
        fits = entry_fits x well o es e k.fits comes;
        logs = λ s. log_more s es e ∙ logs_one s es e k a ∙ ap (λ (d : Desk). d.given ++ d.hand) (sym (desk_more s es e));
        benches = λ w.
            subst (λ (l : List Sent). IsBench l (hand_of w (es ++ e ∷ []))) (sym (fold-append (unposted_step x o w) [] es (e ∷ [])))
            (subst (IsBench (unposted_after x o w (unposted x o w es) (e ∷ []))) (sym (hand_more w es e)) (bench_one w es e k a));
        numbers = λ c.
            let one = numbers_one c es e k a in
            (one.0, fold-append (unsent_step c) (outside_of (heads x) c) es (e ∷ []) ∙ one.1 ∙ ap (λ (n : ℕ). orders_from (heads x) c n one.0) (sym (creates_more c es e)));
      }

  at_first : Known []
  at_first = record {
    fits = starts_wait x well o;
    logs = λ s. refl;
    benches = λ w. inl (refl, refl);
    numbers = λ c. (orders_of (heads x) c, refl);
  }

  -- ---- all histories

  -- what holds at first, and after each entry where it holds before it, holds of each legal history
  pub legal_walk : (Q : List Entry → Type 0) → Q [] → ((es : List Entry) (e : Entry) → Known es → Allowed es e → Q es → Q (es ++ e ∷ [])) → (es : List Entry) → IsLegal x o es → Known es × Q es
  legal_walk Q none step es legal =
      walk (λ l. Known l × Q l) (ComesNext x o) (at_first, none)
      (λ before e both comes. (known_more before e both.0 comes, step before e both.0 (allowed before e both.0 comes) both.1)) es ((legal_exactly x o es).0 legal)
