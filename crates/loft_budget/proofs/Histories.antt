-- In each legal history no thread with a bound ends with Over: an instance of the walk over histories.
use Rattle.std.proofs.Common.{◌≡◌, ℕ, ◌+◌, Bool, true, false, List, [], ◌∷◌, ◌++◌, length, Option, refl, sym, ◌∙◌, ap, subst, arith}
use Rattle.std.specs.Prelude.{nat_lt, if◌then◌else◌}
use Rattle.std.proofs.lemmas.Bool.{ltb-true, ltb-false}
use Rattle.std.proofs.lemmas.Grind.{flat_map-append}
use Rattle.loft_base.specs.declared.ids.SchedId.{SchedId}
use Rattle.loft_base.specs.declared.ids.ModuleId.{ModuleId}
use Rattle.loft_base.specs.declared.ids.ThreadId.{ThreadId}
use Rattle.loft_tree.specs.declared.kinds.Control.{Control}
use Rattle.loft_tree.specs.declared.kinds.Control.TheVariants as control
use Rattle.loft_tree.specs.declared.heads.ClientOrder.{ClientOrder}
use Rattle.loft_tree.specs.declared.heads.ClientOrder.TheVariants as client
use Rattle.loft_tree.specs.declared.heads.Start.{Start}
use Rattle.loft_tree.specs.Fits.{Each}
use Rattle.loft_tree.specs.NamedFits.{IsScheduler}
use Rattle.loft_tree.specs.Resolved.{Resolved}
use Rattle.loft_orders.specs.declared.entry.Entry.{Entry}
use Rattle.loft_orders.specs.declared.entry.Entry.TheVariants.{Take, Give, Pick, Post, Client}
use Rattle.loft_base.specs.declared.options.RunOptions.{RunOptions}
use Rattle.loft_orders.specs.declared.note.InstantNote.{InstantNote}
use Rattle.loft_orders.specs.declared.order.Order.{Order}
use Rattle.loft_orders.specs.declared.order.Order.TheVariants as order
use Rattle.loft_orders.specs.declared.order.Sent.{Sent}
use Rattle.loft_orders.specs.declared.order.To.{To}
use Rattle.loft_orders.specs.declared.order.To.TheVariants as to
use Rattle.loft_orders.specs.declared.thread.Thread.{Thread}
use Rattle.loft_sense.specs.Heads.{same_scheduler}
use Rattle.loft_sense.specs.Machine.{Prog, Tree}
use Rattle.loft_sense.specs.Apply.{apply}
use Rattle.loft_sense.specs.Instant.{instant, Replayed, one_more, replay_on, replay}
use Rattle.loft_sense.specs.Async.{async}
use Rattle.loft_sense.specs.Statements.{order_of}
use Rattle.loft_history.specs.Clients.{orders_from}
use Rattle.loft_history.specs.History.{sends, sent_in, log, is_addressed, orders_to, starts_from, starts_of, job_before, jobs_sent, replayed}
use Rattle.loft_history.specs.Legal.{actor_of, AtEach, IsDeclared, IsCallersOrder, IsCallersEntry, ComesNext}
use Rattle.loft_history.proofs.HistoryLemmas.{is_same}
use Rattle.loft_soundness.specs.Numbered.{IsNumbered}
use Rattle.loft_soundness.proofs.ListLemmas.{each_append, each_parts, each_map}
use Rattle.loft_soundness.proofs.HistoryWalk.{Claims, AreKept, HistoryHolds, ComesSo, picked_holds, history_holds}
use Rattle.loft_budget.specs.Bounds.{ActOverBy, OrderOverOf}
use Rattle.loft_budget.proofs.Threads.{Goes, Known, CarryIs, MakeIs, OrderIs, SentIs, ActEndIs, MachIs}
use Rattle.loft_budget.proofs.Instants.{instant_is}
use Rattle.loft_budget.proofs.BlockRuns.{BlockIs, block_is}

only_one : {A : Type 0} (P : A → Type 0) (b : Bool) (x : A) (xs : List A) → P x → Each P xs → Each P (if b then x ∷ xs else xs)
only_one P true x xs f g = (f, g)
only_one P false x xs f g = g

-- E: what is known of a thread by its id and its outermost module, as it is made
module _ (p : Resolved) (numbered : IsNumbered p) (o : RunOptions) (E : ThreadId → Option ModuleId → Type 0) where
  abbrev x : Prog
  x = Tree p

  abbrev IsOrder : Order → Type 0
  IsOrder order = OrderIs p o.limits E order

  abbrev IsSent : Sent → Type 0
  IsSent sent = SentIs p o.limits E sent

  abbrev GoesOn : Thread → Type 0
  GoesOn t = Goes p o.limits t × Known p o.limits E t

  abbrev pub Makes : Sent → Type 0
  Makes sent = MakeIs p o.limits E sent.order

  abbrev pub claims : Claims
  claims = record {
    order = λ s. IsOrder;
    job = GoesOn;
    machine = MachIs p o.limits E;
    sent = IsSent;
    known = Makes;
  }

  -- ---- what is sent, where it waits

  to_one : (s : SchedId) (ms : List Sent) → Each IsSent ms → Each Makes ms → Each IsOrder (orders_to s ms)
  to_one s [] f g = tt
  to_one s (m ∷ ms) f g = only_one IsOrder (is_addressed s m.to) m.order (orders_to s ms) (f.0, g.0) (to_one s ms f.1 g.1)

  job_is : (to : To) (order : Order) (waits : List Thread) → CarryIs p o.limits E order → Each GoesOn waits → Each GoesOn (job_before to order waits)
  job_is (to.Sched s) order waits f g = g
  job_is (to.Others s) order waits f g = g
  job_is to.All order waits f g = g
  job_is to.Workers (order.Create t m arguments) waits f g = g
  job_is to.Workers (order.Arrive t) waits f g = (f, g)
  job_is to.Workers (order.Stop t) waits f g = g
  job_is to.Workers (order.Suspend t) waits f g = g
  job_is to.Workers (order.Resume t) waits f g = g
  job_is to.Workers (order.Broadcast e v) waits f g = g
  job_is to.Workers (order.Ended t end) waits f g = g

  jobs_are : (ms : List Sent) → Each IsSent ms → Each GoesOn (jobs_sent ms)
  jobs_are [] f = tt
  jobs_are (m ∷ ms) f = job_is m.to m.order (jobs_sent ms) f.0 (jobs_are ms f.1)

  -- ---- the source, and callers: they carry nobody, and end nobody

  start_orders : (s : SchedId) (k : ℕ) (ts : List Start) → Each (λ (order : Order). MakeIs p o.limits E order) (starts_from s k ts) → Each IsOrder (starts_from s k ts)
  start_orders s k [] f = tt
  start_orders s k (t ∷ ts) f = start_one (same_scheduler s t.scheduler) _ (starts_from s (k + 1) ts) f (start_orders s (k + 1) ts)
    where
      start_one : (b : Bool) (u : ThreadId) (rest : List Order) → Each (λ (order : Order). MakeIs p o.limits E order) (if b then order.Create u t.module t.arguments ∷ rest else rest)
          → (Each (λ (order : Order). MakeIs p o.limits E order) rest → Each IsOrder rest) → Each IsOrder (if b then order.Create u t.module t.arguments ∷ rest else rest)
      start_one true u rest g on = ((tt, g.0), on g.1)
      start_one false u rest g on = on g

  control_is : (c : Control) (t : ThreadId) → CarryIs p o.limits E (order_of c t)
  control_is control.Stop t = tt
  control_is control.Suspend t = tt
  control_is control.Resume t = tt

  outside_are : (c k : ℕ) (os : List ClientOrder) → Each IsSent (orders_from p.heads c k os)
  outside_are c k [] = tt
  outside_are c k (client.Create s m arguments ∷ os) = (tt, outside_are c (k + 1) os)
  outside_are c k (client.Control control t s ∷ os) = (control_is control t, outside_are c k os)
  outside_are c k (client.Broadcast e value ∷ os) = (tt, outside_are c k os)

  callers_order : (t : ThreadId) (order : Order) → IsCallersOrder t order → CarryIs p o.limits E order
  callers_order t (order.Create u m arguments) f = tt
  callers_order t (order.Arrive u) f = absurd f
  callers_order t (order.Stop u) f = tt
  callers_order t (order.Suspend u) f = tt
  callers_order t (order.Resume u) f = tt
  callers_order t (order.Broadcast e v) f = tt
  callers_order t (order.Ended u end) f = absurd f

  called_is : (h : List Entry) (e : Entry) → IsCallersEntry x h e → Each IsSent (sends e)
  called_is h (Take s batch) call = absurd call
  called_is h (Give s sent) call = absurd call
  called_is h (Pick w job) call = absurd call
  called_is h (Post w sent) call = absurd call
  called_is h (Client c sent) call = (callers_order _ sent.order call.1.0, tt)

  -- ---- the walk

  -- what is known of those that the source starts
  abbrev pub StartsMake : Type 0
  StartsMake = (s : SchedId) → Each (λ (order : Order). MakeIs p o.limits E order) (starts_of p.heads s)

  block_sends : (t : Thread) → GoesOn t → Each IsSent (async x t o.limits.block)
  block_sends t g = each_map (BlockIs p o.limits E numbered t) IsSent (async x t o.limits.block) (λ sent f. f.0) (block_is p o.limits E numbered t g)

  pub kept : StartsMake → AreKept x o claims
  kept make = record {
    begins = λ s declared. tt;
    machines = λ m batch f g. (instant_is p o.limits E numbered m batch f g).machine;
    notes = λ m batch f g. (instant_is p o.limits E numbered m batch f g).sent;
    blocks = block_sends;
    starts = λ s. start_orders s 0 p.heads.starts (make s);
    clients = λ c. outside_are c 0 _;
    routes = record { orders = λ s declared. to_one s; jobs = λ ms f g. jobs_are ms f };
  }

  -- of all that entries send, what one of them sends
  sent_by_one : (es before : List Entry) (e : Entry) (after : List Entry) → es ≡ before ++ e ∷ after → Each Makes (sent_in es) → Each Makes (sends e)
  sent_by_one es before e after same f =
      let rest = each_parts Makes (sent_in before) (sent_in (e ∷ after)) (subst (Each Makes) (ap sent_in same ∙ flat_map-append sends before (e ∷ after)) f) in
      (each_parts Makes (sends e) (sent_in after) rest.1).0

  comes_so : (es : List Entry) → Each Makes (sent_in es) → AtEach (ComesNext x o) es → AtEach (ComesSo x o claims) es
  comes_so es makes each before e after same = record {
    next = each before e after same;
    call = called_is before e;
    known = sent_by_one es before e after same makes;
  }

  pub holds : (es : List Entry) → StartsMake → Each Makes (sent_in es) → AtEach (ComesNext x o) es → HistoryHolds x o claims es
  holds es make makes each = history_holds x o claims (kept make) es (comes_so es makes each)

  -- a scheduler that isn't declared takes nothing
  no_take : (s : SchedId) → (IsScheduler p.heads s → ⊥) → (es : List Entry) → Each (λ (e : Entry). IsDeclared p.heads o (actor_of e)) es → log s es ≡ []
  no_take s none [] f = refl
  no_take s none (Take q batch ∷ es) f = by (same_scheduler s q) refl (no_take s none es f.1)
    where
      by : (b : Bool) → same_scheduler s q ≡ b → log s es ≡ [] → (if b then batch ∷ log s es else log s es) ≡ []
      by true e rest = absurd (none (subst (IsScheduler p.heads) (sym (is_same s q e)) f.0))
      by false e rest = rest
  no_take s none (Give q sent ∷ es) f = no_take s none es f.1
  no_take s none (Pick w job ∷ es) f = no_take s none es f.1
  no_take s none (Post w sent ∷ es) f = no_take s none es f.1
  no_take s none (Client c sent ∷ es) f = no_take s none es f.1

  -- so each batch of each scheduler is as claimed
  pub took : (es : List Entry) → HistoryHolds x o claims es → Each (λ (e : Entry). IsDeclared p.heads o (actor_of e)) es → (s : SchedId) → Each (Each IsOrder) (log s es)
  took es h declared s = by (nat_lt s.0 (length p.heads.schedulers)) refl
    where
      by : (b : Bool) → nat_lt s.0 (length p.heads.schedulers) ≡ b → Each (Each IsOrder) (log s es)
      by true e = h.took s (ltb-true s.0 (length p.heads.schedulers) e)
      by false e =
          let beyond = ltb-false s.0 (length p.heads.schedulers) e in
          subst (Each (Each IsOrder)) (sym (no_take s (λ there. omega (arith, beyond, there)) es declared)) tt

  -- ---- a scheduler's own instants

  abbrev NoteIs : InstantNote → Type 0
  NoteIs note = Each (ActEndIs p o.limits E) note.acts

  record ReplayedIs (r : Replayed) : Type 0 where
    pub machine : MachIs p o.limits E r.machine
    pub notes : Each NoteIs r.notes

  one_more_is : (r : Replayed) (batch : List Order) → ReplayedIs r → Each IsOrder batch → ReplayedIs (one_more x o.limits r batch)
  one_more_is r batch f g =
      let did = instant_is p o.limits E numbered r.machine batch f.machine g in
      record { machine = did.machine; notes = each_append NoteIs r.notes ((instant x o.limits r.machine batch).note ∷ []) f.notes (did.ends, tt) }

  replay_is : (r : Replayed) (batches : List (List Order)) → ReplayedIs r → Each (Each IsOrder) batches → ReplayedIs (replay_on x o.limits r batches)
  replay_is r [] f g = f
  replay_is r (batch ∷ batches) f g = replay_is (one_more x o.limits r batch) batches (one_more_is r batch f g.0) g.1

  own_is : (s : SchedId) (batches : List (List Order)) → Each (Each IsOrder) batches → ReplayedIs (replay x o.limits s batches)
  own_is s batches f = replay_is _ batches (record { machine = tt; notes = tt }) f

  -- ---- what it says of instants, blocks and ends

  pub instant_over : (s : SchedId) (before : List (List Order)) (batch : List Order) (after : List (List Order)) → Each (Each IsOrder) (before ++ batch ∷ after)
      → let m = (replay x o.limits s before).machine in Each (ActOverBy p o.limits (apply x m batch).linked) (instant x o.limits m batch).note.acts
  instant_over s before batch after took =
      let parts = each_parts (Each IsOrder) before (batch ∷ after) took in
      (instant_is p o.limits E numbered (replay x o.limits s before).machine batch (own_is s before parts.0).machine parts.1.0).over

  pub block_over : StartsMake → (before : List Entry) (w : ℕ) (job : Thread) → HistoryHolds x o claims before → ComesNext x o before (Pick w job) → Each (λ (sent : Sent). OrderOverOf p o.limits job sent.order) (async x job o.limits.block)
  block_over make before w job h next =
      each_map (BlockIs p o.limits E numbered job) (λ (sent : Sent). OrderOverOf p o.limits job sent.order) (async x job o.limits.block) (λ sent f. f.1)
      (block_is p o.limits E numbered job (picked_holds x o claims (kept make) before w job h next))

  pub notes_end : (es : List Entry) (s : SchedId) → Each (Each IsOrder) (log s es) → Each (λ (note : InstantNote). Each (ActEndIs p o.limits E) note.acts) (replayed x o.limits s es).notes
  notes_end es s took = (own_is s (log s es) took).notes
