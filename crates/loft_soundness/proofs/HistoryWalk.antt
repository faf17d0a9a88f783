-- What holds at first, and what each instant and each block of an unlinked thread keeps, holds in each history: of machines, of
-- what waits, and of all that is sent.
use Rattle.std.proofs.Common.{◌≡◌, ℕ, ◌==◌, inl, inr, Bool, true, false, List, [], ◌∷◌, ◌++◌, length, Some, refl, sym, ◌∙◌, subst, append_assoc, append-nil}
use Rattle.std.specs.Prelude.{◌&&◌, not, nat_lt, drop, if◌then◌else◌}
use Rattle.std.proofs.lemmas.Bool.{and_parts, ltb-true}
use Rattle.std.proofs.lemmas.Grind.{flat_map-append}
use Rattle.std.proofs.lemmas.List.Sums.{fold_push}
use Rattle.loft_base.specs.declared.ids.SchedId.{SchedId}
use Rattle.loft_tree.specs.Fits.{Each}
use Rattle.loft_tree.specs.NamedFits.{IsScheduler}
use Rattle.loft_orders.specs.declared.entry.Entry.{Entry}
use Rattle.loft_orders.specs.declared.entry.Entry.TheVariants.{Take, Give, Pick, Post, Client}
use Rattle.loft_base.specs.declared.options.RunOptions.{RunOptions}
use Rattle.loft_orders.specs.declared.note.InstantNote.{InstantNote}
use Rattle.loft_orders.specs.declared.order.Order.{Order}
use Rattle.loft_orders.specs.declared.order.Sent.{Sent}
use Rattle.loft_orders.specs.declared.thread.Thread.{Thread}
use Rattle.loft_sense.specs.Heads.{same_scheduler}
use Rattle.loft_sense.specs.Machine.{Prog, heads, Mach, empty}
use Rattle.loft_sense.specs.Instant.{instant, Replayed, one_more, replay_on}
use Rattle.loft_sense.specs.Async.{async}
use Rattle.loft_history.specs.Clients.{outside_of}
use Rattle.loft_history.specs.History.{choice_of, sends, sent_in, log, is_open, orders_to, starts_of, waiting_step, waiting_after, waiting, jobs_sent, jobs_step, jobs_after, jobs, unposted_step, unposted, unsent_step, unsent, replayed, has_turn, sent_last, entry_of_first, pick_of, entry_of}
use Rattle.loft_history.specs.Legal.{AtEach, IsCallersEntry, ComesNext}
use Rattle.loft_sense.proofs.InstantLemmas.{instant_scheduler}
use Rattle.loft_history.proofs.HistoryLemmas.{is_same, on_if, on_first, on_pick, log-append}
use Rattle.loft_history.proofs.LegalEntries.{split_on}
use Rattle.loft_soundness.proofs.ListLemmas.{each_append, each_parts, each_drop}

-- What is claimed: of an order that waits for a scheduler, of a thread that waits for a worker, of a machine, and of all that is
-- sent. And what is known from elsewhere of all that entries send.
pub record Claims : Type 1 where
  pub order : SchedId → Order → Type 0
  pub job : Thread → Type 0
  pub machine : Mach → Type 0
  pub sent : Sent → Type 0
  pub known : Sent → Type 0

-- what is sent, and known, is so where it waits
pub record Routes (x : Prog) (c : Claims) : Type 0 where
  pub orders : (s : SchedId) → IsScheduler (heads x) s → (ms : List Sent) → Each c.sent ms → Each c.known ms → Each (c.order s) (orders_to s ms)
  pub jobs : (ms : List Sent) → Each c.sent ms → Each c.known ms → Each c.job (jobs_sent ms)

-- Machines, starts and clients begin so, and instants and blocks keep it.
pub record AreKept (x : Prog) (o : RunOptions) (c : Claims) : Type 0 where
  pub begins : (s : SchedId) → IsScheduler (heads x) s → c.machine (empty x s)
  pub machines : (m : Mach) (batch : List Order) → c.machine m → Each (c.order m.s) batch → c.machine (instant x o.limits m batch).machine
  pub notes : (m : Mach) (batch : List Order) → c.machine m → Each (c.order m.s) batch → Each c.sent (instant x o.limits m batch).note.sent
  pub blocks : (t : Thread) → c.job t → Each c.sent (async x t o.limits.block)
  pub starts : (s : SchedId) → Each (c.order s) (starts_of (heads x) s)
  pub clients : (d : ℕ) → Each c.sent (outside_of (heads x) d)
  pub routes : Routes x c

some_same : {a b : Entry} → Some a ≡ Some b → a ≡ b
some_same e = cc

same_job : {w : ℕ} {t u : Thread} → Pick w t ≡ Pick w u → t ≡ u
same_job e = cc

only_if : {A : Type 0} (P : A → Type 0) (b : Bool) (x : A) → (b ≡ true → P x) → Each P (if b then x ∷ [] else [])
only_if P true x f = (f refl, tt)
only_if P false x f = tt

either : {A : Type 0} (P : A → Type 0) (b : Bool) (xs ys : List A) → Each P xs → Each P ys → Each P (if b then xs else ys)
either P true xs ys f g = f
either P false xs ys f g = g

last_sent : (P : Sent → Type 0) (ns : List InstantNote) → Each (λ (n : InstantNote). Each P n.sent) ns → Each P (sent_last ns)
last_sent P [] f = tt
last_sent P (n ∷ []) f = f.0
last_sent P (n ∷ m ∷ ns) f = last_sent P (m ∷ ns) f.1

-- ---- what was sent, and waits

module _ (x : Prog) (c : Claims) (routes : Routes x c) where
  one_waits : (s : SchedId) → IsScheduler (heads x) s → (before : List Order) (e : Entry) → Each (c.order s) before → Each c.sent (sends e) → Each c.known (sends e) → Each (c.order s) (waiting_step s before e)
  one_waits s declared before (Take q batch) f g k = either (c.order s) (same_scheduler s q) [] before tt f
  one_waits s declared before (Give q sent) f g k = each_append (c.order s) before (orders_to s sent) f (routes.orders s declared sent g k)
  one_waits s declared before (Pick w job) f g k = f
  one_waits s declared before (Post w sent) f g k = each_append (c.order s) before (orders_to s (sent ∷ [])) f (routes.orders s declared (sent ∷ []) g k)
  one_waits s declared before (Client d sent) f g k = each_append (c.order s) before (orders_to s (sent ∷ [])) f (routes.orders s declared (sent ∷ []) g k)

  pub sent_wait : (s : SchedId) → IsScheduler (heads x) s → (before : List Order) (es : List Entry) → Each (c.order s) before → Each c.sent (sent_in es) → Each c.known (sent_in es) → Each (c.order s) (waiting_after s before es)
  sent_wait s declared before [] f g k = f
  sent_wait s declared before (e ∷ es) f g k =
      let sent = each_parts c.sent (sends e) (sent_in es) g in
      let known = each_parts c.known (sends e) (sent_in es) k in
      sent_wait s declared (waiting_step s before e) es (one_waits s declared before e f sent.0 known.0) sent.1 known.1

  one_job : (before : List Thread) (e : Entry) → Each c.job before → Each c.sent (sends e) → Each c.known (sends e) → Each c.job (jobs_step before e)
  one_job before (Take q batch) f g k = f
  one_job before (Give q sent) f g k = each_append c.job before (jobs_sent sent) f (routes.jobs sent g k)
  one_job before (Pick w job) f g k = each_drop c.job before f
  one_job before (Post w sent) f g k = each_append c.job before (jobs_sent (sent ∷ [])) f (routes.jobs (sent ∷ []) g k)
  one_job before (Client d sent) f g k = each_append c.job before (jobs_sent (sent ∷ [])) f (routes.jobs (sent ∷ []) g k)

  pub sent_work : (before : List Thread) (es : List Entry) → Each c.job before → Each c.sent (sent_in es) → Each c.known (sent_in es) → Each c.job (jobs_after before es)
  sent_work before [] f g k = f
  sent_work before (e ∷ es) f g k =
      let sent = each_parts c.sent (sends e) (sent_in es) g in
      let known = each_parts c.known (sends e) (sent_in es) k in
      sent_work (jobs_step before e) es (one_job before e f sent.0 known.0) sent.1 known.1

-- ---- histories

module _ (x : Prog) (o : RunOptions) (c : Claims) where
  abbrev pub NoteHolds : InstantNote → Type 0
  NoteHolds note = Each c.sent note.sent

  abbrev pub BatchHolds : SchedId → List Order → Type 0
  BatchHolds s batch = Each (c.order s) batch

  -- a machine of this scheduler, and its notes
  pub record ReplayedHolds (s : SchedId) (r : Replayed) : Type 0 where
    pub own : r.machine.s ≡ s
    pub machine : c.machine r.machine
    pub notes : Each NoteHolds r.notes

  -- What was sent is so, as is each batch that a scheduler took, what workers have still to post, and what clients have still
  -- to give.
  pub record HistoryHolds (h : List Entry) : Type 0 where
    pub sent : Each c.sent (sent_in h)
    pub known : Each c.known (sent_in h)
    pub took : (s : SchedId) → IsScheduler (heads x) s → Each (BatchHolds s) (log s h)
    pub posts : (w : ℕ) → Each c.sent (unposted x o w h)
    pub orders : (d : ℕ) → Each c.sent (unsent (heads x) d h)

  -- the same of what one more entry leaves
  pub record EntryHolds (h : List Entry) (e : Entry) : Type 0 where
    pub sent : Each c.sent (sends e)
    pub took : (s : SchedId) → IsScheduler (heads x) s → Each (BatchHolds s) (log s (e ∷ []))
    pub posts : (w : ℕ) → Each c.sent (unposted_step x o w (unposted x o w h) e)
    pub orders : (d : ℕ) → Each c.sent (unsent_step d (unsent (heads x) d h) e)

  -- The entry may come next. Where it is a caller's, what it gives is so, and what is known of all that entries send is known
  -- of what it sends.
  pub record ComesSo (h : List Entry) (e : Entry) : Type 0 where
    pub next : ComesNext x o h e
    pub call : IsCallersEntry x h e → Each c.sent (sends e)
    pub known : Each c.known (sends e)

module _ (x : Prog) (o : RunOptions) (c : Claims) (kept : AreKept x o c) where
  -- ---- a scheduler's own instants

  pub begun_holds : (s : SchedId) → IsScheduler (heads x) s → ReplayedHolds x o c s (record { machine = empty x s; notes = [] })
  begun_holds s declared = record { own = refl; machine = kept.begins s declared; notes = tt }

  pub one_more_holds : (s : SchedId) (r : Replayed) (batch : List Order) → ReplayedHolds x o c s r → BatchHolds x o c s batch → ReplayedHolds x o c s (one_more x o.limits r batch)
  one_more_holds s r batch f g =
      let did = instant x o.limits r.machine batch in
      let own = subst (λ (q : SchedId). Each (c.order q) batch) (sym f.own) g in
      record {
        own = instant_scheduler x o.limits r.machine batch ∙ f.own;
        machine = kept.machines r.machine batch f.machine own;
        notes = each_append (NoteHolds x o c) r.notes (did.note ∷ []) f.notes (kept.notes r.machine batch f.machine own, tt);
      }

  pub replay_holds : (s : SchedId) (r : Replayed) (batches : List (List Order)) → ReplayedHolds x o c s r → Each (BatchHolds x o c s) batches → ReplayedHolds x o c s (replay_on x o.limits r batches)
  replay_holds s r [] f g = f
  replay_holds s r (batch ∷ batches) f g = replay_holds s (one_more x o.limits r batch) batches (one_more_holds s r batch f g.0) g.1

  pub replayed_holds : (h : List Entry) (s : SchedId) → HistoryHolds x o c h → IsScheduler (heads x) s → ReplayedHolds x o c s (replayed x o.limits s h)
  replayed_holds h s f declared = replay_holds s _ (log s h) (begun_holds s declared) (f.took s declared)

  -- ---- what waits

  pub waits_hold : (h : List Entry) (s : SchedId) → HistoryHolds x o c h → IsScheduler (heads x) s → Each (c.order s) (waiting (heads x) s h)
  waits_hold h s f declared = sent_wait x c kept.routes s declared (starts_of (heads x) s) h (kept.starts s) f.sent f.known

  pub jobs_hold : (h : List Entry) → HistoryHolds x o c h → Each c.job (jobs h)
  jobs_hold h f = sent_work x c kept.routes [] h tt f.sent f.known

  -- ---- one more entry

  more_sent : (P : Sent → Type 0) (h : List Entry) (e : Entry) → Each P (sent_in h) → Each P (sends e) → Each P (sent_in (h ++ e ∷ []))
  more_sent P h e f g =
      subst (Each P) (sym (flat_map-append sends h (e ∷ []))) (each_append P (sent_in h) (sends e ++ []) f (subst (Each P) (sym (append-nil (sends e))) g))

  one_more_entry : (h : List Entry) (e : Entry) → HistoryHolds x o c h → Each c.known (sends e) → EntryHolds x o c h e → HistoryHolds x o c (h ++ e ∷ [])
  one_more_entry h e f known g = record {
    sent = more_sent c.sent h e f.sent g.sent;
    known = more_sent c.known h e f.known known;
    took = λ s declared. subst (Each (BatchHolds x o c s)) (sym (log-append s h (e ∷ []))) (each_append (BatchHolds x o c s) (log s h) (log s (e ∷ [])) (f.took s declared) (g.took s declared));
    posts = λ w. subst (Each c.sent) (sym (fold_push (unposted_step x o w) [] h e)) (g.posts w);
    orders = λ d. subst (Each c.sent) (sym (fold_push (unsent_step d) (outside_of (heads x) d) h e)) (g.orders d);
  }

  take_holds : (h : List Entry) (q : SchedId) → HistoryHolds x o c h → EntryHolds x o c h (Take q (waiting (heads x) q h))
  take_holds h q f =
      let batch = waiting (heads x) q h in
      record {
        sent = tt;
        took = λ s declared. only_if (BatchHolds x o c s) (same_scheduler s q) batch (λ same. subst (λ (r : SchedId). Each (c.order s) (waiting (heads x) r h)) (is_same s q same) (waits_hold h s f declared));
        posts = f.posts;
        orders = f.orders;
      }

  give_holds : (h : List Entry) (q : SchedId) → IsScheduler (heads x) q → HistoryHolds x o c h → EntryHolds x o c h (Give q (sent_last (replayed x o.limits q h).notes))
  give_holds h q declared f = record {
    sent = last_sent c.sent (replayed x o.limits q h).notes (replayed_holds h q f declared).notes;
    took = λ s there. tt;
    posts = f.posts;
    orders = f.orders;
  }

  pick_holds : (h : List Entry) (v : ℕ) (job : Thread) → HistoryHolds x o c h → c.job job → EntryHolds x o c h (Pick v job)
  pick_holds h v job f here = record {
    sent = tt;
    took = λ s there. tt;
    posts = λ w. either c.sent (w == v) (async x job o.limits.block) (unposted x o w h) (kept.blocks job here) (f.posts w);
    orders = f.orders;
  }

  post_holds : (h : List Entry) (v : ℕ) (sent : Sent) → HistoryHolds x o c h → c.sent sent → EntryHolds x o c h (Post v sent)
  post_holds h v sent f here = record {
    sent = (here, tt);
    took = λ s there. tt;
    posts = λ w. either c.sent (w == v) (drop 1 (unposted x o w h)) (unposted x o w h) (each_drop c.sent (unposted x o w h) (f.posts w)) (f.posts w);
    orders = f.orders;
  }

  client_holds : (h : List Entry) (d : ℕ) (sent : Sent) → HistoryHolds x o c h → c.sent sent → EntryHolds x o c h (Client d sent)
  client_holds h d sent f here = record {
    sent = (here, tt);
    took = λ s there. tt;
    posts = f.posts;
    orders = λ a. either c.sent (a == d) (drop 1 (unsent (heads x) a h)) (unsent (heads x) a h) (each_drop c.sent (unsent (heads x) a h) (f.orders a)) (f.orders a);
  }

  -- what may come next holds by its choice
  choice_holds : (h : List Entry) (e : Entry) → HistoryHolds x o c h → entry_of x o h (choice_of e) ≡ Some e → EntryHolds x o c h e
  choice_holds h (Take s batch) f is =
      on_if (nat_lt s.0 (length (heads x).schedulers) && not (is_open s h) && has_turn x o.limits (replayed x o.limits s h).machine (waiting (heads x) s h)) (Some (Take s (waiting (heads x) s h))) (Take s batch) is
      (λ allowed same. subst (EntryHolds x o c h) (some_same same) (take_holds h s f))
  choice_holds h (Give s sent) f is =
      on_if (nat_lt s.0 (length (heads x).schedulers) && is_open s h) (Some (Give s (sent_last (replayed x o.limits s h).notes))) (Give s sent) is
      (λ allowed same. subst (EntryHolds x o c h) (some_same same) (give_holds h s (ltb-true s.0 (length (heads x).schedulers) (and_parts _ (is_open s h) allowed).0) f))
  choice_holds h (Pick w job) f is =
      on_if (nat_lt w o.workers) (pick_of w (unposted x o w h) (jobs h)) (Pick w job) is (λ declared picks.
      on_pick w (unposted x o w h) (jobs h) (Pick w job) picks (λ free first.
      on_first (Pick w) (jobs h) (Pick w job) first (λ t rest all same.
      subst (EntryHolds x o c h) same (pick_holds h w t f (subst (Each c.job) all (jobs_hold h f)).0))))
  choice_holds h (Post w sent) f is =
      on_if (nat_lt w o.workers) (entry_of_first (Post w) (unposted x o w h)) (Post w sent) is (λ declared first.
      on_first (Post w) (unposted x o w h) (Post w sent) first (λ m rest all same.
      subst (EntryHolds x o c h) same (post_holds h w m f (subst (Each c.sent) all (f.posts w)).0)))
  choice_holds h (Client d sent) f is =
      on_first (Client d) (unsent (heads x) d h) (Client d sent) is (λ m rest all same.
      subst (EntryHolds x o c h) same (client_holds h d m f (subst (Each c.sent) all (f.orders d)).0))

  -- so does a thread that is picked
  pub picked_holds : (h : List Entry) (w : ℕ) (job : Thread) → HistoryHolds x o c h → ComesNext x o h (Pick w job) → c.job job
  picked_holds h w job f (inl is) =
      on_if (nat_lt w o.workers) (pick_of w (unposted x o w h) (jobs h)) (Pick w job) is (λ declared picks.
      on_pick w (unposted x o w h) (jobs h) (Pick w job) picks (λ free first.
      on_first (Pick w) (jobs h) (Pick w job) first (λ t rest all same.
      subst c.job (same_job same) (subst (Each c.job) all (jobs_hold h f)).0)))
  picked_holds h w job f (inr call) = absurd call

  called_holds : (h : List Entry) (e : Entry) → HistoryHolds x o c h → IsCallersEntry x h e → Each c.sent (sends e) → EntryHolds x o c h e
  called_holds h (Take s batch) f call here = absurd call
  called_holds h (Give s sent) f call here = absurd call
  called_holds h (Pick w job) f call here = absurd call
  called_holds h (Post w sent) f call here = absurd call
  called_holds h (Client d sent) f call here = client_holds h d sent f here.0

  next_holds : (h : List Entry) (e : Entry) → HistoryHolds x o c h → ComesNext x o h e → (IsCallersEntry x h e → Each c.sent (sends e)) → EntryHolds x o c h e
  next_holds h e f (inl is) call = choice_holds h e f is
  next_holds h e f (inr called) call = called_holds h e f called (call called)

  -- each entry that may come next keeps this
  pub entry_holds : (h : List Entry) (e : Entry) → HistoryHolds x o c h → ComesSo x o c h e → HistoryHolds x o c (h ++ e ∷ [])
  entry_holds h e f comes = one_more_entry h e f comes.known (next_holds h e f comes.next comes.call)

  entries_hold : (before after : List Entry) → HistoryHolds x o c before → AtEach (ComesSo x o c) (before ++ after) → HistoryHolds x o c (before ++ after)
  entries_hold before [] f each = subst (HistoryHolds x o c) (sym (append-nil before)) f
  entries_hold before (e ∷ after) f each =
      subst (HistoryHolds x o c) (append_assoc before (e ∷ []) after)
      (entries_hold (before ++ e ∷ []) after (entry_holds before e f (each before e after refl)) (split_on (ComesSo x o c) before e after each))

  -- at first nothing was sent
  pub starts_hold : HistoryHolds x o c []
  starts_hold = record { sent = tt; known = tt; took = λ s declared. tt; posts = λ w. tt; orders = kept.clients }

  -- in each history whose entries come so
  pub history_holds : (es : List Entry) → AtEach (ComesSo x o c) es → HistoryHolds x o c es
  history_holds es each = entries_hold [] es starts_hold each
