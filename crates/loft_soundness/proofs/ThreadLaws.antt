-- The threads of a history, wherever they are, as the law says it.
use Rattle.std.proofs.Common.{◌≡◌, ℕ, ◌⊎◌, inl, inr, List, [], ◌∷◌, ◌++◌, ◌∙◌, subst, ap}
use Rattle.std.specs.Prelude.{All}
use Rattle.std.proofs.lemmas.Grind.{flat_map-append}
use Rattle.loft_base.specs.declared.ids.ModuleId.{ModuleId}
use Rattle.loft_base.specs.declared.ids.SchedId.{SchedId}
use Rattle.loft_base.specs.declared.ids.ThreadId.{ThreadId}
use Rattle.loft_base.specs.declared.ids.Value.{Value}
use Rattle.loft_tree.specs.declared.heads.Place.TheVariants.{Sched, Unlinked}
use Rattle.loft_tree.specs.Fits.{Each}
use Rattle.loft_tree.specs.NamedFits.{IsScheduler}
use Rattle.loft_orders.specs.declared.entry.Entry.{Entry}
use Rattle.loft_orders.specs.declared.entry.Entry.TheVariants.{Pick}
use Rattle.loft_base.specs.declared.options.RunOptions.{RunOptions}
use Rattle.loft_orders.specs.declared.note.Act.{Act}
use Rattle.loft_orders.specs.declared.note.Act.TheVariants as act
use Rattle.loft_orders.specs.declared.note.InstantNote.{InstantNote}
use Rattle.loft_orders.specs.declared.note.Standing.{Standing}
use Rattle.loft_orders.specs.declared.order.Order.{Order}
use Rattle.loft_orders.specs.declared.order.Order.TheVariants as order
use Rattle.loft_orders.specs.declared.order.Sent.{Sent}
use Rattle.loft_orders.specs.declared.thread.Thread.{Thread}
use Rattle.loft_sense.specs.Machine.{Prog, heads}
use Rattle.loft_sense.specs.Passes.{run_of, around_after}
use Rattle.loft_history.specs.Clients.{outside_of}
use Rattle.loft_sense.specs.Fits.{Fits}
use Rattle.loft_history.specs.History.{sends, sent_in, starts_of, log, waiting, jobs, unposted, replayed}
use Rattle.loft_history.specs.Legal.{AtEach, IsLegal, ComesNext}
use Rattle.loft_history.proofs.AtEachLemmas.{at_each_before}
use Rattle.loft_history.proofs.LegalEntries.{legal_exactly}
use Rattle.loft_soundness.specs.Machines.{ThreadFits, SentFits}
use Rattle.loft_soundness.specs.WellFormed.{IsWellFormed}
use Rattle.loft_soundness.specs.Threads.{Claim, Grant, SentCarries, IsGranted, WaitsSo, ActGrants, ThreadsKeep, SendersGrant, EntriesGrant, IsKeptIn}
use Rattle.loft_soundness.proofs.ListLemmas.{each_parts, each_map, all_of, each_of}
use Rattle.loft_soundness.proofs.HistoryWalk.{replayed_holds, waits_hold, jobs_hold, picked_holds}
use Rattle.loft_soundness.proofs.ThreadWalk.{Premises, SentSo, WaitsBoth, EntrySo, thread_claims, threads_kept, threads_so}

each_any : {A : Type 0} (P : A → Type 0) (xs : List A) → ((y : A) → P y) → Each P xs
each_any P [] f = tt
each_any P (y ∷ ys) f = (f y, each_any P ys f)

all_map : {A : Type 0} (P Q : A → Type 0) (xs : List A) → ((y : A) → P y → Q y) → Each P xs → All Q xs
all_map P Q xs turn f = all_of Q xs (each_map P Q xs turn f)

-- of all that the entries send, what one of them sends
sent_by_one : (P : Sent → Type 0) (es before : List Entry) (e : Entry) (after : List Entry) → es ≡ before ++ e ∷ after → Each P (sent_in es) → Each P (sends e)
sent_by_one P es before e after same f =
    let rest = each_parts P (sent_in before) (sent_in (e ∷ after)) (subst (Each P) (ap sent_in same ∙ flat_map-append sends before (e ∷ after)) f) in
    (each_parts P (sends e) (sent_in after) rest.1).0

-- ---- nothing is asked of creates

abbrev Any : Grant
Any t m args = Unit {0}

any_order : (o : Order) → IsGranted Any o
any_order (order.Create t m args) = tt
any_order (order.Arrive t) = tt
any_order (order.Stop t) = tt
any_order (order.Suspend t) = tt
any_order (order.Resume t) = tt
any_order (order.Broadcast e v) = tt
any_order (order.Ended t end) = tt

any_act : (one : Act) → ActGrants Any one
any_act (act.Print t line) = tt
any_act (act.Gen t event v) = tt
any_act (act.Out t sent) = any_order sent.order
any_act (act.End t end) = tt

any_sent : (ms : List Sent) → Each (λ (m : Sent). IsGranted Any m.order) ms
any_sent ms = each_any (λ (m : Sent). IsGranted Any m.order) ms (λ m. any_order m.order)

-- ---- both grants

module _ (A B M : Grant) (both : (t : ThreadId) (m : ModuleId) (args : List Value) → A t m args → B t m args → M t m args) where
  both_granted : (o : Order) → IsGranted A o → IsGranted B o → IsGranted M o
  both_granted (order.Create t m args) a b = both t m args a b
  both_granted (order.Arrive t) a b = tt
  both_granted (order.Stop t) a b = tt
  both_granted (order.Suspend t) a b = tt
  both_granted (order.Resume t) a b = tt
  both_granted (order.Broadcast e v) a b = tt
  both_granted (order.Ended t end) a b = tt

-- the claim holds of the threads of this history, wherever they are
pub record Everywhere (x : Prog) (P : Claim) (M : Grant) (o : RunOptions) (es : List Entry) : Type 0 where
  pub linked : (s : SchedId) → IsScheduler (heads x) s → All (λ q. P (Sched s) q.thread) (replayed x o.limits s es).machine.linked
  pub waits : (s : SchedId) → IsScheduler (heads x) s → All (WaitsSo P M s) (waiting (heads x) s es)
  pub batches : (s : SchedId) → IsScheduler (heads x) s → All (λ batch. All (WaitsSo P M s) batch) (log s es)
  pub jobs : All (P Unlinked) (jobs es)
  pub hands : (before : List Entry) (w : ℕ) (job : Thread) (after : List Entry) → es ≡ before ++ Pick w job ∷ after → P Unlinked job
  pub posts : (w : ℕ) → All (SentCarries P) (unposted x o w es)
  pub sent : (s : SchedId) → IsScheduler (heads x) s → All (λ note. All (SentCarries P) note.sent) (replayed x o.limits s es).notes

module _ (x : Prog) (well : IsWellFormed x) (P : Claim) (A B M : Grant) (h : Premises x P A B) (both : (t : ThreadId) (m : ModuleId) (args : List Value) → A t m args → B t m args → M t m args) where
  batch_so : (s : SchedId) (batch : List Order) → Each (λ q. Fits x s q × WaitsBoth x well P A B h s q) batch → All (WaitsSo P M s) batch
  batch_so s batch f = all_map (λ (q : Order). Fits x s q × WaitsBoth x well P A B h s q) (WaitsSo P M s) batch (λ q g. (g.1.0, both_granted A B M both q g.1.1.0 g.1.1.1)) f

  sents_so : (ms : List Sent) → Each (λ m. SentFits x m × SentSo x well P A B h m) ms → All (SentCarries P) ms
  sents_so ms f = all_map (λ (m : Sent). SentFits x m × SentSo x well P A B h m) (SentCarries P) ms (λ m g. g.1.0) f

  pub everywhere_by : (o : RunOptions) (es : List Entry) → IsLegal x o es → AtEach (EntrySo x well P A B h) es → Everywhere x P M o es
  everywhere_by o es legal grants =
      let each = (legal_exactly x o es).0 legal in
      let claims = thread_claims x well P A B h in
      let kept = threads_kept x well P A B h o in
      let so = threads_so x well P A B h o es each grants in
      record {
        linked = λ s declared.
            let r = replayed_holds x o claims kept es s so declared in
            let m = (replayed x o.limits s es).machine in
            all_of (λ (q : Standing). P (Sched s) q.thread) m.linked (subst (λ (q : SchedId). Each (λ (standing : Standing). P (Sched q) standing.thread) m.linked) r.own r.machine.1);
        waits = λ s declared. batch_so s (waiting (heads x) s es) (waits_hold x o claims kept es s so declared);
        batches = λ s declared. all_map (λ (batch : List Order). Each (λ (q : Order). Fits x s q × WaitsBoth x well P A B h s q) batch) (λ (batch : List Order). All (WaitsSo P M s) batch) (log s es) (λ batch f. batch_so s batch f) (so.took s declared);
        jobs = all_map (λ (t : Thread). ThreadFits x Unlinked t × P Unlinked t) (P Unlinked) (jobs es) (λ t f. f.1) (jobs_hold x o claims kept es so);
        hands = λ before w job after same.
            let front = threads_so x well P A B h o before (at_each_before (ComesNext x o) before (Pick w job ∷ after) (subst (AtEach (ComesNext x o)) same each))
            (at_each_before (EntrySo x well P A B h) before (Pick w job ∷ after) (subst (AtEach (EntrySo x well P A B h)) same grants)) in
            (picked_holds x o claims kept before w job front (each before (Pick w job) after same)).1;
        posts = λ w. sents_so (unposted x o w es) (so.posts w);
        sent = λ s declared.
            let r = replayed_holds x o claims kept es s so declared in
            let notes = (replayed x o.limits s es).notes in
            all_map (λ (note : InstantNote). Each (λ (m : Sent). SentFits x m × SentSo x well P A B h m) note.sent) (λ (note : InstantNote). All (SentCarries P) note.sent) notes (λ note f. sents_so note.sent f) r.notes;
      }

-- ---- by those who send the creates, or as is known of each

module _ (x : Prog) (P : Claim) (M : Grant) (o : RunOptions) (es : List Entry) (well : IsWellFormed x) (keep : ThreadsKeep x P M) (legal : IsLegal x o es) where
  by_senders : SendersGrant x P M es → Everywhere x P M o es
  by_senders g =
      let h : Premises x P M Any = record {
        begins = λ s t m args fits a b. keep.begins s t m args fits a;
        closes = keep.closes;
        runs = keep.runs;
        starts = λ s. each_of (IsGranted M) (starts_of (heads x) s) (g.starts s);
        known_starts = λ s. each_any (IsGranted Any) (starts_of (heads x) s) any_order;
        clients = λ c. each_of (λ (m : Sent). IsGranted M m.order) (outside_of (heads x) c) (g.clients c);
        acts = λ place t around left fits there p acts.
            each_of (ActGrants M) (around_after (run_of x t around left)).acts (g.runs place t around left fits there p (all_of (ActGrants M) around.acts acts));
      } in
      everywhere_by x well P M Any M h (λ t m args a b. a) o es legal (λ before e after same. (λ call. each_of (λ (m : Sent). IsGranted M m.order) (sends e) (g.callers before e after same call), any_sent (sends e)))

  by_entries : EntriesGrant x M es → Everywhere x P M o es
  by_entries g =
      let h : Premises x P Any M = record {
        begins = λ s t m args fits a b. keep.begins s t m args fits b;
        closes = keep.closes;
        runs = keep.runs;
        starts = λ s. each_any (IsGranted Any) (starts_of (heads x) s) any_order;
        known_starts = λ s. each_of (IsGranted M) (starts_of (heads x) s) (g.starts s);
        clients = λ c. each_any (λ (m : Sent). IsGranted Any m.order) (outside_of (heads x) c) (λ m. any_order m.order);
        acts = λ place t around left fits there p acts. each_any (ActGrants Any) (around_after (run_of x t around left)).acts any_act;
      } in
      everywhere_by x well P Any M M h (λ t m args a b. b) o es legal
      (λ before e after same.
      (λ call. any_sent (sends e), sent_by_one (λ (m : Sent). IsGranted M m.order) es before e after same (each_of (λ (m : Sent). IsGranted M m.order) (sent_in es) g.entries)))

  either_grants : SendersGrant x P M es ⊎ EntriesGrant x M es → Everywhere x P M o es
  either_grants (inl g) = by_senders g
  either_grants (inr g) = by_entries g

pub everywhere : (x : Prog) (P : Claim) (M : Grant) (o : RunOptions) (es : List Entry) → IsKeptIn x P M o es → Everywhere x P M o es
everywhere x P M o es k = either_grants x P M o es k.well k.threads k.legal k.creates
