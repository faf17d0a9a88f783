-- Programs whose threads run alike have the same histories and reports.
use Rattle.std.proofs.Common.{◌≡◌, ℕ, ◌+◌, ◌<◌, ◌≤◌, ◌==◌, inl, inr, append_assoc, append-nil, Bool, true, false, List, [], ◌∷◌, ◌++◌, length, map, Option, Some, None, Result, refl, sym, ap, ◌∙◌, subst, arith}
use Rattle.std.specs.Prelude.{◌↔◌, ◌&&◌, not, drop, nat_lt, if◌then◌else◌, codes, IsTrue}
use Rattle.std.specs.List.{flat_map}
use Rattle.std.proofs.lemmas.Bool.{ltb-true}
use Rattle.std.proofs.lemmas.List.Sums.{fold-append}
use Rattle.loft_base.specs.declared.ids.SchedId.{SchedId}
use Rattle.loft_tree.specs.declared.heads.Heads.{Heads}
use Rattle.loft_tree.specs.Fits.{Each}
use Rattle.loft_tree.specs.NamedFits.{IsScheduler}
use Rattle.loft_orders.specs.declared.entry.Entry.{Entry}
use Rattle.loft_orders.specs.declared.entry.Entry.TheVariants.{Take, Give, Pick, Post, Client}
use Rattle.loft_base.specs.declared.options.RunOptions.{RunOptions}
use Rattle.loft_base.specs.declared.ids.ThreadId.{ThreadId}
use Rattle.loft_tree.specs.HeadsFit.{HeadsFit}
use Rattle.loft_orders.specs.declared.order.Order.{Order}
use Rattle.loft_orders.specs.declared.order.Order.TheVariants as order
use Rattle.loft_orders.specs.declared.order.To.{To}
use Rattle.loft_orders.specs.declared.order.To.TheVariants as to
use Rattle.loft_orders.specs.declared.order.Sent.{Sent}
use Rattle.loft_sense.specs.Heads.{shared_values}
use Rattle.loft_sense.specs.Tally.{first_tally, reaches_bound}
use Rattle.loft_sense.specs.Machine.{Prog, heads, Mach, empty}
use Rattle.loft_sense.specs.Rest.{is_resting}
use Rattle.loft_sense.specs.Instant.{AfterInstant, Replayed, one_more, replay_on}
use Rattle.loft_sense.specs.Fits.{IsThread, IsValue, IsEventOf, Fits}
use Rattle.loft_history.specs.Clients.{made_by}
use Rattle.loft_history.specs.History.{Choice, TakeBy, GiveBy, PickBy, PostBy, ClientBy, choice_of, log, is_open, waiting, jobs, unposted_after, unposted, unsent, creates, replayed, is_empty, has_turn, sent_last, entry_of_first, pick_of, entry_of, with_entry, hist_on, hist, has_finished, HasEnded, unposted_step}
use Rattle.loft_history.specs.Legal.{AtEach, IsCallersOrder, FitsOne, IsLegal, IsCallersEntry, ComesNext}
use Rattle.loft_orders.specs.Lines.{text_of}
use Rattle.loft_history.specs.Report.{head_lines, block_lines, scheduler_lines, left_line, schedulers_from, left_part, report_lines, report}
use Rattle.loft_history.proofs.HistoryLemmas.{choice_kept}
use Rattle.loft_history.proofs.AtEachLemmas.{at_each_before}
use Rattle.loft_history.proofs.LegalEntries.{split_on, legal_exactly}
use Rattle.loft_soundness.specs.WellFormed.{IsWellFormed}
use Rattle.loft_soundness.specs.Alike.{RunsAlike}
use Rattle.loft_soundness.proofs.AlikeLemmas.{instant_same, blocks_same}
use Rattle.loft_soundness.proofs.HistoryFits.{BatchFits, ReplayedFits, begun_fits, one_more_fits, HistoryFits, entry_fits, picked_fits, starts_wait}

-- ---- choices

-- a Take of a scheduler that is declared, and a Give
take_same : (declared open_now turn other : Bool) (e : Entry) → (declared ≡ true → turn ≡ other)
    → (if declared && not open_now && turn then Some e else None) ≡ (if declared && not open_now && other then Some e else None)
take_same true open_now turn other e same = ap (λ (b : Bool). if true && not open_now && b then Some e else None) (same refl)
take_same false open_now turn other e same = refl

give_same : (declared open_now : Bool) (d e : Entry) → (declared ≡ true → d ≡ e) → (if declared && open_now then Some d else None) ≡ (if declared && open_now then Some e else None)
give_same true open_now d e same = ap (λ (c : Entry). if true && open_now then Some c else None) (same refl)
give_same false open_now d e same = refl

-- a history goes on alike after its entry
goes_same : (h : List Entry) (entry : Option Entry) (on other : List Entry → Result (List Entry) ℕ)
    → ((e : Entry) → entry ≡ Some e → on (h ++ e ∷ []) ≡ other (h ++ e ∷ [])) → with_entry h entry on ≡ with_entry h entry other
goes_same h None on other same = refl
goes_same h (Some e) on other same = same e refl

if_same : {A : Type 0} {a b c d : A} (own : Bool) → a ≡ b → c ≡ d → (if own then a else c) ≡ (if own then b else d)
if_same true e f = e
if_same false e f = f

-- ---- callers

-- whether a caller's order fits is asked of the declarations alone
fits_same : (x y : Prog) → heads x ≡ heads y → (s : SchedId) (next : ThreadId) (order : Order) → IsCallersOrder next order → Fits x s order → Fits y s order
fits_same x y same s next (order.Create t m arguments) call f = subst (λ (d : Heads). IsThread d t × HeadsFit d s m arguments × Each (IsValue d) arguments) same f
fits_same x y same s next (order.Arrive t) call f = absurd call
fits_same x y same s next (order.Stop t) call f = subst (λ (d : Heads). IsThread d t) same f
fits_same x y same s next (order.Suspend t) call f = subst (λ (d : Heads). IsThread d t) same f
fits_same x y same s next (order.Resume t) call f = subst (λ (d : Heads). IsThread d t) same f
fits_same x y same s next (order.Broadcast event value) call f = subst (λ (d : Heads). IsEventOf d s event) same f
fits_same x y same s next (order.Ended t end) call f = absurd call

one_same : (x y : Prog) → heads x ≡ heads y → (to : To) (next : ThreadId) (order : Order) → IsCallersOrder next order → FitsOne x to order → FitsOne y to order
one_same x y same (to.Sched s) next order call f = (subst (λ (d : Heads). s.0 < length d.schedulers) same f.0, fits_same x y same s next order call f.1)
one_same x y same (to.Others s) next order call f = absurd f
one_same x y same to.All next order call f = absurd f
one_same x y same to.Workers next order call f = absurd f

call_same : (x y : Prog) → heads x ≡ heads y → (h : List Entry) (e : Entry) → IsCallersEntry x h e → IsCallersEntry y h e
call_same x y same h (Take s batch) call = absurd call
call_same x y same h (Give s sent) call = absurd call
call_same x y same h (Pick w job) call = absurd call
call_same x y same h (Post w sent) call = absurd call
call_same x y same h (Client c sent) call =
    (subst (λ (d : Heads). length d.clients ≤ c) same call.0, (call.1.0, one_same x y same sent.to (made_by c (creates c h)) sent.order call.1.0 call.1.1))

module _ (x y : Prog) (well : IsWellFormed x) (alike : RunsAlike x y) (o : RunOptions) where
  -- ---- a scheduler's own instants

  replay_same : (s : SchedId) (r : Replayed) (batches : List (List Order)) → ReplayedFits x well o s r → Each (BatchFits x well o s) batches → replay_on x o.limits r batches ≡ replay_on y o.limits r batches
  replay_same s r [] f g = refl
  replay_same s r (batch ∷ batches) f g =
      let fits = subst (λ (q : SchedId). BatchFits x well o q batch) (sym f.own) g.0 in
      replay_same s (one_more x o.limits r batch) batches (one_more_fits x well o s r batch f g.0) g.1
      ∙ ap (λ (did : AfterInstant). replay_on y o.limits (record { machine = did.machine; notes = r.notes ++ did.note ∷ [] }) batches) (instant_same x y well alike o.limits r.machine batch f.machine fits)

  history_replayed : (h : List Entry) (s : SchedId) → HistoryFits x well o h → IsScheduler (heads x) s → replayed x o.limits s h ≡ replayed y o.limits s h
  history_replayed h s f declared =
      replay_same s (record { machine = empty x s; notes = [] }) (log s h) (begun_fits x well o s declared) (f.took s declared)
      ∙ ap (λ (d : Heads). replay_on y o.limits (record { machine = record (empty x s) { shared = shared_values d s; tally = first_tally d s }; notes = [] }) (log s h)) alike.heads

  -- ---- histories

  -- what has been made so far fits in x, and workers have the same left to post in both
  pub record AlikeSoFar (h : List Entry) : Type 0 where
    pub fits : HistoryFits x well o h
    pub left : (w : ℕ) → unposted x o w h ≡ unposted y o w h

  -- whether there is a turn to make is asked of the declarations and the machine alone
  turn_same : (m : Mach) (orders : List Order) → has_turn x o.limits m orders ≡ has_turn y o.limits m orders
  turn_same m orders = ap (λ (d : Heads). not (reaches_bound d o.limits m.tally) && not (is_resting m && is_empty orders)) alike.heads

  chosen_same : (h : List Entry) (c : Choice) → AlikeSoFar h → entry_of x o h c ≡ entry_of y o h c
  chosen_same h (TakeBy s) f =
      let orders = waiting (heads x) s h in
      let own = replayed y o.limits s h in
      take_same (nat_lt s.0 (length (heads x).schedulers)) (is_open s h) (has_turn x o.limits (replayed x o.limits s h).machine orders) (has_turn y o.limits own.machine orders) (Take s orders)
      (λ e. ap (λ (r : Replayed). has_turn x o.limits r.machine orders) (history_replayed h s f.fits (ltb-true s.0 _ e)) ∙ turn_same own.machine orders)
      ∙ ap (λ (d : Heads). if nat_lt s.0 (length d.schedulers) && not (is_open s h) && has_turn y o.limits own.machine (waiting d s h) then Some (Take s (waiting d s h)) else None) alike.heads
  chosen_same h (GiveBy s) f =
      let own = replayed y o.limits s h in
      give_same (nat_lt s.0 (length (heads x).schedulers)) (is_open s h) (Give s (sent_last (replayed x o.limits s h).notes)) (Give s (sent_last own.notes))
      (λ e. ap (λ (r : Replayed). Give s (sent_last r.notes)) (history_replayed h s f.fits (ltb-true s.0 _ e)))
      ∙ ap (λ (d : Heads). if nat_lt s.0 (length d.schedulers) && is_open s h then Some (Give s (sent_last own.notes)) else None) alike.heads
  chosen_same h (PickBy w) f = ap (λ (left : List Sent). if nat_lt w o.workers then pick_of w left (jobs h) else None) (f.left w)
  chosen_same h (PostBy w) f = ap (λ (left : List Sent). if nat_lt w o.workers then entry_of_first (Post w) left else None) (f.left w)
  chosen_same h (ClientBy c) f = ap (λ (d : Heads). entry_of_first (Client c) (unsent d c h)) alike.heads

  -- what a worker has left after one more entry
  one_left : (h : List Entry) (e : Entry) → AlikeSoFar h → ComesNext x o h e → (w : ℕ) → unposted_after x o w (unposted x o w h) (e ∷ []) ≡ unposted_after y o w (unposted y o w h) (e ∷ [])
  one_left h (Take s batch) f next w = f.left w
  one_left h (Give s sent) f next w = f.left w
  one_left h (Pick v job) f next w = if_same (w == v) (blocks_same x y alike job o.limits.block (picked_fits x well o h v job f.fits next)) (f.left w)
  one_left h (Post v sent) f next w = if_same (w == v) (ap (λ (l : List Sent). drop 1 l) (f.left w)) (f.left w)
  one_left h (Client c sent) f next w = f.left w

  next_alike : (h : List Entry) (e : Entry) → AlikeSoFar h → ComesNext x o h e → AlikeSoFar (h ++ e ∷ [])
  next_alike h e f next = record {
    fits = entry_fits x well o h e f.fits next;
    left = λ w. fold-append (unposted_step x o w) [] h (e ∷ []) ∙ (one_left h e f next w ∙ sym (fold-append (unposted_step y o w) [] h (e ∷ [])));
  }

  none_yet : AlikeSoFar []
  none_yet = record { fits = starts_wait x well o; left = λ w. refl }

  choices_same : (cs : List Choice) (h : List Entry) → AlikeSoFar h → hist_on x o cs h ≡ hist_on y o cs h
  choices_same [] h f = refl
  choices_same (c ∷ cs) h f =
      goes_same h (entry_of x o h c) (hist_on x o cs) (hist_on y o cs)
      (λ e is. choices_same cs (h ++ e ∷ []) (next_alike h e f (inl (subst (λ (d : Choice). entry_of x o h d ≡ Some e) (sym (choice_kept x o h c e is)) is))))
      ∙ ap (λ (entry : Option Entry). with_entry h entry (hist_on y o cs)) (chosen_same h c f)

  pub histories_same : (choices : List Choice) → hist x o choices ≡ hist y o choices
  histories_same choices = choices_same choices [] none_yet

  -- ---- legal histories

  next_there : (h : List Entry) (e : Entry) → AlikeSoFar h → ComesNext x o h e → ComesNext y o h e
  next_there h e f (inl is) = inl (sym (chosen_same h (choice_of e) f) ∙ is)
  next_there h e f (inr call) = inr (call_same x y alike.heads h e call)

  next_back : (h : List Entry) (e : Entry) → AlikeSoFar h → ComesNext y o h e → ComesNext x o h e
  next_back h e f (inl is) = inl (chosen_same h (choice_of e) f ∙ is)
  next_back h e f (inr call) = inr (call_same y x (sym alike.heads) h e call)

  -- each history whose entries come next, in x or in y, is alike in both
  alike_by : (Q : Prog) (before after : List Entry) → ((h : List Entry) (e : Entry) → AlikeSoFar h → ComesNext Q o h e → ComesNext x o h e) → AlikeSoFar before → AtEach (ComesNext Q o) (before ++ after)
      → AlikeSoFar (before ++ after)
  alike_by Q before [] turn f each = subst AlikeSoFar (sym (append-nil before)) f
  alike_by Q before (e ∷ after) turn f each =
      subst AlikeSoFar (append_assoc before (e ∷ []) after)
      (alike_by Q (before ++ e ∷ []) after turn (next_alike before e f (turn before e f (each before e after refl))) (split_on (ComesNext Q o) before e after each))

  there : (es : List Entry) → AtEach (ComesNext x o) es → AtEach (ComesNext y o) es
  there es each before e after same =
      next_there before e (alike_by x [] before (λ h d f next. next) none_yet (at_each_before (ComesNext x o) before (e ∷ after) (subst (AtEach (ComesNext x o)) same each))) (each before e after same)

  back : (es : List Entry) → AtEach (ComesNext y o) es → AtEach (ComesNext x o) es
  back es each before e after same =
      next_back before e (alike_by y [] before next_back none_yet (at_each_before (ComesNext y o) before (e ∷ after) (subst (AtEach (ComesNext y o)) same each))) (each before e after same)

  pub legal_same : (es : List Entry) → IsLegal x o es ↔ IsLegal y o es
  legal_same es = (
    λ legal. (legal_exactly y o es).1 (there es ((legal_exactly x o es).0 legal)),
    λ legal. (legal_exactly x o es).1 (back es ((legal_exactly y o es).0 legal)),
  )

  -- ---- the end of a history, and its report

  module _ (es : List Entry) (legal : IsLegal x o es) where
    abbrev so_far : AlikeSoFar es
    so_far = alike_by x [] es (λ h d f next. next) none_yet ((legal_exactly x o es).0 legal)

    pub replays_same : (s : SchedId) → IsScheduler (heads x) s → replayed x o.limits s es ≡ replayed y o.limits s es
    replays_same s declared = history_replayed es s so_far.fits declared

    finished_same : (s : SchedId) → IsScheduler (heads x) s → has_finished x o es s ≡ has_finished y o es s
    finished_same s declared =
        ap (λ (r : Replayed). not (is_open s es) && not (has_turn x o.limits r.machine (waiting (heads x) s es))) (replays_same s declared)
        ∙ ap (λ (b : Bool). not (is_open s es) && not b) (turn_same (replayed y o.limits s es).machine (waiting (heads x) s es))
        ∙ ap (λ (d : Heads). not (is_open s es) && not (has_turn y o.limits (replayed y o.limits s es).machine (waiting d s es))) alike.heads

    -- a client's orders, by the declarations of one of the two
    abbrev AllGiven : Heads → Type 0
    AllGiven d = (c : ℕ) → c < length d.clients → unsent d c es ≡ []

    pub ended_same : HasEnded x o es ↔ HasEnded y o es
    ended_same = (
      λ ended. record {
        clients = subst AllGiven alike.heads ended.clients;
        no_jobs = ended.no_jobs;
        workers = λ w declared. sym (so_far.left w) ∙ ended.workers w declared;
        schedulers = λ s declared. let is = subst (λ (d : Heads). IsScheduler d s) (sym alike.heads) declared in subst IsTrue (finished_same s is) (ended.schedulers s is);
      },
      λ ended. record {
        clients = subst AllGiven (sym alike.heads) ended.clients;
        no_jobs = ended.no_jobs;
        workers = λ w declared. so_far.left w ∙ ended.workers w declared;
        schedulers = λ s declared. subst IsTrue (sym (finished_same s declared)) (ended.schedulers s (subst (λ (d : Heads). IsScheduler d s) alike.heads declared));
      },
    )

    -- the block of a scheduler by the instants of y
    abbrev block_by : Heads → SchedId → List (List ℕ)
    block_by d s = block_lines d s (log s es) (replayed y o.limits s es)

    scheduler_blocks_same : {A : Type 0} (k : ℕ) (names : List A) → k + length names ≤ length (heads x).schedulers
        → flat_map (scheduler_lines x o.limits es) (schedulers_from k names) ≡ flat_map (block_by (heads x)) (schedulers_from k names)
    scheduler_blocks_same k [] few = refl
    scheduler_blocks_same k (name ∷ names) few =
        let s : SchedId = record { 0 = k } in
        let others = schedulers_from (k + 1) names in
        ap (λ (r : Replayed). block_lines (heads x) s (log s es) r ++ flat_map (scheduler_lines x o.limits es) others) (replays_same s (omega (arith, few)))
        ∙ ap (λ (lines : List (List ℕ)). block_by (heads x) s ++ lines) (scheduler_blocks_same (k + 1) names (omega (arith, few)))

    -- the lines of a report with these blocks
    abbrev lines_by : List (List ℕ) → Heads → List (List ℕ)
    lines_by blocks d =
        head_lines d o (map choice_of es)
        ++ (blocks
        ++ (left_part (flat_map (λ s. map (left_line d s) (waiting d s es)) (schedulers_from 0 d.schedulers))
        ++ codes "end" ∷ []))

    lines_same : report_lines x o es ≡ report_lines y o es
    unfolding report_lines
    lines_same =
        ap (λ (blocks : List (List ℕ)). lines_by blocks (heads x)) (scheduler_blocks_same 0 (heads x).schedulers (omega arith))
        ∙ ap (λ (d : Heads). lines_by (flat_map (block_by d) (schedulers_from 0 d.schedulers)) d) alike.heads

    pub reports_same : report x o es ≡ report y o es
    reports_same = ap text_of lines_same
