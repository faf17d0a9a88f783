-- Threads are kept: over all places a thread is as often somewhere as it was made.
use Rattle.std.proofs.Common.{◌≡◌, ℕ, ◌+◌, Bool, true, false, List, [], ◌∷◌, ◌++◌, length, refl, sym, ap, ◌∙◌, subst, arith, eq-eqb, ne_eqb}
use Rattle.std.specs.Prelude.{if◌then◌else◌, drop}
use Rattle.loft_base.specs.declared.ids.SchedId.{SchedId}
use Rattle.loft_base.specs.declared.ids.ThreadId.{ThreadId}
use Rattle.loft_tree.specs.declared.heads.Heads.{Heads}
use Rattle.loft_tree.specs.declared.heads.Start.{Start}
use Rattle.loft_tree.specs.Fits.{Each}
use Rattle.loft_tree.specs.NamedFits.{IsScheduler}
use Rattle.loft_orders.specs.declared.entry.Entry.{Entry}
use Rattle.loft_orders.specs.declared.entry.Entry.TheVariants.{Take, Give, Pick, Post, Client}
use Rattle.loft_base.specs.declared.options.RunOptions.{RunOptions}
use Rattle.loft_orders.specs.declared.order.Order.{Order}
use Rattle.loft_orders.specs.declared.order.Order.TheVariants as order
use Rattle.loft_orders.specs.declared.order.Sent.{Sent}
use Rattle.loft_orders.specs.declared.order.To.{To}
use Rattle.loft_orders.specs.declared.order.To.TheVariants as to
use Rattle.loft_orders.specs.declared.thread.Thread.{Thread}
use Rattle.loft_sense.specs.Heads.{scheduler, same_scheduler}
use Rattle.loft_sense.specs.Machine.{Prog, heads, Mach, empty}
use Rattle.loft_sense.specs.CanGo.{same_thread}
use Rattle.loft_sense.specs.Instant.{instant, Replayed, replay}
use Rattle.loft_history.specs.History.{sends, sent_in, orders_to, starts_from, waiting_after, waiting, jobs_sent, jobs_after, jobs, ends_block, unposted}
use Rattle.loft_history.specs.Legal.{IsCallersOrder, FitsOne, IsLegal}
use Rattle.loft_sense.proofs.ReplayLemmas.{replay_on-append}
use Rattle.loft_history.proofs.HistoryLemmas.{same_self, is_same}
use Rattle.loft_soundness.specs.WellFormed.{IsWellFormed}
use Rattle.loft_soundness.proofs.ListLemmas.{each_map}
use Rattle.loft_soundness.proofs.ProgramLemmas.{Begins, starts_begin}
use Rattle.loft_conservation.specs.Counts.{one, makes, carries, tells_end_of, brought_in, threads_in, linked_in, made_in, carried_in, ended_in}
use Rattle.loft_conservation.specs.Instants.{IsSentWell, SentWell}
use Rattle.loft_conservation.specs.Blocks.{IsExit, IsQuiet, IsBlock}
use Rattle.loft_conservation.proofs.CountLemmas.{made_in-append, ended_in-append}
use Rattle.loft_conservation.proofs.ThreadLemmas.{brought_in-append, threads_in-append}
use Rattle.loft_history_laws.specs.Batches.{joined}
use Rattle.loft_history_laws.specs.Places.{Desk, desk_after, desk, settled, hand_after, hand_of, linked_at, arriving_at, in_hand_of, total, everywhere, started_from, made_by_all}
use Rattle.loft_history_laws.proofs.WalkLemmas.{sent_more, waiting_more}
use Rattle.loft_history_laws.proofs.DeskLemmas.{desk_more, hand_more, jobs_more}
use Rattle.loft_history_laws.proofs.SumLemmas.{total_same, total_add, total_none, total_at}
use Rattle.loft_history_laws.proofs.ScatterLemmas.{scatter, starts_sum}
use Rattle.loft_history_laws.proofs.AllowedLemmas.{Known, Taken, Given, Picked, Posted, Told, Allowed, busy, idle, legal_walk}

-- ---- desks

joined_one : (t : ThreadId) (batch : List Order) → brought_in t (joined (batch ∷ [])) ≡ brought_in t batch
joined_one t batch = let e = brought_in-append t batch [] in omega (arith, e)

abbrev taken_desk : Bool → List Order → Desk → Desk
taken_desk b batch d = if b then record { given = d.given; hand = batch ∷ [] } else d

abbrev given_desk : Bool → Desk → Desk
given_desk b d = if b then record { given = d.given ++ d.hand; hand = [] } else d

take_given : (b : Bool) (batch : List Order) (d : Desk) → (taken_desk b batch d).given ≡ d.given
take_given true batch d = refl
take_given false batch d = refl

pub give_off : (q s : SchedId) (sent : List Sent) (d : Desk) → (q.0 ≡ s.0 → ⊥) → desk_after q d (Give s sent ∷ []) ≡ d
give_off q s sent d off = ap (λ (b : Bool). given_desk b d) (ne_eqb q.0 s.0 off)

pub give_on : (s : SchedId) (sent : List Sent) (d : Desk) → desk_after s d (Give s sent ∷ []) ≡ record { given = d.given ++ d.hand; hand = [] }
give_on s sent d = ap (λ (b : Bool). given_desk b d) (same_self s)

-- ---- a worker's orders

exit_kept : (h : Heads) (t : ThreadId) (id : ThreadId) (q : Order) (there : To) → IsExit h id q there
    → (IsSentWell h q there) × (makes t q ≡ 0) × (carries t q + tells_end_of t q ≡ one (same_thread t id)) × (ends_block q ≡ true)
exit_kept h t id (order.Create u m args) there e = absurd e
exit_kept h t id (order.Arrive u) (to.Sched s) e = let p = ap (λ (v : ThreadId). one (same_thread t v)) e.1 in (e.0, refl, omega (arith, p), refl)
exit_kept h t id (order.Arrive u) (to.Others s) e = absurd e
exit_kept h t id (order.Arrive u) to.All e = absurd e
exit_kept h t id (order.Arrive u) to.Workers e = absurd e
exit_kept h t id (order.Stop u) there e = absurd e
exit_kept h t id (order.Suspend u) there e = absurd e
exit_kept h t id (order.Resume u) there e = absurd e
exit_kept h t id (order.Broadcast event value) there e = absurd e
exit_kept h t id (order.Ended u end) (to.Sched s) e = absurd e
exit_kept h t id (order.Ended u end) (to.Others s) e = absurd e
exit_kept h t id (order.Ended u end) to.All e = let p = ap (λ (v : ThreadId). one (same_thread t v)) e in (tt, refl, omega (arith, p), refl)
exit_kept h t id (order.Ended u end) to.Workers e = absurd e

quiet_kept : (h : Heads) (t : ThreadId) (q : Order) (there : To) → IsQuiet q → (IsSentWell h q there) × (makes t q ≡ 0) × (carries t q + tells_end_of t q ≡ 0) × (ends_block q ≡ false)
quiet_kept h t (order.Create u m args) there e = absurd e
quiet_kept h t (order.Arrive u) there e = absurd e
quiet_kept h t (order.Stop u) there e = (tt, refl, refl, refl)
quiet_kept h t (order.Suspend u) there e = (tt, refl, refl, refl)
quiet_kept h t (order.Resume u) there e = (tt, refl, refl, refl)
quiet_kept h t (order.Broadcast event value) there e = (tt, refl, refl, refl)
quiet_kept h t (order.Ended u end) there e = absurd e

-- a worker's order makes nobody, and takes its thread out of hand where it is the last
pub post_kept : (h : Heads) (t : ThreadId) (job : Thread) (m : Sent) (rest : List Sent) → IsBlock h job.id (m ∷ rest)
    → (SentWell h m) × (makes t m.order ≡ 0) × (threads_in t (if ends_block m.order then [] else job ∷ []) + (carries t m.order + tells_end_of t m.order) ≡ one (same_thread t job.id))
post_kept h t job m [] block =
    let p = exit_kept h t job.id m.order m.to block in
    (p.0, p.1, ap (λ (b : Bool). threads_in t (if b then [] else job ∷ []) + (carries t m.order + tells_end_of t m.order)) p.3 ∙ (let q = p.2 in omega (arith, q)))
post_kept h t job m (n ∷ rest) block =
    let p = quiet_kept h t m.order m.to block.0 in
    (p.0, p.1, ap (λ (b : Bool). threads_in t (if b then [] else job ∷ []) + (carries t m.order + tells_end_of t m.order)) p.3 ∙ (let q = p.2 in omega (arith, q)))

-- ---- a client's orders

call_kept : (x : Prog) (t next : ThreadId) (q : Order) (there : To) → IsCallersOrder next q → FitsOne x there q → (IsSentWell (heads x) q there) × (carries t q ≡ 0) × (tells_end_of t q ≡ 0)
call_kept x t next (order.Create u m args) (to.Sched s) c f = (f.0, refl, refl)
call_kept x t next (order.Create u m args) (to.Others s) c f = absurd f
call_kept x t next (order.Create u m args) to.All c f = absurd f
call_kept x t next (order.Create u m args) to.Workers c f = absurd f
call_kept x t next (order.Arrive u) there c f = absurd c
call_kept x t next (order.Stop u) there c f = (tt, refl, refl)
call_kept x t next (order.Suspend u) there c f = (tt, refl, refl)
call_kept x t next (order.Resume u) there c f = (tt, refl, refl)
call_kept x t next (order.Broadcast event value) there c f = (tt, refl, refl)
call_kept x t next (order.Ended u end) there c f = absurd c

-- ---- sums

give_sum : (l l' a a0 a' j j' h h' e e' ls ls' b w c v en B J : ℕ) → l' + ls ≡ l + ls' → a' ≡ a0 + B → a0 + (w + b) ≡ a + w → j' ≡ j + J → h' ≡ h → e' ≡ e + en → B + J ≡ c + v → ls + b ≡ ls' + v + en
    → l' + a' + j' + h' + e' ≡ l + a + j + h + e + c
give_sum l l' a a0 a' j j' h h' e e' ls ls' b w c v en B J p1 p2 p3 p4 p5 p6 p7 p8 = omega (arith, p1, p2, p3, p4, p5, p6, p7, p8)

one_sum : (l l' a a' j j' h h' e e' hw hw' c v en B J : ℕ) → l' ≡ l → a' ≡ a + B → j' ≡ j + J → h' + hw ≡ h + hw' → e' ≡ e + (en + 0) → B + J ≡ (c + 0) + (v + 0) → hw' + (v + en) ≡ hw
    → l' + a' + j' + h' + e' ≡ l + a + j + h + e + (c + 0)
one_sum l l' a a' j j' h h' e e' hw hw' c v en B J p1 p2 p3 p4 p5 p6 p7 = omega (arith, p1, p2, p3, p4, p5, p6, p7)

four_sum : (l l' a a' j j' h h' e e' : ℕ) → l' ≡ l → a' ≡ a → j' + h' ≡ j + h → e' ≡ e + 0 → l' + a' + j' + h' + e' ≡ l + a + j + h + e + 0
four_sum l l' a a' j j' h h' e e' p1 p2 p3 p4 = omega (arith, p1, p2, p3, p4)

module _ (x : Prog) (well : IsWellFormed x) (o : RunOptions) where
  abbrev schedulers : ℕ
  schedulers = length (heads x).schedulers

  -- ---- machines

  pub settled_given : (es : List Entry) (s : SchedId) (sent : List Sent) (a : Given x well o es s sent) → settled x o s (es ++ Give s sent ∷ []) ≡ (instant x o.limits (settled x o s es) a.batch).machine
  settled_given es s sent a =
      ap (λ (d : Desk). (replay x o.limits s d.given).machine) (desk_more s es (Give s sent) ∙ give_on s sent (desk s es))
      ∙ ap (λ (l : List (List Order)). (replay x o.limits s ((desk s es).given ++ l)).machine) a.hand
      ∙ ap (λ (r : Replayed). r.machine) (replay_on-append x o.limits (record { machine = empty x s; notes = [] }) (desk s es).given a.batch)

  pub settled_off : (es : List Entry) (q s : SchedId) (sent : List Sent) → (q.0 ≡ s.0 → ⊥) → settled x o q (es ++ Give s sent ∷ []) ≡ settled x o q es
  settled_off es q s sent off = ap (λ (d : Desk). (replay x o.limits q d.given).machine) (desk_more q es (Give s sent) ∙ give_off q s sent (desk q es) off)

  pub settled_same : (es : List Entry) (e : Entry) (q : SchedId) → (desk_after q (desk q es) (e ∷ [])).given ≡ (desk q es).given → settled x o q (es ++ e ∷ []) ≡ settled x o q es
  settled_same es e q same = ap (λ (d : Desk). (replay x o.limits q d.given).machine) (desk_more q es e) ∙ ap (λ (l : List (List Order)). (replay x o.limits q l).machine) same

  pub settled_taken : (es : List Entry) (s q : SchedId) (batch : List Order) → settled x o q (es ++ Take s batch ∷ []) ≡ settled x o q es
  settled_taken es s q batch = settled_same es (Take s batch) q (take_given (same_scheduler q s) batch (desk q es))

  module _ (t : ThreadId) where
    -- ---- one entry more

    arriving_more : (q : ℕ) (es : List Entry) (e : Entry)
        → arriving_at x (es ++ e ∷ []) t q ≡ brought_in t (waiting_after (scheduler q) (waiting (heads x) (scheduler q) es) (e ∷ [])) + brought_in t (joined (desk_after (scheduler q) (desk (scheduler q) es) (e ∷ [])).hand)
    arriving_more q es e =
        ap (λ (w : List Order). brought_in t w + brought_in t (joined (desk (scheduler q) (es ++ e ∷ [])).hand)) (waiting_more (heads x) (scheduler q) es e)
        ∙ ap (λ (d : Desk). brought_in t (waiting_after (scheduler q) (waiting (heads x) (scheduler q) es) (e ∷ [])) + brought_in t (joined d.hand)) (desk_more (scheduler q) es e)

    in_hand_more : (w : ℕ) (es : List Entry) (e : Entry) → in_hand_of (es ++ e ∷ []) t w ≡ threads_in t (hand_after w (hand_of w es) (e ∷ []))
    in_hand_more w es e = ap (threads_in t) (hand_more w es e)

    jobs_of_more : (es : List Entry) (e : Entry) → threads_in t (jobs (es ++ e ∷ [])) ≡ threads_in t (jobs_after (jobs es) (e ∷ []))
    jobs_of_more es e = ap (threads_in t) (jobs_more es e)

    ended_more : (es : List Entry) (e : Entry) → ended_in t (sent_in (es ++ e ∷ [])) ≡ ended_in t (sent_in es) + ended_in t (sends e)
    ended_more es e = ap (ended_in t) (sent_more es e) ∙ ended_in-append t (sent_in es) (sends e)

    pub made_more : (es : List Entry) (e : Entry) → made_in t (sent_in (es ++ e ∷ [])) ≡ made_in t (sent_in es) + made_in t (sends e)
    made_more es e = ap (made_in t) (sent_more es e) ∙ made_in-append t (sent_in es) (sends e)

    -- the entry adds to the places just what it makes
    abbrev Adds : List Entry → Entry → Type 0
    Adds es e = everywhere x o (es ++ e ∷ []) t ≡ everywhere x o es t + made_in t (sends e)

    -- ---- a take

    take_moves : (b : Bool) (batch w : List Order) (d : Desk) → (b ≡ true → batch ≡ w) → (b ≡ true → d.hand ≡ [])
        → brought_in t (if b then [] else w) + brought_in t (joined (taken_desk b batch d).hand) ≡ brought_in t w + brought_in t (joined d.hand)
    take_moves true batch w d is none =
        let p = ap (brought_in t) (is refl) in let q = ap (λ (l : List (List Order)). brought_in t (joined l)) (none refl) in let r = joined_one t batch in
        omega (arith, p, q, r)
    take_moves false batch w d is none = refl

    take_adds : (es : List Entry) (s : SchedId) (batch : List Order) → Taken x well o es s batch → Adds es (Take s batch)
    take_adds es s batch a =
        let e = Take s batch in
        four_sum (total schedulers (linked_at x o es t)) (total schedulers (linked_at x o (es ++ e ∷ []) t)) (total schedulers (arriving_at x es t)) (total schedulers (arriving_at x (es ++ e ∷ []) t))
        (threads_in t (jobs es)) (threads_in t (jobs (es ++ e ∷ []))) (total o.workers (in_hand_of es t)) (total o.workers (in_hand_of (es ++ e ∷ []) t)) (ended_in t (sent_in es)) (ended_in t (sent_in (es ++ e ∷ [])))
        (total_same schedulers (linked_at x o (es ++ e ∷ []) t) (linked_at x o es t) (λ q _. ap (λ (m : Mach). linked_in t m.linked) (settled_taken es s (scheduler q) batch)))
        (total_same schedulers (arriving_at x (es ++ e ∷ []) t) (arriving_at x es t) (λ q _. arriving_more q es e
        ∙ take_moves (same_scheduler (scheduler q) s) batch (waiting (heads x) (scheduler q) es) (desk (scheduler q) es)
        (λ same. a.all ∙ ap (λ (r : SchedId). waiting (heads x) r es) (sym (is_same (scheduler q) s same))) (λ same. ap (λ (r : SchedId). (desk r es).hand) (is_same (scheduler q) s same) ∙ a.shut)))
        (let j = jobs_of_more es e in let h = total_same o.workers (in_hand_of (es ++ e ∷ []) t) (in_hand_of es t) (λ w _. in_hand_more w es e) in omega (arith, j, h))
        (ended_more es e)

    -- ---- a give

    give_adds : (es : List Entry) (s : SchedId) (sent : List Sent) → Given x well o es s sent → Adds es (Give s sent)
    give_adds es s sent a =
        let e = Give s sent in
        let m = settled x o s es in
        let did = instant x o.limits m a.batch in
        let now : ℕ → ℕ = λ q. brought_in t (waiting (heads x) (scheduler q) es) + brought_in t (joined (desk_after (scheduler q) (desk (scheduler q) es) (e ∷ [])).hand) in
        let sent_to : ℕ → ℕ = λ q. brought_in t (orders_to (scheduler q) sent) in
        give_sum (total schedulers (linked_at x o es t)) (total schedulers (linked_at x o (es ++ e ∷ []) t)) (total schedulers (arriving_at x es t)) (total schedulers now) (total schedulers (arriving_at x (es ++ e ∷ []) t))
        (threads_in t (jobs es)) (threads_in t (jobs (es ++ e ∷ []))) (total o.workers (in_hand_of es t)) (total o.workers (in_hand_of (es ++ e ∷ []) t)) (ended_in t (sent_in es)) (ended_in t (sent_in (es ++ e ∷ [])))
        (linked_in t m.linked) (linked_in t did.machine.linked) (brought_in t a.batch) (brought_in t (waiting (heads x) s es))
        (made_in t sent) (carried_in t sent) (ended_in t sent) (total schedulers sent_to) (threads_in t (jobs_sent sent))
        (total_at schedulers s.0 (linked_at x o (es ++ e ∷ []) t) (linked_at x o es t) a.declared (λ q _ off. ap (λ (y : Mach). linked_in t y.linked) (settled_off es (scheduler q) s sent off))
        ∙ ap (λ (y : Mach). total schedulers (linked_at x o es t) + linked_in t y.linked) (settled_given es s sent a))
        (total_same schedulers (arriving_at x (es ++ e ∷ []) t) (λ q. now q + sent_to q) (λ q _. arriving_more q es e ∙ (let p = brought_in-append t (waiting (heads x) (scheduler q) es) (orders_to (scheduler q) sent) in omega (arith, p)))
        ∙ total_add schedulers now sent_to)
        (let p = total_at schedulers s.0 now (arriving_at x es t) a.declared (λ q _ off. ap (λ (d : Desk). brought_in t (waiting (heads x) (scheduler q) es) + brought_in t (joined d.hand)) (give_off (scheduler q) s sent (desk (scheduler q) es) off)) in
        let here : arriving_at x es t s.0 ≡ brought_in t (waiting (heads x) s es) + brought_in t a.batch = ap (λ (l : List (List Order)). brought_in t (waiting (heads x) s es) + brought_in t (joined l)) a.hand ∙ ap (λ (n : ℕ). brought_in t (waiting (heads x) s es) + n) (joined_one t a.batch) in
        let there : now s.0 ≡ brought_in t (waiting (heads x) s es) + 0 = ap (λ (d : Desk). brought_in t (waiting (heads x) s es) + brought_in t (joined d.hand)) (give_on s sent (desk s es)) in
        give_arrives (total schedulers now) (total schedulers (arriving_at x es t)) (arriving_at x es t s.0) (now s.0) (brought_in t (waiting (heads x) s es)) (brought_in t a.batch) p here there)
        (jobs_of_more es e ∙ threads_in-append t (jobs es) (jobs_sent sent))
        (total_same o.workers (in_hand_of (es ++ e ∷ []) t) (in_hand_of es t) (λ w _. in_hand_more w es e))
        (ended_more es e)
        (scatter (heads x) t sent (subst (Each (SentWell (heads x))) (sym a.is) a.law.well))
        (a.law.kept t ∙ ap (λ (l : List Sent). linked_in t did.machine.linked + carried_in t l + ended_in t l) (sym a.is))
      where
        give_arrives : (a0 a was now w b : ℕ) → a0 + was ≡ a + now → was ≡ w + b → now ≡ w + 0 → a0 + (w + b) ≡ a + w
        give_arrives a0 a was now w b p here there = omega (arith, p, here, there)

    -- ---- a pick

    pick_on : (w v : ℕ) (job : Thread) (had : List Thread) → (v ≡ w → ⊥) → hand_after v had (Pick w job ∷ []) ≡ had
    pick_on w v job had off = ap (λ (b : Bool). if b then job ∷ [] else had) (ne_eqb v w off)

    pick_sum : (j h h' hw hw' r i : ℕ) → h' + hw ≡ h + hw' → hw ≡ 0 → hw' ≡ i + 0 → j ≡ i + r → r + h' ≡ j + h
    pick_sum j h h' hw hw' r i p q u v = omega (arith, p, q, u, v)

    pick_adds : (es : List Entry) (w : ℕ) (job : Thread) → Picked x well o es w job → Known x well o es → Adds es (Pick w job)
    pick_adds es w job a k =
        let e = Pick w job in
        let hands = total_at o.workers w (in_hand_of (es ++ e ∷ []) t) (in_hand_of es t) a.declared (λ v _ off. in_hand_more v es e ∙ ap (threads_in t) (pick_on w v job (hand_of v es) off)) in
        let was : in_hand_of es t w ≡ 0 = ap (threads_in t) (idle x well o (unposted x o w es) (hand_of w es) (k.benches w) a.free) in
        let now : in_hand_of (es ++ e ∷ []) t w ≡ one (same_thread t job.id) + 0 = in_hand_more w es e ∙ ap (λ (b : Bool). threads_in t (if b then job ∷ [] else hand_of w es)) (eq-eqb w w refl) in
        let first : threads_in t (jobs es) ≡ one (same_thread t job.id) + threads_in t a.rest = ap (threads_in t) a.first in
        let rest : threads_in t (jobs (es ++ e ∷ [])) ≡ threads_in t a.rest = jobs_of_more es e ∙ ap (λ (l : List Thread). threads_in t (drop 1 l)) a.first in
        four_sum (total schedulers (linked_at x o es t)) (total schedulers (linked_at x o (es ++ e ∷ []) t)) (total schedulers (arriving_at x es t)) (total schedulers (arriving_at x (es ++ e ∷ []) t))
        (threads_in t (jobs es)) (threads_in t (jobs (es ++ e ∷ []))) (total o.workers (in_hand_of es t)) (total o.workers (in_hand_of (es ++ e ∷ []) t)) (ended_in t (sent_in es)) (ended_in t (sent_in (es ++ e ∷ [])))
        (total_same schedulers (linked_at x o (es ++ e ∷ []) t) (linked_at x o es t) (λ q _. ap (λ (m : Mach). linked_in t m.linked) (settled_same es e (scheduler q) refl)))
        (total_same schedulers (arriving_at x (es ++ e ∷ []) t) (arriving_at x es t) (λ q _. arriving_more q es e))
        (ap (λ (n : ℕ). n + total o.workers (in_hand_of (es ++ e ∷ []) t)) rest
        ∙ pick_sum (threads_in t (jobs es)) (total o.workers (in_hand_of es t)) (total o.workers (in_hand_of (es ++ e ∷ []) t)) (in_hand_of es t w) (in_hand_of (es ++ e ∷ []) t w) (threads_in t a.rest) (one (same_thread t job.id)) hands was now first)
        (ended_more es e)

    -- ---- one order more

    more_waits : (es : List Entry) (e : Entry) (m : Sent) → ((q : SchedId) (w : List Order) → waiting_after q w (e ∷ []) ≡ w ++ orders_to q (m ∷ [])) → ((q : SchedId) (d : Desk) → desk_after q d (e ∷ []) ≡ d)
        → total schedulers (arriving_at x (es ++ e ∷ []) t) ≡ total schedulers (arriving_at x es t) + total schedulers (λ q. brought_in t (orders_to (scheduler q) (m ∷ [])))
    more_waits es e m waits desks =
        total_same schedulers (arriving_at x (es ++ e ∷ []) t) (λ q. arriving_at x es t q + brought_in t (orders_to (scheduler q) (m ∷ []))) (λ q _. arriving_more q es e
        ∙ ap (λ (w : List Order). brought_in t w + brought_in t (joined (desk_after (scheduler q) (desk (scheduler q) es) (e ∷ [])).hand)) (waits (scheduler q) (waiting (heads x) (scheduler q) es))
        ∙ ap (λ (d : Desk). brought_in t (waiting (heads x) (scheduler q) es ++ orders_to (scheduler q) (m ∷ [])) + brought_in t (joined d.hand)) (desks (scheduler q) (desk (scheduler q) es))
        ∙ (let p = brought_in-append t (waiting (heads x) (scheduler q) es) (orders_to (scheduler q) (m ∷ [])) in omega (arith, p)))
        ∙ total_add schedulers (arriving_at x es t) (λ q. brought_in t (orders_to (scheduler q) (m ∷ [])))

    post_off : (v w : ℕ) (had : List Thread) (m : Sent) → (v ≡ w → ⊥) → hand_after v had (Post w m ∷ []) ≡ had
    post_off v w had m off = ap (λ (b : Bool). if b then (if ends_block m.order then [] else had) else had) (ne_eqb v w off)

    post_adds : (es : List Entry) (w : ℕ) (m : Sent) → Posted x well o es w m → Known x well o es → Adds es (Post w m)
    post_adds es w m a k =
        let e = Post w m in
        let b = busy x well o (unposted x o w es) (hand_of w es) m a.rest (k.benches w) a.left in
        let p = post_kept (heads x) t b.job m a.rest b.block in
        one_sum (total schedulers (linked_at x o es t)) (total schedulers (linked_at x o (es ++ e ∷ []) t)) (total schedulers (arriving_at x es t)) (total schedulers (arriving_at x (es ++ e ∷ []) t))
        (threads_in t (jobs es)) (threads_in t (jobs (es ++ e ∷ []))) (total o.workers (in_hand_of es t)) (total o.workers (in_hand_of (es ++ e ∷ []) t)) (ended_in t (sent_in es)) (ended_in t (sent_in (es ++ e ∷ [])))
        (in_hand_of es t w) (in_hand_of (es ++ e ∷ []) t w) (makes t m.order) (carries t m.order) (tells_end_of t m.order) (total schedulers (λ q. brought_in t (orders_to (scheduler q) (m ∷ [])))) (threads_in t (jobs_sent (m ∷ [])))
        (total_same schedulers (linked_at x o (es ++ e ∷ []) t) (linked_at x o es t) (λ q _. ap (λ (y : Mach). linked_in t y.linked) (settled_same es e (scheduler q) refl)))
        (more_waits es e m (λ q v. refl) (λ q d. refl))
        (jobs_of_more es e ∙ threads_in-append t (jobs es) (jobs_sent (m ∷ [])))
        (total_at o.workers w (in_hand_of (es ++ e ∷ []) t) (in_hand_of es t) a.declared (λ v _ off. in_hand_more v es e ∙ ap (threads_in t) (post_off v w (hand_of v es) m off)))
        (ended_more es e)
        (scatter (heads x) t (m ∷ []) (p.0, tt))
        (ap (λ (i : ℕ). i + (carries t m.order + tells_end_of t m.order)) (in_hand_more w es e
        ∙ ap (λ (c : Bool). threads_in t (if c then (if ends_block m.order then [] else hand_of w es) else hand_of w es)) (eq-eqb w w refl)
        ∙ ap (λ (l : List Thread). threads_in t (if ends_block m.order then [] else l)) b.in_hand)
        ∙ p.2 ∙ sym (ap (threads_in t) b.in_hand ∙ omega arith))

    client_adds : (es : List Entry) (c : ℕ) (m : Sent) → Told x well o es c m → Adds es (Client c m)
    client_adds es c m a =
        let e = Client c m in
        let call = call_kept x t _ m.order m.to a.call a.for_one in
        one_sum (total schedulers (linked_at x o es t)) (total schedulers (linked_at x o (es ++ e ∷ []) t)) (total schedulers (arriving_at x es t)) (total schedulers (arriving_at x (es ++ e ∷ []) t))
        (threads_in t (jobs es)) (threads_in t (jobs (es ++ e ∷ []))) (total o.workers (in_hand_of es t)) (total o.workers (in_hand_of (es ++ e ∷ []) t)) (ended_in t (sent_in es)) (ended_in t (sent_in (es ++ e ∷ [])))
        0 0 (makes t m.order) (carries t m.order) (tells_end_of t m.order) (total schedulers (λ q. brought_in t (orders_to (scheduler q) (m ∷ [])))) (threads_in t (jobs_sent (m ∷ [])))
        (total_same schedulers (linked_at x o (es ++ e ∷ []) t) (linked_at x o es t) (λ q _. ap (λ (y : Mach). linked_in t y.linked) (settled_same es e (scheduler q) refl)))
        (more_waits es e m (λ q v. refl) (λ q d. refl))
        (jobs_of_more es e ∙ threads_in-append t (jobs es) (jobs_sent (m ∷ [])))
        (let p = total_same o.workers (in_hand_of (es ++ e ∷ []) t) (in_hand_of es t) (λ v _. in_hand_more v es e) in omega (arith, p))
        (ended_more es e)
        (scatter (heads x) t (m ∷ []) (call.0, tt))
        (let q = call.1 in let r = call.2 in omega (arith, q, r))

    adds : (es : List Entry) (e : Entry) → Known x well o es → Allowed x well o es e → Adds es e
    adds es (Take s batch) k a = take_adds es s batch a
    adds es (Give s sent) k a = give_adds es s sent a
    adds es (Pick w job) k a = pick_adds es w job a k
    adds es (Post w m) k a = post_adds es w m a k
    adds es (Client c m) k a = client_adds es c m a

    -- ---- all histories

    first_sum : (l a h st : ℕ) → l ≡ 0 → a ≡ st → h ≡ 0 → l + a + 0 + h + 0 ≡ st + 0
    first_sum l a h st p q r = omega (arith, p, q, r)

    at_first : everywhere x o [] t ≡ made_by_all x [] t
    at_first =
        let declared : Each (λ (u : Start). IsScheduler (heads x) u.scheduler) (heads x).starts = each_map (Begins (heads x)) (λ (u : Start). IsScheduler (heads x) u.scheduler) (heads x).starts (λ u f. f.0.0) (starts_begin x well) in
        let a : total schedulers (arriving_at x [] t) ≡ started_from t 0 (heads x).starts =
        total_same schedulers (arriving_at x [] t) (λ q. brought_in t (starts_from (scheduler q) 0 (heads x).starts)) (λ q _. omega arith) ∙ starts_sum (heads x) t 0 (heads x).starts declared in
        first_sum (total schedulers (linked_at x o [] t)) (total schedulers (arriving_at x [] t)) (total o.workers (in_hand_of [] t)) (started_from t 0 (heads x).starts)
        (total_none schedulers (linked_at x o [] t) (λ q. refl)) a (total_none o.workers (in_hand_of [] t) (λ w. refl))

    more_sum : (old new st made more : ℕ) → new ≡ old + more → old ≡ st + made → new ≡ st + (made + more)
    more_sum old new st made more p q = omega (arith, p, q)

    -- over all places a thread is as often somewhere as it was made
    pub kept : (es : List Entry) → IsLegal x o es → everywhere x o es t ≡ made_by_all x es t
    kept es legal =
        (legal_walk x well o (λ l. everywhere x o l t ≡ made_by_all x l t) at_first
        (λ before e k a is.
        more_sum (everywhere x o before t) (everywhere x o (before ++ e ∷ []) t) (started_from t 0 (heads x).starts) (made_in t (sent_in before)) (made_in t (sends e)) (adds before e k a) is
        ∙ ap (λ (n : ℕ). started_from t 0 (heads x).starts + n) (sym (made_more before e))) es legal).1
