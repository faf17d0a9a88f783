-- A run with one more entry of a worker.
use Rattle.std.proofs.Common.{◌≡◌, ◌≢◌, ℕ, ◌<◌, ◌==◌, Bool, true, false, List, [], ◌∷◌, ◌++◌, map, length, refl, sym, ◌∙◌, ap, subst, arith, append-nil, Option, Some, None, Ok, ◌||◌, slice_get, slice_index_or, eq-eqb}
use Rattle.std.proofs.lemmas.Bool.{eqb-true, lt-ltb}
use Rattle.std.proofs.lemmas.List.FromFn.{length-map-range_with_len, get_or-map-range_with_len}
use Rattle.std.proofs.Math.ListN.{set}
use Rattle.std.specs.List.{range_with_len}
use Rattle.std.specs.Prelude.{if◌then◌else◌, not, nat_lt, drop, All, MatchOption}
use Rattle.std.proofs.lemmas.List.Sums.{fold-append}
use Rattle.loft_base.specs.declared.ids.ThreadId.{ThreadId}
use Rattle.loft_tree.specs.declared.heads.Heads.{Heads}
use Rattle.loft_orders.specs.declared.entry.Actor.TheVariants as actor
use Rattle.loft_orders.specs.declared.entry.Entry.{Entry}
use Rattle.loft_orders.specs.declared.entry.Entry.TheVariants.{Take, Give, Pick, Post, Client}
use Rattle.loft_base.specs.declared.options.RunOptions.{RunOptions}
use Rattle.loft_orders.specs.declared.order.Sent.{Sent}
use Rattle.loft_orders.specs.declared.order.To.{To}
use Rattle.loft_orders.specs.declared.order.To.TheVariants as to
use Rattle.loft_orders.specs.declared.order.Order.{Order}
use Rattle.loft_orders.specs.declared.order.Order.TheVariants as order
use Rattle.loft_orders.specs.declared.thread.Thread.{Thread}
use Rattle.loft_sense.specs.Machine.{Prog, heads}
use Rattle.loft_sense.specs.Async.{async}
use Rattle.loft_history.specs.Legal.{of}
use Rattle.loft_history.specs.History.{Choice, TakeBy, GiveBy, PickBy, PostBy, ClientBy, choice_of, jobs_sent, job_before, jobs, ends_block, unposted, is_busy, unsent, hist, entry_of_first, pick_of, entry_of, creates_step, busy_step, instant_step, unposted_step, unsent_step}
use Rattle.loft_history.proofs.HistoryLemmas.{choice_kept, on_if, on_first, on_pick, log-append}
use Rattle.loft_sense.specs.Heads.{scheduler}
use Rattle.loft_world.specs.State.{State}
use Rattle.loft_conservation.specs.Blocks.{IsExit, IsQuiet, IsBlock}
use Rattle.loft_turn_parts.proofs.HandLemmas.{left_picked, busy_picked, left_posted, busy_posted}
use Rattle.loft_course.specs.Blocks.{IsHand}
use Rattle.loft_course.specs.Course.{Hand, hand_after, stand_after, gave, orders_left, Course, IsRun, CanRun, Moves}
use Rattle.loft_course.proofs.CourseLemmas.{moved_by, stays}
use Rattle.loft_course.proofs.RunsOn.{grown, same_hand, IsWork, hand_is, from_none, same_map, set_one, SameClients, gave_more, given_same, orders_same, same_stand_by}

-- ---- the worker's own choices

-- a worker with a job in hand picks none
pub busy_picks_none : (x : Prog) (o : RunOptions) (h : List Entry) (w : ℕ) → IsHand (heads x) true (unposted x o w h) → Moves x o h (PickBy w) false h
busy_picks_none x o h w block = stays x o h (PickBy w) (none_then (nat_lt w o.workers) (by (unposted x o w h) block.0 block.1))
  where
    none_then : (declared : Bool) → pick_of w (unposted x o w h) (jobs h) ≡ None → (if declared then pick_of w (unposted x o w h) (jobs h) else None) ≡ None
    none_then true none = none
    none_then false none = refl

    by : (left : List Sent) (t : ThreadId) → IsBlock (heads x) t left → pick_of w left (jobs h) ≡ None
    by [] t ends = absurd ends
    by (m ∷ left) t ends = refl

-- nothing waits, and so nothing is picked
pub none_to_pick : (x : Prog) (o : RunOptions) (h : List Entry) (w : ℕ) → slice_get (jobs h) 0 ≡ None → Moves x o h (PickBy w) false h
none_to_pick x o h w first = stays x o h (PickBy w) (none_then (nat_lt w o.workers) (by (unposted x o w h) (jobs h) first))
  where
    none_then : (declared : Bool) → pick_of w (unposted x o w h) (jobs h) ≡ None → (if declared then pick_of w (unposted x o w h) (jobs h) else None) ≡ None
    none_then true none = none
    none_then false none = refl

    by : (left : List Sent) (waits : List Thread) → slice_get waits 0 ≡ None → pick_of w left waits ≡ None
    by [] [] e = refl
    by [] (t ∷ ts) e = cc
    by (m ∷ left) waits e = refl

then_true : {A : Type 0} (declared : Bool) (a b : Option A) → declared ≡ true → (if declared then a else b) ≡ a
then_true true a b e = refl
then_true false a b e = cc

pub pick_entry : (x : Prog) (o : RunOptions) (h : List Entry) (w : ℕ) (t : Thread) → w < o.workers → unposted x o w h ≡ [] → slice_get (jobs h) 0 ≡ Some t → entry_of x o h (PickBy w) ≡ Some (Pick w t)
pick_entry x o h w t declared free first =
    then_true (nat_lt w o.workers) _ None (lt-ltb w o.workers declared)
    ∙ (ap (λ (l : List Sent). pick_of w l (jobs h)) free ∙ by (jobs h) first)
  where
    by : (waits : List Thread) → slice_get waits 0 ≡ Some t → pick_of w [] waits ≡ Some (Pick w t)
    by [] e = cc
    by (u ∷ us) e = ap (λ (q : Option Thread). opened q) e
      where
        opened : Option Thread → Option Entry
        opened None = None
        opened (Some u) = Some (Pick w u)

pub picks : (x : Prog) (o : RunOptions) (h g : List Entry) (w : ℕ) (t : Thread) → w < o.workers → unposted x o w h ≡ [] → slice_get (jobs h) 0 ≡ Some t → g ≡ h ++ Pick w t ∷ [] → Moves x o h (PickBy w) true g
picks x o h g w t declared free first grows = moved_by x o h (PickBy w) g (Pick w t) (pick_entry x o h w t declared free first) grows

pub picked_hand : (x : Prog) (o : RunOptions) (h : List Entry) (w : ℕ) (t : Thread) → hand_after x o (h ++ Pick w t ∷ []) w ≡ record { left = async x t o.limits.block; busy = true }
picked_hand x o h w t = same_hand (hand_after x o (h ++ Pick w t ∷ []) w) _ (left_picked x o w h t) (busy_picked w h t)

-- nothing is left to post
pub none_to_post : (x : Prog) (o : RunOptions) (h : List Entry) (w : ℕ) → unposted x o w h ≡ [] → Moves x o h (PostBy w) false h
none_to_post x o h w none = stays x o h (PostBy w) (ap (λ (l : List Sent). if nat_lt w o.workers then entry_of_first (Post w) l else None) none ∙ none_then (nat_lt w o.workers))
  where
    none_then : (declared : Bool) → (if declared then entry_of_first (Post w) [] else None) ≡ None
    none_then true = refl
    none_then false = refl

pub post_entry : (x : Prog) (o : RunOptions) (h : List Entry) (w : ℕ) (m : Sent) (left : List Sent) → w < o.workers → unposted x o w h ≡ m ∷ left → entry_of x o h (PostBy w) ≡ Some (Post w m)
post_entry x o h w m left declared is =
    then_true (nat_lt w o.workers) _ None (lt-ltb w o.workers declared) ∙ ap (λ (l : List Sent). entry_of_first (Post w) l) is

pub posts : (x : Prog) (o : RunOptions) (h g : List Entry) (w : ℕ) (m : Sent) (left : List Sent) → w < o.workers → unposted x o w h ≡ m ∷ left → g ≡ h ++ Post w m ∷ [] → Moves x o h (PostBy w) true g
posts x o h g w m left declared is grows = moved_by x o h (PostBy w) g (Post w m) (post_entry x o h w m left declared is) grows

pub posted_hand : (x : Prog) (o : RunOptions) (h : List Entry) (w : ℕ) (m : Sent) (left : List Sent) → unposted x o w h ≡ m ∷ left
    → hand_after x o (h ++ Post w m ∷ []) w ≡ record { left = left; busy = not (ends_block m.order) }
posted_hand x o h w m left is = same_hand (hand_after x o (h ++ Post w m ∷ []) w) _ (left_posted x o w h m left is) (busy_posted w h m)

-- a worker with a job in hand has something left to post
pub next_of_block : {Q : Type 0} (h : Heads) (t : ThreadId) (left : List Sent) → IsBlock h t left → ((m : Sent) (rest : List Sent) → left ≡ m ∷ rest → Q) → Q
next_of_block h t [] block on = absurd block
next_of_block h t (m ∷ rest) block on = on m rest refl

-- ---- what is in hand after a choice of a worker

-- a quiet order ends no block, and sends nobody to the workers
quiet_goes_on : (q : Order) → IsQuiet q → ends_block q ≡ false
quiet_goes_on (order.Create t m arguments) quiet = absurd quiet
quiet_goes_on (order.Arrive t) quiet = absurd quiet
quiet_goes_on (order.Stop t) quiet = refl
quiet_goes_on (order.Suspend t) quiet = refl
quiet_goes_on (order.Resume t) quiet = refl
quiet_goes_on (order.Broadcast event v) quiet = refl
quiet_goes_on (order.Ended t end) quiet = absurd quiet

pub quiet_sends_none : (to : To) (q : Order) (ts : List Thread) → IsQuiet q → job_before to q ts ≡ ts
quiet_sends_none to.Workers (order.Create t m arguments) ts quiet = absurd quiet
quiet_sends_none to.Workers (order.Arrive t) ts quiet = absurd quiet
quiet_sends_none to.Workers (order.Stop t) ts quiet = refl
quiet_sends_none to.Workers (order.Suspend t) ts quiet = refl
quiet_sends_none to.Workers (order.Resume t) ts quiet = refl
quiet_sends_none to.Workers (order.Broadcast event v) ts quiet = refl
quiet_sends_none to.Workers (order.Ended t end) ts quiet = absurd quiet
quiet_sends_none (to.Sched s) q ts quiet = refl
quiet_sends_none (to.Others s) q ts quiet = refl
quiet_sends_none to.All q ts quiet = refl

-- the last order ends the block, and sends nobody there either
exit_ends : (h : Heads) (t : ThreadId) (q : Order) (to : To) → IsExit h t q to → ends_block q ≡ true
exit_ends h t (order.Create u m arguments) to exit = absurd exit
exit_ends h t (order.Arrive u) to exit = refl
exit_ends h t (order.Stop u) to exit = absurd exit
exit_ends h t (order.Suspend u) to exit = absurd exit
exit_ends h t (order.Resume u) to exit = absurd exit
exit_ends h t (order.Broadcast event v) to exit = absurd exit
exit_ends h t (order.Ended u end) to exit = refl

exit_sends_none : (h : Heads) (t : ThreadId) (q : Order) (to : To) → IsExit h t q to → job_before to q [] ≡ []
exit_sends_none h t (order.Create u m arguments) to exit = absurd exit
exit_sends_none h t (order.Arrive u) (to.Sched s) exit = refl
exit_sends_none h t (order.Arrive u) (to.Others s) exit = absurd exit
exit_sends_none h t (order.Arrive u) to.All exit = absurd exit
exit_sends_none h t (order.Arrive u) to.Workers exit = absurd exit
exit_sends_none h t (order.Stop u) to exit = absurd exit
exit_sends_none h t (order.Suspend u) to exit = absurd exit
exit_sends_none h t (order.Resume u) to exit = absurd exit
exit_sends_none h t (order.Broadcast event v) to exit = absurd exit
exit_sends_none h t (order.Ended u end) (to.Sched s) exit = absurd exit
exit_sends_none h t (order.Ended u end) (to.Others s) exit = absurd exit
exit_sends_none h t (order.Ended u end) to.All exit = refl
exit_sends_none h t (order.Ended u end) to.Workers exit = absurd exit

-- no order of a block sends anybody to the workers
pub sends_none : (h : Heads) (t : ThreadId) (m : Sent) (left : List Sent) → IsBlock h t (m ∷ left) → jobs_sent (m ∷ []) ≡ []
sends_none h t m [] block = exit_sends_none h t m.order m.to block
sends_none h t m (n ∷ left) block = quiet_sends_none m.to m.order [] block.0

pub hand_posted : (h : Heads) (t : ThreadId) (m : Sent) (left : List Sent) → IsBlock h t (m ∷ left) → IsHand h (not (ends_block m.order)) left
hand_posted h t m [] block = subst (λ (b : Bool). IsHand h (not b) []) (sym (exit_ends h t m.order m.to block)) refl
hand_posted h t m (n ∷ left) block = subst (λ (b : Bool). IsHand h (not b) (n ∷ left)) (sym (quiet_goes_on m.order block.0)) (t, block.1)

first_all : (P : Thread → Type 0) (ts : List Thread) (t : Thread) → All P ts → slice_get ts 0 ≡ Some t → P t
first_all P [] t all e = absurd cc
first_all P (u ∷ us) t all e = subst P (same_some u t e) (all 0 u (omega arith))
  where
    same_some : (a b : Thread) → Some a ≡ Some b → a ≡ b
    same_some a b f = cc

-- ---- other workers

-- it is an entry of this worker
abbrev pub IsOf : ℕ → Entry → Type 0
IsOf w (Take s batch) = ⊥
IsOf w (Give s sent) = ⊥
IsOf w (Pick v job) = v ≡ w
IsOf w (Post v sent) = v ≡ w
IsOf w (Client c sent) = ⊥

apart : (k c : ℕ) → k ≢ c → k == c ≡ false
apart k c other = by (k == c) refl
  where
    by : (is : Bool) → k == c ≡ is → k == c ≡ false
    by true e = absurd (other (eqb-true k c e))
    by false e = e

pub other_hands : (x : Prog) (o : RunOptions) (h : List Entry) (e : Entry) (w : ℕ) → IsOf w e → (v : ℕ) → v ≢ w → hand_after x o h v ≡ hand_after x o (h ++ e ∷ []) v
other_hands x o h (Take s batch) w is v other = absurd is
other_hands x o h (Give s sent) w is v other = absurd is
other_hands x o h (Client c sent) w is v other = absurd is
other_hands x o h (Pick u t) w is v other =
    let else_ : v == u ≡ false = apart v u (λ same. other (same ∙ is)) in
    same_hand (hand_after x o h v) (hand_after x o (h ++ Pick u t ∷ []) v)
    (sym (fold-append (unposted_step x o v) [] h (Pick u t ∷ []) ∙ ap (λ (own : Bool). if own then async x t o.limits.block else unposted x o v h) else_))
    (sym (fold-append (busy_step v) false h (Pick u t ∷ []) ∙ ap (λ (own : Bool). own || is_busy v h) else_))
other_hands x o h (Post u m) w is v other =
    let else_ : v == u ≡ false = apart v u (λ same. other (same ∙ is)) in
    same_hand (hand_after x o h v) (hand_after x o (h ++ Post u m ∷ []) v)
    (sym (fold-append (unposted_step x o v) [] h (Post u m ∷ []) ∙ ap (λ (own : Bool). if own then drop 1 (unposted x o v h) else unposted x o v h) else_))
    (sym (fold-append (busy_step v) false h (Post u m ∷ []) ∙ ap (λ (own : Bool). if own then not (ends_block m.order) else is_busy v h) else_))

-- ---- schedulers and clients

pub work_stands : (x : Prog) (o : RunOptions) (h : List Entry) (e : Entry) → IsWork e → (j : ℕ) → stand_after x o h j ≡ stand_after x o (h ++ e ∷ []) j
work_stands x o h (Take s batch) is j = absurd is
work_stands x o h (Give s sent) is j = absurd is
work_stands x o h (Client c sent) is j = absurd is
work_stands x o h (Pick u t) is j =
    same_stand_by x o h (h ++ Pick u t ∷ []) j
    (log-append (scheduler j) h (Pick u t ∷ []) ∙ append-nil _)
    (fold-append (instant_step (scheduler j)) false h (Pick u t ∷ []))
work_stands x o h (Post u m) is j =
    same_stand_by x o h (h ++ Post u m ∷ []) j
    (log-append (scheduler j) h (Post u m ∷ []) ∙ append-nil _)
    (fold-append (instant_step (scheduler j)) false h (Post u m ∷ []))

pub work_clients : (x : Prog) (h : List Entry) (e : Entry) → IsWork e → SameClients x h (h ++ e ∷ [])
work_clients x h (Take s batch) is = absurd is
work_clients x h (Give s sent) is = absurd is
work_clients x h (Client c sent) is = absurd is
work_clients x h (Pick u t) is = record {
  gave = λ k. gave_more k h (Pick u t) ∙ ap length (append-nil (of (actor.Client k) h));
  creates = λ k. fold-append (creates_step k) 0 h (Pick u t ∷ []);
  unsent = λ k. fold-append (unsent_step k) _ h (Pick u t ∷ []);
}
work_clients x h (Post u m) is = record {
  gave = λ k. gave_more k h (Post u m) ∙ ap length (append-nil (of (actor.Client k) h));
  creates = λ k. fold-append (creates_step k) 0 h (Post u m ∷ []);
  unsent = λ k. fold-append (unsent_step k) _ h (Post u m ∷ []);
}

-- ---- the run after a choice of a worker

-- what is in hand of the worker of an allowed choice
own_hand : (x : Prog) (o : RunOptions) (h : List Entry) (e : Entry) (w : ℕ) → IsOf w e → entry_of x o h (choice_of e) ≡ Some e
    → All (λ (t : Thread). IsBlock (heads x) t.id (async x t o.limits.block)) (jobs h) → IsHand (heads x) (is_busy w h) (unposted x o w h)
    → IsHand (heads x) (is_busy w (h ++ e ∷ [])) (unposted x o w (h ++ e ∷ []))
own_hand x o h (Take s batch) w of_w is blocks hand = absurd of_w
own_hand x o h (Give s sent) w of_w is blocks hand = absurd of_w
own_hand x o h (Client c sent) w of_w is blocks hand = absurd of_w
own_hand x o h (Pick u t) w of_w is blocks hand =
    on_if (nat_lt u o.workers) (pick_of u (unposted x o u h) (jobs h)) (Pick u t) is (λ declared picked.
    on_pick u (unposted x o u h) (jobs h) (Pick u t) picked (λ free first.
    on_first (Pick u) (jobs h) (Pick u t) first (λ q rest all same.
    let block : IsBlock (heads x) t.id (async x t o.limits.block) = first_all (λ (r : Thread). IsBlock (heads x) r.id (async x r o.limits.block)) (jobs h) t blocks (ap (λ (l : List Thread). slice_get l 0) all ∙ ap (λ (r : Thread). Some r) (same_thread q same)) in
    subst (λ (r : Hand). IsHand (heads x) r.busy r.left) (sym (subst (λ (k : ℕ). hand_after x o (h ++ Pick u t ∷ []) k ≡ record { left = async x t o.limits.block; busy = true }) of_w (picked_hand x o h u t))) (t.id, block))))
  where
    same_thread : (q : Thread) → Pick u q ≡ Pick u t → q ≡ t
    same_thread q f = cc
own_hand x o h (Post u m) w of_w is blocks hand =
    on_if (nat_lt u o.workers) (entry_of_first (Post u) (unposted x o u h)) (Post u m) is (λ declared first.
    on_first (Post u) (unposted x o u h) (Post u m) first (λ n rest all same.
    let left : unposted x o u h ≡ m ∷ rest = all ∙ ap (λ (r : Sent). r ∷ rest) (same_sent n same) in
    let before : IsHand (heads x) (is_busy u h) (unposted x o u h) = subst (λ (k : ℕ). IsHand (heads x) (is_busy k h) (unposted x o k h)) (sym of_w) hand in
    let block = whole rest (is_busy u h) (subst (IsHand (heads x) (is_busy u h)) left before) in
    subst (λ (r : Hand). IsHand (heads x) r.busy r.left) (sym (subst (λ (k : ℕ). hand_after x o (h ++ Post u m ∷ []) k ≡ record { left = rest; busy = not (ends_block m.order) }) of_w (posted_hand x o h u m rest left))) (hand_posted (heads x) block.0 m rest block.1)))
  where
    same_sent : (n : Sent) → Post u n ≡ Post u m → n ≡ m
    same_sent n f = cc

    whole : (rest : List Sent) (busy : Bool) → IsHand (heads x) busy (m ∷ rest) → (t : ThreadId) × IsBlock (heads x) t (m ∷ rest)
    whole rest true b = b
    whole rest false b = absurd cc

-- the choices of a worker
abbrev pub IsTurnOf : ℕ → Choice → Type 0
IsTurnOf w (TakeBy s) = ⊥
IsTurnOf w (GiveBy s) = ⊥
IsTurnOf w (PickBy v) = v ≡ w
IsTurnOf w (PostBy v) = v ≡ w
IsTurnOf w (ClientBy c) = ⊥

is_of : (w : ℕ) (e : Entry) → IsTurnOf w (choice_of e) → IsOf w e
is_of w (Take s batch) is = is
is_of w (Give s sent) is = is
is_of w (Pick v job) is = is
is_of w (Post v sent) is = is
is_of w (Client c sent) is = is

is_work : (w : ℕ) (e : Entry) → IsOf w e → IsWork e
is_work w (Take s batch) is = is
is_work w (Give s sent) is = is
is_work w (Pick v job) is = tt
is_work w (Post v sent) is = tt
is_work w (Client c sent) is = is

-- a run with a worker of which this is in hand
abbrev with_hand : Course → State → ℕ → Hand → Course
with_hand r w v hand = record { world = w; stations = r.stations; workers = set r.workers v hand; given = r.given }

hands_now : (x : Prog) (o : RunOptions) (h : List Entry) (e : Entry) (w : ℕ) → IsOf w e → IsHand (heads x) (is_busy w (h ++ e ∷ [])) (unposted x o w (h ++ e ∷ []))
    → ((v : ℕ) → IsHand (heads x) (is_busy v h) (unposted x o v h)) → (v : ℕ) → IsHand (heads x) (is_busy v (h ++ e ∷ [])) (unposted x o v (h ++ e ∷ []))
hands_now x o h e w of_w own hands v = by (v == w) refl
  where
    by : (is : Bool) → v == w ≡ is → IsHand (heads x) (is_busy v (h ++ e ∷ [])) (unposted x o v (h ++ e ∷ []))
    by true is = subst (λ (k : ℕ). IsHand (heads x) (is_busy k (h ++ e ∷ [])) (unposted x o k (h ++ e ∷ []))) (sym (eqb-true v w is)) own
    by false is = hand_is x o h (h ++ e ∷ []) v (other_hands x o h e w of_w v (λ same. not_same is same)) (hands v)
      where
        not_same : v == w ≡ false → v ≡ w → ⊥
        not_same f same = absurd (let g : v == w ≡ true = eq-eqb v w same in cc)

worked_by : (x : Prog) (o : RunOptions) (r : Course) (w : State) (v : ℕ) (hand : Hand) (c : Choice) (e : Entry) → IsRun x o r → CanRun x o → IsOf v e → entry_of x o r.world.history c ≡ Some e
    → w.history ≡ r.world.history ++ e ∷ [] → w.heads ≡ r.world.heads → hand ≡ hand_after x o w.history v → IsRun x o (with_hand r w v hand)
worked_by x o r w v hand c e run can of_v is grows same in_hand =
    let h = r.world.history in
    let work = is_work v e of_v in
    let allowed : entry_of x o h (choice_of e) ≡ Some e = subst (λ (d : Choice). entry_of x o h d ≡ Some e) (sym (choice_kept x o h c e is)) is in
    let own = own_hand x o h e v of_v allowed (can.blocks (map choice_of h) h run.made) (run.hands v) in
    let clients = work_clients x h e work in
    let back : h ++ e ∷ [] ≡ w.history = sym grows in
    record {
      heads = same ∙ run.heads;
      made = subst (λ (g : List Entry). hist x o (map choice_of g) ≡ Ok g) back (grown x o h c e run.made is);
      stations = subst (λ (g : List Entry). r.stations ≡ map (stand_after x o g) (range_with_len 0 (length (heads x).schedulers))) back
          (run.stations ∙ same_map (stand_after x o h) (stand_after x o (h ++ e ∷ [])) 0 (length (heads x).schedulers) (λ j later. work_stands x o h e work j));
      workers = ap (λ (l : List Hand). set l v hand) run.workers
          ∙ set_one (hand_after x o h) (hand_after x o w.history) o.workers v hand
          (λ k other. subst (λ (g : List Entry). hand_after x o h k ≡ hand_after x o g k) back (other_hands x o h e v of_v k other)) in_hand;
      given = given_same x r w.history run.given (subst (SameClients x h) back clients);
      orders = λ k. orders_same x h w.history k (subst (SameClients x h) back clients) (run.orders k);
      hands = subst (λ (g : List Entry). (k : ℕ) → IsHand (heads x) (is_busy k g) (unposted x o k g)) back (hands_now x o h e v of_v own run.hands);
    }

not_worked : (x : Prog) (o : RunOptions) (r : Course) (w : State) (v : ℕ) (hand : Hand) → IsRun x o r → w.history ≡ r.world.history → w.heads ≡ r.world.heads → hand ≡ hand_after x o w.history v
    → IsRun x o (with_hand r w v hand)
not_worked x o r w v hand run same heads_same in_hand =
    let h = r.world.history in
    let back : h ≡ w.history = sym same in
    record {
      heads = heads_same ∙ run.heads;
      made = subst (λ (g : List Entry). hist x o (map choice_of g) ≡ Ok g) back run.made;
      stations = subst (λ (g : List Entry). r.stations ≡ map (stand_after x o g) (range_with_len 0 (length (heads x).schedulers))) back run.stations;
      workers = ap (λ (l : List Hand). set l v hand) run.workers
          ∙ set_one (hand_after x o h) (hand_after x o w.history) o.workers v hand (λ k other. ap (λ (g : List Entry). hand_after x o g k) back) in_hand;
      given = subst (λ (g : List Entry). r.given ≡ map (gave g) (range_with_len 0 (length (heads x).clients))) back run.given;
      orders = subst (λ (g : List Entry). (k : ℕ) → unsent (heads x) k g ≡ orders_left x k g (gave g k)) back run.orders;
      hands = subst (λ (g : List Entry). (k : ℕ) → IsHand (heads x) (is_busy k g) (unposted x o k g)) back run.hands;
    }

pub worked : (x : Prog) (o : RunOptions) (r : Course) (w : State) (v : ℕ) (hand : Hand) (c : Choice) (moved : Bool) → IsRun x o r → CanRun x o → IsTurnOf v c
    → Moves x o r.world.history c moved w.history → w.heads ≡ r.world.heads → hand ≡ hand_after x o w.history v → IsRun x o (with_hand r w v hand)
worked x o r w v hand c moved run can turn moves same in_hand = by (entry_of x o r.world.history c) refl moves
  where
    by : (next : Option Entry) → entry_of x o r.world.history c ≡ next → MatchOption next ((moved ≡ false) × (w.history ≡ r.world.history)) (λ e. (moved ≡ true) × (w.history ≡ r.world.history ++ e ∷ []))
        → IsRun x o (with_hand r w v hand)
    by None is m = not_worked x o r w v hand run m.1 same in_hand
    by (Some e) is m =
        worked_by x o r w v hand c e run can (is_of v e (subst (IsTurnOf v) (sym (choice_kept x o r.world.history c e is)) turn)) is m.1 same in_hand

-- ---- a worker of a run

-- a worker beyond the last makes no entry
pub pick_beyond : (x : Prog) (o : RunOptions) (h : List Entry) (w : ℕ) → nat_lt w o.workers ≡ false → Moves x o h (PickBy w) false h
pick_beyond x o h w beyond = stays x o h (PickBy w) (ap (λ (b : Bool). if b then pick_of w (unposted x o w h) (jobs h) else None) beyond)

pub post_beyond : (x : Prog) (o : RunOptions) (h : List Entry) (w : ℕ) → nat_lt w o.workers ≡ false → Moves x o h (PostBy w) false h
post_beyond x o h w beyond = stays x o h (PostBy w) (ap (λ (b : Bool). if b then entry_of_first (Post w) (unposted x o w h) else None) beyond)

pub so_many_workers : (x : Prog) (o : RunOptions) (r : Course) → IsRun x o r → length r.workers ≡ o.workers
so_many_workers x o r run = ap length run.workers ∙ length-map-range_with_len (hand_after x o r.world.history) 0 o.workers

pub hand_there : (x : Prog) (o : RunOptions) (r : Course) (k : ℕ) (d : Hand) → IsRun x o r → k < o.workers → slice_index_or r.workers k d ≡ hand_after x o r.world.history k
hand_there x o r k d run there =
    ap (λ (l : List Hand). slice_index_or l k d) run.workers
    ∙ get_or-map-range_with_len (hand_after x o r.world.history) 0 o.workers k k d there (from_none k)
