-- A run with one entry more.
use Rattle.std.proofs.Common.{◌≡◌, ◌≢◌, ℕ, zero, suc, ◌+◌, ◌<◌, ◌≤◌, ◌==◌, Bool, true, false, List, [], ◌∷◌, ◌++◌, map, length, refl, sym, ◌∙◌, ap, subst, append-nil, arith, Option, Some, None, Result, Ok, Err, ◌||◌, slice_index_or}
use Rattle.std.proofs.lemmas.Bool.{eqb-true, ltb-true}
use Rattle.std.proofs.lemmas.List.{map-append}
use Rattle.std.proofs.Math.ListN.{set}
use Rattle.std.proofs.lemmas.List.FromFn.{length-map-range_with_len, get_or-map-range_with_len}
use Rattle.std.specs.List.{range_with_len}
use Rattle.std.specs.Prelude.{if◌then◌else◌, not, ◌&&◌, nat_lt, drop, MatchOption, OnOk, IfOk}
use Rattle.std.proofs.lemmas.List.Elements.{filter-append}
use Rattle.std.proofs.lemmas.List.Sums.{fold-append}
use Rattle.loft_base.specs.declared.ids.SchedId.{SchedId}
use Rattle.loft_tree.specs.declared.heads.Heads.{Heads}
use Rattle.loft_orders.specs.declared.entry.Actor.TheVariants as actor
use Rattle.loft_orders.specs.declared.entry.Entry.{Entry}
use Rattle.loft_orders.specs.declared.entry.Entry.TheVariants.{Take, Give, Pick, Post, Client}
use Rattle.loft_base.specs.declared.options.RunOptions.{RunOptions}
use Rattle.loft_orders.specs.declared.order.Order.{Order}
use Rattle.loft_orders.specs.declared.order.Sent.{Sent}
use Rattle.loft_sense.specs.Heads.{scheduler, same_scheduler}
use Rattle.loft_sense.specs.Machine.{Prog, heads}
use Rattle.loft_sense.specs.Instant.{replay}
use Rattle.loft_history.specs.Clients.{orders_from, orders_of}
use Rattle.loft_history.specs.History.{Choice, TakeBy, GiveBy, PickBy, PostBy, ClientBy, choice_of, log, in_instant, is_open, unposted, is_busy, unsent, creates, replayed, has_turn, waiting, sent_last, entry_of, with_entry, hist_on, hist, creates_step, busy_step, unposted_step, unsent_step, instant_step}
use Rattle.loft_history.specs.Legal.{actor_of, same_actor, of}
use Rattle.loft_history.proofs.HistoryLemmas.{choice_kept, log-append}
use Rattle.loft_world.specs.State.{State, no_entries}
use Rattle.loft_course.specs.Blocks.{IsHand}
use Rattle.loft_course.specs.Course.{Stand, stand_after, stands_after, Hand, hand_after, hands_after, gave, orders_left, Course, IsRun, Moves}
use Rattle.loft_course.proofs.CourseLemmas.{stays}

-- ---- the history

-- a history goes on after the choices that made it
goes_on : (x : Prog) (o : RunOptions) (cs ds : List Choice) (h g : List Entry) → hist_on x o cs h ≡ Ok g → hist_on x o (cs ++ ds) h ≡ hist_on x o ds g
goes_on x o [] ds h g e = ap (λ (r : Result (List Entry) ℕ). hist_from r) e
  where
    hist_from : Result (List Entry) ℕ → Result (List Entry) ℕ
    hist_from (Ok k) = hist_on x o ds k
    hist_from (Err n) = Err n
goes_on x o (c ∷ cs) ds h g e = one_more_entry (entry_of x o h c) e (λ k f. goes_on x o cs ds k g f)
  where
    one_more_entry : (next : Option Entry) → with_entry h next (hist_on x o cs) ≡ Ok g → ((k : List Entry) → hist_on x o cs k ≡ Ok g → hist_on x o (cs ++ ds) k ≡ hist_on x o ds g)
        → with_entry h next (hist_on x o (cs ++ ds)) ≡ hist_on x o ds g
    one_more_entry None f then_on = cc
    one_more_entry (Some entry) f then_on = then_on (h ++ entry ∷ []) f

-- the history with the entry of an allowed choice is that of its choices
pub grown : (x : Prog) (o : RunOptions) (h : List Entry) (c : Choice) (e : Entry) → hist x o (map choice_of h) ≡ Ok h → entry_of x o h c ≡ Some e
    → hist x o (map choice_of (h ++ e ∷ [])) ≡ Ok (h ++ e ∷ [])
grown x o h c e made is =
    let allowed : entry_of x o h (choice_of e) ≡ Some e = subst (λ (d : Choice). entry_of x o h d ≡ Some e) (sym (choice_kept x o h c e is)) is in
    ap (hist x o) (map-append choice_of h (e ∷ []))
    ∙ (goes_on x o (map choice_of h) (choice_of e ∷ []) [] h made
    ∙ ap (λ (next : Option Entry). with_entry h next (hist_on x o [])) allowed)

-- ---- workers

pub same_hand : (a b : Hand) → a.left ≡ b.left → a.busy ≡ b.busy → a ≡ b
same_hand a b l y = ap (λ (q : List Sent). record { left = q; busy = a.busy }) l ∙ ap (λ (q : Bool). record { left = b.left; busy = q }) y

-- it is an entry of a worker
abbrev pub IsWork : Entry → Type 0
IsWork (Take s batch) = ⊥
IsWork (Give s sent) = ⊥
IsWork (Pick w job) = Unit {0}
IsWork (Post w sent) = Unit {0}
IsWork (Client c sent) = ⊥

-- the entries of schedulers and clients leave workers as they are
pub hand_kept : (x : Prog) (o : RunOptions) (h : List Entry) (e : Entry) → (IsWork e → ⊥) → (w : ℕ) → hand_after x o h w ≡ hand_after x o (h ++ e ∷ []) w
hand_kept x o h (Take s batch) other w = same_hand _ _ (sym (fold-append (unposted_step x o w) [] h (Take s batch ∷ []))) (sym (fold-append (busy_step w) false h (Take s batch ∷ [])))
hand_kept x o h (Give s sent) other w = same_hand _ _ (sym (fold-append (unposted_step x o w) [] h (Give s sent ∷ []))) (sym (fold-append (busy_step w) false h (Give s sent ∷ [])))
hand_kept x o h (Client c sent) other w = same_hand _ _ (sym (fold-append (unposted_step x o w) [] h (Client c sent ∷ []))) (sym (fold-append (busy_step w) false h (Client c sent ∷ [])))
hand_kept x o h (Pick v job) other w = absurd (other tt)
hand_kept x o h (Post v sent) other w = absurd (other tt)

-- a worker has as much in hand as before
pub hand_is : (x : Prog) (o : RunOptions) (h g : List Entry) (w : ℕ) → hand_after x o h w ≡ hand_after x o g w → IsHand (heads x) (is_busy w h) (unposted x o w h) → IsHand (heads x) (is_busy w g) (unposted x o w g)
hand_is x o h g w same is = subst (λ (q : Hand). IsHand (heads x) q.busy q.left) same is

-- ---- lists by index

pub from_none : (k : ℕ) → 0 + k ≡ k
from_none k = omega arith

pub same_map : {A : Type 0} (f g : ℕ → A) (a n : ℕ) → ((j : ℕ) → a < j + 1 → f j ≡ g j) → map f (range_with_len a n) ≡ map g (range_with_len a n)
same_map f g a zero same = refl
same_map {A} f g a (suc n) same =
    ap (λ (v : A). v ∷ map f (range_with_len (a + 1) n)) (same a (omega arith))
    ∙ ap (λ (l : List A). g a ∷ l) (same_map f g (a + 1) n (λ j later. same j (omega (arith, later))))

-- ---- what an entry leaves as it is

pub gave_more : (c : ℕ) (h : List Entry) (e : Entry) → gave (h ++ e ∷ []) c ≡ length (of (actor.Client c) h ++ of (actor.Client c) (e ∷ []))
gave_more c h e = ap length (filter-append (λ (d : Entry). same_actor (actor.Client c) (actor_of d)) h (e ∷ []))

-- clients are as far as before
pub record SameClients (x : Prog) (h g : List Entry) : Type 0 where
  pub gave : (k : ℕ) → gave g k ≡ gave h k
  pub creates : (k : ℕ) → creates k g ≡ creates k h
  pub unsent : (k : ℕ) → unsent (heads x) k g ≡ unsent (heads x) k h

pub clients_kept : (x : Prog) (h : List Entry) (e : Entry) (s : SchedId) → actor_of e ≡ actor.Sched s → SameClients x h (h ++ e ∷ [])
clients_kept x h (Take q batch) s is = record {
  gave = λ k. gave_more k h (Take q batch) ∙ ap length (append-nil (of (actor.Client k) h));
  creates = λ k. fold-append (creates_step k) 0 h (Take q batch ∷ []);
  unsent = λ k. fold-append (unsent_step k) _ h (Take q batch ∷ []);
}
clients_kept x h (Give q sent) s is = record {
  gave = λ k. gave_more k h (Give q sent) ∙ ap length (append-nil (of (actor.Client k) h));
  creates = λ k. fold-append (creates_step k) 0 h (Give q sent ∷ []);
  unsent = λ k. fold-append (unsent_step k) _ h (Give q sent ∷ []);
}
clients_kept x h (Pick w job) s is = absurd cc
clients_kept x h (Post w sent) s is = absurd cc
clients_kept x h (Client c sent) s is = absurd cc

-- each client has given as many orders, and has the same to give
pub given_same : (x : Prog) (r : Course) (g : List Entry) → r.given ≡ map (gave r.world.history) (range_with_len 0 (length (heads x).clients)) → SameClients x r.world.history g
    → r.given ≡ map (gave g) (range_with_len 0 (length (heads x).clients))
given_same x r g given same = given ∙ same_map (gave r.world.history) (gave g) 0 (length (heads x).clients) (λ k later. sym (same.gave k))

pub orders_same : (x : Prog) (h g : List Entry) (k : ℕ) → SameClients x h g → unsent (heads x) k h ≡ orders_left x k h (gave h k) → unsent (heads x) k g ≡ orders_left x k g (gave g k)
orders_same x h g k same is =
    same.unsent k
    ∙ (is
    ∙ (ap (λ (n : ℕ). orders_from (heads x) k n (drop (gave h k) (orders_of (heads x) k))) (sym (same.creates k))
    ∙ ap (λ (n : ℕ). orders_from (heads x) k (creates k g) (drop n (orders_of (heads x) k))) (sym (same.gave k))))

-- another scheduler stands as before
other_index : (a b : SchedId) → a.0 ≢ b.0 → same_scheduler a b ≡ false
other_index a b other = by (a.0 == b.0) refl
  where
    by : (is : Bool) → a.0 == b.0 ≡ is → a.0 == b.0 ≡ false
    by true e = absurd (other (eqb-true a.0 b.0 e))
    by false e = e

pub same_stand_by : (x : Prog) (o : RunOptions) (h g : List Entry) (j : ℕ) → log (scheduler j) g ≡ log (scheduler j) h → is_open (scheduler j) g ≡ is_open (scheduler j) h → stand_after x o h j ≡ stand_after x o g j
same_stand_by x o h g j logged running =
    ap (λ (l : List (List Order)). record { scheduler = scheduler j; failed = false; machine = (replay x o.limits (scheduler j) l).machine; notes = (replay x o.limits (scheduler j) l).notes; running = is_open (scheduler j) h }) (sym logged)
    ∙ ap (λ (b : Bool). record { scheduler = scheduler j; failed = false; machine = (replay x o.limits (scheduler j) (log (scheduler j) g)).machine; notes = (replay x o.limits (scheduler j) (log (scheduler j) g)).notes; running = b }) (sym running)

sched_is : (a b : SchedId) → actor.Sched a ≡ actor.Sched b → a ≡ b
sched_is a b e = cc

pub other_stands : (x : Prog) (o : RunOptions) (h : List Entry) (e : Entry) (s : SchedId) → actor_of e ≡ actor.Sched s → (j : ℕ) → j ≢ s.0 → stand_after x o h j ≡ stand_after x o (h ++ e ∷ []) j
other_stands x o h (Take q batch) s is j other =
    let apart : same_scheduler (scheduler j) q ≡ false = other_index (scheduler j) q (λ at. other (at ∙ ap (λ (r : SchedId). r.0) (sched_is q s is))) in
    same_stand_by x o h (h ++ Take q batch ∷ []) j
    (log-append (scheduler j) h (Take q batch ∷ []) ∙ (ap (λ (own : Bool). log (scheduler j) h ++ (if own then batch ∷ [] else [])) apart ∙ append-nil _))
    (fold-append (instant_step (scheduler j)) false h (Take q batch ∷ []) ∙ ap (λ (b : Bool). b || in_instant (scheduler j) false h) apart)
other_stands x o h (Give q sent) s is j other =
    let apart : same_scheduler (scheduler j) q ≡ false = other_index (scheduler j) q (λ at. other (at ∙ ap (λ (r : SchedId). r.0) (sched_is q s is))) in
    same_stand_by x o h (h ++ Give q sent ∷ []) j
    (log-append (scheduler j) h (Give q sent ∷ []) ∙ append-nil _)
    (fold-append (instant_step (scheduler j)) false h (Give q sent ∷ []) ∙ ap (λ (b : Bool). not b && in_instant (scheduler j) false h) apart)
other_stands x o h (Pick w job) s is j other = absurd cc
other_stands x o h (Post w sent) s is j other = absurd cc
other_stands x o h (Client c sent) s is j other = absurd cc

-- ---- one element of a list by index

-- one element is set, and the others are the same by both
set_at : {A : Type 0} (f g : ℕ → A) (a n k : ℕ) (v : A) → ((j : ℕ) → j ≢ a + k → f j ≡ g j) → v ≡ g (a + k) → set (map f (range_with_len a n)) k v ≡ map g (range_with_len a n)
set_at f g a zero k v others is = refl
set_at {A} f g a (suc n) zero v others is =
    ap (λ (b : A). b ∷ map f (range_with_len (a + 1) n)) (is ∙ ap g (first a))
    ∙ ap (λ (l : List A). g a ∷ l) (same_map f g (a + 1) n (λ j later. others j (λ at. apart j a at later)))
  where
    first : (a : ℕ) → a + 0 ≡ a
    first a = omega arith

    apart : {Q : Type 0} (j a : ℕ) → j ≡ a + 0 → a + 1 < j + 1 → Q
    apart j a at later = absurd (omega (arith, at, later))
set_at {A} f g a (suc n) (suc k) v others is =
    ap (λ (b : A). b ∷ set (map f (range_with_len (a + 1) n)) k v) (others a (λ at. apart a k at))
    ∙ ap (λ (l : List A). g a ∷ l) (set_at f g (a + 1) n k v (λ j other. others j (λ at. other (at ∙ shift a k))) (is ∙ ap g (shift a k)))
  where
    shift : (a k : ℕ) → a + suc k ≡ a + 1 + k
    shift a k = omega arith

    apart : {Q : Type 0} (a k : ℕ) → a ≡ a + suc k → Q
    apart a k at = absurd (omega (arith, at))

pub set_one : {A : Type 0} (f g : ℕ → A) (n k : ℕ) (v : A) → ((j : ℕ) → j ≢ k → f j ≡ g j) → v ≡ g k → set (map f (range_with_len 0 n)) k v ≡ map g (range_with_len 0 n)
set_one f g n k v others is = set_at f g 0 n k v (λ j other. others j (λ at. other (at ∙ sym (from_none k)))) (is ∙ ap g (sym (from_none k)))

-- ---- a scheduler's choice

-- a history that has gone on by a choice of a scheduler, or is as it was
pub record GoesOn (x : Prog) (o : RunOptions) (s : SchedId) (h g : List Entry) : Type 0 where
  pub made : hist x o (map choice_of g) ≡ Ok g
  pub others : (j : ℕ) → j ≢ s.0 → stand_after x o h j ≡ stand_after x o g j
  pub clients : SameClients x h g
  pub hands : (w : ℕ) → hand_after x o h w ≡ hand_after x o g w

same_goes_on : (x : Prog) (o : RunOptions) (s : SchedId) (h g : List Entry) → g ≡ h → hist x o (map choice_of h) ≡ Ok h → GoesOn x o s h g
same_goes_on x o s h g same made =
    subst (λ (l : List Entry). GoesOn x o s h l) (sym same)
    (record { made = made; others = λ j other. refl; clients = record { gave = λ k. refl; creates = λ k. refl; unsent = λ k. refl }; hands = λ w. refl })

no_work : (e : Entry) (s : SchedId) → actor_of e ≡ actor.Sched s → IsWork e → ⊥
no_work (Take q batch) s own work = work
no_work (Give q sent) s own work = work
no_work (Pick w job) s own work = absurd cc
no_work (Post w sent) s own work = absurd cc
no_work (Client c sent) s own work = work

entry_goes_on : (x : Prog) (o : RunOptions) (s : SchedId) (h g : List Entry) (c : Choice) (e : Entry) → actor_of e ≡ actor.Sched s → entry_of x o h c ≡ Some e → g ≡ h ++ e ∷ []
    → hist x o (map choice_of h) ≡ Ok h → GoesOn x o s h g
entry_goes_on x o s h g c e own is grows made =
    subst (λ (l : List Entry). GoesOn x o s h l) (sym grows)
    (record { made = grown x o h c e made is; others = other_stands x o h e s own; clients = clients_kept x h e s own; hands = hand_kept x o h e (no_work e s own) })

-- the choices of a scheduler
abbrev pub IsTurn : SchedId → Choice → Type 0
IsTurn s (TakeBy q) = q ≡ s
IsTurn s (GiveBy q) = q ≡ s
IsTurn s (PickBy w) = ⊥
IsTurn s (PostBy w) = ⊥
IsTurn s (ClientBy c) = ⊥

turn_entry : (s : SchedId) (e : Entry) → IsTurn s (choice_of e) → actor_of e ≡ actor.Sched s
turn_entry s (Take q batch) is = ap actor.Sched is
turn_entry s (Give q sent) is = ap actor.Sched is
turn_entry s (Pick w job) is = absurd is
turn_entry s (Post w sent) is = absurd is
turn_entry s (Client c sent) is = absurd is

turn_goes_on : (x : Prog) (o : RunOptions) (s : SchedId) (h g : List Entry) (c : Choice) (moved : Bool) → IsTurn s c → Moves x o h c moved g
    → hist x o (map choice_of h) ≡ Ok h → GoesOn x o s h g
turn_goes_on x o s h g c moved turn moves made = by (entry_of x o h c) refl moves
  where
    by : (next : Option Entry) → entry_of x o h c ≡ next → MatchOption next ((moved ≡ false) × (g ≡ h)) (λ e. (moved ≡ true) × (g ≡ h ++ e ∷ [])) → GoesOn x o s h g
    by None is m = same_goes_on x o s h g m.1 made
    by (Some e) is m = entry_goes_on x o s h g c e (turn_entry s e (subst (IsTurn s) (sym (choice_kept x o h c e is)) turn)) is m.1 made

-- the run after a choice of a scheduler
pub turned : (x : Prog) (o : RunOptions) (r : Course) (w : State) (s : SchedId) (st : Stand) (c : Choice) (moved : Bool) → IsRun x o r → IsTurn s c
    → Moves x o r.world.history c moved w.history → w.heads ≡ r.world.heads → st ≡ stand_after x o w.history s.0
    → IsRun x o (record { world = w; stations = set r.stations s.0 st; workers = r.workers; given = r.given })
turned x o r w s st c moved run turn moves same stands =
    let on = turn_goes_on x o s r.world.history w.history c moved turn moves run.made in
    record {
      heads = same ∙ run.heads;
      made = on.made;
      stations = ap (λ (l : List Stand). set l s.0 st) run.stations ∙ set_one (stand_after x o r.world.history) (stand_after x o w.history) (length (heads x).schedulers) s.0 st on.others stands;
      workers = run.workers ∙ same_map (hand_after x o r.world.history) (hand_after x o w.history) 0 o.workers (λ v later. on.hands v);
      given = given_same x r w.history run.given on.clients;
      orders = λ k. orders_same x r.world.history w.history k on.clients (run.orders k);
      hands = λ v. hand_is x o r.world.history w.history v (on.hands v) (run.hands v);
    }

-- ---- a scheduler of a run

no_take : (declared was turn : Bool) (e : Entry) → declared ≡ false → (if declared && not was && turn then Some e else None) ≡ None
no_take declared was turn e none = rw (none) refl

no_give : (declared was : Bool) (e : Entry) → declared ≡ false → (if declared && was then Some e else None) ≡ None
no_give declared was e none = rw (none) refl

-- an undeclared scheduler makes no entry
pub takes_none : (x : Prog) (o : RunOptions) (h : List Entry) (s : SchedId) → nat_lt s.0 (length (heads x).schedulers) ≡ false → Moves x o h (TakeBy s) false h
takes_none x o h s beyond = stays x o h (TakeBy s) (no_take _ (is_open s h) (has_turn x o.limits (replayed x o.limits s h).machine (waiting (heads x) s h)) (Take s (waiting (heads x) s h)) beyond)

pub gives_none : (x : Prog) (o : RunOptions) (h : List Entry) (s : SchedId) → nat_lt s.0 (length (heads x).schedulers) ≡ false → Moves x o h (GiveBy s) false h
gives_none x o h s beyond = stays x o h (GiveBy s) (no_give _ (is_open s h) (Give s (sent_last (replayed x o.limits s h).notes)) beyond)

pub so_many : (x : Prog) (o : RunOptions) (r : Course) → IsRun x o r → length r.stations ≡ length (heads x).schedulers
so_many x o r run = ap length run.stations ∙ length-map-range_with_len (stand_after x o r.world.history) 0 (length (heads x).schedulers)

-- the scheduler of an index stands as the history says
pub stands_there : (x : Prog) (o : RunOptions) (r : Course) (k : ℕ) (d : Stand) → IsRun x o r → k < length (heads x).schedulers → slice_index_or r.stations k d ≡ stand_after x o r.world.history k
stands_there x o r k d run there =
    ap (λ (l : List Stand). slice_index_or l k d) run.stations
    ∙ get_or-map-range_with_len (stand_after x o r.world.history) 0 (length (heads x).schedulers) k k d there (from_none k)

pub not_below : (a b : ℕ) → b ≤ a → nat_lt a b ≡ false
not_below a b beyond = by (nat_lt a b) refl
  where
    by : (is : Bool) → nat_lt a b ≡ is → nat_lt a b ≡ false
    by true e = absurd (let below : a < b = ltb-true a b e in omega (arith, below, beyond))
    by false e = e

-- ---- before the first entry

pub begun : (x : Prog) (o : RunOptions) (h : Heads) (w : State) (stations : List Stand) (workers : List Hand) (counts : List ℕ) → h ≡ heads x → w ≡ no_entries h
    → stations ≡ stands_after x o [] (length (heads x).schedulers) → workers ≡ hands_after x o [] o.workers → counts ≡ map (λ k. 0) (range_with_len 0 (length (heads x).clients))
    → IsRun x o (record { world = w; stations = stations; workers = workers; given = counts })
begun x o h w stations workers counts same none stands hands zeros =
    let start : w ≡ no_entries (heads x) = none ∙ ap no_entries same in
    subst (λ (v : State). IsRun x o (record { world = v; stations = stations; workers = workers; given = counts })) (sym start)
    (record { heads = refl; made = refl; stations = stands; workers = hands; given = zeros; orders = λ k. refl; hands = λ v. refl })

-- ---- results

pub all_ok : {A E P R T : Type 0} {Q : A → Type 0} (r : Result A E) → OnOk r P → IfOk r Q → OnOk r R → ((a : A) → P → Q a → R → T) → OnOk r T
all_ok (Ok a) p q r on = on a p q r
all_ok (Err e) p q r on = tt
