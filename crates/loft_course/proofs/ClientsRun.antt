-- A run with one more order of a client.
use Rattle.std.proofs.Common.{◌≡◌, ◌≢◌, ℕ, zero, suc, ◌+◌, ◌<◌, ◌≤◌, ◌==◌, Bool, true, false, List, [], ◌∷◌, ◌++◌, length, refl, sym, ◌∙◌, ap, subst, append-nil, Some, None, slice_get, slice_index_or, eq-eqb}
use Rattle.std.proofs.lemmas.Bool.{eqb-true}
use Rattle.std.proofs.lemmas.List.{drop-drop, length-append}
use Rattle.std.proofs.lemmas.List.FromFn.{length-map-range_with_len, get_or-map-range_with_len}
use Rattle.std.proofs.Math.ListN.{set}
use Rattle.std.specs.Prelude.{if◌then◌else◌, ◌&&◌, drop}
use Rattle.std.proofs.lemmas.List.Sums.{fold-append}
use Rattle.loft_tree.specs.declared.heads.ClientOrder.{ClientOrder}
use Rattle.loft_tree.specs.declared.heads.ClientOrder.TheVariants as client
use Rattle.loft_tree.specs.declared.kinds.Control.TheVariants as control
use Rattle.loft_tree.specs.declared.heads.Heads.{Heads}
use Rattle.loft_tree.specs.Fits.{Each}
use Rattle.loft_orders.specs.declared.entry.Actor.TheVariants as actor
use Rattle.loft_orders.specs.declared.entry.Entry.{Entry}
use Rattle.loft_orders.specs.declared.entry.Entry.TheVariants.{Client}
use Rattle.loft_base.specs.declared.options.RunOptions.{RunOptions}
use Rattle.loft_orders.specs.declared.order.Order.{Order}
use Rattle.loft_orders.specs.declared.order.Sent.{Sent}
use Rattle.loft_orders.specs.declared.order.To.{To}
use Rattle.loft_orders.specs.declared.order.To.TheVariants.{Sched, Others, All, Workers}
use Rattle.loft_sense.specs.Machine.{Prog, heads}
use Rattle.loft_history.specs.Clients.{orders_from, outside_of, orders_of}
use Rattle.loft_history.specs.History.{ClientBy, unsent, is_create, creates, entry_of_first, entry_of, creates_step, instant_step, unsent_step}
use Rattle.loft_history.specs.Legal.{of, FitsOne}
use Rattle.loft_history.proofs.HistoryLemmas.{log-append, unsent_none}
use Rattle.loft_history.proofs.OwnLemmas.{given}
use Rattle.loft_sense.specs.Heads.{scheduler}
use Rattle.loft_world.specs.State.{State, IsToOne, IsForClients, with_entry}
use Rattle.loft_turn_parts.specs.Clients.{orders_at, HasEvent}
use Rattle.loft_course.specs.Course.{stand_after, hand_after, gave, orders_left, Course, IsRun, CanRun, Moves}
use Rattle.loft_course.proofs.CourseLemmas.{moved_by, stays}
use Rattle.loft_course.proofs.RunsOn.{grown, hand_kept, hand_is, gave_more, same_stand_by, same_map, set_one, from_none}

-- ---- no further order

no_more : (x : Prog) (o : RunOptions) (h : List Entry) (c : ℕ) → unsent (heads x) c h ≡ [] → Moves x o h (ClientBy c) false h
no_more x o h c none = stays x o h (ClientBy c) (ap (entry_of_first (Client c)) none)

pub no_client : (x : Prog) (o : RunOptions) (h : List Entry) (c : ℕ) → length (heads x).clients ≤ c → Moves x o h (ClientBy c) false h
no_client x o h c beyond = no_more x o h c (unsent_none (heads x) c h beyond)

none_first : {A : Type 0} (l : List A) → slice_get l 0 ≡ None → l ≡ []
none_first [] e = refl
none_first (a ∷ l) e = cc

pub no_order : (x : Prog) (o : RunOptions) (r : Course) (c : ℕ) → IsRun x o r → slice_get (orders_left x c r.world.history (gave r.world.history c)) 0 ≡ None → Moves x o r.world.history (ClientBy c) false r.world.history
no_order x o r c run none = no_more x o r.world.history c (run.orders c ∙ none_first _ none)

-- ---- an order fits

each_drop : {A : Type 0} (P : A → Type 0) (n : ℕ) (l : List A) → Each P l → Each P (drop n l)
each_drop P zero l f = f
each_drop P (suc n) [] f = tt
each_drop P (suc n) (a ∷ l) f = each_drop P n l f.1

abbrev IsFine : Prog → Sent → Type 0
IsFine x m = FitsOne x m.to m.order

pub orders_fit : (x : Prog) (o : RunOptions) (r : Course) (c : ℕ) → IsRun x o r → CanRun x o → Each (IsFine x) (orders_left x c r.world.history (gave r.world.history c))
orders_fit x o r c run can =
    subst (Each (IsFine x)) (run.orders c)
    (subst (Each (IsFine x)) (sym (given (heads x) c r.world.history)) (each_drop (IsFine x) (gave r.world.history c) (outside_of (heads x) c) (can.clients c)))

events_there : (x : Prog) (c k : ℕ) (os : List ClientOrder) → Each (IsFine x) (orders_from (heads x) c k os) → Each (HasEvent (heads x)) os
events_there x c k [] f = tt
events_there x c k (client.Create s m arguments ∷ os) f = (tt, events_there x c (k + 1) os f.1)
events_there x c k (client.Control control t s ∷ os) f = (tt, events_there x c k os f.1)
events_there x c k (client.Broadcast e v ∷ os) f = (f.0.1.declared, events_there x c k os f.1)

-- what a client has still to broadcast is declared
pub events_declared : (x : Prog) (o : RunOptions) (r : Course) (c n : ℕ) (d : Heads) → IsRun x o r → CanRun x o → d ≡ heads x → n ≡ gave r.world.history c → Each (HasEvent d) (drop n (orders_of d c))
events_declared x o r c n d run can same is =
    subst (λ (h : Heads). Each (HasEvent h) (drop n (orders_of h c))) (sym same)
    (subst (λ (k : ℕ). Each (HasEvent (heads x)) (drop k (orders_of (heads x) c))) (sym is)
    (events_there x c (creates c r.world.history) _ (orders_fit x o r c run can)))

-- the next order of a client, by what is at hand of it
pub order_now : (x : Prog) (h : List Entry) (c n k : ℕ) (d : Heads) → d ≡ heads x → k ≡ creates c h → n ≡ gave h c → slice_get (orders_left x c h (gave h c)) 0 ≡ slice_get (orders_at d c n k) 0
order_now x h c n k d same made is =
    sym (ap (λ (q : Heads). slice_get (orders_at q c n k) 0) same
    ∙ (ap (λ (q : ℕ). slice_get (orders_at (heads x) c n q) 0) made
    ∙ ap (λ (q : ℕ). slice_get (orders_at (heads x) c q (creates c h)) 0) is))

same_some : {A : Type 0} (b a : A) → Some b ≡ Some a → b ≡ a
same_some b a e = cc

first_is : {A : Type 0} (P : A → Type 0) (l : List A) (a : A) → Each P l → slice_get l 0 ≡ Some a → P a
first_is P [] a f e = absurd cc
first_is P (b ∷ l) a f e = subst P (same_some b a e) f.0

one_of : (x : Prog) (to : To) (q : Order) → FitsOne x to q → IsToOne (heads x) to
one_of x (Sched s) q f = f.0
one_of x (Others s) q f = f
one_of x All q f = f
one_of x Workers q f = f

pub goes_to_one : (x : Prog) (o : RunOptions) (r : Course) (c : ℕ) (m : Sent) → IsRun x o r → CanRun x o → slice_get (orders_left x c r.world.history (gave r.world.history c)) 0 ≡ Some m → IsToOne r.world.heads m.to
goes_to_one x o r c m run can first =
    subst (λ (h : Heads). IsToOne h m.to) (sym run.heads) (one_of x m.to m.order (first_is (IsFine x) _ m (orders_fit x o r c run can) first))

pub is_for_clients : (h : Heads) (c k : ℕ) (os : List ClientOrder) (m : Sent) → slice_get (orders_from h c k os) 0 ≡ Some m → IsForClients m.order
is_for_clients h c k [] m e = absurd cc
is_for_clients h c k (client.Create s q arguments ∷ os) m e = subst (λ (a : Sent). IsForClients a.order) (same_some _ m e) tt
is_for_clients h c k (client.Control control.Stop t s ∷ os) m e = subst (λ (a : Sent). IsForClients a.order) (same_some _ m e) tt
is_for_clients h c k (client.Control control.Suspend t s ∷ os) m e = subst (λ (a : Sent). IsForClients a.order) (same_some _ m e) tt
is_for_clients h c k (client.Control control.Resume t s ∷ os) m e = subst (λ (a : Sent). IsForClients a.order) (same_some _ m e) tt
is_for_clients h c k (client.Broadcast event v ∷ os) m e = subst (λ (a : Sent). IsForClients a.order) (same_some _ m e) tt

-- ---- the orders after it

abbrev next_create : Sent → ℕ → ℕ
next_create m k = if is_create m.order then k + 1 else k

after_one : (h : Heads) (c k : ℕ) (own m : Sent) (os : List ClientOrder) → Some own ≡ Some m → orders_from h c (next_create own k) os ≡ orders_from h c (next_create m k) os
after_one h c k own m os e = ap (λ (a : Sent). orders_from h c (next_create a k) os) (same_some own m e)

orders_after : (h : Heads) (c k : ℕ) (os : List ClientOrder) (m : Sent) → slice_get (orders_from h c k os) 0 ≡ Some m → drop 1 (orders_from h c k os) ≡ orders_from h c (next_create m k) (drop 1 os)
orders_after h c k [] m e = absurd cc
orders_after h c k (client.Create s q arguments ∷ os) m e = after_one h c k _ m os e
orders_after h c k (client.Control control.Stop t s ∷ os) m e = after_one h c k _ m os e
orders_after h c k (client.Control control.Suspend t s ∷ os) m e = after_one h c k _ m os e
orders_after h c k (client.Control control.Resume t s ∷ os) m e = after_one h c k _ m os e
orders_after h c k (client.Broadcast event v ∷ os) m e = after_one h c k _ m os e

-- ---- the run after an order

the_entry : (x : Prog) (o : RunOptions) (r : Course) (c : ℕ) (m : Sent) → IsRun x o r → slice_get (orders_left x c r.world.history (gave r.world.history c)) 0 ≡ Some m
    → entry_of x o r.world.history (ClientBy c) ≡ Some (Client c m)
the_entry x o r c m run first = ap (entry_of_first (Client c)) (run.orders c) ∙ by (orders_left x c r.world.history (gave r.world.history c)) first
  where
    by : (l : List Sent) → slice_get l 0 ≡ Some m → entry_of_first (Client c) l ≡ Some (Client c m)
    by [] e = absurd cc
    by (a ∷ l) e = ap (λ (b : Sent). Some (Client c b)) (same_some a m e)

pub given_by : (x : Prog) (o : RunOptions) (r : Course) (c : ℕ) (m : Sent) (w : State) → IsRun x o r → slice_get (orders_left x c r.world.history (gave r.world.history c)) 0 ≡ Some m
    → w ≡ with_entry r.world (Client c m) → Moves x o r.world.history (ClientBy c) true w.history
given_by x o r c m w run first grows =
    moved_by x o r.world.history (ClientBy c) w.history (Client c m) (the_entry x o r c m run first) (ap (λ (v : State). v.history) grows)

-- how many orders a client has given
pub gave_there : (x : Prog) (o : RunOptions) (r : Course) (k d : ℕ) → IsRun x o r → k < length (heads x).clients → slice_index_or r.given k d ≡ gave r.world.history k
gave_there x o r k d run there =
    ap (λ (l : List ℕ). slice_index_or l k d) run.given
    ∙ get_or-map-range_with_len (gave r.world.history) 0 (length (heads x).clients) k k d there (from_none k)

gave_now : (h : List Entry) (c : ℕ) (m : Sent) → gave (h ++ Client c m ∷ []) c ≡ gave h c + 1
gave_now h c m =
    gave_more c h (Client c m)
    ∙ (ap (λ (own : Bool). length (of (actor.Client c) h ++ (if own then Client c m ∷ [] else []))) (eq-eqb c c refl)
    ∙ length-append (of (actor.Client c) h) (Client c m ∷ []))

gave_else : (h : List Entry) (c : ℕ) (m : Sent) (k : ℕ) → k == c ≡ false → gave (h ++ Client c m ∷ []) k ≡ gave h k
gave_else h c m k other =
    gave_more k h (Client c m)
    ∙ (ap (λ (own : Bool). length (of (actor.Client k) h ++ (if own then Client c m ∷ [] else []))) other
    ∙ ap length (append-nil (of (actor.Client k) h)))

creates_now : (h : List Entry) (c : ℕ) (m : Sent) (k : ℕ) (own : Bool) → k == c ≡ own → creates k (h ++ Client c m ∷ []) ≡ (if own && is_create m.order then creates k h + 1 else creates k h)
creates_now h c m k own is = fold-append (creates_step k) 0 h (Client c m ∷ []) ∙ ap (λ (b : Bool). if b && is_create m.order then creates k h + 1 else creates k h) is

unsent_now : (d : Heads) (h : List Entry) (c : ℕ) (m : Sent) (k : ℕ) (own : Bool) → k == c ≡ own → unsent d k (h ++ Client c m ∷ []) ≡ (if own then drop 1 (unsent d k h) else unsent d k h)
unsent_now d h c m k own is = fold-append (unsent_step k) _ h (Client c m ∷ []) ∙ ap (λ (b : Bool). if b then drop 1 (unsent d k h) else unsent d k h) is

-- what a client has still to give is what comes after
orders_now : (x : Prog) (o : RunOptions) (r : Course) (c : ℕ) (m : Sent) → IsRun x o r → slice_get (orders_left x c r.world.history (gave r.world.history c)) 0 ≡ Some m
    → (k : ℕ) → let g = r.world.history ++ Client c m ∷ [] in unsent (heads x) k g ≡ orders_left x k g (gave g k)
orders_now x o r c m run first k = by (k == c) refl
  where
    h : List Entry
    h = r.world.history

    all : ℕ → List ClientOrder
    all j = orders_of (heads x) j

    other : k == c ≡ false → unsent (heads x) k (h ++ Client c m ∷ []) ≡ orders_left x k (h ++ Client c m ∷ []) (gave (h ++ Client c m ∷ []) k)
    other is =
        unsent_now (heads x) h c m k false is
        ∙ (run.orders k
        ∙ (ap (λ (n : ℕ). orders_from (heads x) k n (drop (gave h k) (all k))) (sym (creates_now h c m k false is))
        ∙ ap (λ (n : ℕ). orders_from (heads x) k (creates k (h ++ Client c m ∷ [])) (drop n (all k))) (sym (gave_else h c m k is))))

    own : unsent (heads x) c (h ++ Client c m ∷ []) ≡ orders_left x c (h ++ Client c m ∷ []) (gave (h ++ Client c m ∷ []) c)
    own =
        unsent_now (heads x) h c m c true (eq-eqb c c refl)
        ∙ (ap (drop 1) (run.orders c)
        ∙ (orders_after (heads x) c (creates c h) (drop (gave h c) (all c)) m first
        ∙ (ap (orders_from (heads x) c (next_create m (creates c h))) (drop-drop 1 (gave h c) (all c))
        ∙ (ap (λ (n : ℕ). orders_from (heads x) c n (drop (gave h c + 1) (all c))) (sym (creates_now h c m c true (eq-eqb c c refl)))
        ∙ ap (λ (n : ℕ). orders_from (heads x) c (creates c (h ++ Client c m ∷ [])) (drop n (all c))) (sym (gave_now h c m))))))

    by : (is : Bool) → k == c ≡ is → unsent (heads x) k (h ++ Client c m ∷ []) ≡ orders_left x k (h ++ Client c m ∷ []) (gave (h ++ Client c m ∷ []) k)
    by true is = subst (λ (j : ℕ). unsent (heads x) j (h ++ Client c m ∷ []) ≡ orders_left x j (h ++ Client c m ∷ []) (gave (h ++ Client c m ∷ []) j)) (sym (eqb-true k c is)) own
    by false is = other is

apart : (k c : ℕ) → k ≢ c → k == c ≡ false
apart k c other = by (k == c) refl
  where
    by : (is : Bool) → k == c ≡ is → k == c ≡ false
    by true e = absurd (other (eqb-true k c e))
    by false e = e

pub stands_still : (x : Prog) (o : RunOptions) (h : List Entry) (c : ℕ) (m : Sent) (j : ℕ) → stand_after x o h j ≡ stand_after x o (h ++ Client c m ∷ []) j
stands_still x o h c m j =
    same_stand_by x o h (h ++ Client c m ∷ []) j
    (log-append (scheduler j) h (Client c m ∷ []) ∙ append-nil _)
    (fold-append (instant_step (scheduler j)) false h (Client c m ∷ []))

-- the run after an order of a client
pub ordered : (x : Prog) (o : RunOptions) (r : Course) (c : ℕ) (m : Sent) (w : State) (n : ℕ) → IsRun x o r → slice_get (orders_left x c r.world.history (gave r.world.history c)) 0 ≡ Some m
    → w ≡ with_entry r.world (Client c m) → n ≡ gave r.world.history c + 1
    → IsRun x o (record { world = w; stations = r.stations; workers = r.workers; given = set r.given c n })
ordered x o r c m w n run first grows counts =
    let h = r.world.history in
    let is = the_entry x o r c m run first in
    let kept = hand_kept x o h (Client c m) (λ none. none) in
    subst (λ (v : State). IsRun x o (record { world = v; stations = r.stations; workers = r.workers; given = set r.given c n })) (sym grows)
    (record {
      heads = run.heads;
      made = grown x o h (ClientBy c) (Client c m) run.made is;
      stations = run.stations ∙ same_map (stand_after x o h) (stand_after x o (h ++ Client c m ∷ [])) 0 (length (heads x).schedulers) (λ j later. stands_still x o h c m j);
      workers = run.workers ∙ same_map (hand_after x o h) (hand_after x o (h ++ Client c m ∷ [])) 0 o.workers (λ v later. kept v);
      given = ap (λ (l : List ℕ). set l c n) run.given
          ∙ set_one (gave h) (gave (h ++ Client c m ∷ [])) (length (heads x).clients) c n (λ k other. sym (gave_else h c m k (apart k c other))) (counts ∙ sym (gave_now h c m));
      orders = orders_now x o r c m run first;
      hands = λ v. hand_is x o h (h ++ Client c m ∷ []) v (kept v) (run.hands v);
    })

pub so_many_given : (x : Prog) (o : RunOptions) (r : Course) → IsRun x o r → length r.given ≡ length (heads x).clients
so_many_given x o r run = ap length run.given ∙ length-map-range_with_len (gave r.world.history) 0 (length (heads x).clients)
