-- Schedulers in a history, and how a history goes on after its choices.
use Rattle.std.proofs.Common.{◌≡◌, ℕ, Bool, true, false, List, [], ◌∷◌, ◌++◌, map, refl, sym, ◌∙◌, ap, eq-eqb, Option, Some, None, Ok, append_assoc, append-nil, length}
use Rattle.std.proofs.lemmas.List.{map-append}
use Rattle.std.proofs.lemmas.List.Folds.{fold_stays}
use Rattle.std.specs.Prelude.{◌↔◌, if◌then◌else◌, not, ◌&&◌, nat_lt, IsTrue, ◌<◌, ◌≤◌, ◌==◌, drop}
use Rattle.std.specs.Option.{option_map_or}
use Rattle.std.proofs.lemmas.Bool.{eqb-true, lt-ltb, ltb-true, ltb-false}
use Rattle.std.proofs.lemmas.Option.{slice_get_past}
use Rattle.loft_base.specs.declared.ids.SchedId.{SchedId}
use Rattle.loft_orders.specs.declared.entry.Entry.{Entry}
use Rattle.loft_orders.specs.declared.entry.Entry.TheVariants.{Take, Give, Pick, Post, Client}
use Rattle.loft_tree.specs.declared.heads.Client.{Client as ClientHead}
use Rattle.loft_tree.specs.declared.heads.Heads.{Heads}
use Rattle.loft_orders.specs.declared.order.Sent.{Sent}
use Rattle.loft_orders.specs.declared.thread.Thread.{Thread}
use Rattle.loft_orders.specs.declared.note.InstantNote.{InstantNote}
use Rattle.loft_base.specs.declared.options.RunOptions.{RunOptions}
use Rattle.loft_sense.specs.Heads.{same_scheduler}
use Rattle.loft_sense.specs.Machine.{Prog, heads}
use Rattle.loft_history.specs.Clients.{orders_from, outside_of}
use Rattle.loft_history.specs.History.{Choice, TakeBy, GiveBy, PickBy, PostBy, ClientBy, choice_of, log, is_open, jobs, unposted, unsent_step, unsent_after, unsent, has_turn, entry_of_first, pick_of, entry_of, with_entry, waiting, replayed, sent_last, hist_on, hist, HasEnded}

-- a scheduler is itself
pub same_self : (s : SchedId) → same_scheduler s s ≡ true
same_self s = eq-eqb s.0 s.0 refl

pub same_id : (a b : SchedId) → a.0 ≡ b.0 → a ≡ b
same_id a b e = ap (λ (n : ℕ). record { 0 = n }) e

pub is_same : (a b : SchedId) → same_scheduler a b ≡ true → a ≡ b
is_same a b e = same_id a b (eqb-true a.0 b.0 e)

-- the entry of an allowed choice of a Take, and of a Give
pub take_allowed : (declared was turn : Bool) (e : Entry) → declared ≡ true → was ≡ false → turn ≡ true → (if declared && not was && turn then Some e else None) ≡ Some e
take_allowed declared was turn e d w t = rw (d, w, t) refl

pub give_allowed : (declared was : Bool) (e : Entry) → declared ≡ true → was ≡ true → (if declared && was then Some e else None) ≡ Some e
give_allowed declared was e d w = rw (d, w) refl

-- a history goes on from its first choice's entry, where there is one
pub from_first : {Q : Type 0} (x : Prog) (o : RunOptions) (h : List Entry) (entry : Option Entry) (cs : List Choice) (g : List Entry) → with_entry h entry (hist_on x o cs) ≡ Ok g
    → ((e : Entry) → entry ≡ Some e → hist_on x o cs (h ++ e ∷ []) ≡ Ok g → Q) → Q
from_first x o h None cs g made on = absurd cc
from_first x o h (Some e) cs g made on = on e refl made

-- without a further choice it is the history so far
pub same_history : (x : Prog) (o : RunOptions) (h g : List Entry) → hist_on x o [] h ≡ Ok g → h ≡ g
same_history x o h g e = cc

chosen : (allowed : Bool) (a e : Entry) → (if allowed then Some a else None) ≡ Some e → a ≡ e
chosen true a e is = cc
chosen false a e is = absurd cc

-- what an allowed choice of a worker or a client says
pub on_if : {Q : Type 0} (allowed : Bool) (next : Option Entry) (e : Entry) → (if allowed then next else None) ≡ Some e → (allowed ≡ true → next ≡ Some e → Q) → Q
on_if true next e is on = on refl is
on_if false next e is on = absurd cc

pub on_first : {A Q : Type 0} (make : A → Entry) (all : List A) (e : Entry) → entry_of_first make all ≡ Some e → ((a : A) (rest : List A) → all ≡ a ∷ rest → make a ≡ e → Q) → Q
on_first make [] e is on = absurd cc
on_first make (a ∷ rest) e is on = on a rest refl cc

pub on_pick : {Q : Type 0} (w : ℕ) (left : List Sent) (waits : List Thread) (e : Entry) → pick_of w left waits ≡ Some e → (left ≡ [] → entry_of_first (Pick w) waits ≡ Some e → Q) → Q
on_pick w [] waits e is on = on refl is
on_pick w (m ∷ left) waits e is on = absurd cc

-- the entry of the first of these is made so
first_kept : {A : Type 0} (make : A → Entry) (c : Choice) → ((a : A) → choice_of (make a) ≡ c) → (all : List A) (e : Entry) → entry_of_first make all ≡ Some e → choice_of e ≡ c
first_kept make c each all e is = on_first make all e is (λ a rest first same. sym (ap choice_of same) ∙ each a)

-- a choice makes an entry of its own actor and kind
pub choice_kept : (x : Prog) (o : RunOptions) (h : List Entry) (c : Choice) (e : Entry) → entry_of x o h c ≡ Some e → choice_of e ≡ c
choice_kept x o h (TakeBy s) e is = sym (ap choice_of (chosen _ (Take s (waiting (heads x) s h)) e is))
choice_kept x o h (GiveBy s) e is = sym (ap choice_of (chosen _ (Give s (sent_last (replayed x o.limits s h).notes)) e is))
choice_kept x o h (PickBy w) e is =
    on_if (nat_lt w o.workers) (pick_of w (unposted x o w h) (jobs h)) e is (λ declared picks.
    on_pick w (unposted x o w h) (jobs h) e picks (λ free first.
    first_kept (Pick w) (PickBy w) (λ job. refl) (jobs h) e first))
choice_kept x o h (PostBy w) e is =
    on_if (nat_lt w o.workers) (entry_of_first (Post w) (unposted x o w h)) e is (λ declared first.
    first_kept (Post w) (PostBy w) (λ sent. refl) (unposted x o w h) e first)
choice_kept x o h (ClientBy c) e is = first_kept (Client c) (ClientBy c) (λ sent. refl) (unsent (heads x) c h) e is

choices_on : (x : Prog) (o : RunOptions) (cs : List Choice) (h g : List Entry) → hist_on x o cs h ≡ Ok g → map choice_of g ≡ map choice_of h ++ cs
choices_on x o [] h g made = ap (map choice_of) (sym (same_history x o h g made)) ∙ sym (append-nil (map choice_of h))
choices_on x o (c ∷ cs) h g made =
    from_first x o h (entry_of x o h c) cs g made (λ e is on.
    choices_on x o cs (h ++ e ∷ []) g on
    ∙ (ap (λ (l : List Choice). l ++ cs) (map-append choice_of h (e ∷ []))
    ∙ (append_assoc (map choice_of h) (choice_of e ∷ []) cs
    ∙ ap (λ (d : Choice). map choice_of h ++ d ∷ cs) (choice_kept x o h c e is))))

-- the choices of the history that choices make are these choices
pub choices_kept : (x : Prog) (o : RunOptions) (choices : List Choice) (h : List Entry) → hist x o choices ≡ Ok h → map choice_of h ≡ choices
choices_kept x o choices h made = choices_on x o choices [] h made

-- no Take and no Give where a scheduler has finished, and it has finished where there is neither
no_take : (declared was turn : Bool) (e : Entry) → (declared ≡ true → IsTrue (not was && not turn)) → (if declared && not was && turn then Some e else None) ≡ None
no_take false was turn e finished = refl
no_take true true turn e finished = refl
no_take true false false e finished = refl
no_take true false true e finished = absurd (let f = finished refl in cc)

no_give : (declared was turn : Bool) (e : Entry) → (declared ≡ true → IsTrue (not was && not turn)) → (if declared && was then Some e else None) ≡ None
no_give false was turn e finished = refl
no_give true false turn e finished = refl
no_give true true turn e finished = absurd (let f = finished refl in cc)

neither : (declared was turn : Bool) (a b : Entry) → declared ≡ true → (if declared && not was && turn then Some a else None) ≡ None → (if declared && was then Some b else None) ≡ None → IsTrue (not was && not turn)
neither true false false a b d take give = refl
neither true false true a b d take give = absurd cc
neither true true turn a b d take give = absurd cc
neither false was turn a b d take give = absurd cc

-- no entry where there is no first, and the other way round
no_first : {A : Type 0} (make : A → Entry) (all : List A) → all ≡ [] → entry_of_first make all ≡ None
no_first make all e = ap (entry_of_first make) e

none_left : {A : Type 0} (make : A → Entry) (all : List A) → entry_of_first make all ≡ None → all ≡ []
none_left make [] e = refl
none_left make (a ∷ all) e = absurd cc

no_pick : (w : ℕ) (left : List Sent) (waits : List Thread) → waits ≡ [] → pick_of w left waits ≡ None
no_pick w [] waits e = no_first (Pick w) waits e
no_pick w (m ∷ left) waits e = refl

none_waits : (w : ℕ) (left : List Sent) (waits : List Thread) → left ≡ [] → pick_of w left waits ≡ None → waits ≡ []
none_waits w [] waits free e = none_left (Pick w) waits e
none_waits w (m ∷ left) waits free e = absurd cc

no_choice : (allowed : Bool) (next : Option Entry) → (allowed ≡ true → next ≡ None) → (if allowed then next else None) ≡ None
no_choice true next none = none refl
no_choice false next none = refl

allowed_none : (allowed : Bool) (next : Option Entry) → allowed ≡ true → (if allowed then next else None) ≡ None → next ≡ None
allowed_none true next is e = e
allowed_none false next is e = absurd cc

-- a client that the source doesn't declare has nothing to give
unsent_stays : (c : ℕ) (e : Entry) → unsent_step c [] e ≡ []
unsent_stays c (Take s batch) = refl
unsent_stays c (Give s sent) = refl
unsent_stays c (Pick w job) = refl
unsent_stays c (Post w sent) = refl
unsent_stays c (Client d sent) = still_none (c == d)
  where
    still_none : (own : Bool) → (if own then drop {A = Sent} 1 [] else []) ≡ []
    still_none true = refl
    still_none false = refl

outside_none : (h : Heads) (c : ℕ) → length h.clients ≤ c → outside_of h c ≡ []
outside_none h c beyond = ap (λ (d : Option ClientHead). orders_from h c 0 (option_map_or (λ d. d.orders) d [])) (slice_get_past h.clients c beyond)

pub unsent_none : (h : Heads) (c : ℕ) (es : List Entry) → length h.clients ≤ c → unsent h c es ≡ []
unsent_none h c es beyond = ap (λ (left : List Sent). unsent_after c left es) (outside_none h c beyond) ∙ fold_stays (unsent_step c) [] (unsent_stays c) es

all_unsent : (h : Heads) (c : ℕ) (es : List Entry) (declared : Bool) → nat_lt c (length h.clients) ≡ declared → (c < length h.clients → unsent h c es ≡ []) → unsent h c es ≡ []
all_unsent h c es true e given = given (ltb-true c (length h.clients) e)
all_unsent h c es false e given = unsent_none h c es (ltb-false c (length h.clients) e)

ended_choice : (x : Prog) (o : RunOptions) (h : List Entry) → HasEnded x o h → (c : Choice) → entry_of x o h c ≡ None
ended_choice x o h ended (TakeBy s) =
    no_take (nat_lt s.0 (length (heads x).schedulers)) (is_open s h) (has_turn x o.limits (replayed x o.limits s h).machine (waiting (heads x) s h)) _ (λ d. ended.schedulers s (ltb-true s.0 _ d))
ended_choice x o h ended (GiveBy s) =
    no_give (nat_lt s.0 (length (heads x).schedulers)) (is_open s h) (has_turn x o.limits (replayed x o.limits s h).machine (waiting (heads x) s h)) _ (λ d. ended.schedulers s (ltb-true s.0 _ d))
ended_choice x o h ended (PickBy w) = no_choice (nat_lt w o.workers) _ (λ d. no_pick w (unposted x o w h) (jobs h) ended.no_jobs)
ended_choice x o h ended (PostBy w) = no_choice (nat_lt w o.workers) _ (λ d. no_first (Post w) (unposted x o w h) (ended.workers w (ltb-true w _ d)))
ended_choice x o h ended (ClientBy c) = no_first (Client c) (unsent (heads x) c h) (all_unsent (heads x) c h (nat_lt c (length (heads x).clients)) refl (ended.clients c))

without_choice : (x : Prog) (o : RunOptions) (h : List Entry) → 0 < o.workers → ((c : Choice) → entry_of x o h c ≡ None) → HasEnded x o h
without_choice x o h some none =
    let free : (w : ℕ) → w < o.workers → unposted x o w h ≡ [] =
    λ w declared. none_left (Post w) (unposted x o w h) (allowed_none (nat_lt w o.workers) _ (lt-ltb w _ declared) (none (PostBy w))) in
    record {
      clients = λ c declared. none_left (Client c) (unsent (heads x) c h) (none (ClientBy c));
      no_jobs = none_waits 0 (unposted x o 0 h) (jobs h) (free 0 some) (allowed_none (nat_lt 0 o.workers) _ (lt-ltb 0 _ some) (none (PickBy 0)));
      workers = free;
      schedulers =
          λ s declared. neither (nat_lt s.0 (length (heads x).schedulers)) (is_open s h) (has_turn x o.limits (replayed x o.limits s h).machine (waiting (heads x) s h))
          (Take s (waiting (heads x) s h)) (Give s (sent_last (replayed x o.limits s h).notes)) (lt-ltb s.0 _ declared) (none (TakeBy s)) (none (GiveBy s));
    }

-- a history has ended exactly where no choice is allowed
pub ended_exactly : (x : Prog) (o : RunOptions) (h : List Entry) → 0 < o.workers → HasEnded x o h ↔ ((c : Choice) → entry_of x o h c ≡ None)
ended_exactly x o h some = (ended_choice x o h, without_choice x o h some)

-- ---- further entries

-- a list that goes on, with this in front where it is so
more_if : {A : Type 0} (b : Bool) (x : A) (zs xs ys : List A) → zs ≡ xs ++ ys → (if b then x ∷ zs else zs) ≡ (if b then x ∷ xs else xs) ++ ys
more_if {A = A} true x zs xs ys e = ap (λ (l : List A). x ∷ l) e
more_if false x zs xs ys e = e

pub log-append : (s : SchedId) (xs ys : List Entry) → log s (xs ++ ys) ≡ log s xs ++ log s ys
log-append s [] ys = refl
log-append s (Take q batch ∷ xs) ys = more_if (same_scheduler s q) batch (log s (xs ++ ys)) (log s xs) (log s ys) (log-append s xs ys)
log-append s (Give q sent ∷ xs) ys = log-append s xs ys
log-append s (Pick w job ∷ xs) ys = log-append s xs ys
log-append s (Post w sent ∷ xs) ys = log-append s xs ys
log-append s (Client c sent ∷ xs) ys = log-append s xs ys

-- ---- further batches and notes

pub sent_last-append : (ns : List InstantNote) (n : InstantNote) → sent_last (ns ++ n ∷ []) ≡ n.sent
sent_last-append [] n = refl
sent_last-append (m ∷ []) n = refl
sent_last-append (m ∷ k ∷ ns) n = sent_last-append (k ∷ ns) n
