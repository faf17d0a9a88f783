-- One entry more: the history stays routed, and what lies beside it is what the longer history makes of it.
use Rattle.std.proofs.Common.{◌≡◌, ℕ, ◌+◌, ◌<◌, ◌≤◌, ◌==◌, suc, Bool, true, false, ◌&&◌, List, [], ◌∷◌, ◌++◌, drop, length, set, get_or, refl, sym, ap, ◌∙◌, subst, arith, Result, Ok, Err, eq-eqb, ne_eqb, length-set, get_or-set_same, get_or-set_other, zero-add, take}
use Rattle.std.proofs.lemmas.List.{take_at, set-set, set-get_or}
use Prim.Native.Nat.{zero}
use Rattle.std.specs.Prelude.{if◌then◌else◌, OnOk, OnErr, slice_index_or}
use Rattle.std.specs.List.{All}
use Rattle.std.proofs.lemmas.Bool.{cases_eq}
use Rattle.std.proofs.lemmas.List.Sums.{fold_push}
use mathlib.Core.Logic.{◌⊎◌, inl, inr}
use Rattle.loft_base.specs.declared.ids.SchedId.{SchedId}
use Rattle.loft_tree.specs.declared.heads.Heads.{Heads}
use Rattle.loft_tree.specs.NamedFits.{IsScheduler}
use Rattle.loft_orders.specs.declared.entry.Entry.{Entry}
use Rattle.loft_orders.specs.declared.entry.Entry.TheVariants.{Take, Give, Pick, Post, Client}
use Rattle.loft_orders.specs.declared.order.Order.{Order}
use Rattle.loft_orders.specs.declared.order.Sent.{Sent}
use Rattle.loft_orders.specs.declared.thread.Thread.{Thread}
use Rattle.loft_sense.specs.Heads.{scheduler}
use Rattle.loft_history.specs.History.{sends, orders_to, starts_of, waiting_after, waiting, jobs_sent, jobs_after, jobs, is_create, creates_after, creates, creates_step, jobs_step, waiting_step}
use Rattle.loft_history.specs.Legal.{AtEach, TakesDue, IsFirst}
use Rattle.loft_world.specs.State.{each_with, IsWorld, IsSending, IsQuiet}

-- ---- entries in order

same_head : {a b : Entry} {xs ys : List Entry} → a ∷ xs ≡ b ∷ ys → a ≡ b
same_head e = cc

same_rest : {a b : Entry} {xs ys : List Entry} → a ∷ xs ≡ b ∷ ys → xs ≡ ys
same_rest e = cc

none_inside : {Q : Type 0} (before : List Entry) (e : Entry) (after : List Entry) → [] ≡ before ++ e ∷ after → Q
none_inside [] e after q = absurd (cc)
none_inside (b ∷ before) e after q = absurd (cc)

-- what holds at each entry holds so with one entry more, where it holds at that
at_each-append : (P : List Entry → Entry → Type 0) (es : List Entry) (e : Entry) → AtEach P es → P es e → AtEach P (es ++ e ∷ [])
at_each-append P [] e each now [] f after q = subst (P []) (same_head q) now
at_each-append P [] e each now (b ∷ before) f after q = none_inside before f after (same_rest q)
at_each-append P (d ∷ es) e each now [] f after q = subst (P []) (same_head q) (each [] d es refl)
at_each-append P (d ∷ es) e each now (b ∷ before) f after q =
    subst (λ (c : Entry). P (c ∷ before) f) (same_head q)
    (at_each-append (λ (l : List Entry). P (d ∷ l)) es e (λ l g k r. each (d ∷ l) g k (ap (λ (m : List Entry). d ∷ m) r)) now before f after (same_rest q))

-- ---- one entry more

one_or_none : (b : Bool) (n : ℕ) → (if b then n + 1 else n) ≤ n + 1
one_or_none true n = omega arith
one_or_none false n = omega arith

creates_few : (c before : ℕ) (es : List Entry) → creates_after c before es ≤ before + length es
creates_few c before [] = omega arith
creates_few c before (Take s batch ∷ es) = omega (arith, creates_few c before es)
creates_few c before (Give s sent ∷ es) = omega (arith, creates_few c before es)
creates_few c before (Pick w job ∷ es) = omega (arith, creates_few c before es)
creates_few c before (Post w sent ∷ es) = omega (arith, creates_few c before es)
creates_few c before (Client d sent ∷ es) =
    omega (arith, creates_few c (if c == d && is_create sent.order then before + 1 else before) es, one_or_none (c == d && is_create sent.order) before)

-- a client has given no more creates than there are entries
pub creates_within : (c : ℕ) (es : List Entry) → creates c es ≤ length es
creates_within c es = omega (arith, creates_few c 0 es)

-- ---- lists by scheduler

length-each_with : (k : ℕ) (sent : List Sent) (waits : List (List Order)) → length (each_with k sent waits) ≡ length waits
length-each_with k sent [] = refl
length-each_with k sent (orders ∷ waits) = ap (λ n. suc n) (length-each_with (k + 1) sent waits)

each_with-at : (k : ℕ) (sent : List Sent) (waits : List (List Order)) (i : ℕ) (d : List Order) → i < length waits
    → get_or (each_with k sent waits) i d ≡ get_or waits i d ++ orders_to (scheduler (k + i)) sent
each_with-at k sent [] i d within = absurd (omega arith)
each_with-at k sent (orders ∷ waits) zero d within = ap (λ n. orders ++ orders_to (scheduler n) sent) (let e : k ≡ k + 0 = omega arith in e)
each_with-at k sent (orders ∷ waits) (suc i) d within =
    each_with-at (k + 1) sent waits i d (omega arith) ∙ ap (λ n. get_or waits i d ++ orders_to (scheduler n) sent) (let e : k + 1 + i ≡ k + suc i = omega arith in e)

-- what was added to one scheduler's orders is taken away again
pub back_again : (at : ℕ) (waits lists : List (List Order)) (orders more found less : List Order) (sent : List Sent) → at < length waits
    → orders ≡ get_or waits at orders → more ≡ orders ++ orders_to (scheduler at) sent → lists ≡ set waits at more → found ≡ get_or lists at found → less ≡ take (length orders) found
    → set lists at less ≡ waits
back_again at waits lists orders more found less sent within is made are found_is cut =
    let same : found ≡ more = found_is ∙ (ap (λ (l : List (List Order)). get_or l at found) are ∙ get_or-set_same waits at more found within) in
    let back : less ≡ orders = cut ∙ (ap (take (length orders)) (same ∙ made) ∙ take_at orders (orders_to (scheduler at) sent) (length orders) refl) in
    ap (λ (l : List (List Order)). set l at less) are ∙ (set-set waits at more less ∙ (ap (set waits at) (back ∙ is) ∙ set-get_or waits at orders))

-- ---- entries that send

-- an entry that only sends: it takes no batch and no job
abbrev pub OnlySends : Entry → Type 0
OnlySends (Take s batch) = ⊥
OnlySends (Give s sent) = Unit {0}
OnlySends (Pick w job) = ⊥
OnlySends (Post w sent) = Unit {0}
OnlySends (Client c sent) = Unit {0}

adds_orders : (s : SchedId) (before : List Order) (e : Entry) → OnlySends e → before ++ orders_to s (sends e) ≡ waiting_after s before (e ∷ [])
adds_orders s before (Take q batch) no_take = absurd no_take
adds_orders s before (Give q sent) only = refl
adds_orders s before (Pick w job) no_pick = absurd no_pick
adds_orders s before (Post w sent) only = refl
adds_orders s before (Client c sent) only = refl

adds_jobs : (before : List Thread) (e : Entry) → OnlySends e → before ++ jobs_sent (sends e) ≡ jobs_after before (e ∷ [])
adds_jobs before (Take q batch) no_take = absurd no_take
adds_jobs before (Give q sent) only = refl
adds_jobs before (Pick w job) no_pick = absurd no_pick
adds_jobs before (Post w sent) only = refl
adds_jobs before (Client c sent) only = refl

-- an entry of a scheduler or a worker gives no create of a client
pub no_creates : (c n : ℕ) (e : Entry) → IsSending e → n ≡ creates_after c n (e ∷ [])
no_creates c n (Take q batch) no_take = absurd no_take
no_creates c n (Give q sent) only = refl
no_creates c n (Pick w job) no_pick = absurd no_pick
no_creates c n (Post w sent) only = refl
no_creates c n (Client d sent) no_client = absurd no_client

pub only_sends : (e : Entry) → IsSending e → OnlySends e
only_sends (Take q batch) no_take = no_take
only_sends (Give q sent) only = tt
only_sends (Pick w job) no_pick = no_pick
only_sends (Post w sent) only = tt
only_sends (Client c sent) no_client = tt

takes_nothing : (h : Heads) (es : List Entry) (e : Entry) → OnlySends e → TakesDue h es e
takes_nothing h es (Take q batch) no_take = absurd no_take
takes_nothing h es (Give q sent) only = tt
takes_nothing h es (Pick w job) no_pick = absurd no_pick
takes_nothing h es (Post w sent) only = tt
takes_nothing h es (Client c sent) only = tt

pub sending : (h : Heads) (es : List Entry) (waits : List (List Order)) (threads : List Thread) (count counted : ℕ → ℕ) (e : Entry) (sent : List Sent)
    → IsWorld h es waits threads count → OnlySends e → sends e ≡ sent → ((c : ℕ) → counted c ≡ creates_after c (count c) (e ∷ []))
    → IsWorld h (es ++ e ∷ []) (each_with 0 sent waits) (threads ++ jobs_sent sent) counted
sending h es waits threads count counted e sent w only what counts = record {
  routed = at_each-append (TakesDue h) es e w.routed (takes_nothing h es e only);
  orders = record {
    many = length-each_with 0 sent waits ∙ w.orders.many;
    each = λ k d within.
        each_with-at 0 sent waits k d (omega (arith, w.orders.many))
        ∙ ap (λ n. get_or waits k d ++ orders_to (scheduler n) sent) (zero-add k)
        ∙ ap (λ (l : List Order). l ++ orders_to (scheduler k) sent) (w.orders.each k d within)
        ∙ ap (λ (m : List Sent). waiting h (scheduler k) es ++ orders_to (scheduler k) m) (sym what)
        ∙ adds_orders (scheduler k) (waiting h (scheduler k) es) e only
        ∙ sym (fold_push (waiting_step (scheduler k)) (starts_of h (scheduler k)) es e);
  };
  unlinked =
      ap (λ (l : List Thread). l ++ jobs_sent sent) w.unlinked
      ∙ ap (λ (m : List Sent). jobs es ++ jobs_sent m) (sym what)
      ∙ adds_jobs (jobs es) e only
      ∙ sym (fold_push jobs_step [] es e);
  clients = λ c. counts c ∙ ap (λ n. creates_after c n (e ∷ [])) (w.clients c) ∙ sym (fold_push (creates_step c) 0 es e);
}

-- ---- entries that take

taken_here : (n : ℕ) (a b : List Order) → (if n == n then a else b) ≡ a
taken_here n a b = ap (λ (t : Bool). if t then a else b) (eq-eqb n n refl)

taken_there : (n m : ℕ) (a b : List Order) → (n ≡ m → ⊥) → (if n == m then a else b) ≡ b
taken_there n m a b apart = ap (λ (t : Bool). if t then a else b) (ne_eqb n m apart)

pub taking : (h : Heads) (es : List Entry) (waits : List (List Order)) (threads : List Thread) (count : ℕ → ℕ) (s : SchedId) (batch : List Order)
    → IsWorld h es waits threads count → s.0 < length h.schedulers → batch ≡ waiting h s es
    → IsWorld h (es ++ Take s batch ∷ []) (set waits s.0 []) threads count
taking h es waits threads count s batch w declared due = record {
  routed = at_each-append (TakesDue h) es (Take s batch) w.routed due;
  orders = record {
    many = length-set waits s.0 [] ∙ w.orders.many;
    each = λ k d within. by k d within (cases_eq k s.0);
  };
  unlinked = w.unlinked ∙ sym (fold_push jobs_step [] es (Take s batch));
  clients = λ c. w.clients c ∙ sym (fold_push (creates_step c) 0 es (Take s batch));
}
  where
    by : (k : ℕ) (d : List Order) → k < length h.schedulers → (k ≡ s.0) ⊎ (k ≡ s.0 → ⊥) → get_or (set waits s.0 []) k d ≡ waiting h (scheduler k) (es ++ Take s batch ∷ [])
    by k d within (inl same) =
        ap (λ n. get_or (set waits s.0 []) n d) same
        ∙ get_or-set_same waits s.0 [] d (omega (arith, w.orders.many))
        ∙ sym (fold_push (waiting_step (scheduler k)) (starts_of h (scheduler k)) es (Take s batch)
        ∙ ap (λ n. if n == s.0 then [] else waiting h (scheduler k) es) same ∙ taken_here s.0 [] (waiting h (scheduler k) es))
    by k d within (inr apart) =
        get_or-set_other waits s.0 k [] d apart
        ∙ w.orders.each k d within
        ∙ sym (fold_push (waiting_step (scheduler k)) (starts_of h (scheduler k)) es (Take s batch) ∙ taken_there k s.0 [] (waiting h (scheduler k) es) apart)

-- the first element and the rest of a list that has one
pub first_and_rest : (first : Thread) (all rest : List Thread) → 0 < length all → first ≡ get_or all 0 first → rest ≡ drop 1 all → all ≡ first ∷ rest
first_and_rest first [] rest some e f = absurd (omega arith)
first_and_rest first (x ∷ xs) rest some e f = cc

first_of_jobs : (job : Thread) (rest all : List Thread) → job ∷ rest ≡ all → IsFirst job all
first_of_jobs job rest [] e = absurd (cc)
first_of_jobs job rest (t ∷ all) e = cc

pub picking : (h : Heads) (es : List Entry) (waits : List (List Order)) (threads rest : List Thread) (count : ℕ → ℕ) (n : ℕ) (job : Thread)
    → IsWorld h es waits threads count → threads ≡ job ∷ rest
    → IsWorld h (es ++ Pick n job ∷ []) waits rest count
picking h es waits threads rest count n job w first =
    let all : job ∷ rest ≡ jobs es = sym first ∙ w.unlinked in
    record {
      routed = at_each-append (TakesDue h) es (Pick n job) w.routed (first_of_jobs job rest (jobs es) all);
      orders = record {
        many = w.orders.many;
        each = λ k d within. w.orders.each k d within ∙ sym (fold_push (waiting_step (scheduler k)) (starts_of h (scheduler k)) es (Pick n job));
      };
      unlinked = ap (drop 1) all ∙ sym (fold_push jobs_step [] es (Pick n job));
      clients = λ c. w.clients c ∙ sym (fold_push (creates_step c) 0 es (Pick n job));
    }

-- what a world keeps, along equations of its parts
same_world : (h : Heads) (es fs : List Entry) (waits lists : List (List Order)) (threads jobs_now : List Thread) (count : ℕ → ℕ)
    → fs ≡ es → lists ≡ waits → jobs_now ≡ threads → IsWorld h es waits threads count → IsWorld h fs lists jobs_now count
same_world h es fs waits lists threads jobs_now count e f g w =
    subst (λ (l : List Entry). IsWorld h l lists jobs_now count) (sym e)
    (subst (λ (l : List (List Order)). IsWorld h es l jobs_now count) (sym f)
    (subst (λ (l : List Thread). IsWorld h es waits l count) (sym g) w))

-- an entry is added with what it sends, or nothing is
pub added : {E : Type 0} (h : Heads) (es fs : List Entry) (waits lists : List (List Order)) (threads jobs_now : List Thread) (count counted : ℕ → ℕ) (e : Entry) (sent : List Sent)
    (result : Result (Unit {0}) E)
    → IsWorld h es waits threads count → OnlySends e → sends e ≡ sent → ((c : ℕ) → counted c ≡ creates_after c (count c) (e ∷ []))
    → IsWorld h es waits threads counted
    → OnOk result (fs ≡ es ++ e ∷ []) → OnOk result (lists ≡ each_with 0 sent waits) → OnOk result (jobs_now ≡ threads ++ jobs_sent sent)
    → OnErr result (fs ≡ es) → OnErr result (lists ≡ waits) → OnErr result (jobs_now ≡ threads)
    → IsWorld h fs lists jobs_now counted
added h es fs waits lists threads jobs_now count counted e sent (Ok done) w only what counts same a b g x y z =
    same_world h (es ++ e ∷ []) fs (each_with 0 sent waits) lists (threads ++ jobs_sent sent) jobs_now counted a b g
    (sending h es waits threads count counted e sent w only what counts)
added h es fs waits lists threads jobs_now count counted e sent (Err failed) w only what counts same a b g x y z =
    same_world h es fs waits lists threads jobs_now counted x y z same

-- ---- creates of clients

-- the count after an order of a client, where one more is counted if it is a create
pub one_counted : (d c : ℕ) (sent : Sent) (before first last : ℕ) (one : Bool) → first ≡ before → one ≡ is_create sent.order → last ≡ (if (d == c) && one then first + 1 else first)
    → last ≡ creates_after d before (Client c sent ∷ [])
one_counted d c sent before first last one same create counted = counted ∙ rw (same, create) refl

-- a client's entry is added
pub client_added : (h : Heads) (es fs : List Entry) (waits lists : List (List Order)) (threads jobs_now : List Thread) (count counted : ℕ → ℕ) (c : ℕ) (copy sent : Sent)
    → IsWorld h es waits threads count → copy ≡ sent → ((d : ℕ) → counted d ≡ creates_after d (count d) (Client c sent ∷ []))
    → fs ≡ es ++ Client c copy ∷ [] → lists ≡ each_with 0 (sent ∷ []) waits → jobs_now ≡ threads ++ jobs_sent (sent ∷ [])
    → IsWorld h fs lists jobs_now counted
client_added h es fs waits lists threads jobs_now count counted c copy sent w is counts a b g =
    same_world h (es ++ Client c sent ∷ []) fs (each_with 0 (sent ∷ []) waits) lists (threads ++ jobs_sent (sent ∷ [])) jobs_now counted
    (a ∙ ap (λ (m : Sent). es ++ Client c m ∷ []) is) b g
    (sending h es waits threads count counted (Client c sent) (sent ∷ []) w tt refl counts)

-- ---- what waits

none_there : {A : Type 0} (xs : List A) → length xs ≡ 0 → xs ≡ []
none_there [] none = refl
none_there (x ∷ xs) none = absurd (omega (arith, none))

-- nothing waits where no list has an element
pub quiet : (h : Heads) (es : List Entry) (waits : List (List Order)) (threads : List Thread) (count : ℕ → ℕ) → IsWorld h es waits threads count
    → length (jobs es) ≡ 0 → All (λ (orders : List Order). length orders ≡ 0) waits → IsQuiet h es
quiet h es waits threads count world none empty = record { no_jobs = none_there (jobs es) none; no_orders = orders }
  where
    orders : (s : SchedId) → IsScheduler h s → waiting h s es ≡ []
    orders s lt =
        let within : s.0 < length waits = omega (arith, lt, world.orders.many) in
        sym (world.orders.each s.0 [] lt) ∙ none_there (slice_index_or waits s.0 []) (empty s.0 [] within)
