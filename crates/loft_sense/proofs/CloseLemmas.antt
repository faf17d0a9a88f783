-- Waits that aren't pending, as an instant begins: an earlier close has made them so.
use Rattle.std.proofs.Common.{◌≡◌, ◌⊎◌, inl, inr, ℕ, zero, suc, Bool, true, false, cond, List, [], ◌∷◌, ◌++◌, map, filter, length, Option, Some, None, refl, sym, ◌∙◌, ap, subst, append_assoc, append-nil, arith}
use Rattle.std.specs.Prelude.{ℤ, pos, negsuc, ◌<ℤ◌, if◌then◌else◌, not, is_some, nat_lt, All}
use Rattle.std.specs.List.{AllByRecursion}
use Rattle.std.proofs.lemmas.Int.{ints}
use Rattle.std.proofs.lemmas.List.Elements.{All-from_recursion, recursion_from_All}
use Rattle.loft_base.specs.declared.ids.SchedId.{SchedId}
use Rattle.loft_base.specs.declared.ids.ThreadId.{ThreadId}
use Rattle.loft_tree.specs.declared.heads.Heads.{Heads}
use Rattle.loft_base.specs.declared.options.Limits.{Limits}
use Rattle.loft_sense.specs.declared.limits.TheConstants.{MAX_LINKED}
use Rattle.loft_orders.specs.declared.note.Standing.{Standing}
use Rattle.loft_orders.specs.declared.order.Order.{Order}
use Rattle.loft_orders.specs.declared.order.Order.TheVariants as order
use Rattle.loft_orders.specs.declared.order.To.{To}
use Rattle.loft_orders.specs.declared.thread.Thread.{Thread}
use Rattle.loft_orders.specs.declared.thread.Wait.{Wait}
use Rattle.loft_orders.specs.declared.thread.Wait.TheVariants as wait
use Rattle.loft_sense.specs.Machine.{Prog, heads, Mach, empty}
use Rattle.loft_sense.specs.Around.{Around}
use Rattle.loft_sense.specs.CanGo.{same_thread}
use Rattle.loft_sense.specs.Run.{Outcome, Held, Left, Ended}
use Rattle.loft_sense.specs.Passes.{Runner, run_of, runners_after}
use Rattle.loft_sense.specs.Apply.{Applied, is_linked, with_last, without_first, suspend, apply_order, apply_orders, unapplied, apply}
use Rattle.loft_sense.specs.Instant.{runner_of, around_of, lowered, closed_wait, closed, stays, instant, Replayed, replay}
use Rattle.loft_sense.specs.LawWords.{instant_walk}
use Rattle.loft_sense.specs.Fits.{Fits}
use Rattle.loft_sense.specs.WaitCodes.{number_left, IsPending}
use Rattle.loft_sense.specs.CodeOrigins.{ArrivesNew, IsSetByClose}
use Rattle.loft_sense.proofs.AroundLemmas.{OutcomeIs, run_is}
use Rattle.loft_sense.proofs.RunnerLemmas.{IsKept, passes_keep, new_pending}
use Rattle.loft_sense.proofs.ReplayLemmas.{replay_on-append}

-- ---- waits

-- the close leaves a number that isn't above 0
number_done : (n : ℤ) → (pos 0 <ℤ n) ⊎ (lowered n ≡ n)
number_done (pos zero) = inr refl
number_done (pos (suc n)) = inl (omega (arith, ints))
number_done (negsuc n) = inr refl

some_above : (n m : ℤ) → pos 0 <ℤ n → Some n ≡ Some m → pos 0 <ℤ m
some_above n m h e = let same : n ≡ m = cc in subst (λ (k : ℤ). pos 0 <ℤ k) same h

-- a wait is pending, or the close leaves it as it is
pub pending_or_done : (w : Wait) → IsPending w ⊎ (closed_wait w ≡ w)
pending_or_done wait.New = inl (record { unmarked = λ e. cc; instants = λ n e. absurd cc })
pending_or_done (wait.Coop n) = by (number_done n)
  where
    by : (pos 0 <ℤ n) ⊎ (lowered n ≡ n) → IsPending (wait.Coop n) ⊎ (wait.Coop (lowered n) ≡ wait.Coop n)
    by (inl h) = inl (record { unmarked = λ e. cc; instants = λ m e. some_above n m h e })
    by (inr e) = inr (ap (λ (k : ℤ). wait.Coop k) e)
pending_or_done (wait.Events events None) = inl (record { unmarked = λ e. cc; instants = λ n e. absurd cc })
pending_or_done (wait.Events events (Some n)) = by (number_done n)
  where
    by : (pos 0 <ℤ n) ⊎ (lowered n ≡ n) → IsPending (wait.Events events (Some n)) ⊎ (wait.Events events (Some (lowered n)) ≡ wait.Events events (Some n))
    by (inl h) = inl (record { unmarked = λ e. cc; instants = λ m e. some_above n m h e })
    by (inr e) = inr (ap (λ (k : ℤ). wait.Events events (Some k)) e)
pending_or_done (wait.Index event at) = inl (record { unmarked = λ e. cc; instants = λ n e. absurd cc })
pending_or_done wait.Next = inr refl
pending_or_done (wait.Join thread None) = inl (record { unmarked = λ e. cc; instants = λ n e. absurd cc })
pending_or_done (wait.Join thread (Some n)) = by (number_done n)
  where
    by : (pos 0 <ℤ n) ⊎ (lowered n ≡ n) → IsPending (wait.Join thread (Some n)) ⊎ (wait.Join thread (Some (lowered n)) ≡ wait.Join thread (Some n))
    by (inl h) = inl (record { unmarked = λ e. cc; instants = λ m e. some_above n m h e })
    by (inr e) = inr (ap (λ (k : ℤ). wait.Join thread (Some k)) e)
pending_or_done wait.Halt = inl (record { unmarked = λ e. cc; instants = λ n e. absurd cc })

not_above : pos 0 <ℤ pos 0 → ⊥
not_above h = omega (arith, ints)

-- ---- instants

module _ (x : Prog) (limits : Limits) (s : SchedId) where
  -- its wait is pending, or a close of one of these instants has made it so
  abbrev Sound : List (List Order) → Thread → Type 0
  Sound batches t = IsPending t.wait ⊎ IsSetByClose x limits s batches t

  -- the same after one more instant
  later_set : (batches : List (List Order)) (batch : List Order) (t : Thread) → IsSetByClose x limits s batches t → IsSetByClose x limits s (batches ++ batch ∷ []) t
  later_set batches batch t f = record {
    before = f.before;
    batch = f.batch;
    after = f.after ++ batch ∷ [];
    is_earlier = ap (λ (l : List (List Order)). l ++ batch ∷ []) f.is_earlier ∙ append_assoc f.before (f.batch ∷ f.after) (batch ∷ []);
    front = f.front;
    runner = f.runner;
    rest = f.rest;
    linked = f.linked;
    is = f.is;
    goes = f.goes;
    stays = f.stays;
    pending = f.pending;
    closed = f.closed;
  }

  later_sound : (batches : List (List Order)) (batch : List Order) (t : Thread) → Sound batches t → Sound (batches ++ batch ∷ []) t
  later_sound batches batch t (inl p) = inl p
  later_sound batches batch t (inr f) = inr (later_set batches batch t f)

  -- the same wait of the same thread
  same_set : (batches : List (List Order)) (t u : Thread) → IsSetByClose x limits s batches t → t.id ≡ u.id → u.wait ≡ t.wait → IsSetByClose x limits s batches u
  same_set batches t u f id w = record {
    before = f.before;
    batch = f.batch;
    after = f.after;
    is_earlier = f.is_earlier;
    front = f.front;
    runner = f.runner;
    rest = f.rest;
    linked = f.linked;
    is = f.is ∙ id;
    goes = f.goes;
    stays = f.stays;
    pending = f.pending;
    closed = w ∙ f.closed;
  }

  -- ---- the batch

  abbrev SoundAt : List (List Order) → Standing → Type 0
  SoundAt batches q = Sound batches q.thread

  abbrev EachSound : List (List Order) → List Standing → Type 0
  EachSound batches ss = AllByRecursion (SoundAt batches) ss

  linked_new : (batches : List (List Order)) (t : Thread) (ss : List Standing) → t.wait ≡ wait.New → EachSound batches ss → EachSound batches (with_last t ss)
  linked_new batches t [] e f = (inl (new_pending t e), tt)
  linked_new batches t (q ∷ ss) e f = (f.0, linked_new batches t ss e f.1)

  unlinked_one : (batches : List (List Order)) (b : Bool) (q : Standing) (rest others : List Standing) → SoundAt batches q → EachSound batches rest → EachSound batches others → EachSound batches (if b then rest else q ∷ others)
  unlinked_one batches true q rest others f g h = g
  unlinked_one batches false q rest others f g h = (f, h)

  unlinked_sound : (batches : List (List Order)) (t : ThreadId) (ss : List Standing) → EachSound batches ss → EachSound batches (without_first t ss)
  unlinked_sound batches t [] f = tt
  unlinked_sound batches t (q ∷ ss) f = unlinked_one batches (same_thread t q.thread.id) q ss (without_first t ss) f.0 f.1 (unlinked_sound batches t ss f.1)

  suspended_one : (batches : List (List Order)) (b suspended : Bool) (q : Standing) (rest others : List Standing) → SoundAt batches q → EachSound batches rest → EachSound batches others
      → EachSound batches (if b then record q { suspended = suspended } ∷ rest else q ∷ others)
  suspended_one batches true suspended q rest others f g h = (f, g)
  suspended_one batches false suspended q rest others f g h = (f, h)

  suspended_sound : (batches : List (List Order)) (t : ThreadId) (suspended : Bool) (ss : List Standing) → EachSound batches ss → EachSound batches (suspend t suspended ss)
  suspended_sound batches t suspended [] f = tt
  suspended_sound batches t suspended (q ∷ ss) f = suspended_one batches (same_thread t q.thread.id) suspended q ss (suspend t suspended ss) f.0 f.1 (suspended_sound batches t suspended ss f.1)

  either_sound : (batches : List (List Order)) (b : Bool) (v w : Applied) → EachSound batches v.linked → EachSound batches w.linked → EachSound batches (if b then v else w).linked
  either_sound batches true v w f g = f
  either_sound batches false v w f g = g

  order_sound : (batches : List (List Order)) (h : Heads) (at : SchedId) (a : Applied) (o : Order) → ArrivesNew o → EachSound batches a.linked → EachSound batches (apply_order h at a o).linked
  order_sound batches h at a (order.Create t m args) new f = either_sound batches (nat_lt (length a.linked) MAX_LINKED) _ _ (linked_new batches _ a.linked refl f) f
  order_sound batches h at a (order.Arrive t) new f = linked_new batches t a.linked new f
  order_sound batches h at a (order.Stop t) new f = either_sound batches (is_linked t a.linked) _ _ (unlinked_sound batches t a.linked f) f
  order_sound batches h at a (order.Suspend t) new f = either_sound batches (is_linked t a.linked) _ _ (suspended_sound batches t true a.linked f) f
  order_sound batches h at a (order.Resume t) new f = either_sound batches (is_linked t a.linked) _ _ (suspended_sound batches t false a.linked f) f
  order_sound batches h at a (order.Broadcast e v) new f = f
  order_sound batches h at a (order.Ended t end) new f = f

  orders_sound : (batches : List (List Order)) (h : Heads) (at : SchedId) (a : Applied) (os : List Order) → AllByRecursion ArrivesNew os → EachSound batches a.linked → EachSound batches (apply_orders h at a os).linked
  orders_sound batches h at a [] new f = f
  orders_sound batches h at a (o ∷ os) new f = orders_sound batches h at (apply_order h at a o) os new.1 (order_sound batches h at a o new.0 f)

  -- ---- passes

  abbrev SoundRunner : List (List Order) → Runner → Type 0
  SoundRunner batches r = Sound batches r.thread

  run_sound : (batches : List (List Order)) (r : Runner) (a : Around) (out : Outcome) → OutcomeIs a out → AllByRecursion (SoundRunner batches) (runners_after r out)
  run_sound batches r a (Held t around left) p = (inl p.1, tt)
  run_sound batches r a (Left t to around left) p = (inl (new_pending t p.1), tt)
  run_sound batches r a (Ended end around left) p = tt

  runs_sound : (batches : List (List Order)) → IsKept x (SoundRunner batches)
  runs_sound batches r around f = run_sound batches r around (run_of x r.thread around r.left) (run_is x r.thread around r.left)

  begun_sound : (batches : List (List Order)) (budget : ℕ) (ss : List Standing) → EachSound batches ss → AllByRecursion (SoundRunner batches) (map (runner_of budget) ss)
  begun_sound batches budget [] f = tt
  begun_sound batches budget (q ∷ ss) f = (f.0, begun_sound batches budget ss f.1)

  -- ---- the close

  module _ (batches : List (List Order)) (batch : List Order) where
    abbrev all : List Runner
    all = (instant_walk x limits (replay x limits s batches).machine batch).runners

    closed_one : (front : List Runner) (r : Runner) (rest : List Runner) → all ≡ front ++ r ∷ rest → r.leaving ≡ None → (suspended : Bool) → r.suspended ≡ suspended
        → Sound batches r.thread → Sound (batches ++ batch ∷ []) (if suspended then r.thread else record r.thread { wait = closed_wait r.thread.wait })
    closed_one front r rest is stays true e f = later_sound batches batch r.thread f
    closed_one front r rest is stays false e f = by (pending_or_done r.thread.wait) f
      where
        by : IsPending r.thread.wait ⊎ (closed_wait r.thread.wait ≡ r.thread.wait) → Sound batches r.thread → Sound (batches ++ batch ∷ []) (record r.thread { wait = closed_wait r.thread.wait })
        by (inl p) g = inr (record {
          before = batches;
          batch = batch;
          after = [];
          is_earlier = refl;
          front = front;
          runner = r;
          rest = rest;
          linked = is;
          is = refl;
          goes = e;
          stays = stays;
          pending = p;
          closed = refl;
        })
        by (inr same) (inl p) = inl (subst IsPending (sym same) p)
        by (inr same) (inr g) = inr (later_set batches batch _ (same_set batches r.thread (record r.thread { wait = closed_wait r.thread.wait }) g refl same))

    stay_one : (front : List Runner) (r : Runner) (rest kept : List Runner) → all ≡ front ++ r ∷ rest → (leaving : Option To) → r.leaving ≡ leaving → Sound batches r.thread
        → EachSound (batches ++ batch ∷ []) (map closed kept) → EachSound (batches ++ batch ∷ []) (map closed (cond (not (is_some leaving)) (r ∷ kept) kept))
    stay_one front r rest kept is None e f g = (closed_one front r rest is e r.suspended refl f, g)
    stay_one front r rest kept is (Some to) e f g = g

    close_sound : (front rs : List Runner) → all ≡ front ++ rs → AllByRecursion (SoundRunner batches) rs → EachSound (batches ++ batch ∷ []) (map closed (filter stays rs))
    close_sound front [] is f = tt
    close_sound front (r ∷ rs) is f =
        stay_one front r rs (filter stays rs) is r.leaving refl f.0 (close_sound (front ++ r ∷ []) rs (is ∙ sym (append_assoc front (r ∷ []) rs)) f.1)

  -- ---- a replay

  abbrev machine : List (List Order) → Mach
  machine batches = (replay x limits s batches).machine

  -- as an instant begins
  begins_sound : (batches : List (List Order)) (batch : List Order) → AllByRecursion ArrivesNew batch → EachSound batches (machine batches).linked → EachSound batches (apply x (machine batches) batch).linked
  begins_sound batches batch new f = orders_sound batches (heads x) (machine batches).s (unapplied (heads x) (machine batches)) batch new f

  one_sound : (batches : List (List Order)) (batch : List Order) → AllByRecursion ArrivesNew batch → EachSound batches (machine batches).linked
      → EachSound (batches ++ batch ∷ []) (machine (batches ++ batch ∷ [])).linked
  unfolding instant
  one_sound batches batch new f =
      let m = machine batches in
      let a = apply x m batch in
      let rs = map (runner_of limits.budget) a.linked in
      let sound = passes_keep x (SoundRunner batches) (runs_sound batches) rs (begun_sound batches limits.budget a.linked (begins_sound batches batch new f)) (around_of m a) in
      subst (λ (n : Mach). EachSound (batches ++ batch ∷ []) n.linked) (sym (ap (λ (r : Replayed). r.machine) (replay_on-append x limits (record { machine = empty x s; notes = [] }) batches batch)))
      (close_sound batches batch [] (all batches batch) refl sound)

  rounds : (before after : List (List Order)) → AllByRecursion (AllByRecursion ArrivesNew) after → EachSound before (machine before).linked → EachSound (before ++ after) (machine (before ++ after)).linked
  rounds before [] new f = subst (λ (l : List (List Order)). EachSound l (machine l).linked) (sym (append-nil before)) f
  rounds before (batch ∷ after) new f =
      subst (λ (l : List (List Order)). EachSound l (machine l).linked) (append_assoc before (batch ∷ []) after) (rounds (before ++ batch ∷ []) after new.1 (one_sound before batch new.0 f))

  all_new : (batches : List (List Order)) → AllByRecursion (All ArrivesNew) batches → AllByRecursion (AllByRecursion ArrivesNew) batches
  all_new [] f = tt
  all_new (batch ∷ batches) f = (recursion_from_All ArrivesNew batch f.0, all_new batches f.1)

  -- the threads as an instant begins
  sound_at : (batches : List (List Order)) (batch : List Order) → All (All ArrivesNew) batches → All ArrivesNew batch → EachSound batches (apply x (machine batches) batch).linked
  sound_at batches batch news new =
      begins_sound batches batch (recursion_from_All ArrivesNew batch new)
      (rounds [] batches (all_new batches (recursion_from_All (All ArrivesNew) batches news)) tt)

  turned : (batches : List (List Order)) (Q : Wait → Type 0) → ((w : Wait) → IsPending w → Q w → ⊥) → (ss : List Standing) → EachSound batches ss
      → AllByRecursion (λ (q : Standing). Q q.thread.wait → IsSetByClose x limits s batches q.thread) ss
  turned batches Q never [] f = tt
  turned batches Q never (q ∷ ss) f = (by f.0, turned batches Q never ss f.1)
    where
      by : Sound batches q.thread → Q q.thread.wait → IsSetByClose x limits s batches q.thread
      by (inl p) is = absurd (never q.thread.wait p is)
      by (inr g) is = g

  pub marks_are_set : (batches : List (List Order)) (batch : List Order) → All (All ArrivesNew) batches → All ArrivesNew batch
      → All (λ (q : Standing). q.thread.wait ≡ wait.Next → IsSetByClose x limits s batches q.thread) (apply x (machine batches) batch).linked
  marks_are_set batches batch news new =
      let ss = (apply x (machine batches) batch).linked in
      All-from_recursion (λ (q : Standing). q.thread.wait ≡ wait.Next → IsSetByClose x limits s batches q.thread) ss
      (turned batches (λ (w : Wait). w ≡ wait.Next) (λ w p e. p.unmarked e) ss (sound_at batches batch news new))

  pub zeros_are_set : (batches : List (List Order)) (batch : List Order) → All (All ArrivesNew) batches → All ArrivesNew batch
      → All (λ (q : Standing). number_left q.thread.wait ≡ Some (pos 0) → IsSetByClose x limits s batches q.thread) (apply x (machine batches) batch).linked
  zeros_are_set batches batch news new =
      let ss = (apply x (machine batches) batch).linked in
      All-from_recursion (λ (q : Standing). number_left q.thread.wait ≡ Some (pos 0) → IsSetByClose x limits s batches q.thread) ss
      (turned batches (λ (w : Wait). number_left w ≡ Some (pos 0)) (λ w p e. not_above (p.instants (pos 0) e)) ss (sound_at batches batch news new))

-- an order that fits brings a thread that waits as a new one, if any
pub fits_new : (x : Prog) (s : SchedId) (o : Order) → Fits x s o → ArrivesNew o
fits_new x s (order.Create t m args) f = tt
fits_new x s (order.Arrive t) f = f.0
fits_new x s (order.Stop t) f = tt
fits_new x s (order.Suspend t) f = tt
fits_new x s (order.Resume t) f = tt
fits_new x s (order.Broadcast e v) f = tt
fits_new x s (order.Ended t end) f = tt
