-- The threads as an instant closes, by position.
use Rattle.std.proofs.Common.{◌≡◌, ℕ, zero, suc, ◌<◌, Bool, true, false, List, [], ◌∷◌, ◌++◌, refl, sym, ◌∙◌, ap, arith, Some, None, set, map, append_assoc}
use Rattle.std.specs.Prelude.{not, ◌&&◌, filter, if◌then◌else◌, slice_get, nat_lt}
use Rattle.std.specs.List.{flat_map}
use Rattle.std.proofs.lemmas.List.{map-append}
use Rattle.std.proofs.lemmas.List.Concat.{flat_map-cons}
use Rattle.loft_orders.specs.declared.note.Standing.{Standing}
use Rattle.loft_orders.specs.declared.order.Sent.{Sent}
use Rattle.loft_orders.specs.declared.order.Stop.{Stop}
use Rattle.loft_orders.specs.declared.order.Stop.TheVariants.{Holds, Leaves, Ends}
use Rattle.loft_orders.specs.declared.thread.Thread.{Thread}
use Rattle.loft_sense.specs.Instant.{closed_wait, closed, closed_thread, stays, has_run, leaver, leavers}
use Rattle.loft_sense.specs.Passes.{Runner as Linked}
use Rattle.loft_passes.specs.declared.runner.Runner.{Runner}
use Rattle.loft_passes.specs.View.{runner_to, linked_after, linked_of, runners_of, standing_of, is_held}
use Rattle.loft_line.specs.Line.{standing_if, stands_if, leaves_if, closing}

-- ---- what a position leaves, for all positions

filter_append : {A : Type 0} (p : A → Bool) (xs ys : List A) → filter p (xs ++ ys) ≡ filter p xs ++ filter p ys
filter_append p [] ys = refl
filter_append p (x ∷ xs) ys = one (p x) (filter_append p xs ys)
  where
    one : (b : Bool) → filter p (xs ++ ys) ≡ filter p xs ++ filter p ys → (if b then x ∷ filter p (xs ++ ys) else filter p (xs ++ ys)) ≡ (if b then x ∷ filter p xs else filter p xs) ++ filter p ys
    one true e = ap (λ (l : List _). x ∷ l) e
    one false e = e

pub all_closed : (rs : List Runner) → flat_map (λ r. map closed (filter stays (linked_of r))) rs ≡ map closed (filter stays (runners_of rs))
all_closed [] = refl
all_closed (r ∷ rs) =
    flat_map-cons (λ r. map closed (filter stays (linked_of r))) r rs
    ∙ ap (λ (l : List Standing). map closed (filter stays (linked_of r)) ++ l) (all_closed rs)
    ∙ sym (map-append closed (filter stays (linked_of r)) (filter stays (runners_of rs)))
    ∙ ap (map closed) (sym (filter_append stays (linked_of r) (runners_of rs)))
    ∙ ap (λ (l : List Linked). map closed (filter stays l)) (sym (flat_map-cons linked_of r rs))

pub all_stand : (rs : List Runner) → flat_map (λ r. map closed_thread (filter has_run (filter stays (linked_of r)))) rs ≡ map closed_thread (filter has_run (filter stays (runners_of rs)))
all_stand [] = refl
all_stand (r ∷ rs) =
    flat_map-cons (λ r. map closed_thread (filter has_run (filter stays (linked_of r)))) r rs
    ∙ ap (λ (l : List Thread). map closed_thread (filter has_run (filter stays (linked_of r))) ++ l) (all_stand rs)
    ∙ sym (map-append closed_thread (filter has_run (filter stays (linked_of r))) (filter has_run (filter stays (runners_of rs))))
    ∙ ap (map closed_thread) (sym (filter_append has_run (filter stays (linked_of r)) (filter stays (runners_of rs))))
    ∙ ap (λ (l : List Linked). map closed_thread (filter has_run l)) (sym (filter_append stays (linked_of r) (runners_of rs)))
    ∙ ap (λ (l : List Linked). map closed_thread (filter has_run (filter stays l))) (sym (flat_map-cons linked_of r rs))

leavers_append : (xs ys : List Linked) → leavers (xs ++ ys) ≡ leavers xs ++ leavers ys
leavers_append [] ys = refl
leavers_append (x ∷ xs) ys =
    flat_map-cons leaver_of x (xs ++ ys)
    ∙ ap (λ (l : List Sent). leaver_of x ++ l) (leavers_append xs ys)
    ∙ sym (append_assoc (leaver_of x) (leavers xs) (leavers ys))
    ∙ ap (λ (l : List Sent). l ++ leavers ys) (sym (flat_map-cons leaver_of x xs))
  where
    leaver_of : Linked → List Sent
    leaver_of r = Rattle.loft_sense.specs.Instant.leaver r.thread r.leaving

pub all_leave : (rs : List Runner) → flat_map leaves_if rs ≡ leavers (runners_of rs)
all_leave [] = refl
all_leave (r ∷ rs) =
    flat_map-cons leaves_if r rs
    ∙ ap (λ (l : List Sent). leaves_if r ++ l) (all_leave rs)
    ∙ sym (leavers_append (linked_of r) (runners_of rs))
    ∙ ap leavers (sym (flat_map-cons linked_of r rs))

-- ---- one thread whose wait closes

abbrev pub with_closed : Runner → Runner
with_closed r = record r { thread = record r.thread { wait = closed_wait r.thread.wait } }

pub closes_if : (r : Runner) (c : Bool) → (is_held r.stop && not r.suspended) ≡ c → closing r ≡ (if c then with_closed r else r)
closes_if r c h = ap (λ (b : Bool). if b then with_closed r else r) h

held_awake : (r : Runner) → r.stop ≡ Holds → r.suspended ≡ false → (is_held r.stop && not r.suspended) ≡ true
held_awake r s u = ap (λ (x : Stop). is_held x && not r.suspended) s ∙ ap not u

held_asleep : (r : Runner) → r.stop ≡ Holds → r.suspended ≡ true → (is_held r.stop && not r.suspended) ≡ false
held_asleep r s u = ap (λ (x : Stop). is_held x && not r.suspended) s ∙ ap not u

gone_if : (r : Runner) → is_held r.stop ≡ false → (is_held r.stop && not r.suspended) ≡ false
gone_if r s = ap (λ (b : Bool). b && not r.suspended) s

pub closing_standing : (r : Runner) → standing_if (closing r) ≡ map closed (filter stays (linked_of r))
closing_standing r = by r.stop r.suspended refl refl
  where
    by : (stop : Stop) (suspended : Bool) → r.stop ≡ stop → r.suspended ≡ suspended → standing_if (closing r) ≡ map closed (filter stays (linked_of r))
    by Holds false s u =
        ap standing_if (closes_if r true (held_awake r s u))
        ∙ ap (λ (x : Stop). if is_held x then standing_of (with_closed r) ∷ [] else []) s
        ∙ ap (λ (b : Bool). (record { thread = if b then r.thread else (with_closed r).thread; suspended = r.suspended }) ∷ []) (sym u)
        ∙ ap (λ (x : Stop). map closed (filter stays (linked_after x r))) (sym s)
    by Holds true s u =
        ap standing_if (closes_if r false (held_asleep r s u))
        ∙ ap (λ (x : Stop). if is_held x then standing_of r ∷ [] else []) s
        ∙ ap (λ (b : Bool). (record { thread = if b then r.thread else (with_closed r).thread; suspended = r.suspended }) ∷ []) (sym u)
        ∙ ap (λ (x : Stop). map closed (filter stays (linked_after x r))) (sym s)
    by (Leaves to) suspended s u =
        ap standing_if (closes_if r false (gone_if r (ap is_held s)))
        ∙ ap (λ (x : Stop). if is_held x then standing_of r ∷ [] else []) s
        ∙ ap (λ (x : Stop). map closed (filter stays (linked_after x r))) (sym s)
    by (Ends end) suspended s u =
        ap standing_if (closes_if r false (gone_if r (ap is_held s)))
        ∙ ap (λ (x : Stop). if is_held x then standing_of r ∷ [] else []) s
        ∙ ap (λ (x : Stop). map closed (filter stays (linked_after x r))) (sym s)

one_kept : (b : Bool) (x y : Linked) → x.thread ≡ closed_thread y → map (λ (q : Linked). q.thread) (if b then x ∷ [] else []) ≡ map closed_thread (if b then y ∷ [] else [])
one_kept true x y h = ap (λ (t : Thread). t ∷ []) h
one_kept false x y h = refl

stands_as : (x : Stop) (r : Runner) → List Thread
stands_as x r = map (λ (q : Linked). q.thread) (filter has_run (filter stays (linked_after x r)))

pub closing_stands : (r : Runner) → stands_if (closing r) ≡ map closed_thread (filter has_run (filter stays (linked_of r)))
closing_stands r = by r.stop r.suspended refl refl
  where
    by : (stop : Stop) (suspended : Bool) → r.stop ≡ stop → r.suspended ≡ suspended → stands_if (closing r) ≡ map closed_thread (filter has_run (filter stays (linked_of r)))
    by Holds false s u =
        ap stands_if (closes_if r true (held_awake r s u))
        ∙ ap (λ (x : Stop). map (λ (q : Linked). q.thread) (filter has_run (filter stays (linked_after x (with_closed r))))) s
        ∙ one_kept (nat_lt 0 r.runs) (runner_to None (with_closed r)) (runner_to None r) (ap (λ (b : Bool). if b then r.thread else (with_closed r).thread) (sym u))
        ∙ ap (λ (x : Stop). map closed_thread (filter has_run (filter stays (linked_after x r)))) (sym s)
    by Holds true s u =
        ap stands_if (closes_if r false (held_asleep r s u))
        ∙ ap (λ (x : Stop). map (λ (q : Linked). q.thread) (filter has_run (filter stays (linked_after x r)))) s
        ∙ one_kept (nat_lt 0 r.runs) (runner_to None r) (runner_to None r) (ap (λ (b : Bool). if b then r.thread else (with_closed r).thread) (sym u))
        ∙ ap (λ (x : Stop). map closed_thread (filter has_run (filter stays (linked_after x r)))) (sym s)
    by (Leaves to) suspended s u =
        ap stands_if (closes_if r false (gone_if r (ap is_held s)))
        ∙ ap (λ (x : Stop). map (λ (q : Linked). q.thread) (filter has_run (filter stays (linked_after x r)))) s
        ∙ ap (λ (x : Stop). map closed_thread (filter has_run (filter stays (linked_after x r)))) (sym s)
    by (Ends end) suspended s u =
        ap stands_if (closes_if r false (gone_if r (ap is_held s)))
        ∙ ap (λ (x : Stop). map (λ (q : Linked). q.thread) (filter has_run (filter stays (linked_after x r)))) s
        ∙ ap (λ (x : Stop). map closed_thread (filter has_run (filter stays (linked_after x r)))) (sym s)

abbrev leaves_of : Linked → List Sent
leaves_of r = leaver r.thread r.leaving

pub closing_leaves : (r : Runner) → leaves_if (closing r) ≡ leaves_if r
closing_leaves r = by r.stop r.suspended refl refl
  where
    by : (stop : Stop) (suspended : Bool) → r.stop ≡ stop → r.suspended ≡ suspended → leaves_if (closing r) ≡ leaves_if r
    by Holds false s u =
        ap leaves_if (closes_if r true (held_awake r s u))
        ∙ ap (λ (x : Stop). leavers (linked_after x (with_closed r))) s
        ∙ flat_map-cons leaves_of (runner_to None (with_closed r)) []
        ∙ sym (flat_map-cons leaves_of (runner_to None r) [])
        ∙ ap (λ (x : Stop). leavers (linked_after x r)) (sym s)
    by Holds true s u = ap leaves_if (closes_if r false (held_asleep r s u))
    by (Leaves to) suspended s u = ap leaves_if (closes_if r false (gone_if r (ap is_held s)))
    by (Ends end) suspended s u = ap leaves_if (closes_if r false (gone_if r (ap is_held s)))

-- ---- the first one that is marked

-- where those before leave nothing, what all leave begins with what this one leaves
pub takes_first : {B : Type 0} (f : Runner → List B) (rs : List Runner) (p : ℕ) (r now : Runner) → ((i : ℕ) (q : Runner) → i < p → slice_get rs i ≡ Some q → f q ≡ []) → slice_get rs p ≡ Some r → f now ≡ []
    → flat_map f rs ≡ f r ++ flat_map f (set rs p now)
takes_first f [] p r now none h empty = absurd cc
takes_first f (x ∷ rs) zero r now none h empty =
    let same : x ≡ r = cc h in
    flat_map-cons f x rs
    ∙ ap (λ (y : Runner). f y ++ flat_map f rs) same
    ∙ ap (λ (l : List _). f r ++ l) (sym (flat_map-cons f now rs ∙ ap (λ (l : List _). l ++ flat_map f rs) empty))
takes_first f (x ∷ rs) (suc p) r now none h empty =
    let gone = none 0 x (omega arith) refl in
    flat_map-cons f x rs
    ∙ ap (λ (l : List _). l ++ flat_map f rs) gone
    ∙ takes_first f rs p r now (λ i q lt k. none (suc i) q (omega (arith, lt)) k) h empty
    ∙ ap (λ (l : List _). f r ++ l) (sym (flat_map-cons f x (set rs p now) ∙ ap (λ (l : List _). l ++ flat_map f (set rs p now)) gone))

-- a thread that leaves the same keeps what all leave
pub keeps_same : {B : Type 0} (f : Runner → List B) (rs : List Runner) (p : ℕ) (r now : Runner) → slice_get rs p ≡ Some r → f now ≡ f r → flat_map f (set rs p now) ≡ flat_map f rs
keeps_same f [] p r now h same = refl
keeps_same f (x ∷ rs) zero r now h same =
    let is : x ≡ r = cc h in
    flat_map-cons f now rs ∙ ap (λ (l : List _). l ++ flat_map f rs) (same ∙ ap f (sym is)) ∙ sym (flat_map-cons f x rs)
keeps_same f (x ∷ rs) (suc p) r now h same = flat_map-cons f x (set rs p now) ∙ ap (λ (l : List _). f x ++ l) (keeps_same f rs p r now h same) ∙ sym (flat_map-cons f x rs)

pub nothing_left : {B : Type 0} (f : Runner → List B) (rs : List Runner) → ((i : ℕ) (q : Runner) → slice_get rs i ≡ Some q → f q ≡ []) → flat_map f rs ≡ []
nothing_left f [] none = refl
nothing_left f (x ∷ rs) none = flat_map-cons f x rs ∙ ap (λ (l : List _). l ++ flat_map f rs) (none 0 x refl) ∙ nothing_left f rs (λ i q h. none (suc i) q h)
