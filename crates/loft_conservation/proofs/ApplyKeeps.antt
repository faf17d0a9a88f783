-- A batch keeps threads, and tells of ends alone.
use Rattle.std.proofs.Common.{◌≡◌, ℕ, ◌+◌, Bool, true, false, List, [], ◌∷◌, ◌++◌, length, refl, arith}
use Rattle.std.specs.Prelude.{if◌then◌else◌, nat_lt}
use Rattle.loft_base.specs.declared.ids.SchedId.{SchedId}
use Rattle.loft_base.specs.declared.ids.ThreadId.{ThreadId}
use Rattle.loft_tree.specs.declared.heads.Heads.{Heads}
use Rattle.loft_tree.specs.declared.heads.Place.{Place}
use Rattle.loft_tree.specs.declared.heads.Place.TheVariants.{Sched}
use Rattle.loft_tree.specs.Fits.{Each}
use Rattle.loft_sense.specs.declared.limits.TheConstants.{MAX_LINKED}
use Rattle.loft_orders.specs.declared.order.End.{End}
use Rattle.loft_orders.specs.declared.order.End.TheVariants.{Stopped, Full as FullEnd}
use Rattle.loft_orders.specs.declared.order.Order.{Order}
use Rattle.loft_orders.specs.declared.order.Order.TheVariants as order
use Rattle.loft_orders.specs.declared.order.Sent.{Sent}
use Rattle.loft_orders.specs.declared.order.To.{To}
use Rattle.loft_sense.specs.CanGo.{same_thread}
use Rattle.loft_sense.specs.Apply.{Applied, new_thread, is_linked, tell_end, apply_order, apply_orders}
use Rattle.loft_soundness.proofs.ListLemmas.{each_append}
use Rattle.loft_conservation.specs.Counts.{one, brings, brought_in, linked_in, made_in, carried_in, ended_in}
use Rattle.loft_conservation.specs.Instants.{SentWell}
use Rattle.loft_conservation.proofs.CountLemmas.{ended_in-append}
use Rattle.loft_conservation.proofs.ThreadLemmas.{one_linked, unlinked, suspended_same}

abbrev IsEnd : Order → Type 0
IsEnd (order.Create t m args) = ⊥
IsEnd (order.Arrive t) = ⊥
IsEnd (order.Stop t) = ⊥
IsEnd (order.Suspend t) = ⊥
IsEnd (order.Resume t) = ⊥
IsEnd (order.Broadcast event value) = ⊥
IsEnd (order.Ended t end) = Unit {0}

abbrev pub EndSent : Sent → Type 0
EndSent m = IsEnd m.order

-- what tells of ends makes and carries nobody
pub record Tells (h : Heads) (ms : List Sent) : Type 0 where
  pub made : (t : ThreadId) → made_in t ms ≡ 0
  pub carried : (t : ThreadId) → carried_in t ms ≡ 0
  pub well : Each (SentWell h) ms

tells_more : (h : Heads) (o : Order) (there : To) (ms : List Sent) → IsEnd o → Tells h ms → Tells h (record { to = there; order = o } ∷ ms)
tells_more h (order.Create t m args) there ms e f = absurd e
tells_more h (order.Arrive t) there ms e f = absurd e
tells_more h (order.Stop t) there ms e f = absurd e
tells_more h (order.Suspend t) there ms e f = absurd e
tells_more h (order.Resume t) there ms e f = absurd e
tells_more h (order.Broadcast event value) there ms e f = absurd e
tells_more h (order.Ended t end) there ms e f = record { made = λ u. let p = f.made u in omega (arith, p); carried = λ u. let p = f.carried u in omega (arith, p); well = (tt, f.well) }

pub tells : (h : Heads) (ms : List Sent) → Each EndSent ms → Tells h ms
tells h [] f = record { made = λ t. refl; carried = λ t. refl; well = tt }
tells h (m ∷ ms) f = tells_more h m.order m.to ms f.0 (tells h ms f.1)

-- threads that are linked, and those of whose end was told
abbrev pub tally : ThreadId → Applied → ℕ
tally t a = linked_in t a.linked + ended_in t a.sent

pub one_ended : (t u : ThreadId) (end : End) (at : Place) (ms : List Sent) → ended_in t (ms ++ tell_end at u end ∷ []) ≡ ended_in t ms + one (same_thread t u)
one_ended t u end at ms = let e = ended_in-append t ms (tell_end at u end ∷ []) in omega (arith, e)

module _ (h : Heads) (s : SchedId) where
  tally_if : (t : ThreadId) (b : Bool) (v w : Applied) (n : ℕ) → (b ≡ true → tally t v ≡ n) → (b ≡ false → tally t w ≡ n) → tally t (if b then v else w) ≡ n
  tally_if t true v w n p q = p refl
  tally_if t false v w n p q = q refl

  order_kept : (t : ThreadId) (a : Applied) (o : Order) → tally t (apply_order h s a o) ≡ tally t a + brings t o
  order_kept t a (order.Create u m args) =
      tally_if t (nat_lt (length a.linked) MAX_LINKED) _ _ (tally t a + one (same_thread t u))
      (λ is. let p = one_linked t (new_thread h u m args) a.linked in omega (arith, p))
      (λ is. let p = one_ended t u FullEnd (Sched s) a.sent in omega (arith, p))
  order_kept t a (order.Arrive u) = let p = one_linked t u a.linked in omega (arith, p)
  order_kept t a (order.Stop u) =
      tally_if t (is_linked u a.linked) _ _ (tally t a + 0)
      (λ is. let p = unlinked t u a.linked is in let q = one_ended t u Stopped (Sched s) a.sent in omega (arith, p, q))
      (λ is. omega arith)
  order_kept t a (order.Suspend u) = tally_if t (is_linked u a.linked) _ _ (tally t a + 0) (λ is. let p = suspended_same t u true a.linked in omega (arith, p)) (λ is. omega arith)
  order_kept t a (order.Resume u) = tally_if t (is_linked u a.linked) _ _ (tally t a + 0) (λ is. let p = suspended_same t u false a.linked in omega (arith, p)) (λ is. omega arith)
  order_kept t a (order.Broadcast event value) = omega arith
  order_kept t a (order.Ended u end) = omega arith

  pub orders_kept : (t : ThreadId) (a : Applied) (os : List Order) → tally t (apply_orders h s a os) ≡ tally t a + brought_in t os
  orders_kept t a [] = omega arith
  orders_kept t a (o ∷ os) = let p = orders_kept t (apply_order h s a o) os in let q = order_kept t a o in omega (arith, p, q)

  ends_if : (b : Bool) (v w : Applied) → Each EndSent v.sent → Each EndSent w.sent → Each EndSent (if b then v else w).sent
  ends_if true v w p q = p
  ends_if false v w p q = q

  order_ends : (a : Applied) (o : Order) → Each EndSent a.sent → Each EndSent (apply_order h s a o).sent
  order_ends a (order.Create u m args) f = ends_if (nat_lt (length a.linked) MAX_LINKED) _ _ f (each_append EndSent a.sent _ f (tt, tt))
  order_ends a (order.Arrive u) f = f
  order_ends a (order.Stop u) f = ends_if (is_linked u a.linked) _ _ (each_append EndSent a.sent _ f (tt, tt)) f
  order_ends a (order.Suspend u) f = ends_if (is_linked u a.linked) _ _ f f
  order_ends a (order.Resume u) f = ends_if (is_linked u a.linked) _ _ f f
  order_ends a (order.Broadcast event value) f = f
  order_ends a (order.Ended u end) f = f

  pub orders_end : (a : Applied) (os : List Order) → Each EndSent a.sent → Each EndSent (apply_orders h s a os).sent
  orders_end a [] f = f
  orders_end a (o ∷ os) f = orders_end (apply_order h s a o) os (order_ends a o f)
