-- What is sent well comes to one scheduler, or to the workers.
use Rattle.std.proofs.Common.{◌≡◌, ◌==◌, ℕ, ◌+◌, ◌<◌, Bool, true, false, List, [], ◌∷◌, length, refl, ap, ◌∙◌, arith, eq-eqb, ne_eqb}
use Rattle.std.specs.Prelude.{if◌then◌else◌}
use Rattle.loft_base.specs.declared.ids.ThreadId.{ThreadId}
use Rattle.loft_base.specs.declared.ids.Maker.TheVariants.{Source}
use Rattle.loft_tree.specs.declared.heads.Heads.{Heads}
use Rattle.loft_tree.specs.declared.heads.Start.{Start}
use Rattle.loft_tree.specs.Fits.{Each}
use Rattle.loft_tree.specs.NamedFits.{IsScheduler}
use Rattle.loft_orders.specs.declared.order.Order.{Order}
use Rattle.loft_orders.specs.declared.order.Order.TheVariants as order
use Rattle.loft_orders.specs.declared.order.Sent.{Sent}
use Rattle.loft_orders.specs.declared.order.To.{To}
use Rattle.loft_orders.specs.declared.order.To.TheVariants as to
use Rattle.loft_orders.specs.declared.thread.Thread.{Thread}
use Rattle.loft_sense.specs.Heads.{scheduler, same_scheduler}
use Rattle.loft_sense.specs.CanGo.{same_thread}
use Rattle.loft_history.specs.History.{is_addressed, orders_to, starts_from, job_before, jobs_sent}
use Rattle.loft_conservation.specs.Counts.{one, makes, carries, brings, brought_in, threads_in, made_in, carried_in}
use Rattle.loft_conservation.specs.Instants.{IsSentWell, SentWell}
use Rattle.loft_history_laws.specs.Places.{total, started_from}
use Rattle.loft_history_laws.proofs.SumLemmas.{total_same, total_add, total_none, total_at}

-- a number at one place
total_one : (n s v : ℕ) → s < n → total n (λ q. if q == s then v else 0) ≡ v
total_one n s v lt =
    let p = total_at n s (λ q. if q == s then v else 0) (λ q. 0) lt (λ q _ off. ap (λ (b : Bool). if b then v else 0) (ne_eqb q s off)) in
    let z = total_none n (λ q. 0) (λ q. refl) in
    let e = ap (λ (b : Bool). if b then v else 0) (eq-eqb s s refl) in
    omega (arith, p, z, e)

zeros : (n : ℕ) (f : ℕ → Bool) → total n (λ q. if f q then 0 else 0) ≡ 0
zeros n f = total_none n (λ q. if f q then 0 else 0) (λ q. by (f q) 0)
  where
    by : (b : Bool) (z : ℕ) → (if b then z else z) ≡ z
    by true z = refl
    by false z = refl

-- an order that carries nobody is no job
no_job : (there : To) (o : Order) (js : List Thread) (t : ThreadId) → ((u : ThreadId) → carries u o ≡ 0) → threads_in t (job_before there o js) ≡ threads_in t js
no_job (to.Sched s) o js t none = refl
no_job (to.Others s) o js t none = refl
no_job to.All o js t none = refl
no_job to.Workers (order.Create u m args) js t none = refl
no_job to.Workers (order.Arrive u) js t none = let e = none t in omega (arith, e)
no_job to.Workers (order.Stop u) js t none = refl
no_job to.Workers (order.Suspend u) js t none = refl
no_job to.Workers (order.Resume u) js t none = refl
no_job to.Workers (order.Broadcast event value) js t none = refl
no_job to.Workers (order.Ended u end) js t none = refl

module _ (h : Heads) (t : ThreadId) where
  abbrev schedulers : ℕ
  schedulers = length h.schedulers

  -- what an order brings to all schedulers
  abbrev brought_by : Order → To → ℕ
  brought_by o there = total schedulers (λ q. if is_addressed (scheduler q) there then brings t o else 0)

  abbrev Goes : Order → To → List Thread → Type 0
  Goes o there js = brought_by o there + threads_in t (job_before there o js) ≡ makes t o + carries t o + threads_in t js

  one_goes : (o : Order) (there : To) (js : List Thread) → IsSentWell h o there → Goes o there js
  one_goes (order.Create u m args) (to.Sched s) js lt = let p = total_one schedulers s.0 (one (same_thread t u)) lt in omega (arith, p)
  one_goes (order.Create u m args) (to.Others s) js w = absurd w
  one_goes (order.Create u m args) to.All js w = absurd w
  one_goes (order.Create u m args) to.Workers js w = absurd w
  one_goes (order.Arrive u) (to.Sched s) js lt = let p = total_one schedulers s.0 (one (same_thread t u.id)) lt in omega (arith, p)
  one_goes (order.Arrive u) (to.Others s) js w = absurd w
  one_goes (order.Arrive u) to.All js w = absurd w
  one_goes (order.Arrive u) to.Workers js w = let p = total_none schedulers (λ q. 0) (λ q. refl) in omega (arith, p)
  one_goes (order.Stop u) there js w = let p = zeros schedulers (λ q. is_addressed (scheduler q) there) in let j = no_job there (order.Stop u) js t (λ v. refl) in omega (arith, p, j)
  one_goes (order.Suspend u) there js w = let p = zeros schedulers (λ q. is_addressed (scheduler q) there) in let j = no_job there (order.Suspend u) js t (λ v. refl) in omega (arith, p, j)
  one_goes (order.Resume u) there js w = let p = zeros schedulers (λ q. is_addressed (scheduler q) there) in let j = no_job there (order.Resume u) js t (λ v. refl) in omega (arith, p, j)
  one_goes (order.Broadcast event value) there js w = let p = zeros schedulers (λ q. is_addressed (scheduler q) there) in let j = no_job there (order.Broadcast event value) js t (λ v. refl) in omega (arith, p, j)
  one_goes (order.Ended u end) there js w = let p = zeros schedulers (λ q. is_addressed (scheduler q) there) in let j = no_job there (order.Ended u end) js t (λ v. refl) in omega (arith, p, j)

  brought_if : (b : Bool) (o : Order) (os : List Order) → brought_in t (if b then o ∷ os else os) ≡ (if b then brings t o else 0) + brought_in t os
  brought_if true o os = refl
  brought_if false o os = omega arith

  -- what is sent to each scheduler, and to the workers, is what is made and carried
  pub scatter : (ms : List Sent) → Each (SentWell h) ms → total schedulers (λ q. brought_in t (orders_to (scheduler q) ms)) + threads_in t (jobs_sent ms) ≡ made_in t ms + carried_in t ms
  scatter [] f = let z = total_none schedulers (λ q. 0) (λ q. refl) in omega (arith, z)
  scatter (m ∷ ms) f =
      let first = one_goes m.order m.to (jobs_sent ms) f.0 in
      let rest = scatter ms f.1 in
      let split : total schedulers (λ q. brought_in t (orders_to (scheduler q) (m ∷ ms))) ≡ brought_by m.order m.to + total schedulers (λ q. brought_in t (orders_to (scheduler q) ms)) =
      total_same schedulers (λ q. brought_in t (orders_to (scheduler q) (m ∷ ms))) (λ q. (if is_addressed (scheduler q) m.to then brings t m.order else 0) + brought_in t (orders_to (scheduler q) ms))
      (λ q _. brought_if (is_addressed (scheduler q) m.to) m.order (orders_to (scheduler q) ms))
      ∙ total_add schedulers (λ q. if is_addressed (scheduler q) m.to then brings t m.order else 0) (λ q. brought_in t (orders_to (scheduler q) ms)) in
      omega (arith, first, rest, split)

  -- the starts are brought to their schedulers
  pub starts_sum : (k : ℕ) (us : List Start) → Each (λ (u : Start). IsScheduler h u.scheduler) us → total schedulers (λ q. brought_in t (starts_from (scheduler q) k us)) ≡ started_from t k us
  starts_sum k [] f = total_none schedulers (λ q. 0) (λ q. refl)
  starts_sum k (u ∷ us) f =
      let id : ThreadId = record { maker = Source; seq = k } in
      let start : Order = order.Create id u.module u.arguments in
      let here = total_one schedulers u.scheduler.0 (one (same_thread t id)) f.0 in
      let rest = starts_sum (k + 1) us f.1 in
      let split : total schedulers (λ q. brought_in t (starts_from (scheduler q) k (u ∷ us))) ≡ total schedulers (λ q. if q == u.scheduler.0 then one (same_thread t id) else 0) + total schedulers (λ q. brought_in t (starts_from (scheduler q) (k + 1) us)) =
      total_same schedulers (λ q. brought_in t (starts_from (scheduler q) k (u ∷ us))) (λ q. (if q == u.scheduler.0 then one (same_thread t id) else 0) + brought_in t (starts_from (scheduler q) (k + 1) us))
      (λ q _. brought_if (same_scheduler (scheduler q) u.scheduler) start (starts_from (scheduler q) (k + 1) us))
      ∙ total_add schedulers (λ q. if q == u.scheduler.0 then one (same_thread t id) else 0) (λ q. brought_in t (starts_from (scheduler q) (k + 1) us)) in
      omega (arith, here, rest, split)
