-- What orders carry, where they are sent: no start, no client, no caller and no statement sends a thread.
use Rattle.std.proofs.Common.{ℕ, Bool, true, false, List, [], ◌∷◌, ◌++◌}
use Rattle.std.specs.Prelude.{◌+◌, if◌then◌else◌}
use Rattle.loft_base.specs.declared.ids.Maker.TheVariants.{Source}
use Rattle.loft_base.specs.declared.ids.SchedId.{SchedId}
use Rattle.loft_base.specs.declared.ids.ThreadId.{ThreadId}
use Rattle.loft_tree.specs.declared.heads.ClientOrder.{ClientOrder}
use Rattle.loft_tree.specs.declared.heads.ClientOrder.TheVariants as client
use Rattle.loft_tree.specs.declared.heads.Place.TheVariants.{Unlinked}
use Rattle.loft_tree.specs.declared.heads.Start.{Start}
use Rattle.loft_tree.specs.declared.kinds.Control.{Control}
use Rattle.loft_tree.specs.declared.kinds.Control.TheVariants as control
use Rattle.loft_tree.specs.Fits.{Each}
use Rattle.loft_orders.specs.declared.order.Order.{Order}
use Rattle.loft_orders.specs.declared.order.Order.TheVariants as order
use Rattle.loft_orders.specs.declared.order.To.{To}
use Rattle.loft_orders.specs.declared.order.To.TheVariants as to
use Rattle.loft_orders.specs.declared.thread.Thread.{Thread}
use Rattle.loft_sense.specs.Heads.{same_scheduler}
use Rattle.loft_sense.specs.Machine.{Prog, heads}
use Rattle.loft_sense.specs.Statements.{order_of}
use Rattle.loft_history.specs.Clients.{orders_from}
use Rattle.loft_history.specs.History.{starts_from, job_before}
use Rattle.loft_history.specs.Legal.{FitsOne, IsCallersOrder}
use Rattle.loft_soundness.specs.Points.{OutFits}
use Rattle.loft_soundness.specs.Threads.{Claim, Carries, CarriesTo, SentCarries}

-- ---- lists

-- of each in front, of one, and of each of the rest
pub each_parted : {A : Type 0} (Q : A → Type 0) (front : List A) (y : A) (rest : List A) → Each Q (front ++ y ∷ rest) → Each Q front × (Q y × Each Q rest)
each_parted Q [] y rest f = (tt, f)
each_parted Q (z ∷ zs) y rest f = let g = each_parted Q zs y rest f.1 in ((f.0, g.0), g.1)

pub each_both : {A : Type 0} (P Q : A → Type 0) (xs : List A) → Each P xs → Each Q xs → Each (λ y. P y × Q y) xs
each_both P Q [] f g = tt
each_both P Q (y ∷ ys) f g = ((f.0, g.0), each_both P Q ys f.1 g.1)

pub each_first : {A : Type 0} (P Q : A → Type 0) (xs : List A) → Each (λ y. P y × Q y) xs → Each P xs
each_first P Q [] f = tt
each_first P Q (y ∷ ys) f = (f.0.0, each_first P Q ys f.1)

pub each_second : {A : Type 0} (P Q : A → Type 0) (xs : List A) → Each (λ y. P y × Q y) xs → Each Q xs
each_second P Q [] f = tt
each_second P Q (y ∷ ys) f = (f.0.1, each_second P Q ys f.1)

-- ---- orders

module _ (x : Prog) (P : Claim) where
  -- statements send no thread
  pub out_so : (to : To) (o : Order) → OutFits (heads x) to o → CarriesTo P to o
  out_so (to.Sched s) (order.Create t m args) f = tt
  out_so (to.Sched s) (order.Arrive t) f = absurd f
  out_so (to.Sched s) (order.Stop t) f = tt
  out_so (to.Sched s) (order.Suspend t) f = tt
  out_so (to.Sched s) (order.Resume t) f = tt
  out_so (to.Sched s) (order.Broadcast e v) f = tt
  out_so (to.Sched s) (order.Ended t end) f = tt
  out_so (to.Others s) o f = absurd f
  out_so to.All o f = absurd f
  out_so to.Workers o f = absurd f

  -- no start and no client of the source sends a thread
  pub starts_carry : (s : SchedId) (k : ℕ) (ts : List Start) → Each (Carries P s) (starts_from s k ts)
  starts_carry s k [] = tt
  starts_carry s k (t ∷ ts) = start_one (same_scheduler s t.scheduler) (starts_carry s (k + 1) ts)
    where
      start_one : (b : Bool) → Each (Carries P s) (starts_from s (k + 1) ts)
          → Each (Carries P s) (if b then order.Create (record { maker = Source; seq = k }) t.module t.arguments ∷ starts_from s (k + 1) ts else starts_from s (k + 1) ts)
      start_one true f = (tt, f)
      start_one false f = f

  control_carries : (control : Control) (t : ThreadId) (s : SchedId) → Carries P s (order_of control t)
  control_carries control.Stop t s = tt
  control_carries control.Suspend t s = tt
  control_carries control.Resume t s = tt

  pub clients_carry : (c k : ℕ) (os : List ClientOrder) → Each (SentCarries P) (orders_from (heads x) c k os)
  clients_carry c k [] = tt
  clients_carry c k (client.Create s m args ∷ os) = (tt, clients_carry c (k + 1) os)
  clients_carry c k (client.Control control t s ∷ os) = (control_carries control t s, clients_carry c k os)
  clients_carry c k (client.Broadcast e v ∷ os) = (tt, clients_carry c k os)

  -- nor does a caller
  pub call_carries : (next : ThreadId) (to : To) (o : Order) → IsCallersOrder next o → FitsOne x to o → CarriesTo P to o
  call_carries next (to.Sched s) (order.Create t m args) f g = tt
  call_carries next (to.Sched s) (order.Arrive t) f g = absurd f
  call_carries next (to.Sched s) (order.Stop t) f g = tt
  call_carries next (to.Sched s) (order.Suspend t) f g = tt
  call_carries next (to.Sched s) (order.Resume t) f g = tt
  call_carries next (to.Sched s) (order.Broadcast e v) f g = tt
  call_carries next (to.Sched s) (order.Ended t end) f g = tt
  call_carries next (to.Others s) o f g = absurd g
  call_carries next to.All o f g = absurd g
  call_carries next to.Workers o f g = absurd g

  -- the threads that are sent to the workers
  pub job_so : (to : To) (o : Order) (ts : List Thread) → CarriesTo P to o → Each (P Unlinked) ts → Each (P Unlinked) (job_before to o ts)
  job_so (to.Sched s) o ts f g = g
  job_so (to.Others s) o ts f g = g
  job_so to.All o ts f g = g
  job_so to.Workers (order.Create t m args) ts f g = g
  job_so to.Workers (order.Arrive t) ts f g = (f, g)
  job_so to.Workers (order.Stop t) ts f g = g
  job_so to.Workers (order.Suspend t) ts f g = g
  job_so to.Workers (order.Resume t) ts f g = g
  job_so to.Workers (order.Broadcast e v) ts f g = g
  job_so to.Workers (order.Ended t end) ts f g = g
