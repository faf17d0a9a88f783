-- What a lock promises in every history (docs/LOCKS.md, "What a lock promises").
use Rattle.std.specs.Prelude.{◌≡◌, ◌⊎◌, ℕ, suc, ◌+◌, ◌≤◌, ℤ, pos, Bool, true, false, List, [], ◌∷◌, ◌++◌, map, take, Option, Some, slice_get, All}
use Rattle.loft_base.specs.declared.ids.SchedId.{SchedId}
use Rattle.loft_tree.specs.declared.heads.Heads.{Heads}
use Rattle.loft_tree.specs.NamedFits.{IsScheduler}
use Rattle.loft_tree.specs.Resolved.{Resolved}
use Rattle.loft_orders.specs.declared.thread.Thread.{Thread}
use Rattle.loft_orders.specs.declared.order.Order.{Order}
use Rattle.loft_orders.specs.declared.order.Order.TheVariants as order
use Rattle.loft_orders.specs.declared.note.Standing.{Standing}
use Rattle.loft_orders.specs.declared.entry.Entry.{Entry}
use Rattle.loft_orders.specs.declared.entry.Entry.TheVariants.{Pick}
use Rattle.loft_base.specs.declared.options.Limits.{Limits}
use Rattle.loft_base.specs.declared.options.RunOptions.{RunOptions}
use Rattle.loft_sense.specs.Heads.{rank}
use Rattle.loft_sense.specs.Machine.{Tree, Mach}
use Rattle.loft_sense.specs.Passes.{Runner}
use Rattle.loft_sense.specs.Moments.{Moment, moment, moments}
use Rattle.loft_sense.specs.Apply.{apply}
use Rattle.loft_sense.specs.Instant.{runner_of, around_of, replay}
use Rattle.loft_history.specs.History.{log, waiting, jobs, unposted, replayed}
use Rattle.loft_locks.specs.Locks.{Lock, is_inside}

abbrev pub one : Bool → ℕ
one true = 1
one false = 0

-- how many of these threads are inside
abbrev pub insiders : Resolved → Lock → List Thread → ℕ
insiders p l [] = 0
insiders p l (t ∷ ts) = one (is_inside p l t) + insiders p l ts

-- the value of the lock's variable among those of its scheduler
abbrev pub held_in : Heads → Lock → List ℤ → Option ℤ
held_in h l shared = slice_get shared (rank h l.held)

-- the variable is 0 and nobody is inside, or it is 1 and at most one thread is
abbrev pub OneHolds : Option ℤ → ℕ → Type 0
OneHolds held n = ((held ≡ Some (pos 0)) × (n ≡ 0)) ⊎ ((held ≡ Some (pos 1)) × (n ≤ 1))

-- the variable is 1 and nobody is inside: the lock is lost
abbrev pub IsLost : Option ℤ → ℕ → Type 0
IsLost held n = (held ≡ Some (pos 1)) × (n ≡ 0)

-- threads that are linked to a scheduler with these shared values: so it is where the lock is, and elsewhere nobody is inside
pub record LockHolds (p : Resolved) (l : Lock) (s : SchedId) (shared : List ℤ) (ts : List Thread) : Type 0 where
  pub there : s ≡ l.at → OneHolds (held_in p.heads l shared) (insiders p l ts)
  pub elsewhere : (s ≡ l.at → ⊥) → insiders p l ts ≡ 0

-- an order doesn't carry a thread that is inside
abbrev pub CarriesOutside : Resolved → Lock → Order → Type 0
CarriesOutside p l (order.Create t m args) = Unit {0}
CarriesOutside p l (order.Arrive t) = is_inside p l t ≡ false
CarriesOutside p l (order.Stop t) = Unit {0}
CarriesOutside p l (order.Suspend t) = Unit {0}
CarriesOutside p l (order.Resume t) = Unit {0}
CarriesOutside p l (order.Broadcast event value) = Unit {0}
CarriesOutside p l (order.Ended t end) = Unit {0}

-- ---- moments

-- the moments of an instant: as its first run may begin, and after each run
abbrev pub moments_in : Resolved → Limits → Mach → List Order → List Moment
moments_in p limits m batch =
    let a = apply (Tree p) m batch in
    let rs = map (runner_of limits.budget) a.linked in
    moment rs (around_of m a) ∷ moments (Tree p) rs (around_of m a)

-- the threads at a moment, those too that leave at the close
abbrev pub threads_at : Moment → List Thread
threads_at t = map (λ (r : Runner). r.thread) t.runners

abbrev pub MomentHolds : Resolved → Lock → SchedId → Moment → Type 0
MomentHolds p l s t = LockHolds p l s t.around.shared (threads_at t)

abbrev pub MomentLost : Resolved → Lock → Moment → Type 0
MomentLost p l t = IsLost (held_in p.heads l t.around.shared) (insiders p l (threads_at t))

-- ---- between instants

-- a scheduler after the first k of its instants
abbrev pub after_instants : Resolved → RunOptions → SchedId → List Entry → ℕ → Mach
after_instants p o s es k = (replay (Tree p) o.limits s (take k (log s es))).machine

abbrev pub MachHolds : Resolved → Lock → Mach → Type 0
MachHolds p l m = LockHolds p l m.s m.shared (map (λ (q : Standing). q.thread) m.linked)

abbrev pub MachLost : Resolved → Lock → Mach → Type 0
MachLost p l m = IsLost (held_in p.heads l m.shared) (insiders p l (map (λ (q : Standing). q.thread) m.linked))

-- A lock that is lost before an instant is lost at each moment of it, and one that is lost at a moment of it is lost at each
-- later one and after it.
pub record StaysLost (p : Resolved) (l : Lock) (limits : Limits) (m : Mach) (batch : List Order) (after : Mach) : Type 0 where
  pub before : MachLost p l m → All (MomentLost p l) (moments_in p limits m batch)
  pub later : (earlier : List Moment) (t : Moment) (rest : List Moment) → moments_in p limits m batch ≡ earlier ++ t ∷ rest → MomentLost p l t → All (MomentLost p l) rest × MachLost p l after

-- The lock is kept in this history: its variable is 0 and no thread is inside, or it is 1 and at most one thread that is linked
-- where the lock is, is inside.
pub record LockKept (p : Resolved) (l : Lock) (o : RunOptions) (es : List Entry) : Type 0 where
  -- between instants, and at each moment of each instant
  pub between : (s : SchedId) → IsScheduler p.heads s → (k : ℕ) → MachHolds p l (after_instants p o s es k)
  pub running : (s : SchedId) → IsScheduler p.heads s → (k : ℕ) (batch : List Order) → slice_get (log s es) k ≡ Some batch
      → All (MomentHolds p l s) (moments_in p o.limits (after_instants p o s es k) batch)
  -- nobody on the way is inside: among what was sent or waits, in the batches, in jobs and in hands
  pub sent : (s : SchedId) → IsScheduler p.heads s → All (λ note. All (λ m. CarriesOutside p l m.order) note.sent) (replayed (Tree p) o.limits s es).notes
  pub waits : (s : SchedId) → IsScheduler p.heads s → All (CarriesOutside p l) (waiting p.heads s es)
  pub batches : (s : SchedId) → IsScheduler p.heads s → All (All (CarriesOutside p l)) (log s es)
  pub jobs : All (λ t. is_inside p l t ≡ false) (jobs es)
  pub hands : (before : List Entry) (w : ℕ) (job : Thread) (after : List Entry) → es ≡ before ++ Pick w job ∷ after → is_inside p l job ≡ false
  pub posts : (w : ℕ) → All (λ m. CarriesOutside p l m.order) (unposted (Tree p) o w es)
  -- a lock that is lost stays lost: its variable stays 1, and nobody is inside any more
  pub lost : (k j : ℕ) → k ≤ j → let m = after_instants p o l.at es in MachLost p l (m k) → MachLost p l (m j)
  pub lost_inside : (k : ℕ) (batch : List Order) → slice_get (log l.at es) k ≡ Some batch
      → let m = after_instants p o l.at es in StaysLost p l o.limits (m k) batch (m (suc k))
