-- Machines and what they send, as threads that stand leave them (docs/SEMANTICS.md, "Instant" and "Fits").
use Rattle.std.specs.Prelude.{◌≡◌, IsTrue}
use Rattle.loft_base.specs.declared.ids.SchedId.{SchedId}
use Rattle.loft_tree.specs.declared.heads.Place.{Place}
use Rattle.loft_tree.specs.declared.heads.Place.TheVariants.{Sched, Unlinked}
use Rattle.loft_tree.specs.Fits.{Each}
use Rattle.loft_tree.specs.NamedFits.{IsScheduler}
use Rattle.loft_orders.specs.declared.order.Order.{Order}
use Rattle.loft_orders.specs.declared.order.Order.TheVariants as order
use Rattle.loft_orders.specs.declared.order.Sent.{Sent}
use Rattle.loft_orders.specs.declared.order.To.{To}
use Rattle.loft_orders.specs.declared.order.To.TheVariants as to
use Rattle.loft_orders.specs.declared.thread.Thread.{Thread}
use Rattle.loft_orders.specs.declared.thread.Wait.TheVariants.{New}
use Rattle.loft_sense.specs.Machine.{Prog, heads, Mach}
use Rattle.loft_sense.specs.Stands.{Stands}
use Rattle.loft_sense.specs.Fits.{ThreadNames, Fits}
use Rattle.loft_history.specs.History.{is_addressed}

-- the thread stands at this place, and names only declared threads
abbrev pub ThreadFits : Prog → Place → Thread → Type 0
ThreadFits x place t = Stands x t place × ThreadNames (heads x) t

-- a declared scheduler whose threads stand there
pub record MachFits (x : Prog) (m : Mach) : Type 0 where
  pub declared : IsScheduler (heads x) m.s
  pub linked : Each (λ s. ThreadFits x (Sched m.s) s.thread) m.linked

-- what goes to the workers fits: a thread that arrives there is new and stands unlinked
abbrev pub IsForWorkers : Prog → Order → Type 0
IsForWorkers x (order.Arrive t) = (t.wait ≡ New) × ThreadFits x Unlinked t
IsForWorkers x o = Unit {0}

-- the order fits as it is addressed: at each scheduler to which it goes, or with the workers
abbrev pub FitsAt : Prog → To → Order → Type 0
FitsAt x to.Workers o = IsForWorkers x o
FitsAt x to o = (q : SchedId) → IsScheduler (heads x) q → IsTrue (is_addressed q to) → Fits x q o

abbrev pub SentFits : Prog → Sent → Type 0
SentFits x sent = FitsAt x sent.to sent.order
