-- What an instant does with threads (docs/SEMANTICS.md, "What is sent").
use Rattle.std.specs.Prelude.{◌≡◌, ◌+◌, ◌≤◌, List}
use Rattle.loft_base.specs.declared.ids.Maker.TheVariants as maker
use Rattle.loft_base.specs.declared.ids.ThreadId.{ThreadId}
use Rattle.loft_tree.specs.declared.heads.Heads.{Heads}
use Rattle.loft_tree.specs.Fits.{Each}
use Rattle.loft_tree.specs.NamedFits.{IsScheduler}
use Rattle.loft_orders.specs.declared.order.Order.{Order}
use Rattle.loft_orders.specs.declared.order.Order.TheVariants as order
use Rattle.loft_orders.specs.declared.order.Sent.{Sent}
use Rattle.loft_orders.specs.declared.order.To.{To}
use Rattle.loft_orders.specs.declared.order.To.TheVariants as to
use Rattle.loft_sense.specs.Machine.{Mach}
use Rattle.loft_sense.specs.Instant.{AfterInstant}
use Rattle.loft_conservation.specs.Counts.{made_in, carried_in, ended_in, brought_in, linked_in, among_made}

-- a create goes to one declared scheduler, an arrive to one or to the workers
abbrev pub IsSentWell : Heads → Order → To → Type 0
IsSentWell h (order.Create t m args) (to.Sched s) = IsScheduler h s
IsSentWell h (order.Create t m args) there = ⊥
IsSentWell h (order.Arrive t) (to.Sched s) = IsScheduler h s
IsSentWell h (order.Arrive t) to.Workers = Unit {0}
IsSentWell h (order.Arrive t) there = ⊥
IsSentWell h order there = Unit {0}

abbrev pub SentWell : Heads → Sent → Type 0
SentWell h m = IsSentWell h m.order m.to

-- An instant keeps threads: those that were linked and those that the batch brings are linked after it, or it sends them
-- on, or it tells of their end. It makes new ones by the numbers of its scheduler.
pub record KeepsThreads (h : Heads) (m : Mach) (batch : List Order) (did : AfterInstant) : Type 0 where
  pub same : did.machine.s ≡ m.s
  pub kept : (t : ThreadId) → linked_in t m.linked + brought_in t batch ≡ linked_in t did.machine.linked + carried_in t did.note.sent + ended_in t did.note.sent
  pub more : m.made ≤ did.machine.made
  pub fresh : (t : ThreadId) → made_in t did.note.sent ≡ among_made t (maker.Sched m.s.0) m.made did.machine.made
  pub well : Each (SentWell h) did.note.sent
