-- What callers ask for, and the passes with which they ask (docs/EMBEDDING.md, "The calls").
use Rattle.std.specs.Prelude.{◌≡◌, ℕ, ◌<◌, ◌≤◌, List, [], ◌∷◌, length, Option, Some, None}
use Rattle.atomic_table.specs.Seated.{TableId}
use Rattle.loft_base.specs.declared.options.RunOptions.{RunOptions}
use Rattle.loft_base.specs.declared.ids.SchedId.{SchedId}
use Rattle.loft_base.specs.declared.ids.EventId.{EventId}
use Rattle.loft_base.specs.declared.ids.ThreadId.{ThreadId}
use Rattle.loft_tree.specs.declared.heads.Heads.{Heads}
use Rattle.loft_tree.specs.Fits.{Each}
use Rattle.loft_tree.specs.HeadsFit.{HeadsFit}
use Rattle.loft_tree.specs.NamedFits.{IsScheduler}
use Rattle.loft_code.specs.View.{automata_of}
use Rattle.loft_code.specs.declared.raw.CodeProgram.{CodeProgram}
use Rattle.loft_orders.specs.declared.entry.Actor.{Actor}
use Rattle.loft_orders.specs.declared.entry.Actor.TheVariants.{Client}
use Rattle.loft_orders.specs.declared.entry.Entry.{Entry}
use Rattle.loft_orders.specs.declared.entry.Entry.TheVariants as entry
use Rattle.loft_orders.specs.declared.order.Order.{Order}
use Rattle.loft_orders.specs.declared.order.Order.TheVariants as order
use Rattle.loft_orders.specs.declared.order.Sent.{Sent}
use Rattle.loft_orders.specs.declared.order.To.TheVariants as to
use Rattle.loft_sense.specs.Fits.{IsThread, IsValue}
use Rattle.loft_sense.specs.Heads.{scheduler, home}
use Rattle.loft_sense.specs.Machine.{Code}
use Rattle.loft_sense.specs.Statements.{order_of as control_order}
use Rattle.loft_history.specs.Clients.{made_by}
use Rattle.loft_history.specs.History.{creates}
use Rattle.loft_history.specs.Legal.{IsFaithful}
use Rattle.loft_baton.specs.declared.knows.Knows.{Knows}
use Rattle.loft_baton.specs.declared.knows.Own.{Own}
use Rattle.loft_baton.specs.Knowing.{IsIdle}
use Rattle.loft_baton.specs.PassValue.{PassValue}
use Rattle.loft_ft.specs.declared.call.Call.{Call}
use Rattle.loft_ft.specs.declared.call.Call.TheVariants.{Create, Control, Broadcast}

-- ---- the pass of a caller

-- this holds of the code that a pass is for
abbrev pub ForCode : (CodeProgram → Type 0) → Option CodeProgram → Type 0
ForCode P None = ⊥
ForCode P (Some x) = P x

-- a caller: a client that the source doesn't declare
abbrev pub IsCaller : Heads → Actor → Type 0
IsCaller h (Client c) = length h.clients ≤ c
IsCaller h a = ⊥

-- the one actor of a pass is a caller
abbrev pub HasCaller : List Own → Heads → Type 0
HasCaller (o ∷ []) h = IsCaller h o.actor
HasCaller own h = ⊥

-- an idle pass of this baton, whose one actor is a caller
pub record MayCall (b : TableId) (p : PassValue) : Type 0 where
  pub baton : p.baton ≡ b
  pub idle : IsIdle p.knows
  pub caller : ForCode (λ x. HasCaller p.knows.own x.heads) p.knows.code

abbrev pub client_number : Actor → ℕ
client_number (Client c) = c
client_number a = 0

abbrev pub number_in : List Own → ℕ
number_in [] = 0
number_in (o ∷ own) = client_number o.actor

abbrev pub entries_in : List Own → List Entry
entries_in [] = []
entries_in (o ∷ own) = o.entries

-- the number of the caller whose pass it is
abbrev pub caller_of : Knows → ℕ
caller_of v = number_in v.own

-- the entries of the caller whose pass it is
abbrev pub entries_of : Knows → List Entry
entries_of v = entries_in v.own

-- the caller's entries are those that it may make (docs/SEMANTICS.md, "Legal")
abbrev pub IsFaithfulCaller : Knows → Type 0
IsFaithfulCaller v = ForCode (λ x. (o : RunOptions) → IsFaithful (Code (automata_of x)) o (Client (caller_of v)) (entries_of v)) v.code

-- the thread that the caller's next create makes
abbrev pub next_thread : Knows → ThreadId
next_thread v = made_by (caller_of v) (creates (caller_of v) (entries_of v))

-- the caller's entry of this order to this scheduler
abbrev pub entry_by : Knows → SchedId → Order → Entry
entry_by v s o = entry.Client (caller_of v) (record { to = to.Sched s; order = o })

-- ---- what callers may ask for

-- an event of the program, on the board of one of its schedulers
pub record IsEvent (h : Heads) (e : EventId) : Type 0 where
  pub declared : e.0 < length h.events
  pub board : IsScheduler h (home h e)

-- the scheduler on whose board the event stands, by the code that a pass is for
abbrev pub home_in : Option CodeProgram → EventId → SchedId
home_in None e = scheduler 0
home_in (Some x) e = home x.heads e

-- all that the call names is declared, and a thread that is to be made can begin in its scheduler
abbrev pub IsDeclared : Call → Heads → Type 0
IsDeclared (Create s m arguments) h = HeadsFit h s m arguments.now × Each (IsValue h) arguments.now
IsDeclared (Control control s t) h = IsScheduler h s × IsThread h t
IsDeclared (Broadcast e value) h = IsEvent h e

-- the scheduler to which a call's order goes
abbrev pub address : Heads → Call → SchedId
address h (Create s m arguments) = s
address h (Control control s t) = s
address h (Broadcast e value) = home h e

abbrev pub address_in : Option CodeProgram → Call → SchedId
address_in code (Create s m arguments) = s
address_in code (Control control s t) = s
address_in code (Broadcast e value) = home_in code e

-- the order that a call gives, where its caller's next create makes this thread
abbrev pub order_of : ThreadId → Call → Order
order_of next (Create s m arguments) = order.Create next m arguments.now
order_of next (Control control s t) = control_order control t
order_of next (Broadcast e value) = order.Broadcast e value

abbrev pub sent_of : Heads → ThreadId → Call → Sent
sent_of h next call = record { to = to.Sched (address h call); order = order_of next call }
