-- Orders that a scheduler of a program may be given (docs/SEMANTICS.md, "Fits").
use Rattle.std.specs.Prelude.{◌≡◌, ◌<◌, length}
use Rattle.loft_base.specs.declared.ids.SchedId.{SchedId}
use Rattle.loft_base.specs.declared.ids.EventId.{EventId}
use Rattle.loft_base.specs.declared.ids.Maker.{Maker}
use Rattle.loft_base.specs.declared.ids.Maker.TheVariants as maker
use Rattle.loft_base.specs.declared.ids.ThreadId.{ThreadId}
use Rattle.loft_base.specs.declared.ids.Value.{Value}
use Rattle.loft_base.specs.declared.ids.Value.TheVariants as value
use Rattle.loft_tree.specs.declared.heads.Heads.{Heads}
use Rattle.loft_tree.specs.declared.heads.Place.TheVariants.{Sched}
use Rattle.loft_tree.specs.Fits.{Each}
use Rattle.loft_tree.specs.HeadsFit.{HeadsFit}
use Rattle.loft_orders.specs.declared.thread.Wait.{Wait}
use Rattle.loft_orders.specs.declared.thread.Wait.TheVariants as wait
use Rattle.loft_orders.specs.declared.thread.Frame.{Frame}
use Rattle.loft_orders.specs.declared.thread.Thread.{Thread}
use Rattle.loft_orders.specs.declared.order.At.{At}
use Rattle.loft_orders.specs.declared.order.End.{End}
use Rattle.loft_orders.specs.declared.order.End.TheVariants as end
use Rattle.loft_orders.specs.declared.order.Order.{Order}
use Rattle.loft_orders.specs.declared.order.Order.TheVariants as order
use Rattle.loft_sense.specs.Heads.{home}
use Rattle.loft_sense.specs.Machine.{Prog, heads}
use Rattle.loft_sense.specs.Stands.{Stands}

-- the makers of threads that a program has: its source, its schedulers, and any client, a caller too
abbrev pub IsMaker : Heads → Maker → Type 0
IsMaker h (maker.Sched s) = s < length h.schedulers
IsMaker h m = Unit {0}

-- a thread that a maker of the program may have made, whatever its number is
abbrev pub IsThread : Heads → ThreadId → Type 0
IsThread h t = IsMaker h t.maker

-- a number, or such a thread
abbrev pub IsValue : Heads → Value → Type 0
IsValue h (value.Int n) = Unit {0}
IsValue h (value.Thread t) = IsThread h t

-- the threads that are named in a wait are declared
abbrev pub WaitNames : Heads → Wait → Type 0
WaitNames h (wait.Join t left) = IsThread h t
WaitNames h w = Unit {0}

abbrev pub FrameNames : Heads → Frame → Type 0
FrameNames h f = Each (IsValue h) f.values

-- all threads that are named in a thread are declared: its own, that of its wait, and those in its values
pub record ThreadNames (h : Heads) (t : Thread) : Type 0 where
  pub id : IsThread h t.id
  pub wait : WaitNames h t.wait
  pub values : Each (FrameNames h) t.frames

abbrev pub IsPoint : Heads → At → Type 0
IsPoint h at = at.module.0 < length h.modules

-- the module that an end names is declared; the number of its stop isn't asked
abbrev pub EndNames : Heads → End → Type 0
EndNames h (end.Div at) = IsPoint h at
EndNames h (end.Deep at) = IsPoint h at
EndNames h (end.Over at) = IsPoint h at
EndNames h (end.Flood at) = IsPoint h at
EndNames h e = Unit {0}

-- the event is declared, and stands on the scheduler's board
pub record IsEventOf (h : Heads) (s : SchedId) (e : EventId) : Type 0 where
  pub declared : e.0 < length h.events
  pub there : home h e ≡ s

-- the order may be given to the scheduler
abbrev pub Fits : Prog → SchedId → Order → Type 0
Fits x s (order.Create t m args) = IsThread (heads x) t × HeadsFit (heads x) s m args × Each (IsValue (heads x)) args
Fits x s (order.Arrive t) = (t.wait ≡ wait.New) × Stands x t (Sched s) × ThreadNames (heads x) t
Fits x s (order.Stop t) = IsThread (heads x) t
Fits x s (order.Suspend t) = IsThread (heads x) t
Fits x s (order.Resume t) = IsThread (heads x) t
Fits x s (order.Broadcast e v) = IsEventOf (heads x) s e
Fits x s (order.Ended t e) = IsThread (heads x) t × EndNames (heads x) e
