-- Orders that have a text of their own (docs/REPORT.md, "Texts of values"): all that they name is declared, and their
-- numbers have the ranges of their types.
use Rattle.std.specs.Prelude.{◌≡◌, ℕ, ◌<◌, ◌^◌, ◌==◌, nat_le, Bool, false, ◌||◌, ◌&&◌, ℤ, pos, negsuc, List, [], ◌∷◌, length}
use Rattle.loft_base.specs.declared.ids.Maker.{Maker}
use Rattle.loft_base.specs.declared.ids.Maker.TheVariants as maker
use Rattle.loft_base.specs.declared.ids.ThreadId.{ThreadId}
use Rattle.loft_base.specs.declared.ids.EventId.{EventId}
use Rattle.loft_base.specs.declared.ids.ModuleId.{ModuleId}
use Rattle.loft_base.specs.declared.ids.Value.{Value}
use Rattle.loft_base.specs.declared.ids.Value.TheVariants as value
use Rattle.loft_tree.specs.Fits.{Each, IfThere}
use Rattle.loft_tree.specs.NamedFits.{HeadsHold, NamesDiffer}
use Rattle.loft_tree.specs.declared.heads.Heads.{Heads}
use Rattle.loft_orders.specs.declared.thread.Wait.TheVariants as wait
use Rattle.loft_orders.specs.declared.thread.Frame.{Frame}
use Rattle.loft_orders.specs.declared.thread.Thread.{Thread}
use Rattle.loft_orders.specs.declared.order.At.{At}
use Rattle.loft_orders.specs.declared.order.End.{End}
use Rattle.loft_orders.specs.declared.order.End.TheVariants as end
use Rattle.loft_orders.specs.declared.order.Order.{Order}
use Rattle.loft_orders.specs.declared.order.Order.TheVariants as order

-- declarations that are those of a program, no two of one name
pub record OwnNames (h : Heads) : Type 0 where
  pub hold : HeadsHold h
  pub differ : NamesDiffer h

-- the source, a scheduler or a client; a caller has no name
abbrev pub MakerHasText : Heads → Maker → Type 0
MakerHasText h maker.Source = Unit {0}
MakerHasText h (maker.Sched s) = s < length h.schedulers
MakerHasText h (maker.Client c) = c < length h.clients

pub record IdHasText (h : Heads) (t : ThreadId) : Type 0 where
  pub maker : MakerHasText h t.maker
  pub seq : t.seq < 2 ^ 64

-- from -2^63 to 2^63 - 1
abbrev pub NumberHasText : ℤ → Type 0
NumberHasText (pos n) = n < 2 ^ 63
NumberHasText (negsuc n) = n < 2 ^ 63

abbrev pub ValueHasText : Heads → Value → Type 0
ValueHasText h (value.Int n) = NumberHasText n
ValueHasText h (value.Thread t) = IdHasText h t

abbrev pub ModuleHasText : Heads → ModuleId → Type 0
ModuleHasText h m = m.0 < length h.modules

abbrev pub EventHasText : Heads → EventId → Type 0
EventHasText h e = e.0 < length h.events

pub record PointHasText (h : Heads) (at : At) : Type 0 where
  pub declared : ModuleHasText h at.module
  pub stop : at.stop < 2 ^ 32

abbrev pub EndHasText : Heads → End → Type 0
EndHasText h end.Done = Unit {0}
EndHasText h end.Stopped = Unit {0}
EndHasText h end.Full = Unit {0}
EndHasText h (end.Div at) = PointHasText h at
EndHasText h (end.Deep at) = PointHasText h at
EndHasText h (end.Over at) = PointHasText h at
EndHasText h (end.Flood at) = PointHasText h at

pub record FrameHasText (h : Heads) (f : Frame) : Type 0 where
  pub declared : ModuleHasText h f.module
  pub stop : f.stop < 2 ^ 32
  pub counts : Each NumberHasText f.counts
  pub values : Each (ValueHasText h) f.values

-- a thread that hasn't run yet where it is linked
pub record ThreadHasText (h : Heads) (t : Thread) : Type 0 where
  pub id : IdHasText h t.id
  pub code : NumberHasText t.code
  pub mask : NumberHasText t.mask
  pub wait : t.wait ≡ wait.New
  pub frames : Each (FrameHasText h) t.frames

pub record CreateHasText (h : Heads) (t : ThreadId) (m : ModuleId) (args : List Value) : Type 0 where
  pub id : IdHasText h t
  pub declared : ModuleHasText h m
  pub each : Each (ValueHasText h) args

-- the order has a text of its own; an arriving thread is new, as in each order that may be given (docs/SEMANTICS.md, "Fits")
abbrev pub OrderHasText : Heads → Order → Type 0
OrderHasText h (order.Create t m args) = CreateHasText h t m args
OrderHasText h (order.Arrive t) = ThreadHasText h t
OrderHasText h (order.Stop t) = IdHasText h t
OrderHasText h (order.Suspend t) = IdHasText h t
OrderHasText h (order.Resume t) = IdHasText h t
OrderHasText h (order.Broadcast e v) = EventHasText h e × IfThere NumberHasText v
OrderHasText h (order.Ended t e) = IdHasText h t × EndHasText h e

-- the bytes begin as a number does
abbrev pub begins_number : List ℕ → Bool
begins_number [] = false
begins_number (b ∷ bs) = b == 45 || (nat_le 48 b && nat_le b 57)
