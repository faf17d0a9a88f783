-- What a program says with names in place of its numbers (docs/CODE.md, "Listing"). All offsets are 0. A number that nothing
-- declares has the empty name; valid code has no such number.
use Rattle.std.specs.Prelude.{ℕ, List, [], ◌∷◌, ◌++◌, map, Option, Some, None, slice_get, unwrap_or, if◌then◌else◌}
use Rattle.std.specs.Option.{option_map}
use Rattle.loft_base.specs.declared.ids.SchedId.{SchedId}
use Rattle.loft_base.specs.declared.ids.EventId.{EventId}
use Rattle.loft_base.specs.declared.ids.SharedId.{SharedId}
use Rattle.loft_base.specs.declared.ids.ModuleId.{ModuleId}
use Rattle.loft_base.specs.declared.ids.Maker.{Maker}
use Rattle.loft_base.specs.declared.ids.Maker.TheVariants as maker
use Rattle.loft_base.specs.declared.ids.ThreadId.{ThreadId}
use Rattle.loft_base.specs.declared.ids.Value.{Value}
use Rattle.loft_base.specs.declared.ids.Value.TheVariants as value
use Rattle.loft_tree.specs.Source as src
use Rattle.loft_tree.specs.Source.{Ident, EventName, Expression, Creation, Statement, Named, PlaceName, ModuleHead, Argument, Declaration}
use Rattle.loft_tree.specs.Resolved as r
use Rattle.loft_tree.specs.Resolved.{Exp, Target, Action, Pause}
use Rattle.loft_tree.specs.declared.heads.Place.{Place}
use Rattle.loft_tree.specs.declared.heads.Place.TheVariants as place
use Rattle.loft_tree.specs.declared.heads.SlotHead.{SlotHead}
use Rattle.loft_tree.specs.declared.heads.EventHead.{EventHead}
use Rattle.loft_tree.specs.declared.heads.SharedHead.{SharedHead}
use Rattle.loft_tree.specs.declared.heads.Signature.{Signature}
use Rattle.loft_tree.specs.declared.heads.Start.{Start}
use Rattle.loft_tree.specs.declared.heads.ClientOrder.{ClientOrder}
use Rattle.loft_tree.specs.declared.heads.ClientOrder.TheVariants as order
use Rattle.loft_tree.specs.declared.heads.Heads.{Heads}
use Rattle.loft_code.specs.Places.{same_place}

-- ---- names

abbrev pub called : List ℕ → Ident
called text = record { text = text; at = 0 }

-- the name of the one with this number among these
abbrev pub called_at : {A : Type 0} → (A → List ℕ) → List A → ℕ → Ident
called_at name_of declared number = called (unwrap_or (option_map name_of (slice_get declared number)) [])

-- the name that a start gives its thread; a start without one has the empty name
abbrev pub start_name : Start → List ℕ
start_name t = unwrap_or t.name []

module _ (h : Heads) where
  abbrev pub called_scheduler : SchedId → Ident
  called_scheduler s = called_at (λ name. name) h.schedulers s.0

  abbrev pub called_event : EventId → EventName
  called_event e = record { name = called_at (λ head. head.name) h.events e.0 }

  abbrev pub called_shared : SharedId → Ident
  called_shared x = called_at (λ head. head.name) h.shared x.0

  abbrev pub called_module : ModuleId → Ident
  called_module m = called_at (λ head. head.name) h.modules m.0

  -- a thread outside module bodies: only those that the source starts have names
  abbrev pub called_made : Maker → ℕ → Ident
  called_made maker.Source number = called_at start_name h.starts number
  called_made (maker.Sched s) number = called []
  called_made (maker.Client c) number = called []

  abbrev pub called_thread : ThreadId → Ident
  called_thread t = called_made t.maker t.seq

  abbrev pub called_place : Place → PlaceName
  called_place (place.Sched s) = src.InScheduler (called_scheduler s)
  called_place place.Unlinked = src.Unlinked

  -- a wait for one event is an `await`, each other one a `select`
  abbrev pub called_wait : List EventId → Option Expression → Statement
  called_wait [] limit = src.Select 0 [] limit
  called_wait (event ∷ []) limit = src.Await 0 (called_event event) limit
  called_wait (event ∷ other ∷ events) limit = src.Select 0 (map called_event (event ∷ other ∷ events)) limit

-- a parameter or local variable of a module; the parameters are numbered first
abbrev pub called_slot : Signature → ℕ → Ident
called_slot m slot = called_at (λ head. head.name) (m.parameters ++ m.locals) slot

-- ---- what stands in the module with this signature

module _ (h : Heads) (m : Signature) where
  abbrev pub called_target : Target → Ident
  called_target (r.ToSlot slot) = called_slot m slot
  called_target (r.ToShared x) = called_shared h x

  abbrev pub called_expression : Exp → Expression
  called_expression (r.Number value) = src.Number 0 value
  called_expression (r.Slot slot) = src.Variable (called_slot m slot)
  called_expression (r.Shared x) = src.Variable (called_shared h x)
  called_expression (r.Special builtin) = src.Special 0 builtin
  called_expression (r.Unary operator operand) = src.Unary 0 operator (called_expression operand)
  called_expression (r.Binary operator left right) = src.Binary operator (called_expression left) (called_expression right)

  abbrev pub called_value : Option Exp → Option Expression
  called_value e = option_map called_expression e

  abbrev pub called_creation : SchedId → ModuleId → List Exp → Creation
  called_creation s made arguments =
      record { scheduler = called_scheduler h s; called = called_module h made; arguments = map called_expression arguments }

  abbrev pub called_make : Option Target → Creation → Statement
  called_make None creation = src.Create 0 creation
  called_make (Some target) creation = src.AssignCreate (called_target target) 0 creation

  abbrev pub called_action : Action → Statement
  called_action (r.Assign target value) = src.Assign (called_target target) (called_expression value)
  called_action (r.Make target s made arguments) = called_make target (called_creation s made arguments)
  called_action (r.PrintText line value) = src.PrintText 0 line (called_value value)
  called_action (r.PrintValue value) = src.PrintValue 0 (called_expression value)
  called_action (r.Generate event value) = src.Generate 0 (called_event h event) (called_value value)
  called_action (r.ControlThread control thread s) = src.ControlThread 0 control (called_expression thread) (called_scheduler h s)
  called_action (r.Broadcast event value) = src.Broadcast 0 (called_event h event) (called_value value)

  abbrev pub called_pause : Pause → Statement
  called_pause (r.Cooperate instants) = src.Cooperate 0 (called_value instants)
  called_pause (r.Await events limit) = called_wait h events (called_value limit)
  called_pause (r.Get event index target) = src.Get 0 (called_event h event) (called_expression index) (called_target target)
  called_pause (r.Join thread limit) = src.Join 0 (called_expression thread) (called_value limit)
  called_pause (r.Link s) = src.Link 0 (called_scheduler h s)
  called_pause r.Unlink = src.Unlink 0
  called_pause r.Halt = src.Halt 0

  abbrev pub called_run : ModuleId → List Exp → Statement
  called_run other arguments = src.Run 0 (called_module h other) (map called_expression arguments)

-- ---- declarations

abbrev pub called_variable : SlotHead → Named
called_variable v = record { kind = v.kind; name = called v.name }

abbrev pub scheduler_declaration : List ℕ → Declaration
scheduler_declaration name = src.Scheduler (called name)

module _ (h : Heads) where
  abbrev pub event_declaration : EventHead → Declaration
  event_declaration e = src.Event (called e.name) (called_scheduler h e.scheduler)

  abbrev pub shared_declaration : SharedHead → Declaration
  shared_declaration x = src.Shared (called x.name) (called_scheduler h x.scheduler) x.value

  -- the end place is written where it isn't the begin place
  abbrev pub called_end : Place → Place → Option PlaceName
  called_end begin end = if same_place begin end then None else Some (called_place h end)

  abbrev pub called_head : Signature → ModuleHead
  called_head m = record {
    name = called m.name;
    parameters = map called_variable m.parameters;
    begin = called_place h m.begin;
    end = called_end m.begin m.end;
  }

  abbrev pub called_argument : Value → Argument
  called_argument (value.Int number) = src.ANumber 0 number
  called_argument (value.Thread t) = src.AName (called_thread h t)

  abbrev pub start_declaration : Start → Declaration
  start_declaration t =
      src.Start (called_scheduler h t.scheduler) (called_module h t.module) (map called_argument t.arguments) (option_map called t.name)

  abbrev pub called_order : ClientOrder → src.Order
  called_order (order.Create s m arguments) = src.CreateThere (called_scheduler h s) (called_module h m) (map called_argument arguments)
  called_order (order.Control control t s) = src.ControlThere control (called_thread h t) (called_scheduler h s)
  called_order (order.Broadcast event value) = src.BroadcastThere (called_event h event) value
