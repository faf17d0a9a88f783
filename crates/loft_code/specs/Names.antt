-- Whether all that an operation names is declared (docs/CODE.md, "Valid code").
use Rattle.std.specs.Prelude.{ℕ, nat_lt, nat_le, Bool, true, not, ◌&&◌, List, [], ◌∷◌, length, Option, Some, None, is_some, slice_get}
use Rattle.loft_base.specs.declared.ids.SchedId.{SchedId}
use Rattle.loft_base.specs.declared.ids.EventId.{EventId}
use Rattle.loft_base.specs.declared.ids.SharedId.{SharedId}
use Rattle.loft_base.specs.declared.ids.ModuleId.{ModuleId}
use Rattle.loft_tree.specs.declared.limits.TheConstants.{MAX_CHOICES}
use Rattle.loft_tree.specs.declared.kinds.Kind.{Kind}
use Rattle.loft_tree.specs.declared.heads.Place.{Place}
use Rattle.loft_tree.specs.declared.heads.Place.TheVariants.{Sched, Unlinked as Nowhere}
use Rattle.loft_tree.specs.declared.heads.Heads.{Heads}
use Rattle.loft_tree.specs.Resolved.{Exp, Number, Slot, Shared, Special, Unary, Binary, Target, ToSlot, ToShared, Action, Assign, Make, PrintText, PrintValue, Generate, ControlThread, Broadcast, Pause, Cooperate, Await, Get, Join, Link, Unlink, Halt}
use Rattle.loft_code.specs.Operations.{Operation, Do, Hold, Call, Branch, Enter, Count, Turn, Jump, End, Line}

abbrev pub has_scheduler : Heads → SchedId → Bool
has_scheduler h s = nat_lt s.0 (length h.schedulers)

abbrev pub has_event : Heads → EventId → Bool
has_event h e = nat_lt e.0 (length h.events)

abbrev pub has_shared : Heads → SharedId → Bool
has_shared h x = nat_lt x.0 (length h.shared)

abbrev pub has_module : Heads → ModuleId → Bool
has_module h m = nat_lt m.0 (length h.modules)

abbrev pub has_place : Heads → Place → Bool
has_place h (Sched s) = has_scheduler h s
has_place h Nowhere = true

abbrev pub has_events : Heads → List EventId → Bool
has_events h [] = true
has_events h (e ∷ es) = has_event h e && has_events h es

-- one event for `await`, 2 to 8 for `select`
abbrev pub has_choices : Heads → List EventId → Bool
has_choices h events = nat_le 1 (length events) && nat_le (length events) MAX_CHOICES && has_events h events

-- what a program declares, and the kinds of the slots of a module
module _ (h : Heads) (slots : List Kind) where
  abbrev pub has_slot : ℕ → Bool
  has_slot slot = is_some (slice_get slots slot)

  abbrev pub exp_has : Exp → Bool
  exp_has (Number value) = true
  exp_has (Slot slot) = has_slot slot
  exp_has (Shared shared) = has_shared h shared
  exp_has (Special builtin) = true
  exp_has (Unary operator operand) = exp_has operand
  exp_has (Binary operator left right) = exp_has left && exp_has right

  abbrev pub value_has : Option Exp → Bool
  value_has None = true
  value_has (Some e) = exp_has e

  abbrev pub exps_have : List Exp → Bool
  exps_have [] = true
  exps_have (e ∷ es) = exp_has e && exps_have es

  abbrev pub target_has : Target → Bool
  target_has (ToSlot slot) = has_slot slot
  target_has (ToShared shared) = has_shared h shared

  abbrev pub made_has : Option Target → Bool
  made_has None = true
  made_has (Some target) = target_has target

  abbrev pub action_has : Action → Bool
  action_has (Assign target value) = target_has target && exp_has value
  action_has (Make target scheduler m arguments) = made_has target && has_scheduler h scheduler && has_module h m && exps_have arguments
  action_has (PrintText line value) = value_has value
  action_has (PrintValue value) = exp_has value
  action_has (Generate event value) = has_event h event && value_has value
  action_has (ControlThread control thread scheduler) = exp_has thread && has_scheduler h scheduler
  action_has (Broadcast event value) = has_event h event && value_has value

  abbrev pub pause_has : Pause → Bool
  pause_has (Cooperate instants) = value_has instants
  pause_has (Await events limit) = has_choices h events && value_has limit
  pause_has (Get event index target) = has_event h event && exp_has index && target_has target
  pause_has (Join thread limit) = exp_has thread && value_has limit
  pause_has (Link scheduler) = has_scheduler h scheduler
  pause_has Unlink = true
  pause_has Halt = true

  abbrev pub operation_has : Operation → Bool
  operation_has (Do action) = action_has action
  operation_has (Hold k pause) = pause_has pause
  operation_has (Call k m arguments) = has_module h m && exps_have arguments
  operation_has (Branch t test) = exp_has test
  operation_has Enter = true
  operation_has (Count count) = exp_has count
  operation_has (Turn t) = true
  operation_has (Jump t) = true
  operation_has End = true

-- a number of a scheduler, an event, a shared variable, a module or a slot isn't declared, or events are too few or too many
abbrev pub has_bad_name : Heads → List Kind → Line → Bool
has_bad_name h slots l = not (has_place h l.place && operation_has h slots l.operation)
