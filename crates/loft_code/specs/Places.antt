-- Whether a thread may do an operation where it is linked, and where it is linked after it (docs/CODE.md, "Valid code").
use Rattle.std.specs.Prelude.{ℕ, Bool, true, false, not, ◌==◌, ◌&&◌, ◌||◌, List, [], ◌∷◌, Option, Some, None, slice_get}
use Rattle.loft_base.specs.declared.ids.SchedId.{SchedId}
use Rattle.loft_base.specs.declared.ids.EventId.{EventId}
use Rattle.loft_base.specs.declared.ids.SharedId.{SharedId}
use Rattle.loft_tree.specs.declared.heads.Place.{Place}
use Rattle.loft_tree.specs.declared.heads.Place.TheVariants.{Sched, Unlinked as Nowhere}
use Rattle.loft_tree.specs.declared.heads.EventHead.{EventHead}
use Rattle.loft_tree.specs.declared.heads.SharedHead.{SharedHead}
use Rattle.loft_tree.specs.declared.heads.Signature.{Signature}
use Rattle.loft_tree.specs.declared.heads.Heads.{Heads}
use Rattle.loft_tree.specs.Resolved.{Exp, Number, Slot, Shared, Special, Unary, Binary, Target, ToSlot, ToShared, Action, Assign, Make, PrintText, PrintValue, Generate, ControlThread, Broadcast, Pause, Cooperate, Await, Get, Join, Link, Unlink, Halt}
use Rattle.loft_code.specs.declared.ways.Way.{Way}
use Rattle.loft_code.specs.Operations.{Operation, Do, Hold, Call, Branch, Enter, Count, Turn, Jump, End, Line, goes_on_at, is_end}

abbrev pub is_linked : Place → Bool
is_linked (Sched s) = true
is_linked Nowhere = false

-- a thread that is linked so is linked to this scheduler
abbrev pub is_at : SchedId → Place → Bool
is_at s (Sched t) = s.0 == t.0
is_at s Nowhere = false

abbrev pub same_place : Place → Place → Bool
same_place (Sched s) here = is_at s here
same_place Nowhere here = not (is_linked here)

-- ---- what an unlinked thread may do

-- only a linked thread makes threads, prints, generates events, and stops but by `link` and `run`
abbrev pub linked_action : Action → Bool
linked_action (Assign target value) = false
linked_action (ControlThread control thread scheduler) = false
linked_action (Broadcast event value) = false
linked_action action = true

abbrev pub linked_pause : Pause → Bool
linked_pause (Link scheduler) = false
linked_pause pause = true

abbrev pub linked_only : Operation → Bool
linked_only (Do action) = linked_action action
linked_only (Hold k pause) = linked_pause pause
linked_only operation = false

-- ---- what is where the thread is

abbrev pub event_at : Place → Option EventHead → Bool
event_at here None = false
event_at here (Some e) = is_at e.scheduler here

abbrev pub shared_at : Place → Option SharedHead → Bool
shared_at here None = false
shared_at here (Some x) = is_at x.scheduler here

abbrev pub begins_at : Place → Option Signature → Bool
begins_at here None = false
begins_at here (Some m) = same_place m.begin here

-- what a program declares, and where a thread is linked
module _ (h : Heads) (here : Place) where
  -- the scheduler to which the thread is linked has the event, or the shared variable
  abbrev pub event_is_here : EventId → Bool
  event_is_here e = event_at here (slice_get h.events e.0)

  abbrev pub shared_is_here : SharedId → Bool
  shared_is_here x = shared_at here (slice_get h.shared x.0)

  abbrev pub exp_is_here : Exp → Bool
  exp_is_here (Number value) = true
  exp_is_here (Slot slot) = true
  exp_is_here (Shared shared) = shared_is_here shared
  exp_is_here (Special builtin) = true
  exp_is_here (Unary operator operand) = exp_is_here operand
  exp_is_here (Binary operator left right) = exp_is_here left && exp_is_here right

  abbrev pub value_is_here : Option Exp → Bool
  value_is_here None = true
  value_is_here (Some e) = exp_is_here e

  abbrev pub exps_are_here : List Exp → Bool
  exps_are_here [] = true
  exps_are_here (e ∷ es) = exp_is_here e && exps_are_here es

  abbrev pub target_is_here : Target → Bool
  target_is_here (ToSlot slot) = true
  target_is_here (ToShared shared) = shared_is_here shared

  abbrev pub made_is_here : Option Target → Bool
  made_is_here None = true
  made_is_here (Some target) = target_is_here target

  abbrev pub events_are_here : List EventId → Bool
  events_are_here [] = true
  events_are_here (e ∷ es) = event_is_here e && events_are_here es

  -- `create` makes a thread in the scheduler where its module begins
  abbrev pub action_is_here : Action → Bool
  action_is_here (Assign target value) = target_is_here target && exp_is_here value
  action_is_here (Make target scheduler m arguments) =
      made_is_here target && begins_at (Sched scheduler) (slice_get h.modules m.0) && exps_are_here arguments
  action_is_here (PrintText line value) = value_is_here value
  action_is_here (PrintValue value) = exp_is_here value
  action_is_here (Generate event value) = event_is_here event && value_is_here value
  action_is_here (ControlThread control thread scheduler) = exp_is_here thread
  action_is_here (Broadcast event value) = value_is_here value

  abbrev pub pause_is_here : Pause → Bool
  pause_is_here (Cooperate instants) = value_is_here instants
  pause_is_here (Await events limit) = events_are_here events && value_is_here limit
  pause_is_here (Get event index target) = event_is_here event && exp_is_here index && target_is_here target
  pause_is_here (Join thread limit) = exp_is_here thread && value_is_here limit
  pause_is_here (Link scheduler) = true
  pause_is_here Unlink = true
  pause_is_here Halt = true

  -- `run` needs a module that begins here
  abbrev pub operation_is_here : Operation → Bool
  operation_is_here (Do action) = action_is_here action
  operation_is_here (Hold k pause) = pause_is_here pause
  operation_is_here (Call k m arguments) = begins_at here (slice_get h.modules m.0) && exps_are_here arguments
  operation_is_here (Branch t test) = exp_is_here test
  operation_is_here Enter = true
  operation_is_here (Count count) = exp_is_here count
  operation_is_here (Turn t) = true
  operation_is_here (Jump t) = true
  operation_is_here End = true

  abbrev pub is_allowed : Operation → Bool
  is_allowed o = (is_linked here || not (linked_only o)) && operation_is_here o

-- ---- where an operation leaves the thread

abbrev pub end_of : Option Signature → Place
end_of None = Nowhere
end_of (Some m) = m.end

abbrev pub left_by_pause : Place → Pause → Place
left_by_pause here (Link scheduler) = Sched scheduler
left_by_pause here Unlink = Nowhere
left_by_pause here pause = here

abbrev pub place_left : Heads → Place → Operation → Place
place_left h here (Do action) = here
place_left h here (Hold k pause) = left_by_pause here pause
place_left h here (Call k m arguments) = end_of (slice_get h.modules m.0)
place_left h here (Branch t test) = here
place_left h here Enter = here
place_left h here (Count count) = here
place_left h here (Turn t) = here
place_left h here (Jump t) = here
place_left h here End = here

-- ---- places of the operations of a module

-- an operation that is there has another place
abbrev pub is_elsewhere : Place → Option Line → Bool
is_elsewhere there None = false
is_elsewhere there (Some l) = not (same_place there l.place)

-- one of the operations at which it goes on has another place
abbrev pub leads_elsewhere : List Line → Place → List Way → Bool
leads_elsewhere lines there [] = false
leads_elsewhere lines there (w ∷ ws) = is_elsewhere there (slice_get lines w.at) || leads_elsewhere lines there ws

-- The place doesn't allow the operation; or operation 0 isn't where the module begins, or an `end` where it ends; or an operation at which it
-- goes on has another place than the one where it leaves the thread.
abbrev pub has_bad_place : Heads → Signature → List Line → ℕ → Line → Bool
has_bad_place h m lines p l =
    not (is_allowed h l.place l.operation)
    || ((p == 0) && not (same_place m.begin l.place))
    || (is_end l.operation && not (same_place m.end l.place))
    || leads_elsewhere lines (place_left h l.place l.operation) (goes_on_at l.operation p l.depth)
