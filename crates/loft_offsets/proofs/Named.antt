-- Programs with numbers in place of names, without offsets: they do the same, and need the same.
use Rattle.std.proofs.Common.{◌≡◌, List, [], ◌∷◌, map, Option, Some, None, option_map, refl, ap}
use Rattle.loft_tree.specs.declared.named.Target.{Target}
use Rattle.loft_tree.specs.declared.named.Target.TheVariants as target
use Rattle.loft_tree.specs.declared.named.LinkItem.{LinkItem}
use Rattle.loft_tree.specs.declared.named.LinkItem.TheVariants as link
use Rattle.loft_tree.specs.NamedTree.{EventUse, NamedExpression, Number, Slot, Shared, Special, Unary, Binary, NamedCreation, NamedAction, Assign, Make, PrintText, PrintValue, Generate, ControlThread, Broadcast, NamedPause, Cooperate, Await, Get, Join, Link, Unlink, Halt, NamedStatement, Do, Hold, Run, If, While, Repeat, NamedStatements, Done, Then, NamedModule, NamedProgram}
use Rattle.loft_tree.specs.Resolved as resolved
use Rattle.loft_tree.specs.Resolved.{Body, action_of, body_of, events_of, exp_if, exp_of, exps_of, pause_of, resolved_of, step_of, target_if, target_of}

-- every offset becomes 0
abbrev pub bare_term : NamedExpression → NamedExpression
bare_term (Number value) = Number value
bare_term (Slot slot) = Slot slot
bare_term (Shared at shared) = Shared 0 shared
bare_term (Special builtin) = Special builtin
bare_term (Unary operator operand) = Unary operator (bare_term operand)
bare_term (Binary operator left right) = Binary operator (bare_term left) (bare_term right)

abbrev pub bare_if : Option NamedExpression → Option NamedExpression
bare_if e = option_map bare_term e

abbrev pub bare_target : Target → Target
bare_target (target.Slot slot) = target.Slot slot
bare_target (target.Shared at shared) = target.Shared 0 shared

abbrev pub bare_use : EventUse → EventUse
bare_use e = record { at = 0; event = e.event }

abbrev pub bare_creation : NamedCreation → NamedCreation
bare_creation c = record { at = 0; scheduler = c.scheduler; «module» = c.«module»; arguments = map bare_term c.arguments }

abbrev pub bare_action : NamedAction → NamedAction
bare_action (Assign target value) = Assign (bare_target target) (bare_term value)
bare_action (Make target creation) = Make (option_map bare_target target) (bare_creation creation)
bare_action (PrintText line value) = PrintText line (bare_if value)
bare_action (PrintValue value) = PrintValue (bare_term value)
bare_action (Generate event value) = Generate (bare_use event) (bare_if value)
bare_action (ControlThread control thread scheduler) = ControlThread control (bare_term thread) scheduler
bare_action (Broadcast event value) = Broadcast (bare_use event) (bare_if value)

abbrev pub bare_pause : NamedPause → NamedPause
bare_pause (Cooperate instants) = Cooperate (bare_if instants)
bare_pause (Await events limit) = Await (map bare_use events) (bare_if limit)
bare_pause (Get event index target) = Get (bare_use event) (bare_term index) (bare_target target)
bare_pause (Join thread limit) = Join (bare_term thread) (bare_if limit)
bare_pause (Link scheduler) = Link scheduler
bare_pause Unlink = Unlink
bare_pause Halt = Halt

abbrev mutual
  pub bare_statement : NamedStatement → NamedStatement
  bare_statement (Do at action) = Do 0 (bare_action action)
  bare_statement (Hold at stop pause) = Hold 0 stop (bare_pause pause)
  bare_statement (Run at stop called m arguments) = Run 0 stop 0 m (map bare_term arguments)
  bare_statement (If at test first second) = If 0 (bare_term test) (bare_body first) (bare_body second)
  bare_statement (While at test body) = While 0 (bare_term test) (bare_body body)
  bare_statement (Repeat at count body) = Repeat 0 (bare_term count) (bare_body body)

  pub bare_body : NamedStatements → NamedStatements
  bare_body Done = Done
  bare_body (Then first rest) = Then (bare_statement first) (bare_body rest)

abbrev pub bare_module : NamedModule → NamedModule
bare_module m = record { at = 0; body = bare_body m.body }

abbrev pub bare_link : LinkItem → LinkItem
bare_link (link.Module m) = link.Module m
bare_link (link.Start at start) = link.Start 0 start
bare_link (link.Create at client order) = link.Create 0 client order

abbrev pub bare_program : NamedProgram → NamedProgram
bare_program n = record { heads = n.heads; modules = map bare_module n.modules; links = map bare_link n.links }

-- ---- what runs is the same

exp_bare : (e : NamedExpression) → exp_of (bare_term e) ≡ exp_of e
exp_bare (Number value) = refl
exp_bare (Slot slot) = refl
exp_bare (Shared at shared) = refl
exp_bare (Special builtin) = refl
exp_bare (Unary operator operand) = λ i. resolved.Unary operator (exp_bare operand i)
exp_bare (Binary operator left right) = λ i. resolved.Binary operator (exp_bare left i) (exp_bare right i)

if_bare : (e : Option NamedExpression) → exp_if (bare_if e) ≡ exp_if e
if_bare None = refl
if_bare (Some e) = λ i. Some (exp_bare e i)

exps_bare : (es : List NamedExpression) → exps_of (map bare_term es) ≡ exps_of es
exps_bare [] = refl
exps_bare (e ∷ es) = λ i. exp_bare e i ∷ exps_bare es i

held_bare : (t : Target) → target_of (bare_target t) ≡ target_of t
held_bare (target.Slot slot) = refl
held_bare (target.Shared at shared) = refl

uses_bare : (events : List EventUse) → events_of (map bare_use events) ≡ events_of events
uses_bare [] = refl
uses_bare (e ∷ es) = λ i. e.event ∷ uses_bare es i

made_bare : (t : Option Target) → target_if (option_map bare_target t) ≡ target_if t
made_bare None = refl
made_bare (Some t) = λ i. Some (held_bare t i)

action_bare : (a : NamedAction) → action_of (bare_action a) ≡ action_of a
action_bare (Assign target value) = λ i. resolved.Assign (held_bare target i) (exp_bare value i)
action_bare (Make target c) = λ i. resolved.Make (made_bare target i) c.scheduler c.«module» (exps_bare c.arguments i)
action_bare (PrintText line value) = λ i. resolved.PrintText line (if_bare value i)
action_bare (PrintValue value) = λ i. resolved.PrintValue (exp_bare value i)
action_bare (Generate event value) = λ i. resolved.Generate event.event (if_bare value i)
action_bare (ControlThread control thread scheduler) = λ i. resolved.ControlThread control (exp_bare thread i) scheduler
action_bare (Broadcast event value) = λ i. resolved.Broadcast event.event (if_bare value i)

pause_bare : (p : NamedPause) → pause_of (bare_pause p) ≡ pause_of p
pause_bare (Cooperate instants) = λ i. resolved.Cooperate (if_bare instants i)
pause_bare (Await events limit) = λ i. resolved.Await (uses_bare events i) (if_bare limit i)
pause_bare (Get event index target) = λ i. resolved.Get event.event (exp_bare index i) (held_bare target i)
pause_bare (Join thread limit) = λ i. resolved.Join (exp_bare thread i) (if_bare limit i)
pause_bare (Link scheduler) = refl
pause_bare Unlink = refl
pause_bare Halt = refl

mutual
  step_bare : (s : NamedStatement) → step_of (bare_statement s) ≡ step_of s
  step_bare (Do at action) = λ i. resolved.Do (action_bare action i)
  step_bare (Hold at stop pause) = λ i. resolved.Hold stop (pause_bare pause i)
  step_bare (Run at stop called m arguments) = λ i. resolved.Call stop m (exps_bare arguments i)
  step_bare (If at test first second) = λ i. resolved.Choose (exp_bare test i) (steps_bare first i) (steps_bare second i)
  step_bare (While at test body) = λ i. resolved.Loop (exp_bare test i) (steps_bare body i)
  step_bare (Repeat at count body) = λ i. resolved.Times (exp_bare count i) (steps_bare body i)

  steps_bare : (body : NamedStatements) → body_of (bare_body body) ≡ body_of body
  steps_bare Done = refl
  steps_bare (Then first rest) = λ i. resolved.Then (step_bare first i) (steps_bare rest i)

bodies_bare : (ms : List NamedModule) → map (λ (m : NamedModule). body_of m.body) (map bare_module ms) ≡ map (λ (m : NamedModule). body_of m.body) ms
bodies_bare [] = refl
bodies_bare (m ∷ ms) = λ i. steps_bare m.body i ∷ bodies_bare ms i

pub resolved_bare : (n : NamedProgram) → resolved_of (bare_program n) ≡ resolved_of n
resolved_bare n = ap (λ (bs : List Body). record { heads = n.heads; bodies = bs }) (bodies_bare n.modules)
