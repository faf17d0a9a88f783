-- Operations with the names of code have no offsets.
use Rattle.std.proofs.Common.{◌≡◌, List, [], ◌∷◌, Option, Some, None, map, refl, ap}
use Rattle.loft_base.specs.declared.ids.EventId.{EventId}
use Rattle.loft_tree.specs.declared.heads.Place.{Place}
use Rattle.loft_tree.specs.declared.heads.Place.TheVariants as place
use Rattle.loft_tree.specs.declared.heads.Signature.{Signature}
use Rattle.loft_tree.specs.declared.heads.Heads.{Heads}
use Rattle.loft_tree.specs.Source as src
use Rattle.loft_tree.specs.Resolved as r
use Rattle.loft_tree.specs.Resolved.{Action, Exp, Pause, Target}
use Rattle.loft_show.specs.Places.{bare_event, bare_expression, bare_name, bare_place, bare_statement, bare_value}
use Rattle.loft_code.specs.Operations.{Operation, Do, Hold, Call, Branch, Enter, Count, Turn, Jump, End}
use Rattle.loft_listing_line.specs.Instructions as instruction
use Rattle.loft_listing_line.specs.Instructions.{bare_instruction}
use Rattle.loft_listing.specs.Called.{called_action, called_event, called_expression, called_module, called_pause, called_place, called_scheduler, called_target, called_value}
use Rattle.loft_listing.specs.Lines.{called_operation}

pub place_bare : (h : Heads) (p : Place) → bare_place (called_place h p) ≡ called_place h p
place_bare h (place.Sched s) = refl
place_bare h place.Unlinked = refl

-- what stands in the module with this signature
module _ (h : Heads) (m : Signature) where
  expression_bare : (e : Exp) → bare_expression (called_expression h m e) ≡ called_expression h m e
  expression_bare (r.Number value) = refl
  expression_bare (r.Slot slot) = refl
  expression_bare (r.Shared x) = refl
  expression_bare (r.Special builtin) = refl
  expression_bare (r.Unary operator operand) = ap (src.Unary 0 operator) (expression_bare operand)
  expression_bare (r.Binary operator left right) = (λ i. src.Binary operator (expression_bare left i) (expression_bare right i))

  value_bare : (e : Option Exp) → bare_value (called_value h m e) ≡ called_value h m e
  value_bare None = refl
  value_bare (Some e) = ap Some (expression_bare e)

  values_bare : (es : List Exp) → map bare_expression (map (called_expression h m) es) ≡ map (called_expression h m) es
  values_bare [] = refl
  values_bare (e ∷ es) = (λ i. expression_bare e i ∷ values_bare es i)

  events_bare : (es : List EventId) → map bare_event (map (called_event h) es) ≡ map (called_event h) es
  events_bare [] = refl
  events_bare (e ∷ es) = ap (λ xs. called_event h e ∷ xs) (events_bare es)

  target_bare : (t : Target) → bare_name (called_target h m t) ≡ called_target h m t
  target_bare (r.ToSlot slot) = refl
  target_bare (r.ToShared x) = refl

  action_bare : (a : Action) → bare_statement (called_action h m a) ≡ called_action h m a
  action_bare (r.Assign target value) = (λ i. src.Assign (target_bare target i) (expression_bare value i))
  action_bare (r.Make None s x args) = (λ i. src.Create 0 (record { scheduler = called_scheduler h s; called = called_module h x; arguments = values_bare args i }))
  action_bare (r.Make (Some target) s x args) =
      (λ i. src.AssignCreate (target_bare target i) 0 (record { scheduler = called_scheduler h s; called = called_module h x; arguments = values_bare args i }))
  action_bare (r.PrintText line value) = ap (src.PrintText 0 line) (value_bare value)
  action_bare (r.PrintValue value) = ap (src.PrintValue 0) (expression_bare value)
  action_bare (r.Generate event value) = ap (src.Generate 0 (called_event h event)) (value_bare value)
  action_bare (r.ControlThread control thread s) = ap (λ e. src.ControlThread 0 control e (called_scheduler h s)) (expression_bare thread)
  action_bare (r.Broadcast event value) = ap (src.Broadcast 0 (called_event h event)) (value_bare value)

  pause_bare : (p : Pause) → bare_statement (called_pause h m p) ≡ called_pause h m p
  pause_bare (r.Cooperate instants) = ap (src.Cooperate 0) (value_bare instants)
  pause_bare (r.Await [] limit) = ap (src.Select 0 []) (value_bare limit)
  pause_bare (r.Await (event ∷ []) limit) = ap (src.Await 0 (called_event h event)) (value_bare limit)
  pause_bare (r.Await (event ∷ other ∷ events) limit) = (λ i. src.Select 0 (events_bare (event ∷ other ∷ events) i) (value_bare limit i))
  pause_bare (r.Get event index target) = (λ i. src.Get 0 (called_event h event) (expression_bare index i) (target_bare target i))
  pause_bare (r.Join thread limit) = (λ i. src.Join 0 (expression_bare thread i) (value_bare limit i))
  pause_bare (r.Link s) = refl
  pause_bare r.Unlink = refl
  pause_bare r.Halt = refl

  pub instruction_bare : (o : Operation) → bare_instruction (called_operation h m o) ≡ called_operation h m o
  instruction_bare (Do action) = ap instruction.Do (action_bare action)
  instruction_bare (Hold k pause) = ap (instruction.Stop k) (pause_bare pause)
  instruction_bare (Call k x args) = ap (λ es. instruction.Stop k (src.Run 0 (called_module h x) es)) (values_bare args)
  instruction_bare (Branch t test) = ap (instruction.Branch t) (expression_bare test)
  instruction_bare Enter = refl
  instruction_bare (Count count) = ap instruction.Count (expression_bare count)
  instruction_bare (Turn t) = refl
  instruction_bare (Jump t) = refl
  instruction_bare End = refl
