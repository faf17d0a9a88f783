-- Offsets don't matter for the code of a listing.
use Rattle.std.proofs.Common.{◌≡◌, ℕ, List, [], ◌∷◌, map, Option, Some, None, refl, ap, ◌∙◌}
use Rattle.loft_tree.specs.Source.{Ident, EventName, Expression, Number, Variable, Special, Unary, Binary, Statement, Assign, AssignCreate, Create, PrintText, PrintValue, Cooperate, Generate, Await, Select, Get, Join, ControlThread, Broadcast, Link, Unlink, Run, Halt, If, While, Repeat, PlaceName, InScheduler, Unlinked}
use Rattle.loft_tree.specs.Resolved as resolved
use Rattle.loft_tree.specs.Resolved.{exp_of, exp_if, exps_of, events_of, target_of}
use Rattle.loft_show.specs.Places.{bare_name, bare_expression, bare_value, bare_event, bare_statement, bare_place}
use Rattle.loft_scopes.specs.declared.scope.Scope.{Scope}
use Rattle.loft_scopes.specs.Scopes.{Declared, meaning}
use Rattle.loft_numbers.specs.Numbers.{Holder, InShared, InSlot, holder_of, variable_term, held_by, term_of, value_of, terms_of, event_uses, place_of, scheduler_of, module_of, event_of}
use Rattle.loft_numbers.specs.Numbers as numbers
use Rattle.loft_code.specs.Operations.{Line, Do, Hold, Call, Branch, Count}
use Rattle.loft_listing_line.specs.Instructions as instruction
use Rattle.loft_listing_line.specs.Instructions.{Instruction, bare_instruction}
use Rattle.loft_listing_draft.specs.Drafts.{DraftOperation}
use Rattle.loft_listing_reader.specs.Numbered.{numbered_statement, numbered_instruction, numbered_line}
use Rattle.loft_listing_draft.specs.InMemory.{bare_operation}

module _ (ds : List Declared) (scope : Scope) where
  same_holder : (a b : ℕ) (h : Holder) → exp_of (variable_term ds scope a h) ≡ exp_of (variable_term ds scope b h)
  same_holder a b (InShared shared) = refl
  same_holder a b (InSlot slot) = refl

  same_held : (a b : ℕ) (h : Holder) → target_of (held_by ds scope a h) ≡ target_of (held_by ds scope b h)
  same_held a b (InShared shared) = refl
  same_held a b (InSlot slot) = refl

  same_term : (e : Expression) → exp_of (term_of ds scope (bare_expression e)) ≡ exp_of (term_of ds scope e)
  same_term (Number at value) = refl
  same_term (Variable name) = same_holder 0 name.at (holder_of (meaning ds scope name))
  same_term (Special at builtin) = refl
  same_term (Unary at operator operand) = ap (resolved.Unary operator) (same_term operand)
  same_term (Binary operator left right) =
      ap (λ v. resolved.Binary operator v (exp_of (term_of ds scope (bare_expression right)))) (same_term left)
      ∙ ap (resolved.Binary operator (exp_of (term_of ds scope left))) (same_term right)

  same_value : (e : Option Expression) → exp_if (value_of ds scope (bare_value e)) ≡ exp_if (value_of ds scope e)
  same_value None = refl
  same_value (Some e) = ap (λ v. Some v) (same_term e)

  same_terms : (es : List Expression) → exps_of (terms_of ds scope (map bare_expression es)) ≡ exps_of (terms_of ds scope es)
  same_terms [] = refl
  same_terms (e ∷ es) =
      ap (λ v. v ∷ exps_of (terms_of ds scope (map bare_expression es))) (same_term e)
      ∙ ap (λ vs. exp_of (term_of ds scope e) ∷ vs) (same_terms es)

  same_target : (name : Ident) → target_of (numbers.target_of ds scope (bare_name name)) ≡ target_of (numbers.target_of ds scope name)
  same_target name = same_held 0 name.at (holder_of (meaning ds scope name))

  same_events : (events : List EventName) → events_of (event_uses ds scope (map bare_event events)) ≡ events_of (event_uses ds scope events)
  same_events [] = refl
  same_events (event ∷ events) = ap (λ es. event_of ds scope event ∷ es) (same_events events)

  same_statement : (k : ℕ) (s : Statement) → numbered_statement ds scope k (bare_statement s) ≡ numbered_statement ds scope k s
  same_statement k (Assign target value) =
      ap (λ t. Do (resolved.Assign t (exp_of (term_of ds scope (bare_expression value))))) (same_target target)
      ∙ ap (λ v. Do (resolved.Assign (target_of (numbers.target_of ds scope target)) v)) (same_term value)
  same_statement k (AssignCreate target at c) =
      ap (λ t. Do (resolved.Make (Some t) (scheduler_of ds scope c.scheduler) (module_of ds scope c.called) (exps_of (terms_of ds scope (map bare_expression c.arguments))))) (same_target target)
      ∙ ap (λ es. Do (resolved.Make (Some (target_of (numbers.target_of ds scope target))) (scheduler_of ds scope c.scheduler) (module_of ds scope c.called) es)) (same_terms c.arguments)
  same_statement k (Create at c) = ap (λ es. Do (resolved.Make None (scheduler_of ds scope c.scheduler) (module_of ds scope c.called) es)) (same_terms c.arguments)
  same_statement k (PrintText at line value) = ap (λ v. Do (resolved.PrintText line v)) (same_value value)
  same_statement k (PrintValue at value) = ap (λ v. Do (resolved.PrintValue v)) (same_term value)
  same_statement k (Cooperate at instants) = ap (λ v. Hold k (resolved.Cooperate v)) (same_value instants)
  same_statement k (Generate at event value) = ap (λ v. Do (resolved.Generate (event_of ds scope event) v)) (same_value value)
  same_statement k (Await at event limit) = ap (λ v. Hold k (resolved.Await (event_of ds scope event ∷ []) v)) (same_value limit)
  same_statement k (Select at events limit) =
      ap (λ es. Hold k (resolved.Await es (exp_if (value_of ds scope (bare_value limit))))) (same_events events)
      ∙ ap (λ v. Hold k (resolved.Await (events_of (event_uses ds scope events)) v)) (same_value limit)
  same_statement k (Get at event index target) =
      ap (λ v. Hold k (resolved.Get (event_of ds scope event) v (target_of (numbers.target_of ds scope (bare_name target))))) (same_term index)
      ∙ ap (λ t. Hold k (resolved.Get (event_of ds scope event) (exp_of (term_of ds scope index)) t)) (same_target target)
  same_statement k (Join at thread limit) =
      ap (λ v. Hold k (resolved.Join v (exp_if (value_of ds scope (bare_value limit))))) (same_term thread)
      ∙ ap (λ v. Hold k (resolved.Join (exp_of (term_of ds scope thread)) v)) (same_value limit)
  same_statement k (ControlThread at control thread scheduler) = ap (λ v. Do (resolved.ControlThread control v (scheduler_of ds scope scheduler))) (same_term thread)
  same_statement k (Broadcast at event value) = ap (λ v. Do (resolved.Broadcast (event_of ds scope event) v)) (same_value value)
  same_statement k (Link at scheduler) = refl
  same_statement k (Unlink at) = refl
  same_statement k (Run at called arguments) = ap (λ es. Call k (module_of ds scope called) es) (same_terms arguments)
  same_statement k (Halt at) = refl
  same_statement k (If at test first second) = refl
  same_statement k (While at test body) = refl
  same_statement k (Repeat at count body) = refl

  same_instruction : (i : Instruction) → numbered_instruction ds scope (bare_instruction i) ≡ numbered_instruction ds scope i
  same_instruction (instruction.Do s) = same_statement 0 s
  same_instruction (instruction.Stop k s) = same_statement k s
  same_instruction (instruction.Branch t test) = ap (Branch t) (same_term test)
  same_instruction instruction.Enter = refl
  same_instruction (instruction.Count count) = ap Count (same_term count)
  same_instruction (instruction.Turn t) = refl
  same_instruction (instruction.Jump t) = refl
  same_instruction instruction.End = refl

  same_place : (p : PlaceName) → place_of ds scope (bare_place p) ≡ place_of ds scope p
  same_place (InScheduler name) = refl
  same_place Unlinked = refl

  -- an operation and the same without offsets have the same code
  pub same_numbered : (o : DraftOperation) → numbered_line ds scope (bare_operation o) ≡ numbered_line ds scope o
  same_numbered o =
      ap (λ p. let l : Line = record { place = p; depth = o.depth; operation = numbered_instruction ds scope (bare_instruction o.instruction) } in l) (same_place o.place)
      ∙ ap (λ i. let l : Line = record { place = place_of ds scope o.place; depth = o.depth; operation = i } in l) (same_instruction o.instruction)
