-- The numbers of names don't depend on offsets: with expressions and statements.
use Rattle.std.proofs.Common.{◌≡◌, ℕ, ◌+◌, List, [], ◌∷◌, map, Option, Some, None, option_map, refl, ap, ◌∙◌}
use Rattle.loft_base.specs.declared.ids.SchedId.{SchedId}
use Rattle.loft_base.specs.declared.ids.EventId.{EventId}
use Rattle.loft_base.specs.declared.ids.ModuleId.{ModuleId}
use Rattle.loft_tree.specs.Source.{Ident, EventName, Expression, Number, Variable, Special, Unary, Binary, Creation, Statement, Assign, AssignCreate, Create, PrintText, PrintValue, Cooperate, Generate, Await, Select, Get, Join, ControlThread, Broadcast, Link, Unlink, Run, Halt, If, While, Repeat, Statements, Done, Then}
use Rattle.loft_tree.specs.NamedTree as n
use Rattle.loft_tree.specs.NamedTree.{EventUse}
use Rattle.loft_show.specs.Places as show
use Rattle.loft_show.specs.Places.{bare_name, bare_event, bare_expression, bare_value}
use Rattle.loft_scopes.specs.declared.scope.Scope.{Scope}
use Rattle.loft_scopes.specs.Scopes.{Declared, meaning}
use Rattle.loft_numbers.specs.Numbers.{Holder, InShared, InSlot, body_of, body_stops, creation_of, event_of, event_use, event_uses, held_by, holder_of, module_of, number_of, number_or_0, scheduler_of, statement_of, stops_in, target_of, term_of, terms_of, value_of, variable_term}
use Rattle.loft_offsets.proofs.Declared.{bare_declared, bares, meaning_bare}
use Rattle.loft_offsets.proofs.Named.{bare_body, bare_creation, bare_if, bare_statement, bare_target, bare_term, bare_use}

number_alike : (o : Option Declared) → number_or_0 (option_map bare_declared o) ≡ number_or_0 o
number_alike None = refl
number_alike (Some d) = refl

holder_alike : (o : Option Declared) → holder_of (option_map bare_declared o) ≡ holder_of o
holder_alike None = refl
holder_alike (Some d) = refl

mutual
  stops_bare : (s : Statement) → stops_in (show.bare_statement s) ≡ stops_in s
  stops_bare (Assign target value) = refl
  stops_bare (AssignCreate target at creation) = refl
  stops_bare (Create at creation) = refl
  stops_bare (PrintText at line value) = refl
  stops_bare (PrintValue at value) = refl
  stops_bare (Cooperate at instants) = refl
  stops_bare (Generate at event value) = refl
  stops_bare (Await at event limit) = refl
  stops_bare (Select at events limit) = refl
  stops_bare (Get at event index target) = refl
  stops_bare (Join at thread limit) = refl
  stops_bare (ControlThread at control thread scheduler) = refl
  stops_bare (Broadcast at event value) = refl
  stops_bare (Link at scheduler) = refl
  stops_bare (Unlink at) = refl
  stops_bare (Run at called arguments) = refl
  stops_bare (Halt at) = refl
  stops_bare (If at test first second) = λ i. body_stops_bare first i + body_stops_bare second i
  stops_bare (While at test body) = body_stops_bare body
  stops_bare (Repeat at count body) = body_stops_bare body

  body_stops_bare : (body : Statements) → body_stops (show.bare_body body) ≡ body_stops body
  body_stops_bare Done = refl
  body_stops_bare (Then first rest) = λ i. stops_bare first i + body_stops_bare rest i

-- the declarations of the program, and where its names are used
module _ (ds : List Declared) (scope : Scope) where
  pub number_bare : (name : Ident) → number_of (bares ds) scope (bare_name name) ≡ number_of ds scope name
  number_bare name = ap number_or_0 (meaning_bare ds scope name) ∙ number_alike (meaning ds scope name)

  pub scheduler_bare : (name : Ident) → scheduler_of (bares ds) scope (bare_name name) ≡ scheduler_of ds scope name
  scheduler_bare name = ap (λ (k : ℕ). let s : SchedId = record { 0 = k } in s) (number_bare name)

  pub module_bare : (name : Ident) → module_of (bares ds) scope (bare_name name) ≡ module_of ds scope name
  module_bare name = ap (λ (k : ℕ). let m : ModuleId = record { 0 = k } in m) (number_bare name)

  pub event_bare : (event : EventName) → event_of (bares ds) scope (bare_event event) ≡ event_of ds scope event
  event_bare event = ap (λ (k : ℕ). let e : EventId = record { 0 = k } in e) (number_bare event.name)

  use_bare : (event : EventName) → event_use (bares ds) scope (bare_event event) ≡ bare_use (event_use ds scope event)
  use_bare event = ap (λ (e : EventId). let u : EventUse = record { at = 0; event = e } in u) (event_bare event)

  uses_bare : (events : List EventName) → event_uses (bares ds) scope (map bare_event events) ≡ map bare_use (event_uses ds scope events)
  uses_bare [] = refl
  uses_bare (event ∷ events) = λ i. use_bare event i ∷ uses_bare events i

  holder_bare : (name : Ident) → holder_of (meaning (bares ds) scope (bare_name name)) ≡ holder_of (meaning ds scope name)
  holder_bare name = ap holder_of (meaning_bare ds scope name) ∙ holder_alike (meaning ds scope name)

  variable_one : (at : ℕ) (h : Holder) → variable_term (bares ds) scope 0 h ≡ bare_term (variable_term ds scope at h)
  variable_one at (InShared shared) = refl
  variable_one at (InSlot slot) = refl

  held_one : (at : ℕ) (h : Holder) → held_by (bares ds) scope 0 h ≡ bare_target (held_by ds scope at h)
  held_one at (InShared shared) = refl
  held_one at (InSlot slot) = refl

  term_bare : (e : Expression) → term_of (bares ds) scope (bare_expression e) ≡ bare_term (term_of ds scope e)
  term_bare (Number at value) = refl
  term_bare (Variable name) = ap (variable_term (bares ds) scope 0) (holder_bare name) ∙ variable_one name.at (holder_of (meaning ds scope name))
  term_bare (Special at builtin) = refl
  term_bare (Unary at operator operand) = λ i. n.Unary operator (term_bare operand i)
  term_bare (Binary operator left right) = λ i. n.Binary operator (term_bare left i) (term_bare right i)

  value_bare : (e : Option Expression) → value_of (bares ds) scope (bare_value e) ≡ bare_if (value_of ds scope e)
  value_bare None = refl
  value_bare (Some e) = λ i. Some (term_bare e i)

  terms_bare : (es : List Expression) → terms_of (bares ds) scope (map bare_expression es) ≡ map bare_term (terms_of ds scope es)
  terms_bare [] = refl
  terms_bare (e ∷ es) = λ i. term_bare e i ∷ terms_bare es i

  target_bare : (name : Ident) → target_of (bares ds) scope (bare_name name) ≡ bare_target (target_of ds scope name)
  target_bare name = ap (held_by (bares ds) scope 0) (holder_bare name) ∙ held_one name.at (holder_of (meaning ds scope name))

  creation_bare : (c : Creation) → creation_of (bares ds) scope (show.bare_creation c) ≡ bare_creation (creation_of ds scope c)
  creation_bare c = λ i. record { at = 0; scheduler = scheduler_bare c.scheduler i; «module» = module_bare c.called i; arguments = terms_bare c.arguments i }

  mutual
    statement_bare : (s : Statement) (k : ℕ) → statement_of (bares ds) scope (show.bare_statement s) k ≡ bare_statement (statement_of ds scope s k)
    statement_bare (Assign target value) k = λ i. n.Do 0 (n.Assign (target_bare target i) (term_bare value i))
    statement_bare (AssignCreate target at creation) k = λ i. n.Do 0 (n.Make (Some (target_bare target i)) (creation_bare creation i))
    statement_bare (Create at creation) k = λ i. n.Do 0 (n.Make None (creation_bare creation i))
    statement_bare (PrintText at line value) k = λ i. n.Do 0 (n.PrintText line (value_bare value i))
    statement_bare (PrintValue at value) k = λ i. n.Do 0 (n.PrintValue (term_bare value i))
    statement_bare (Cooperate at instants) k = λ i. n.Hold 0 (k + 1) (n.Cooperate (value_bare instants i))
    statement_bare (Generate at event value) k = λ i. n.Do 0 (n.Generate (use_bare event i) (value_bare value i))
    statement_bare (Await at event limit) k = λ i. n.Hold 0 (k + 1) (n.Await (use_bare event i ∷ []) (value_bare limit i))
    statement_bare (Select at events limit) k = λ i. n.Hold 0 (k + 1) (n.Await (uses_bare events i) (value_bare limit i))
    statement_bare (Get at event index target) k = λ i. n.Hold 0 (k + 1) (n.Get (use_bare event i) (term_bare index i) (target_bare target i))
    statement_bare (Join at thread limit) k = λ i. n.Hold 0 (k + 1) (n.Join (term_bare thread i) (value_bare limit i))
    statement_bare (ControlThread at control thread scheduler) k = λ i. n.Do 0 (n.ControlThread control (term_bare thread i) (scheduler_bare scheduler i))
    statement_bare (Broadcast at event value) k = λ i. n.Do 0 (n.Broadcast (use_bare event i) (value_bare value i))
    statement_bare (Link at scheduler) k = λ i. n.Hold 0 (k + 1) (n.Link (scheduler_bare scheduler i))
    statement_bare (Unlink at) k = refl
    statement_bare (Run at called arguments) k = λ i. n.Run 0 (k + 1) 0 (module_bare called i) (terms_bare arguments i)
    statement_bare (Halt at) k = refl
    statement_bare (If at test first second) k =
        ap (λ (m : ℕ). n.If 0 (term_of (bares ds) scope (bare_expression test)) (body_of (bares ds) scope (show.bare_body first) k) (body_of (bares ds) scope (show.bare_body second) (k + m))) (body_stops_bare first)
        ∙ (λ i. n.If 0 (term_bare test i) (body_bare first k i) (body_bare second (k + body_stops first) i))
    statement_bare (While at test body) k = λ i. n.While 0 (term_bare test i) (body_bare body k i)
    statement_bare (Repeat at count body) k = λ i. n.Repeat 0 (term_bare count i) (body_bare body k i)

    pub body_bare : (body : Statements) (k : ℕ) → body_of (bares ds) scope (show.bare_body body) k ≡ bare_body (body_of ds scope body k)
    body_bare Done k = refl
    body_bare (Then first rest) k =
        ap (λ (m : ℕ). n.Then (statement_of (bares ds) scope (show.bare_statement first) k) (body_of (bares ds) scope (show.bare_body rest) (k + m))) (stops_bare first)
        ∙ (λ i. n.Then (statement_bare first k i) (body_bare rest (k + stops_in first) i))
