-- What is wrong with names is the same without offsets: with expressions, calls and statements.
use Rattle.std.proofs.Common.{◌≡◌, ℕ, ◌==◌, List, [], ◌∷◌, map, length, Option, Some, None, option_map, refl, sym, ap, ◌∙◌, subst}
use Rattle.std.proofs.lemmas.List.{length-map}
use Rattle.loft_tree.specs.declared.kinds.Kind.{Kind}
use Rattle.loft_tree.specs.declared.kinds.Kind.TheVariants.{Int, Thread}
use Rattle.loft_tree.specs.declared.kinds.BinaryOperator.{BinaryOperator}
use Rattle.loft_tree.specs.Source.{Ident, EventName, Expression, Number, Variable, Special, Unary, Binary, Creation, Statement, Assign, AssignCreate, Create, PrintText, PrintValue, Cooperate, Generate, Await, Select, Get, Join, ControlThread, Broadcast, Link, Unlink, Run, Halt, If, While, Repeat, Statements, Done, Then, PlaceName, InScheduler, Unlinked}
use Rattle.loft_tree.specs.KindOf.{compares}
use Rattle.loft_show.specs.Places.{bare_name, bare_expression, bare_value, bare_event, bare_creation, bare_statement, bare_body, bare_place}
use Rattle.loft_scopes.specs.declared.error.NameError.{NameError}
use Rattle.loft_scopes.specs.declared.error.NameError.TheVariants.{Arity, Kind as WrongKind}
use Rattle.loft_scopes.specs.declared.scope.Scope.{Scope}
use Rattle.loft_scopes.specs.Scopes.{Sort, Declared, meaning}
use Rattle.loft_scopes.specs.Faults.{Use, NotDeclared, OtherSort, Means, arguments_faults, arity_faults, begin_of, body_faults, call_faults, creation_faults, end_faults, event_faults, events_faults, expression_faults, is_event, is_scheduler, kind_faults, kind_in, kind_of, kinds_wanted, meant, module_use, only_if, operand_faults, parameters_of, place_faults, same_kind, scheduler_faults, statement_faults, target_faults, unlike, use_faults, used, wants, wants_if}
use Rattle.loft_offsets.proofs.Alike.{Alike, both, chosen, none}
use Rattle.loft_offsets.proofs.Declared.{bare_declared, bares, meaning_bare}

-- a fault, of which nothing is asked but that there is one
abbrev pub mark : NameError → Unit {0}
mark e = tt

-- as many faults
abbrev pub AsMany : List NameError → List NameError → Type 0
AsMany es fs = Alike mark es fs

one : (e f : NameError) → AsMany (e ∷ []) (f ∷ [])
one e f = record { same = refl }

use_alike : {A : Type 0} (at other : ℕ) (u : Use A) → AsMany (use_faults at u) (use_faults other u)
use_alike at other NotDeclared = record { same = refl }
use_alike at other OtherSort = record { same = refl }
use_alike at other (Means x) = record { same = refl }

unlike_alike : (wanted found : Option Kind) (at other : ℕ) → AsMany (unlike wanted found at) (unlike wanted found other)
unlike_alike None found at other = none
unlike_alike (Some wanted) None at other = none
unlike_alike (Some wanted) (Some found) at other = chosen (same_kind wanted found) none (one (WrongKind at) (WrongKind other))

pub unlike_same : (v w f g : Option Kind) (at other : ℕ) → v ≡ w → f ≡ g → AsMany (unlike v f at) (unlike w g other)
unlike_same v w f g at other p q =
    subst (λ (x : Option Kind). AsMany (unlike v f at) (unlike x g other)) p
    (subst (λ (x : Option Kind). AsMany (unlike v f at) (unlike v x other)) q (unlike_alike v f at other))

arity_alike : (o : Option (List Kind)) (many at other : ℕ) → AsMany (arity_faults at o many) (arity_faults other o many)
arity_alike None many at other = none
arity_alike (Some kinds) many at other = chosen (many == length kinds) none (one (Arity at) (Arity other))

pub arity_same : (u v : Use (List Kind)) (m n at other : ℕ) → u ≡ v → m ≡ n → AsMany (arity_faults at (meant u) m) (arity_faults other (meant v) n)
arity_same u v m n at other p q =
    subst (λ (x : Use (List Kind)). AsMany (arity_faults at (meant u) m) (arity_faults other (meant x) n)) p
    (subst (λ (k : ℕ). AsMany (arity_faults at (meant u) m) (arity_faults other (meant u) k)) q (arity_alike (meant u) m at other))

used_bare : {A : Type 0} (view : Sort → Option A) (o : Option Declared) → used view (option_map bare_declared o) ≡ used view o
used_bare view None = refl
used_bare view (Some d) = refl

-- the declarations of the program, and where its names are used
module _ (ds : List Declared) (scope : Scope) where
  pub name_use : {A : Type 0} (view : Sort → Option A) (name : Ident) → used view (meaning (bares ds) scope (bare_name name)) ≡ used view (meaning ds scope name)
  name_use view name = ap (used view) (meaning_bare ds scope name) ∙ used_bare view (meaning ds scope name)

  pub use_bare : {A : Type 0} (view : Sort → Option A) (name : Ident)
      → AsMany (use_faults 0 (used view (meaning (bares ds) scope (bare_name name)))) (use_faults name.at (used view (meaning ds scope name)))
  use_bare {A} view name =
      subst (λ (u : Use A). AsMany (use_faults 0 u) (use_faults name.at (used view (meaning ds scope name)))) (sym (name_use view name))
      (use_alike 0 name.at (used view (meaning ds scope name)))

  -- ---- expressions

  kind_bare : (e : Expression) → kind_of (bares ds) scope (bare_expression e) ≡ kind_of ds scope e
  kind_bare (Number at value) = refl
  kind_bare (Variable name) = ap meant (name_use kind_in name)
  kind_bare (Special at builtin) = refl
  kind_bare (Unary at operator operand) = refl
  kind_bare (Binary operator left right) = refl

  wanted_bare : (wanted : Kind) (e : Expression) → AsMany (kind_faults (bares ds) scope wanted (bare_expression e)) (kind_faults ds scope wanted e)
  wanted_bare wanted e = unlike_same (Some wanted) (Some wanted) (kind_of (bares ds) scope (bare_expression e)) (kind_of ds scope e) (begin_of (bare_expression e)) (begin_of e) refl (kind_bare e)

  operands_bare : (operator : BinaryOperator) (left right : Expression)
      → AsMany (operand_faults (bares ds) scope operator (bare_expression left) (bare_expression right)) (operand_faults ds scope operator left right)
  operands_bare operator left right =
      chosen (compares operator)
      (unlike_same (kind_of (bares ds) scope (bare_expression left)) (kind_of ds scope left) (kind_of (bares ds) scope (bare_expression right)) (kind_of ds scope right)
      (begin_of (bare_expression right)) (begin_of right) (kind_bare left) (kind_bare right))
      (both (wanted_bare Int left) (wanted_bare Int right))

  pub expression_bare : (e : Expression) → AsMany (expression_faults (bares ds) scope (bare_expression e)) (expression_faults ds scope e)
  expression_bare (Number at value) = none
  expression_bare (Variable name) = use_bare kind_in name
  expression_bare (Special at builtin) = none
  expression_bare (Unary at operator operand) = both (expression_bare operand) (wanted_bare Int operand)
  expression_bare (Binary operator left right) = both (expression_bare left) (both (expression_bare right) (operands_bare operator left right))

  wants_bare : (kind : Kind) (e : Expression) → AsMany (wants (bares ds) scope kind (bare_expression e)) (wants ds scope kind e)
  wants_bare kind e = both (expression_bare e) (wanted_bare kind e)

  if_bare : (kind : Kind) (e : Option Expression) → AsMany (wants_if (bares ds) scope kind (bare_value e)) (wants_if ds scope kind e)
  if_bare kind None = none
  if_bare kind (Some e) = wants_bare kind e

  pub scheduler_bare : (name : Ident) → AsMany (scheduler_faults (bares ds) scope (bare_name name)) (scheduler_faults ds scope name)
  scheduler_bare name = use_bare (only_if is_scheduler) name

  pub event_bare : (event : EventName) → AsMany (event_faults (bares ds) scope (bare_event event)) (event_faults ds scope event)
  event_bare event = use_bare (only_if is_event) event.name

  events_bare : (events : List EventName) → AsMany (events_faults (bares ds) scope (map bare_event events)) (events_faults ds scope events)
  events_bare [] = none
  events_bare (event ∷ events) = both (event_bare event) (events_bare events)

  target_bare : (kind : Kind) (name : Ident) → AsMany (target_faults (bares ds) scope kind (bare_name name)) (target_faults ds scope kind name)
  target_bare kind name =
      both (use_bare kind_in name)
      (unlike_same (Some kind) (Some kind) (meant (used kind_in (meaning (bares ds) scope (bare_name name)))) (meant (used kind_in (meaning ds scope name))) 0 name.at
      refl (ap meant (name_use kind_in name)))

  -- ---- calls

  arguments_bare : (kinds : List Kind) (es : List Expression) → AsMany (arguments_faults (bares ds) scope kinds (map bare_expression es)) (arguments_faults ds scope kinds es)
  arguments_bare kinds [] = none
  arguments_bare [] (e ∷ es) = both (expression_bare e) (arguments_bare [] es)
  arguments_bare (kind ∷ kinds) (e ∷ es) = both (wants_bare kind e) (arguments_bare kinds es)

  call_bare : (called : Ident) (es : List Expression) → AsMany (call_faults (bares ds) scope (bare_name called) (map bare_expression es)) (call_faults ds scope called es)
  call_bare called es =
      let u : Use (List Kind) = module_use (bares ds) scope (bare_name called) in
      let v : Use (List Kind) = module_use ds scope called in
      let is : u ≡ v = name_use parameters_of called in
      both (use_bare parameters_of called)
      (both (arity_same u v (length (map bare_expression es)) (length es) 0 called.at is (length-map es bare_expression))
      (subst (λ (x : Use (List Kind)). AsMany (arguments_faults (bares ds) scope (kinds_wanted (meant x)) (map bare_expression es)) (arguments_faults ds scope (kinds_wanted (meant v)) es)) (sym is)
      (arguments_bare (kinds_wanted (meant v)) es)))

  creation_bare : (c : Creation) → AsMany (creation_faults (bares ds) scope (bare_creation c)) (creation_faults ds scope c)
  creation_bare c = both (scheduler_bare c.scheduler) (call_bare c.called c.arguments)

  -- ---- statements

  assign_bare : (target : Ident) (value : Expression) → AsMany (statement_faults (bares ds) scope (bare_statement (Assign target value))) (statement_faults ds scope (Assign target value))
  assign_bare target value =
      both (use_bare kind_in target)
      (both (expression_bare value)
      (unlike_same (meant (used kind_in (meaning (bares ds) scope (bare_name target)))) (meant (used kind_in (meaning ds scope target))) (kind_of (bares ds) scope (bare_expression value)) (kind_of ds scope value)
      (begin_of (bare_expression value)) (begin_of value) (ap meant (name_use kind_in target)) (kind_bare value)))

  mutual
    statement_bare : (s : Statement) → AsMany (statement_faults (bares ds) scope (bare_statement s)) (statement_faults ds scope s)
    statement_bare (Assign target value) = assign_bare target value
    statement_bare (AssignCreate target at creation) = both (target_bare Thread target) (creation_bare creation)
    statement_bare (Create at creation) = creation_bare creation
    statement_bare (PrintText at line None) = none
    statement_bare (PrintText at line (Some value)) = expression_bare value
    statement_bare (PrintValue at value) = expression_bare value
    statement_bare (Cooperate at instants) = if_bare Int instants
    statement_bare (Generate at event value) = both (event_bare event) (if_bare Int value)
    statement_bare (Await at event limit) = both (event_bare event) (if_bare Int limit)
    statement_bare (Select at events limit) = both (events_bare events) (if_bare Int limit)
    statement_bare (Get at event index target) = both (event_bare event) (both (wants_bare Int index) (target_bare Int target))
    statement_bare (Join at thread limit) = both (wants_bare Thread thread) (if_bare Int limit)
    statement_bare (ControlThread at control thread scheduler) = both (wants_bare Thread thread) (scheduler_bare scheduler)
    statement_bare (Broadcast at event value) = both (event_bare event) (if_bare Int value)
    statement_bare (Link at scheduler) = scheduler_bare scheduler
    statement_bare (Unlink at) = none
    statement_bare (Run at called arguments) = call_bare called arguments
    statement_bare (Halt at) = none
    statement_bare (If at test first second) = both (wants_bare Int test) (both (body_bare first) (body_bare second))
    statement_bare (While at test body) = both (wants_bare Int test) (body_bare body)
    statement_bare (Repeat at count body) = both (wants_bare Int count) (body_bare body)

    pub body_bare : (body : Statements) → AsMany (body_faults (bares ds) scope (bare_body body)) (body_faults ds scope body)
    body_bare Done = none
    body_bare (Then first rest) = both (statement_bare first) (body_bare rest)

  pub place_bare : (place : PlaceName) → AsMany (place_faults (bares ds) scope (bare_place place)) (place_faults ds scope place)
  place_bare (InScheduler name) = scheduler_bare name
  place_bare Unlinked = none

  pub end_bare : (end : Option PlaceName) → AsMany (end_faults (bares ds) scope (option_map bare_place end)) (end_faults ds scope end)
  end_bare None = none
  end_bare (Some place) = place_bare place
