-- The names of an operation are right or wrong wherever it stands.
use Rattle.std.proofs.Common.{◌≡◌, ◌&&◌, List, [], ◌∷◌, map, Option, Some, None, refl}
use Rattle.std.specs.List.{list_all}
use Rattle.loft_tree.specs.Source.{EventName, Expression, Number, Variable, Special, Unary, Binary, Creation, Statement, Assign, AssignCreate, Create, PrintText, PrintValue, Cooperate, Generate, Await, Select, Get, Join, ControlThread, Broadcast, Link, Unlink, Run, Halt, If, While, Repeat, PlaceName, InScheduler, Unlinked}
use Rattle.loft_show.specs.Places.{bare_expression, bare_value, bare_event, bare_creation, bare_statement, bare_place}
use Rattle.loft_scopes.specs.declared.scope.Scope.{Scope}
use Rattle.loft_scopes.specs.Scopes.{Declared}
use Rattle.loft_listing_line.specs.Instructions as instruction
use Rattle.loft_listing_line.specs.Instructions.{Instruction, bare_instruction}
use Rattle.loft_listing_draft.specs.Drafts.{DraftOperation}
use Rattle.loft_listing_draft.specs.InMemory.{bare_operation}
use Rattle.loft_listing_names.specs.Named.{names_scheduler, names_event, names_variable, names_module, expression_names, value_names, creation_names, statement_names, instruction_names, place_names, operation_names}

module _ (ds : List Declared) (scope : Scope) where
  expression_free : (e : Expression) → expression_names ds scope (bare_expression e) ≡ expression_names ds scope e
  expression_free (Number at value) = refl
  expression_free (Variable name) = refl
  expression_free (Special at builtin) = refl
  expression_free (Unary at operator operand) = expression_free operand
  expression_free (Binary operator left right) = λ i. expression_free left i && expression_free right i

  value_free : (e : Option Expression) → value_names ds scope (bare_value e) ≡ value_names ds scope e
  value_free None = refl
  value_free (Some e) = expression_free e

  all_free : (es : List Expression) → list_all (expression_names ds scope) (map bare_expression es) ≡ list_all (expression_names ds scope) es
  all_free [] = refl
  all_free (e ∷ es) = λ i. expression_free e i && all_free es i

  events_free : (events : List EventName) → list_all (names_event ds scope) (map bare_event events) ≡ list_all (names_event ds scope) events
  events_free [] = refl
  events_free (event ∷ events) = λ i. names_event ds scope event && events_free events i

  creation_free : (c : Creation) → creation_names ds scope (bare_creation c) ≡ creation_names ds scope c
  creation_free c = λ i. names_scheduler ds scope c.scheduler && (names_module ds scope c.called && all_free c.arguments i)

  statement_free : (s : Statement) → statement_names ds scope (bare_statement s) ≡ statement_names ds scope s
  statement_free (Assign target value) = λ i. names_variable ds scope target && expression_free value i
  statement_free (AssignCreate target at creation) = λ i. names_variable ds scope target && creation_free creation i
  statement_free (Create at creation) = creation_free creation
  statement_free (PrintText at line value) = value_free value
  statement_free (PrintValue at value) = expression_free value
  statement_free (Cooperate at instants) = value_free instants
  statement_free (Generate at event value) = λ i. names_event ds scope event && value_free value i
  statement_free (Await at event limit) = λ i. names_event ds scope event && value_free limit i
  statement_free (Select at events limit) = λ i. events_free events i && value_free limit i
  statement_free (Get at event index target) = λ i. names_event ds scope event && (expression_free index i && names_variable ds scope target)
  statement_free (Join at thread limit) = λ i. expression_free thread i && value_free limit i
  statement_free (ControlThread at control thread scheduler) = λ i. expression_free thread i && names_scheduler ds scope scheduler
  statement_free (Broadcast at event value) = λ i. names_event ds scope event && value_free value i
  statement_free (Link at scheduler) = refl
  statement_free (Unlink at) = refl
  statement_free (Run at called arguments) = λ i. names_module ds scope called && all_free arguments i
  statement_free (Halt at) = refl
  statement_free (If at test first second) = refl
  statement_free (While at test body) = refl
  statement_free (Repeat at count body) = refl

  instruction_free : (x : Instruction) → instruction_names ds scope (bare_instruction x) ≡ instruction_names ds scope x
  instruction_free (instruction.Do s) = statement_free s
  instruction_free (instruction.Stop k s) = statement_free s
  instruction_free (instruction.Branch t test) = expression_free test
  instruction_free instruction.Enter = refl
  instruction_free (instruction.Count count) = expression_free count
  instruction_free (instruction.Turn t) = refl
  instruction_free (instruction.Jump t) = refl
  instruction_free instruction.End = refl

  place_free : (p : PlaceName) → place_names ds scope (bare_place p) ≡ place_names ds scope p
  place_free (InScheduler name) = refl
  place_free Unlinked = refl

  pub operation_free : (o : DraftOperation) → operation_names ds scope (bare_operation o) ≡ operation_names ds scope o
  operation_free o = λ i. place_free o.place i && instruction_free o.instruction i
