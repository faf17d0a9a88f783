-- Operations whose names are declared, each as what it has to be there (docs/CODE.md, "Names in a listing"). Kinds and
-- numbers of arguments are for `validate`.
use Rattle.std.specs.Prelude.{Bool, true, false, ◌&&◌, List, Option, Some, None}
use Rattle.std.specs.List.{list_all}
use Rattle.loft_tree.specs.Source.{Ident, EventName, Expression, Number, Variable, Special, Unary, Binary, Creation, Statement, Assign, AssignCreate, Create, PrintText, PrintValue, Cooperate, Generate, Await, Select, Get, Join, ControlThread, Broadcast, Link, Unlink, Run, Halt, If, While, Repeat, PlaceName, InScheduler, Unlinked as Nowhere}
use Rattle.loft_scopes.specs.Scopes.{Sort, Declared, meaning}
use Rattle.loft_scopes.specs.declared.scope.Scope.{Scope}
use Rattle.loft_scopes.specs.Faults.{Use, NotDeclared, OtherSort, Means, used, only_if, is_scheduler, is_event, value_use, module_use}
use Rattle.loft_listing_line.specs.Instructions as instruction
use Rattle.loft_listing_line.specs.Instructions.{Instruction}
use Rattle.loft_listing_draft.specs.Drafts.{DraftOperation}

-- the name is declared, and as what it has to be
abbrev pub is_right : {A : Type 0} → Use A → Bool
is_right NotDeclared = false
is_right OtherSort = false
is_right (Means x) = true

-- the declarations of a listing, and where its names are used
module _ (ds : List Declared) (scope : Scope) where
  abbrev pub is_a : (Sort → Bool) → Ident → Bool
  is_a test name = is_right (used (only_if test) (meaning ds scope name))

  abbrev pub names_scheduler : Ident → Bool
  names_scheduler name = is_a is_scheduler name

  abbrev pub names_event : EventName → Bool
  names_event event = is_a is_event event.name

  -- a parameter, a local variable or a shared variable
  abbrev pub names_variable : Ident → Bool
  names_variable name = is_right (value_use ds scope name)

  abbrev pub names_module : Ident → Bool
  names_module name = is_right (module_use ds scope name)

  abbrev pub expression_names : Expression → Bool
  expression_names (Number at value) = true
  expression_names (Variable name) = names_variable name
  expression_names (Special at builtin) = true
  expression_names (Unary at operator operand) = expression_names operand
  expression_names (Binary operator left right) = expression_names left && expression_names right

  abbrev pub value_names : Option Expression → Bool
  value_names None = true
  value_names (Some e) = expression_names e

  abbrev pub creation_names : Creation → Bool
  creation_names c = names_scheduler c.scheduler && (names_module c.called && list_all expression_names c.arguments)

  -- no operation is a statement with bodies
  abbrev pub statement_names : Statement → Bool
  statement_names (Assign target value) = names_variable target && expression_names value
  statement_names (AssignCreate target at creation) = names_variable target && creation_names creation
  statement_names (Create at creation) = creation_names creation
  statement_names (PrintText at line value) = value_names value
  statement_names (PrintValue at value) = expression_names value
  statement_names (Cooperate at instants) = value_names instants
  statement_names (Generate at event value) = names_event event && value_names value
  statement_names (Await at event limit) = names_event event && value_names limit
  statement_names (Select at events limit) = list_all names_event events && value_names limit
  statement_names (Get at event index target) = names_event event && (expression_names index && names_variable target)
  statement_names (Join at thread limit) = expression_names thread && value_names limit
  statement_names (ControlThread at control thread scheduler) = expression_names thread && names_scheduler scheduler
  statement_names (Broadcast at event value) = names_event event && value_names value
  statement_names (Link at scheduler) = names_scheduler scheduler
  statement_names (Unlink at) = true
  statement_names (Run at called arguments) = names_module called && list_all expression_names arguments
  statement_names (Halt at) = true
  statement_names (If at test first second) = false
  statement_names (While at test body) = false
  statement_names (Repeat at count body) = false

  abbrev pub instruction_names : Instruction → Bool
  instruction_names (instruction.Do s) = statement_names s
  instruction_names (instruction.Stop k s) = statement_names s
  instruction_names (instruction.Branch t test) = expression_names test
  instruction_names instruction.Enter = true
  instruction_names (instruction.Count count) = expression_names count
  instruction_names (instruction.Turn t) = true
  instruction_names (instruction.Jump t) = true
  instruction_names instruction.End = true

  abbrev pub place_names : PlaceName → Bool
  place_names (InScheduler name) = names_scheduler name
  place_names Nowhere = true

  abbrev pub operation_names : DraftOperation → Bool
  operation_names o = place_names o.place && instruction_names o.instruction
