-- What the parts of a source keep of the limits (docs/LANGUAGE.md, "Parts of a source").
use Rattle.std.specs.Prelude.{◌≤◌, length}
use Rattle.loft_tree.specs.Source.{Creation, Statement, Assign, AssignCreate, Create, PrintText, PrintValue, Cooperate, Generate, Await, Select, Get, Join, ControlThread, Broadcast, Link, Unlink, Run, Halt, If, While, Repeat, Named, ModuleHead}
use Rattle.loft_tree.specs.Fits.{Each, IfThere, NameFits, EventNameFits, ExpressionFits, StatementFits, PlaceFits, EndFits}
use Rattle.loft_tree.specs.declared.limits.TheConstants.{MAX_PARAMETERS}
use Rattle.loft_grammar.specs.Limits.{nesting}

-- a parameter or a local variable
abbrev pub NamedFits : Named → Type 0
NamedFits v = NameFits v.name

-- the line of a module
pub record HeadFits (head : ModuleHead) : Type 0 where
  pub name : NameFits head.name
  pub parameters : Each NamedFits head.parameters
  pub few_parameters : length head.parameters ≤ MAX_PARAMETERS
  pub begin : PlaceFits head.begin
  pub end : EndFits head.begin head.end

-- a thread to be made, with any number of arguments
abbrev pub LineCreationFits : Creation → Type 0
LineCreationFits c = NameFits c.scheduler × NameFits c.called × Each (ExpressionFits nesting) c.arguments

-- A statement that is a line by itself, with any number of arguments and of events. Of those with bodies nothing is said.
abbrev pub LineFits : Statement → Type 0
LineFits (Assign target value) = StatementFits (Assign target value) nesting
LineFits (AssignCreate target at creation) = NameFits target × LineCreationFits creation
LineFits (Create at creation) = LineCreationFits creation
LineFits (PrintText at line value) = StatementFits (PrintText at line value) nesting
LineFits (PrintValue at value) = StatementFits (PrintValue at value) nesting
LineFits (Cooperate at instants) = StatementFits (Cooperate at instants) nesting
LineFits (Generate at event value) = StatementFits (Generate at event value) nesting
LineFits (Await at event limit) = StatementFits (Await at event limit) nesting
LineFits (Select at events limit) = Each EventNameFits events × (2 ≤ length events) × IfThere (ExpressionFits nesting) limit
LineFits (Get at event index target) = StatementFits (Get at event index target) nesting
LineFits (Join at thread limit) = StatementFits (Join at thread limit) nesting
LineFits (ControlThread at control thread scheduler) = StatementFits (ControlThread at control thread scheduler) nesting
LineFits (Broadcast at event value) = StatementFits (Broadcast at event value) nesting
LineFits (Link at scheduler) = StatementFits (Link at scheduler) nesting
LineFits (Unlink at) = StatementFits (Unlink at) nesting
LineFits (Run at called arguments) = NameFits called × Each (ExpressionFits nesting) arguments
LineFits (Halt at) = StatementFits (Halt at) nesting
LineFits (If at test first second) = Unit {0}
LineFits (While at test body) = Unit {0}
LineFits (Repeat at count body) = Unit {0}
