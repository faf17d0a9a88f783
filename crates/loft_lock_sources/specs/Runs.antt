-- What holds of each module that a source runs, by its name (docs/LOCKS.md, "Pairs").
use Rattle.loft_tree.specs.Source.{Ident, Statement, Assign, AssignCreate, Create, PrintText, PrintValue, Cooperate, Generate, Await, Select, Get, Join, ControlThread, Broadcast, Link, Unlink, Run, Halt, If, While, Repeat, Statements, Done, Then, Declaration, Scheduler, Event, Shared, Module, Start, Outside}

module _ (P : Ident → Type 0) where
  abbrev mutual
    pub StatementRuns : Statement → Type 0
    StatementRuns (Assign target value) = Unit {0}
    StatementRuns (AssignCreate target at creation) = Unit {0}
    StatementRuns (Create at creation) = Unit {0}
    StatementRuns (PrintText at line value) = Unit {0}
    StatementRuns (PrintValue at value) = Unit {0}
    StatementRuns (Cooperate at instants) = Unit {0}
    StatementRuns (Generate at event value) = Unit {0}
    StatementRuns (Await at event limit) = Unit {0}
    StatementRuns (Select at events limit) = Unit {0}
    StatementRuns (Get at event index target) = Unit {0}
    StatementRuns (Join at thread limit) = Unit {0}
    StatementRuns (ControlThread at control thread scheduler) = Unit {0}
    StatementRuns (Broadcast at event value) = Unit {0}
    StatementRuns (Link at scheduler) = Unit {0}
    StatementRuns (Unlink at) = Unit {0}
    StatementRuns (Run at called arguments) = P called
    StatementRuns (Halt at) = Unit {0}
    StatementRuns (If at test first second) = StatementsRun first × StatementsRun second
    StatementRuns (While at test body) = StatementsRun body
    StatementRuns (Repeat at count body) = StatementsRun body

    pub StatementsRun : Statements → Type 0
    StatementsRun Done = Unit {0}
    StatementsRun (Then first rest) = StatementRuns first × StatementsRun rest

  abbrev pub DeclarationRuns : Declaration → Type 0
  DeclarationRuns (Scheduler name) = Unit {0}
  DeclarationRuns (Event name scheduler) = Unit {0}
  DeclarationRuns (Shared name scheduler value) = Unit {0}
  DeclarationRuns (Module head locals body) = StatementsRun body
  DeclarationRuns (Start scheduler called arguments name) = Unit {0}
  DeclarationRuns (Outside name orders) = Unit {0}
