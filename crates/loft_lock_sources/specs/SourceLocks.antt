-- Sources in which a lock was expanded, by their names (docs/LOCKS.md, "What a lock declares").
use Rattle.std.specs.Prelude.{◌≡◌, ◌≢◌, ℕ, pos, false, List, [], ◌∷◌, ◌++◌, None}
use Rattle.loft_tree.specs.Fits.{Each}
use Rattle.loft_tree.specs.Source.{Ident, EventName, Number, Variable, Statement, Assign, AssignCreate, Create, PrintText, PrintValue, Cooperate, Generate, Await, Select, Get, Join, ControlThread, Broadcast, Link, Unlink, Run, Halt, If, While, Repeat, Statements, Done, Then, InScheduler, ModuleHead, Order, CreateThere, ControlThere, BroadcastThere, Declaration, Scheduler, Event, Shared, Module, Start, Outside, Source}
use Rattle.loft_scopes.specs.declared.scope.Scope.TheVariants.{Everywhere}
use Rattle.loft_scopes.specs.Scopes.{declared}
use Rattle.loft_base.specs.declared.ids.ModuleId.{ModuleId}
use Rattle.loft_tree.specs.Resolved.{resolved_of}
use Rattle.loft_sense.specs.Tree.{body_at}
use Rattle.loft_numbers.specs.Numbers.{number_of, scheduler_of, module_of, numbered}
use Rattle.loft_locks.specs.Locks.{Lock, Other, call_of, BodyPairs, IsExpanded}
use Rattle.loft_locks.specs.Marked.{BodyKeeps}

-- the names that the forms of a lock write, and its scheduler's
pub record LockNames : Type 0 where
  pub held : List ℕ
  pub free : List ℕ
  pub takes : List ℕ
  pub gives : List ℕ
  pub at : List ℕ

-- what the first form of a lock becomes, whose words and names begin at these bytes
module _ (n : LockNames) (at : ℕ → ℕ) where
  abbrev pub name_at : ℕ → List ℕ → Ident
  name_at k text = record { text = text; at = at k }

  abbrev pub free_at : ℕ → EventName
  free_at k = record { name = name_at k n.free }

  abbrev pub takes_statements : Statements
  takes_statements =
      Then (While (at 0) (Variable (name_at 1 n.held)) (Then (Await (at 2) (free_at 3) None) (Then (If (at 4) (Variable (name_at 5 n.held)) (Then (Cooperate (at 6) None) Done) Done) Done)))
      (Then (Assign (name_at 7 n.held) (Number (at 8) (pos 1))) Done)

  abbrev pub gives_statements : Statements
  gives_statements = Then (Assign (name_at 9 n.held) (Number (at 10) (pos 0))) (Then (Generate (at 11) (free_at 12) None) Done)

  abbrev pub head_at : ℕ → List ℕ → ℕ → ModuleHead
  head_at k text j = record { name = name_at k text; parameters = []; begin = InScheduler (name_at j n.at); end = None }

  abbrev pub lock_declarations : Source
  lock_declarations =
      Shared (name_at 13 n.held) (name_at 14 n.at) (pos 0)
      ∷ Event (name_at 15 n.free) (name_at 16 n.at)
      ∷ Module (head_at 17 n.takes 18) [] takes_statements
      ∷ Module (head_at 19 n.gives 20) [] gives_statements
      ∷ []

-- The rest of the source doesn't set the variable, and names the two modules only in a `run`.
module _ (n : LockNames) where
  abbrev pub SetsOther : Ident → Type 0
  SetsOther name = name.text ≢ n.held

  abbrev pub MakesOther : Ident → Type 0
  MakesOther name = (name.text ≢ n.takes) × (name.text ≢ n.gives)

  abbrev mutual
    pub StatementKeeps : Statement → Type 0
    StatementKeeps (Assign target value) = SetsOther target
    StatementKeeps (AssignCreate target at creation) = SetsOther target × MakesOther creation.called
    StatementKeeps (Create at creation) = MakesOther creation.called
    StatementKeeps (PrintText at line value) = Unit {0}
    StatementKeeps (PrintValue at value) = Unit {0}
    StatementKeeps (Cooperate at instants) = Unit {0}
    StatementKeeps (Generate at event value) = Unit {0}
    StatementKeeps (Await at event limit) = Unit {0}
    StatementKeeps (Select at events limit) = Unit {0}
    StatementKeeps (Get at event index target) = SetsOther target
    StatementKeeps (Join at thread limit) = Unit {0}
    StatementKeeps (ControlThread at control thread scheduler) = Unit {0}
    StatementKeeps (Broadcast at event value) = Unit {0}
    StatementKeeps (Link at scheduler) = Unit {0}
    StatementKeeps (Unlink at) = Unit {0}
    StatementKeeps (Run at called arguments) = Unit {0}
    StatementKeeps (Halt at) = Unit {0}
    StatementKeeps (If at test first second) = StatementsKeep first × StatementsKeep second
    StatementKeeps (While at test body) = StatementsKeep body
    StatementKeeps (Repeat at count body) = StatementsKeep body

    pub StatementsKeep : Statements → Type 0
    StatementsKeep Done = Unit {0}
    StatementsKeep (Then first rest) = StatementKeeps first × StatementsKeep rest

  abbrev pub OrderMakesOther : Order → Type 0
  OrderMakesOther (CreateThere scheduler called arguments) = MakesOther called
  OrderMakesOther (ControlThere control thread scheduler) = Unit {0}
  OrderMakesOther (BroadcastThere event value) = Unit {0}

  abbrev pub DeclarationKeeps : Declaration → Type 0
  DeclarationKeeps (Scheduler name) = Unit {0}
  DeclarationKeeps (Event name scheduler) = Unit {0}
  DeclarationKeeps (Shared name scheduler value) = Unit {0}
  DeclarationKeeps (Module head locals body) = StatementsKeep body
  DeclarationKeeps (Start scheduler called arguments name) = MakesOther called
  DeclarationKeeps (Outside name orders) = Each OrderMakesOther orders

-- A source with the declarations of a lock, which nothing else sets, takes or gives back but by a `run`.
pub record HasLock (s : Source) (n : LockNames) : Type 0 where
  pub before : Source
  pub after : Source
  pub at : ℕ → ℕ
  pub parts : s ≡ before ++ (lock_declarations n at ++ after)
  pub keep_before : Each (DeclarationKeeps n) before
  pub keep_after : Each (DeclarationKeeps n) after

-- the lock by its numbers
abbrev pub name_of : List ℕ → Ident
name_of text = record { text = text; at = 0 }

abbrev pub lock_in : Source → LockNames → Lock
lock_in s n = record {
  at = scheduler_of (declared s) Everywhere (name_of n.at);
  held = record { 0 = number_of (declared s) Everywhere (name_of n.held) };
  free = record { 0 = number_of (declared s) Everywhere (name_of n.free) };
  takes = module_of (declared s) Everywhere (name_of n.takes);
  gives = module_of (declared s) Everywhere (name_of n.gives);
}

-- The program with numbers: where its pairs stand it is an expanded program, and no other statement sets what is the lock's or
-- makes a thread of it.
abbrev pub LockStands : Source → LockNames → Type 0
LockStands s n =
    let p = resolved_of (numbered s) in
    let l = lock_in s n in
    (((m : ModuleId) → call_of l m ≡ Other → BodyPairs p l false false (body_at p m)) → IsExpanded p l)
    × ((m : ModuleId) → call_of l m ≡ Other → BodyKeeps l (body_at p m))
