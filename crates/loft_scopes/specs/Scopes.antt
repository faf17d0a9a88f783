-- What a program declares, and what a name means (docs/LANGUAGE.md, "Names").
use Rattle.std.specs.Prelude.{ℕ, ◌+◌, Bool, true, false, ◌==◌, ◌&&◌, List, [], ◌∷◌, ◌++◌, length, Option, Some, None}
use Rattle.std.specs.List.{find}
use Rattle.std.specs.Str.{bytes_eq}
use Rattle.loft_tree.specs.declared.kinds.Kind.{Kind}
use Rattle.loft_tree.specs.Source.{Ident, Named, ModuleHead, Declaration, Scheduler, Event, Shared, Module, Start, Outside, Source}
pub use Rattle.loft_scopes.specs.declared.counts.DeclarationCounts.{DeclarationCounts}
pub use Rattle.loft_scopes.specs.declared.scope.Scope.{Scope}
pub use Rattle.loft_scopes.specs.declared.scope.Scope.TheVariants.{Everywhere, Within}

-- what a name is declared as
pub data Sort : Type 0 where
  AScheduler : Sort
  AnEvent : Sort
  AShared : Sort
  -- a module with parameters of these kinds
  AModule : (parameters : List Kind) → Sort
  AStart : Sort
  AClient : Sort
  -- a parameter or a local variable
  AVariable : (kind : Kind) → Sort

-- A declaration. Schedulers, events, shared variables, modules, starts and clients are numbered from 0, each by itself,
-- and so are the parameters and local variables of a module, together.
pub record Declared : Type 0 where
  pub name : Ident
  pub scope : Scope
  pub sort : Sort
  pub number : ℕ

abbrev pub everywhere : Ident → Sort → ℕ → Declared
everywhere name sort number = record { name = name; scope = Everywhere; sort = sort; number = number }

abbrev pub kinds_of : List Named → List Kind
kinds_of [] = []
kinds_of (v ∷ vs) = v.kind ∷ kinds_of vs

-- parameters or local variables of the module m, from this number on
abbrev pub variables : ℕ → ℕ → List Named → List Declared
variables m number [] = []
variables m number (v ∷ vs) =
    record { name = v.name; scope = Within m; sort = AVariable v.kind; number = number } ∷ variables m (number + 1) vs

-- a start without a name declares nothing
abbrev pub start_name : Option Ident → ℕ → List Declared
start_name None number = []
start_name (Some name) number = everywhere name AStart number ∷ []

-- how many declarations there were, before the first
abbrev pub none_yet : DeclarationCounts
none_yet = record { schedulers = 0; events = 0; shared = 0; modules = 0; starts = 0; clients = 0 }

-- one more declaration
abbrev pub after : DeclarationCounts → Declaration → DeclarationCounts
after n (Scheduler name) = record n { schedulers = n.schedulers + 1 }
after n (Event name scheduler) = record n { events = n.events + 1 }
after n (Shared name scheduler value) = record n { shared = n.shared + 1 }
after n (Module head locals body) = record n { modules = n.modules + 1 }
after n (Start scheduler called arguments name) = record n { starts = n.starts + 1 }
after n (Outside name orders) = record n { clients = n.clients + 1 }

-- a module with its parameters and local variables
abbrev pub module_declared : ℕ → ModuleHead → List Named → List Declared
module_declared number head locals =
    everywhere head.name (AModule (kinds_of head.parameters)) number
    ∷ (variables number 0 head.parameters ++ variables number (length head.parameters) locals)

-- what one declaration declares, in the order of the text
abbrev pub declared_by : DeclarationCounts → Declaration → List Declared
declared_by n (Scheduler name) = everywhere name AScheduler n.schedulers ∷ []
declared_by n (Event name scheduler) = everywhere name AnEvent n.events ∷ []
declared_by n (Shared name scheduler value) = everywhere name AShared n.shared ∷ []
declared_by n (Module head locals body) = module_declared n.modules head locals
declared_by n (Start scheduler called arguments name) = start_name name n.starts
declared_by n (Outside name orders) = everywhere name AClient n.clients ∷ []

abbrev pub declared_from : DeclarationCounts → Source → List Declared
declared_from n [] = []
declared_from n (d ∷ ds) = declared_by n d ++ declared_from (after n d) ds

-- all declarations in the order of the text
abbrev pub declared : Source → List Declared
declared p = declared_from none_yet p

-- two declarations can both be seen somewhere
abbrev pub seen_together : Scope → Scope → Bool
seen_together Everywhere other = true
seen_together (Within m) Everywhere = true
seen_together (Within m) (Within n) = m == n

abbrev pub same_name : Ident → Declared → Bool
same_name name d = bytes_eq d.name.text name.text

-- the first of these declarations that has the name of d and can be seen together with it
abbrev pub earlier : List Declared → Declared → Option Declared
earlier before d = find (λ other. same_name d.name other && seen_together d.scope other.scope) before

-- what is declared in a scope can be seen from another
abbrev pub is_seen : Scope → Scope → Bool
is_seen Everywhere from = true
is_seen (Within m) Everywhere = false
is_seen (Within m) (Within n) = m == n

-- what a name means where it is used: the first declaration of it in the text that can be seen from there
abbrev pub meaning : List Declared → Scope → Ident → Option Declared
meaning ds from name = find (λ d. same_name name d && is_seen d.scope from) ds
