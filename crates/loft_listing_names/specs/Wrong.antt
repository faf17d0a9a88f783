-- The wrong lines of a listing that has its form (docs/CODE.md, "Names in a listing").
use Rattle.std.specs.Prelude.{ℕ, ◌≤◌, Bool, true, false, ◌==◌, if◌then◌else◌, List, [], ◌∷◌, ◌++◌, map, Option, Some, None, slice_get}
use Rattle.std.specs.List.{Contains, flat_map}
use Rattle.std.specs.Option.{option_and_then}
use Rattle.loft_tree.specs.Source.{Ident, PlaceName, InScheduler, Unlinked, ModuleHead, Order, CreateThere, ControlThere, BroadcastThere, Declaration, Scheduler, Event, Shared, Module, Start, Outside, Source}
use Rattle.loft_scopes.specs.Scopes.{Sort, AScheduler, AnEvent, AShared, AModule, AStart, AClient, AVariable, Declared, declared, meaning}
use Rattle.loft_scopes.specs.declared.scope.Scope.{Scope}
use Rattle.loft_scopes.specs.declared.scope.Scope.TheVariants.{Everywhere, Within}
use Rattle.loft_scopes.specs.Faults.{faults, place_of, is_scheduler}
use Rattle.loft_scopes.specs.Modules.{next_module}
use Rattle.loft_listing_draft.specs.Drafts.{Draft, OperationAt, operations_of, source_of}
use Rattle.loft_listing_names.specs.Named.{operation_names}

-- ---- threads begin where they are made

abbrev pub if_scheduler : Bool → ℕ → Option ℕ
if_scheduler true number = Some number
if_scheduler false number = None

abbrev pub if_module : Sort → ℕ → Option ℕ
if_module AScheduler number = None
if_module AnEvent number = None
if_module AShared number = None
if_module (AModule parameters) number = Some number
if_module AStart number = None
if_module AClient number = None
if_module (AVariable kind) number = None

-- the heads of the modules
abbrev pub heads_in : Source → List ModuleHead
heads_in [] = []
heads_in (Scheduler name ∷ rest) = heads_in rest
heads_in (Event name scheduler ∷ rest) = heads_in rest
heads_in (Shared name scheduler value ∷ rest) = heads_in rest
heads_in (Module head locals body ∷ rest) = head ∷ heads_in rest
heads_in (Start scheduler called arguments name ∷ rest) = heads_in rest
heads_in (Outside name orders ∷ rest) = heads_in rest

abbrev pub same_number : Option ℕ → Option ℕ → Bool
same_number None n = false
same_number (Some m) None = false
same_number (Some m) (Some n) = m == n

-- what a listing declares
module _ (ds : List Declared) where
  -- the number of the scheduler that a name means
  abbrev pub scheduler_meant : Scope → Ident → Option ℕ
  scheduler_meant scope name = option_and_then (λ d. if_scheduler (is_scheduler d.sort) d.number) (meaning ds scope name)

  abbrev pub module_meant : Ident → Option ℕ
  module_meant name = option_and_then (λ d. if_module d.sort d.number) (meaning ds Everywhere name)

  abbrev pub place_meant : ℕ → PlaceName → Option ℕ
  place_meant m (InScheduler name) = scheduler_meant (Within m) name
  place_meant m Unlinked = None

-- with the heads of its modules
module _ (ds : List Declared) (heads : List ModuleHead) where
  -- the number of the scheduler in which a module begins
  abbrev pub begins_in : ℕ → Option ℕ
  begins_in m = option_and_then (λ h. place_meant ds m h.begin) (slice_get heads m)

  -- a thread of the module called so can begin in the scheduler
  abbrev pub can_begin : Ident → Ident → Bool
  can_begin scheduler called =
      same_number (scheduler_meant ds Everywhere scheduler) (option_and_then begins_in (module_meant ds called))

  -- the offset of a thread that is made where it can't begin
  abbrev pub misplaced : Ident → Ident → List ℕ
  misplaced scheduler called = if can_begin scheduler called then [] else scheduler.at ∷ []

  abbrev pub order_misplaced : Order → List ℕ
  order_misplaced (CreateThere scheduler called arguments) = misplaced scheduler called
  order_misplaced (ControlThere control thread scheduler) = []
  order_misplaced (BroadcastThere event value) = []

  abbrev pub declaration_misplaced : Declaration → List ℕ
  declaration_misplaced (Scheduler name) = []
  declaration_misplaced (Event name scheduler) = []
  declaration_misplaced (Shared name scheduler value) = []
  declaration_misplaced (Module head locals body) = []
  declaration_misplaced (Start scheduler called arguments name) = misplaced scheduler called
  declaration_misplaced (Outside name orders) = flat_map order_misplaced orders

-- ---- operations

-- the offset of an operation with a wrong name
abbrev pub operation_wrong : List Declared → Scope → OperationAt → List ℕ
operation_wrong ds scope o = if operation_names ds scope o.operation then [] else o.at ∷ []

abbrev pub operations_wrong : List Declared → Scope → List OperationAt → List ℕ
operations_wrong ds scope os = flat_map (operation_wrong ds scope) os

-- the next module has this number
abbrev pub modules_wrong : List Declared → ℕ → Draft → List ℕ
modules_wrong ds m [] = []
modules_wrong ds m (i ∷ is) = operations_wrong ds (Within m) (operations_of i) ++ modules_wrong ds (next_module m i.declaration) is

-- ---- all

-- The offset of each line with a wrong name outside operations, with a thread that can't begin where it is made, or with a wrong
-- name in an operation.
abbrev pub wrong_offsets : Draft → List ℕ
wrong_offsets d =
    let p = source_of d in
    let ds = declared p in
    map place_of (faults p) ++ (flat_map (declaration_misplaced ds (heads_in p)) p ++ modules_wrong ds 0 d)

-- the smallest of these numbers
pub record IsLeast (n : ℕ) (ns : List ℕ) : Type 0 where
  pub there : Contains ns n
  pub least : (m : ℕ) → Contains ns m → n ≤ m
