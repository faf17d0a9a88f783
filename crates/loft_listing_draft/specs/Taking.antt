-- A listing that is taken line by line.
use Rattle.std.specs.Prelude.{◌≡◌, ℕ, ◌<◌, List, [], ◌∷◌, ◌++◌, length}
use Rattle.std.specs.List.{count_by}
use Rattle.loft_tree.specs.declared.limits.TheConstants.{MAX_SCHEDULERS, MAX_EVENTS, MAX_SHARED, MAX_MODULES, MAX_STARTS, MAX_CLIENTS, MAX_ORDERS, MAX_LOCALS}
use Rattle.loft_tree.specs.Source as src
use Rattle.loft_tree.specs.Source.{Ident, Named, ModuleHead, Declaration, Scheduler, Event, Shared, Module, Start, Outside, Source, Done}
use Rattle.loft_tree.specs.Fits.{is_scheduler, is_event, is_shared, is_module, is_start, is_outside}
use Rattle.loft_code.specs.declared.limits.TheConstants.{MAX_OPERATIONS}
use Rattle.loft_listing_line.specs.Rows.{ListingLine, Title, Item, Head, Local, Operation, End, Client, Order, Close}
use Rattle.loft_listing_draft.specs.Drafts.{Draft, DraftItem, DraftOperation, source_of}

-- the declaration that isn't closed yet
pub data Begun : Type 0 where
  Nothing : Begun
  InModule : (head : ModuleHead) (locals : List Named) (operations : List DraftOperation) → Begun
  InClient : (name : Ident) (orders : List src.Order) → Begun

-- what the lines so far say
pub record SoFar : Type 0 where
  pub done : Draft
  pub begun : Begun

-- ---- what may come next

-- a declaration of this sort may still come
abbrev pub HasRoom : Source → Declaration → Type 0
HasRoom p (Scheduler name) = count_by is_scheduler p < MAX_SCHEDULERS
HasRoom p (Event name scheduler) = count_by is_event p < MAX_EVENTS
HasRoom p (Shared name scheduler value) = count_by is_shared p < MAX_SHARED
HasRoom p (Module head locals body) = count_by is_module p < MAX_MODULES
HasRoom p (Start scheduler called arguments name) = count_by is_start p < MAX_STARTS
HasRoom p (Outside name orders) = count_by is_outside p < MAX_CLIENTS

abbrev pub MayBegin : Source → ListingLine → Type 0
MayBegin p Title = ⊥
MayBegin p (Item d) = HasRoom p d
MayBegin p (Head h) = count_by is_module p < MAX_MODULES
MayBegin p (Local v) = ⊥
MayBegin p (Operation k place d i) = ⊥
MayBegin p End = ⊥
MayBegin p (Client name) = count_by is_outside p < MAX_CLIENTS
MayBegin p (Order x) = ⊥
MayBegin p Close = ⊥

-- after so many local variables and operations of a module
abbrev pub MayStandInModule : ℕ → ℕ → ListingLine → Type 0
MayStandInModule locals operations Title = ⊥
MayStandInModule locals operations (Item d) = ⊥
MayStandInModule locals operations (Head h) = ⊥
MayStandInModule locals operations (Local v) = (operations ≡ 0) × (locals < MAX_LOCALS)
MayStandInModule locals operations (Operation k place d i) = (k ≡ operations) × (operations < MAX_OPERATIONS)
MayStandInModule locals operations End = Unit {0}
MayStandInModule locals operations (Client name) = ⊥
MayStandInModule locals operations (Order x) = ⊥
MayStandInModule locals operations Close = ⊥

-- after so many orders of a client
abbrev pub MayStandInClient : ℕ → ListingLine → Type 0
MayStandInClient orders Title = ⊥
MayStandInClient orders (Item d) = ⊥
MayStandInClient orders (Head h) = ⊥
MayStandInClient orders (Local v) = ⊥
MayStandInClient orders (Operation k place d i) = ⊥
MayStandInClient orders End = ⊥
MayStandInClient orders (Client name) = ⊥
MayStandInClient orders (Order x) = orders < MAX_ORDERS
MayStandInClient orders Close = Unit {0}

abbrev pub MayFollow : Source → Begun → ListingLine → Type 0
MayFollow p Nothing l = MayBegin p l
MayFollow p (InModule head locals operations) l = MayStandInModule (length locals) (length operations) l
MayFollow p (InClient name orders) l = MayStandInClient (length orders) l

abbrev pub MayStand : SoFar → ListingLine → Type 0
MayStand s l = MayFollow (source_of s.done) s.begun l

-- ---- what the lines say with one line more

abbrev pub simple_item : Declaration → DraftItem
simple_item d = record { declaration = d; operations = [] }

abbrev pub module_item : ModuleHead → List Named → List DraftOperation → DraftItem
module_item head locals operations = record { declaration = Module head locals Done; operations = operations }

abbrev pub begin_with : Draft → ListingLine → SoFar
begin_with done Title = record { done = done; begun = Nothing }
begin_with done (Item d) = record { done = done ++ simple_item d ∷ []; begun = Nothing }
begin_with done (Head h) = record { done = done; begun = InModule h [] [] }
begin_with done (Local v) = record { done = done; begun = Nothing }
begin_with done (Operation k place d i) = record { done = done; begun = Nothing }
begin_with done End = record { done = done; begun = Nothing }
begin_with done (Client name) = record { done = done; begun = InClient name [] }
begin_with done (Order x) = record { done = done; begun = Nothing }
begin_with done Close = record { done = done; begun = Nothing }

abbrev pub in_module_with : Draft → ModuleHead → List Named → List DraftOperation → ListingLine → SoFar
in_module_with done head locals os Title = record { done = done; begun = Nothing }
in_module_with done head locals os (Item d) = record { done = done; begun = Nothing }
in_module_with done head locals os (Head h) = record { done = done; begun = Nothing }
in_module_with done head locals os (Local v) = record { done = done; begun = InModule head (locals ++ v ∷ []) os }
in_module_with done head locals os (Operation k place d i) =
    record { done = done; begun = InModule head locals (os ++ record { place = place; depth = d; instruction = i } ∷ []) }
in_module_with done head locals os End = record { done = done ++ module_item head locals os ∷ []; begun = Nothing }
in_module_with done head locals os (Client name) = record { done = done; begun = Nothing }
in_module_with done head locals os (Order x) = record { done = done; begun = Nothing }
in_module_with done head locals os Close = record { done = done; begun = Nothing }

abbrev pub in_client_with : Draft → Ident → List src.Order → ListingLine → SoFar
in_client_with done name orders Title = record { done = done; begun = Nothing }
in_client_with done name orders (Item d) = record { done = done; begun = Nothing }
in_client_with done name orders (Head h) = record { done = done; begun = Nothing }
in_client_with done name orders (Local v) = record { done = done; begun = Nothing }
in_client_with done name orders (Operation k place d i) = record { done = done; begun = Nothing }
in_client_with done name orders End = record { done = done; begun = Nothing }
in_client_with done name orders (Client n) = record { done = done; begun = Nothing }
in_client_with done name orders (Order x) = record { done = done; begun = InClient name (orders ++ x ∷ []) }
in_client_with done name orders Close = record { done = done ++ simple_item (Outside name orders) ∷ []; begun = Nothing }

abbrev pub going_on : Draft → Begun → ListingLine → SoFar
going_on done Nothing l = begin_with done l
going_on done (InModule head locals os) l = in_module_with done head locals os l
going_on done (InClient name orders) l = in_client_with done name orders l

abbrev pub with_line : SoFar → ListingLine → SoFar
with_line s l = going_on s.done s.begun l

-- ---- closed

abbrev pub closed_as : Draft → Begun → Draft
closed_as done Nothing = done
closed_as done (InModule head locals os) = done ++ module_item head locals os ∷ []
closed_as done (InClient name orders) = done ++ simple_item (Outside name orders) ∷ []

-- what the lines say once the declaration is closed
abbrev pub closed : SoFar → Draft
closed s = closed_as s.done s.begun

abbrev pub closing : Begun → List ListingLine
closing Nothing = []
closing (InModule head locals os) = End ∷ []
closing (InClient name orders) = Close ∷ []
