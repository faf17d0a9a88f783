-- What code declares, one by one in the order of the text, and a module with its operations.
use Rattle.std.specs.Prelude.{ℕ, ◌+◌, List, [], ◌∷◌, Option, Some, None, slice_get}
use Rattle.std.specs.List.{flat_map}
use Rattle.loft_tree.specs.declared.heads.EventHead.{EventHead}
use Rattle.loft_tree.specs.declared.heads.SharedHead.{SharedHead}
use Rattle.loft_tree.specs.declared.heads.Signature.{Signature}
use Rattle.loft_tree.specs.declared.heads.Start.{Start}
use Rattle.loft_tree.specs.declared.heads.Client.{Client}
use Rattle.loft_tree.specs.declared.heads.HeadItem.{HeadItem}
use Rattle.loft_tree.specs.declared.heads.HeadItem.TheVariants as item
use Rattle.loft_tree.specs.declared.heads.Heads.{Heads}
use Rattle.loft_scopes.specs.declared.counts.DeclarationCounts.{DeclarationCounts}
use Rattle.loft_scopes.specs.Scopes.{none_yet}
use Rattle.loft_code.specs.Operations.{Line, Automata}
use Rattle.loft_listing.specs.Lines.{operations_of}

pub data Part : Type 0 where
  SchedulerPart : (name : List ℕ) → Part
  EventPart : (head : EventHead) → Part
  SharedPart : (head : SharedHead) → Part
  ModulePart : (head : Signature) (lines : List Line) → Part
  StartPart : (head : Start) → Part
  ClientPart : (head : Client) → Part

-- ---- the parts of each sort

abbrev pub schedulers_in : List Part → List (List ℕ)
schedulers_in [] = []
schedulers_in (SchedulerPart name ∷ ps) = name ∷ schedulers_in ps
schedulers_in (EventPart x ∷ ps) = schedulers_in ps
schedulers_in (SharedPart x ∷ ps) = schedulers_in ps
schedulers_in (ModulePart x lines ∷ ps) = schedulers_in ps
schedulers_in (StartPart x ∷ ps) = schedulers_in ps
schedulers_in (ClientPart x ∷ ps) = schedulers_in ps

abbrev pub events_in : List Part → List EventHead
events_in [] = []
events_in (SchedulerPart name ∷ ps) = events_in ps
events_in (EventPart x ∷ ps) = x ∷ events_in ps
events_in (SharedPart x ∷ ps) = events_in ps
events_in (ModulePart x lines ∷ ps) = events_in ps
events_in (StartPart x ∷ ps) = events_in ps
events_in (ClientPart x ∷ ps) = events_in ps

abbrev pub shared_in : List Part → List SharedHead
shared_in [] = []
shared_in (SchedulerPart name ∷ ps) = shared_in ps
shared_in (EventPart x ∷ ps) = shared_in ps
shared_in (SharedPart x ∷ ps) = x ∷ shared_in ps
shared_in (ModulePart x lines ∷ ps) = shared_in ps
shared_in (StartPart x ∷ ps) = shared_in ps
shared_in (ClientPart x ∷ ps) = shared_in ps

abbrev pub modules_in : List Part → List Signature
modules_in [] = []
modules_in (SchedulerPart name ∷ ps) = modules_in ps
modules_in (EventPart x ∷ ps) = modules_in ps
modules_in (SharedPart x ∷ ps) = modules_in ps
modules_in (ModulePart x lines ∷ ps) = x ∷ modules_in ps
modules_in (StartPart x ∷ ps) = modules_in ps
modules_in (ClientPart x ∷ ps) = modules_in ps

abbrev pub lines_in : List Part → List (List Line)
lines_in [] = []
lines_in (SchedulerPart name ∷ ps) = lines_in ps
lines_in (EventPart x ∷ ps) = lines_in ps
lines_in (SharedPart x ∷ ps) = lines_in ps
lines_in (ModulePart x lines ∷ ps) = lines ∷ lines_in ps
lines_in (StartPart x ∷ ps) = lines_in ps
lines_in (ClientPart x ∷ ps) = lines_in ps

abbrev pub starts_in : List Part → List Start
starts_in [] = []
starts_in (SchedulerPart name ∷ ps) = starts_in ps
starts_in (EventPart x ∷ ps) = starts_in ps
starts_in (SharedPart x ∷ ps) = starts_in ps
starts_in (ModulePart x lines ∷ ps) = starts_in ps
starts_in (StartPart x ∷ ps) = x ∷ starts_in ps
starts_in (ClientPart x ∷ ps) = starts_in ps

abbrev pub clients_in : List Part → List Client
clients_in [] = []
clients_in (SchedulerPart name ∷ ps) = clients_in ps
clients_in (EventPart x ∷ ps) = clients_in ps
clients_in (SharedPart x ∷ ps) = clients_in ps
clients_in (ModulePart x lines ∷ ps) = clients_in ps
clients_in (StartPart x ∷ ps) = clients_in ps
clients_in (ClientPart x ∷ ps) = x ∷ clients_in ps

-- the parts by their sorts and numbers, after so many
abbrev pub items_from : DeclarationCounts → List Part → List HeadItem
items_from k [] = []
items_from k (SchedulerPart name ∷ ps) = item.Scheduler (record { 0 = k.schedulers }) ∷ items_from (record k { schedulers = k.schedulers + 1 }) ps
items_from k (EventPart x ∷ ps) = item.Event (record { 0 = k.events }) ∷ items_from (record k { events = k.events + 1 }) ps
items_from k (SharedPart x ∷ ps) = item.Shared (record { 0 = k.shared }) ∷ items_from (record k { shared = k.shared + 1 }) ps
items_from k (ModulePart x lines ∷ ps) = item.Module (record { 0 = k.modules }) ∷ items_from (record k { modules = k.modules + 1 }) ps
items_from k (StartPart x ∷ ps) = item.Start k.starts ∷ items_from (record k { starts = k.starts + 1 }) ps
items_from k (ClientPart x ∷ ps) = item.Client k.clients ∷ items_from (record k { clients = k.clients + 1 }) ps

-- ---- the parts of code

abbrev pub part_if : {A : Type 0} → (A → Part) → Option A → List Part
part_if part None = []
part_if part (Some x) = part x ∷ []

module _ (h : Heads) (modules : List (List Line)) where
  abbrev pub part_at : HeadItem → List Part
  part_at (item.Scheduler s) = part_if SchedulerPart (slice_get h.schedulers s.0)
  part_at (item.Event e) = part_if EventPart (slice_get h.events e.0)
  part_at (item.Shared x) = part_if SharedPart (slice_get h.shared x.0)
  part_at (item.Module m) = part_if (λ x. ModulePart x (operations_of modules m.0)) (slice_get h.modules m.0)
  part_at (item.Start t) = part_if StartPart (slice_get h.starts t)
  part_at (item.Client c) = part_if ClientPart (slice_get h.clients c)

  abbrev pub parts_at : List HeadItem → List Part
  parts_at items = flat_map part_at items

abbrev pub parts_of : Automata → List Part
parts_of c = parts_at c.heads c.modules c.heads.items

-- ---- putting parts together

abbrev pub heads_in : List Part → Heads
heads_in ps = record {
  schedulers = schedulers_in ps;
  events = events_in ps;
  shared = shared_in ps;
  modules = modules_in ps;
  starts = starts_in ps;
  clients = clients_in ps;
  items = items_from none_yet ps;
}

-- the code that has these parts
abbrev pub together : List Part → Automata
together ps = record { heads = heads_in ps; modules = lines_in ps }
