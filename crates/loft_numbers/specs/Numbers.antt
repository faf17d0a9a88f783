-- The program with numbers in place of names (docs/LANGUAGE.md, "Numbers of names"). A name that means nothing fitting,
-- which no program without faults has, is number 0 here.
use Rattle.std.specs.Prelude.{ℕ, ◌+◌, List, [], ◌∷◌, ◌++◌, Option, Some, None}
use Rattle.loft_base.specs.declared.ids.SchedId.{SchedId}
use Rattle.loft_base.specs.declared.ids.EventId.{EventId}
use Rattle.loft_base.specs.declared.ids.SharedId.{SharedId}
use Rattle.loft_base.specs.declared.ids.ModuleId.{ModuleId}
use Rattle.loft_base.specs.declared.ids.Maker.TheVariants as maker
use Rattle.loft_base.specs.declared.ids.Value.{Value}
use Rattle.loft_base.specs.declared.ids.Value.TheVariants as value
use Rattle.loft_tree.specs.Source as src
use Rattle.loft_tree.specs.Source.{Ident, EventName, Expression, Creation, PlaceName, InScheduler, Unlinked, ModuleHead, Named, Argument, ANumber, AName, Order, CreateThere, ControlThere, BroadcastThere, Declaration, Scheduler, Event, Shared, Module, Start, Outside, Source}
use Rattle.loft_tree.specs.NamedTree as n
use Rattle.loft_tree.specs.NamedTree.{EventUse, NamedExpression, NamedCreation, NamedModule, NamedProgram}
use Rattle.loft_tree.specs.declared.heads.Place.{Place}
use Rattle.loft_tree.specs.declared.heads.Place.TheVariants.{Sched, Unlinked as Nowhere}
use Rattle.loft_tree.specs.declared.heads.EventHead.{EventHead}
use Rattle.loft_tree.specs.declared.heads.SharedHead.{SharedHead}
use Rattle.loft_tree.specs.declared.heads.Signature.{Signature}
use Rattle.loft_tree.specs.declared.heads.Start.{Start as StartHead}
use Rattle.loft_tree.specs.declared.heads.ClientOrder.{ClientOrder}
use Rattle.loft_tree.specs.declared.heads.ClientOrder.TheVariants as order
use Rattle.loft_tree.specs.declared.heads.Client.{Client}
use Rattle.loft_tree.specs.declared.heads.SlotHead.{SlotHead}
use Rattle.loft_tree.specs.declared.heads.HeadItem.{HeadItem}
use Rattle.loft_tree.specs.declared.heads.HeadItem.TheVariants as item
use Rattle.loft_tree.specs.declared.heads.Heads.{Heads}
use Rattle.loft_tree.specs.declared.named.Target.{Target}
use Rattle.loft_tree.specs.declared.named.Target.TheVariants as target
use Rattle.loft_tree.specs.declared.named.LinkItem.{LinkItem}
use Rattle.loft_tree.specs.declared.named.LinkItem.TheVariants as link
use Rattle.loft_scopes.specs.declared.scope.Scope.{Scope}
use Rattle.loft_scopes.specs.declared.scope.Scope.TheVariants.{Everywhere, Within}
use Rattle.loft_scopes.specs.declared.counts.DeclarationCounts.{DeclarationCounts}
use Rattle.loft_scopes.specs.Scopes.{Sort, AScheduler, AnEvent, AShared, AModule, AStart, AClient, AVariable, Declared, declared, after, none_yet, meaning}

abbrev pub number_or_0 : Option Declared → ℕ
number_or_0 None = 0
number_or_0 (Some d) = d.number

-- a shared variable's number, where the name means one
abbrev pub if_shared : Sort → ℕ → Option SharedId
if_shared AScheduler number = None
if_shared AnEvent number = None
if_shared AShared number = Some (record { 0 = number })
if_shared (AModule parameters) number = None
if_shared AStart number = None
if_shared AClient number = None
if_shared (AVariable kind) number = None

-- a name with a value: a shared variable, or else a slot
pub data Holder : Type 0 where
  InShared : (shared : SharedId) → Holder
  InSlot : (slot : ℕ) → Holder

abbrev pub shared_or : Option SharedId → ℕ → Holder
shared_or None number = InSlot number
shared_or (Some shared) number = InShared shared

abbrev pub holder_of : Option Declared → Holder
holder_of None = InSlot 0
holder_of (Some d) = shared_or (if_shared d.sort d.number) d.number

-- how many stops a statement has, and how many the statements of a body
abbrev mutual
  pub stops_in : src.Statement → ℕ
  stops_in (src.Assign target value) = 0
  stops_in (src.AssignCreate target at creation) = 0
  stops_in (src.Create at creation) = 0
  stops_in (src.PrintText at line value) = 0
  stops_in (src.PrintValue at value) = 0
  stops_in (src.Cooperate at instants) = 1
  stops_in (src.Generate at event value) = 0
  stops_in (src.Await at event limit) = 1
  stops_in (src.Select at events limit) = 1
  stops_in (src.Get at event index target) = 1
  stops_in (src.Join at thread limit) = 1
  stops_in (src.ControlThread at control thread scheduler) = 0
  stops_in (src.Broadcast at event value) = 0
  stops_in (src.Link at scheduler) = 1
  stops_in (src.Unlink at) = 1
  stops_in (src.Run at called arguments) = 1
  stops_in (src.Halt at) = 1
  stops_in (src.If at test first second) = body_stops first + body_stops second
  stops_in (src.While at test body) = body_stops body
  stops_in (src.Repeat at count body) = body_stops body

  pub body_stops : src.Statements → ℕ
  body_stops src.Done = 0
  body_stops (src.Then first rest) = stops_in first + body_stops rest

-- the declarations of the program, and where its names are used
module _ (ds : List Declared) (scope : Scope) where
  abbrev pub number_of : Ident → ℕ
  number_of name = number_or_0 (meaning ds scope name)

  abbrev pub scheduler_of : Ident → SchedId
  scheduler_of name = record { 0 = number_of name }

  abbrev pub event_of : EventName → EventId
  event_of event = record { 0 = number_of event.name }

  abbrev pub module_of : Ident → ModuleId
  module_of name = record { 0 = number_of name }

  abbrev pub event_use : EventName → EventUse
  event_use event = record { at = event.name.at; event = event_of event }

  abbrev pub event_uses : List EventName → List EventUse
  event_uses [] = []
  event_uses (event ∷ events) = event_use event ∷ event_uses events

  abbrev pub variable_term : ℕ → Holder → NamedExpression
  variable_term at (InShared shared) = n.Shared at shared
  variable_term at (InSlot slot) = n.Slot slot

  abbrev pub term_of : Expression → NamedExpression
  term_of (src.Number at value) = n.Number value
  term_of (src.Variable name) = variable_term name.at (holder_of (meaning ds scope name))
  term_of (src.Special at builtin) = n.Special builtin
  term_of (src.Unary at operator operand) = n.Unary operator (term_of operand)
  term_of (src.Binary operator left right) = n.Binary operator (term_of left) (term_of right)

  abbrev pub value_of : Option Expression → Option NamedExpression
  value_of None = None
  value_of (Some e) = Some (term_of e)

  abbrev pub terms_of : List Expression → List NamedExpression
  terms_of [] = []
  terms_of (e ∷ es) = term_of e ∷ terms_of es

  abbrev pub held_by : ℕ → Holder → Target
  held_by at (InShared shared) = target.Shared at shared
  held_by at (InSlot slot) = target.Slot slot

  abbrev pub target_of : Ident → Target
  target_of name = held_by name.at (holder_of (meaning ds scope name))

  abbrev pub creation_of : Creation → NamedCreation
  creation_of c = record { at = c.scheduler.at; scheduler = scheduler_of c.scheduler; «module» = module_of c.called; arguments = terms_of c.arguments }

  -- a statement whose stops are numbered from k + 1 in text order
  abbrev mutual
    pub statement_of : src.Statement → ℕ → n.NamedStatement
    statement_of (src.Assign name value) k = n.Do name.at (n.Assign (target_of name) (term_of value))
    statement_of (src.AssignCreate name at creation) k = n.Do at (n.Make (Some (target_of name)) (creation_of creation))
    statement_of (src.Create at creation) k = n.Do at (n.Make None (creation_of creation))
    statement_of (src.PrintText at line value) k = n.Do at (n.PrintText line (value_of value))
    statement_of (src.PrintValue at value) k = n.Do at (n.PrintValue (term_of value))
    statement_of (src.Cooperate at instants) k = n.Hold at (k + 1) (n.Cooperate (value_of instants))
    statement_of (src.Generate at event value) k = n.Do at (n.Generate (event_use event) (value_of value))
    statement_of (src.Await at event limit) k = n.Hold at (k + 1) (n.Await (event_use event ∷ []) (value_of limit))
    statement_of (src.Select at events limit) k = n.Hold at (k + 1) (n.Await (event_uses events) (value_of limit))
    statement_of (src.Get at event index name) k = n.Hold at (k + 1) (n.Get (event_use event) (term_of index) (target_of name))
    statement_of (src.Join at thread limit) k = n.Hold at (k + 1) (n.Join (term_of thread) (value_of limit))
    statement_of (src.ControlThread at control thread scheduler) k = n.Do at (n.ControlThread control (term_of thread) (scheduler_of scheduler))
    statement_of (src.Broadcast at event value) k = n.Do at (n.Broadcast (event_use event) (value_of value))
    statement_of (src.Link at scheduler) k = n.Hold at (k + 1) (n.Link (scheduler_of scheduler))
    statement_of (src.Unlink at) k = n.Hold at (k + 1) n.Unlink
    statement_of (src.Run at called arguments) k = n.Run at (k + 1) called.at (module_of called) (terms_of arguments)
    statement_of (src.Halt at) k = n.Hold at (k + 1) n.Halt
    statement_of (src.If at test first second) k = n.If at (term_of test) (body_of first k) (body_of second (k + body_stops first))
    statement_of (src.While at test body) k = n.While at (term_of test) (body_of body k)
    statement_of (src.Repeat at count body) k = n.Repeat at (term_of count) (body_of body k)

    pub body_of : src.Statements → ℕ → n.NamedStatements
    body_of src.Done k = n.Done
    body_of (src.Then first rest) k = n.Then (statement_of first k) (body_of rest (k + stops_in first))

  abbrev pub place_of : PlaceName → Place
  place_of (InScheduler name) = Sched (scheduler_of name)
  place_of Unlinked = Nowhere

  -- where threads end: where they begin, if no other place is written
  abbrev pub end_of : PlaceName → Option PlaceName → Place
  end_of begin None = place_of begin
  end_of begin (Some end) = place_of end

  abbrev pub argument_of : Argument → Value
  argument_of (ANumber at number) = value.Int number
  argument_of (AName name) = value.Thread (record { maker = maker.Source; seq = number_of name })

  abbrev pub arguments_of : List Argument → List Value
  arguments_of [] = []
  arguments_of (a ∷ args) = argument_of a ∷ arguments_of args

  abbrev pub client_order : Order → ClientOrder
  client_order (CreateThere scheduler called arguments) = order.Create (scheduler_of scheduler) (module_of called) (arguments_of arguments)
  client_order (ControlThere control thread scheduler) =
      order.Control control (record { maker = maker.Source; seq = number_of thread }) (scheduler_of scheduler)
  client_order (BroadcastThere event value) = order.Broadcast (event_of event) value

  abbrev pub client_orders : List Order → List ClientOrder
  client_orders [] = []
  client_orders (x ∷ xs) = client_order x ∷ client_orders xs

abbrev pub name_text : Option Ident → Option (List ℕ)
name_text None = None
name_text (Some name) = Some name.text

-- the names of the schedulers
abbrev pub schedulers_in : Source → List (List ℕ)
schedulers_in [] = []
schedulers_in (Scheduler name ∷ rest) = name.text ∷ schedulers_in rest
schedulers_in (Event name scheduler ∷ rest) = schedulers_in rest
schedulers_in (Shared name scheduler value ∷ rest) = schedulers_in rest
schedulers_in (Module head locals body ∷ rest) = schedulers_in rest
schedulers_in (Start scheduler called arguments name ∷ rest) = schedulers_in rest
schedulers_in (Outside name orders ∷ rest) = schedulers_in rest

-- parameters or local variables
abbrev pub slots_of : List Named → List SlotHead
slots_of [] = []
slots_of (v ∷ vs) = record { kind = v.kind; name = v.name.text } ∷ slots_of vs

-- the declarations of the program
module _ (ds : List Declared) where
  abbrev pub events_in : Source → List EventHead
  events_in [] = []
  events_in (Scheduler name ∷ rest) = events_in rest
  events_in (Event name scheduler ∷ rest) = record { name = name.text; scheduler = scheduler_of ds Everywhere scheduler } ∷ events_in rest
  events_in (Shared name scheduler value ∷ rest) = events_in rest
  events_in (Module head locals body ∷ rest) = events_in rest
  events_in (Start scheduler called arguments name ∷ rest) = events_in rest
  events_in (Outside name orders ∷ rest) = events_in rest

  abbrev pub shared_in : Source → List SharedHead
  shared_in [] = []
  shared_in (Scheduler name ∷ rest) = shared_in rest
  shared_in (Event name scheduler ∷ rest) = shared_in rest
  shared_in (Shared name scheduler value ∷ rest) = record { name = name.text; scheduler = scheduler_of ds Everywhere scheduler; value = value } ∷ shared_in rest
  shared_in (Module head locals body ∷ rest) = shared_in rest
  shared_in (Start scheduler called arguments name ∷ rest) = shared_in rest
  shared_in (Outside name orders ∷ rest) = shared_in rest

  abbrev pub signature_of : ℕ → ModuleHead → List Named → Signature
  signature_of m head locals = record {
    name = head.name.text;
    parameters = slots_of head.parameters;
    locals = slots_of locals;
    begin = place_of ds (Within m) head.begin;
    end = end_of ds (Within m) head.begin head.end;
  }

  -- the modules, where the next one has the number m
  abbrev pub signatures_in : ℕ → Source → List Signature
  signatures_in m [] = []
  signatures_in m (Scheduler name ∷ rest) = signatures_in m rest
  signatures_in m (Event name scheduler ∷ rest) = signatures_in m rest
  signatures_in m (Shared name scheduler value ∷ rest) = signatures_in m rest
  signatures_in m (Module head locals body ∷ rest) = signature_of m head locals ∷ signatures_in (m + 1) rest
  signatures_in m (Start scheduler called arguments name ∷ rest) = signatures_in m rest
  signatures_in m (Outside name orders ∷ rest) = signatures_in m rest

  abbrev pub modules_in : ℕ → Source → List NamedModule
  modules_in m [] = []
  modules_in m (Scheduler name ∷ rest) = modules_in m rest
  modules_in m (Event name scheduler ∷ rest) = modules_in m rest
  modules_in m (Shared name scheduler value ∷ rest) = modules_in m rest
  modules_in m (Module head locals body ∷ rest) = record { at = head.name.at; body = body_of ds (Within m) body 0 } ∷ modules_in (m + 1) rest
  modules_in m (Start scheduler called arguments name ∷ rest) = modules_in m rest
  modules_in m (Outside name orders ∷ rest) = modules_in m rest

  abbrev pub starts_in : Source → List StartHead
  starts_in [] = []
  starts_in (Scheduler name ∷ rest) = starts_in rest
  starts_in (Event name scheduler ∷ rest) = starts_in rest
  starts_in (Shared name scheduler value ∷ rest) = starts_in rest
  starts_in (Module head locals body ∷ rest) = starts_in rest
  starts_in (Start scheduler called arguments name ∷ rest) =
      record { scheduler = scheduler_of ds Everywhere scheduler; «module» = module_of ds Everywhere called; arguments = arguments_of ds Everywhere arguments; name = name_text name }
      ∷ starts_in rest
  starts_in (Outside name orders ∷ rest) = starts_in rest

  abbrev pub clients_in : Source → List Client
  clients_in [] = []
  clients_in (Scheduler name ∷ rest) = clients_in rest
  clients_in (Event name scheduler ∷ rest) = clients_in rest
  clients_in (Shared name scheduler value ∷ rest) = clients_in rest
  clients_in (Module head locals body ∷ rest) = clients_in rest
  clients_in (Start scheduler called arguments name ∷ rest) = clients_in rest
  clients_in (Outside name orders ∷ rest) = record { name = name.text; orders = client_orders ds Everywhere orders } ∷ clients_in rest

-- a declaration by its sort and its number, where there were so many before it
abbrev pub item_of : DeclarationCounts → Declaration → HeadItem
item_of k (Scheduler name) = item.Scheduler (record { 0 = k.schedulers })
item_of k (Event name scheduler) = item.Event (record { 0 = k.events })
item_of k (Shared name scheduler value) = item.Shared (record { 0 = k.shared })
item_of k (Module head locals body) = item.Module (record { 0 = k.modules })
item_of k (Start scheduler called arguments name) = item.Start k.starts
item_of k (Outside name orders) = item.Client k.clients

-- the declarations in text order
abbrev pub items_in : DeclarationCounts → Source → List HeadItem
items_in k [] = []
items_in k (d ∷ rest) = item_of k d ∷ items_in (after k d) rest

-- the creates of a client, where its next order has this number
abbrev pub creates_in : ℕ → ℕ → List Order → List LinkItem
creates_in client number [] = []
creates_in client number (CreateThere scheduler called arguments ∷ xs) = link.Create scheduler.at client number ∷ creates_in client (number + 1) xs
creates_in client number (ControlThere control thread scheduler ∷ xs) = creates_in client (number + 1) xs
creates_in client number (BroadcastThere event value ∷ xs) = creates_in client (number + 1) xs

-- what a declaration has to do with links
abbrev pub links_of : DeclarationCounts → Declaration → List LinkItem
links_of k (Scheduler name) = []
links_of k (Event name scheduler) = []
links_of k (Shared name scheduler value) = []
links_of k (Module head locals body) = link.Module (record { 0 = k.modules }) ∷ []
links_of k (Start scheduler called arguments name) = link.Start scheduler.at k.starts ∷ []
links_of k (Outside name orders) = creates_in k.clients 0 orders

-- what has to do with links, in text order
abbrev pub links_in : DeclarationCounts → Source → List LinkItem
links_in k [] = []
links_in k (d ∷ rest) = links_of k d ++ links_in (after k d) rest

-- all that a program declares outside module bodies
abbrev pub heads_of : List Declared → Source → Heads
heads_of ds p = record {
  schedulers = schedulers_in p;
  events = events_in ds p;
  shared = shared_in ds p;
  modules = signatures_in ds 0 p;
  starts = starts_in ds p;
  clients = clients_in ds p;
  items = items_in none_yet p;
}

-- the program with numbers in place of names
abbrev pub numbered : Source → NamedProgram
numbered p = record { heads = heads_of (declared p) p; modules = modules_in (declared p) 0 p; links = links_in none_yet p }
