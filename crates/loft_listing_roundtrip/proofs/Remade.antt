-- What the draft of code declares: the same with numbers that its names mean.
use Rattle.std.proofs.Common.{◌≡◌, ℕ, ◌+◌, List, [], ◌∷◌, Option, Some, None, map, refl, ap}
use Rattle.std.specs.Option.{option_map}
use Rattle.loft_base.specs.declared.ids.Maker.TheVariants as maker
use Rattle.loft_base.specs.declared.ids.ThreadId.{ThreadId}
use Rattle.loft_base.specs.declared.ids.Value.{Value}
use Rattle.loft_base.specs.declared.ids.Value.TheVariants as value
use Rattle.loft_tree.specs.Source.{PlaceName, InScheduler, Unlinked}
use Rattle.loft_tree.specs.declared.heads.SlotHead.{SlotHead}
use Rattle.loft_tree.specs.declared.heads.EventHead.{EventHead}
use Rattle.loft_tree.specs.declared.heads.SharedHead.{SharedHead}
use Rattle.loft_tree.specs.declared.heads.Signature.{Signature}
use Rattle.loft_tree.specs.declared.heads.Start.{Start}
use Rattle.loft_tree.specs.declared.heads.ClientOrder.{ClientOrder}
use Rattle.loft_tree.specs.declared.heads.ClientOrder.TheVariants as order
use Rattle.loft_tree.specs.declared.heads.Client.{Client}
use Rattle.loft_tree.specs.declared.heads.HeadItem.TheVariants as item
use Rattle.loft_tree.specs.declared.heads.Heads.{Heads}
use Rattle.loft_scopes.specs.Scopes.{Declared, none_yet}
use Rattle.loft_scopes.specs.declared.scope.Scope.{Scope}
use Rattle.loft_scopes.specs.declared.scope.Scope.TheVariants.{Everywhere, Within}
use Rattle.loft_scopes.specs.declared.counts.DeclarationCounts.{DeclarationCounts}
use Rattle.loft_numbers.specs.Numbers as numbers
use Rattle.loft_numbers.specs.Numbers.{number_of, scheduler_of, event_of, module_of, place_of, end_of, name_text, slots_of, arguments_of, client_order, client_orders, heads_of}
use Rattle.loft_listing_draft.specs.Drafts.{source_of}
use Rattle.loft_listing_draft.specs.Lined.{argument_at, name_at, order_at, place_at, variable_at}
use Rattle.loft_listing.specs.Called.{called, called_scheduler, called_event, called_module, called_thread, called_place, called_end, called_variable, called_argument, called_order}
use Rattle.loft_listing_roundtrip.proofs.Parts as parts
use Rattle.loft_listing_roundtrip.proofs.Parts.{Part, SchedulerPart, EventPart, SharedPart, ModulePart, StartPart, ClientPart, items_from}
use Rattle.loft_listing_roundtrip.proofs.Saying.{after_head, after_local, after_name, after_order, after_part, locals_from, orders_from, said}

-- what a listing declares, and what code declares, whose names it writes
module _ (ds : List Declared) (h : Heads) where
  abbrev pub remade_event : EventHead → EventHead
  remade_event e = record { name = e.name; scheduler = scheduler_of ds Everywhere (called_scheduler h e.scheduler) }

  abbrev pub remade_shared : SharedHead → SharedHead
  remade_shared x = record { name = x.name; scheduler = scheduler_of ds Everywhere (called_scheduler h x.scheduler); value = x.value }

  -- the module with this number
  abbrev pub remade_module : ℕ → Signature → Signature
  remade_module k m = record {
    name = m.name;
    parameters = m.parameters;
    locals = m.locals;
    begin = place_of ds (Within k) (called_place h m.begin);
    end = end_of ds (Within k) (called_place h m.begin) (called_end h m.begin m.end);
  }

  -- modules from this number on
  abbrev pub remade_modules : ℕ → List Signature → List Signature
  remade_modules k [] = []
  remade_modules k (m ∷ ms) = remade_module k m ∷ remade_modules (k + 1) ms

  abbrev pub remade_thread : ThreadId → ThreadId
  remade_thread t = record { maker = maker.Source; seq = number_of ds Everywhere (called_thread h t) }

  abbrev pub remade_value : Value → Value
  remade_value (value.Int number) = value.Int number
  remade_value (value.Thread t) = value.Thread (remade_thread t)

  abbrev pub remade_start : Start → Start
  remade_start t = record {
    scheduler = scheduler_of ds Everywhere (called_scheduler h t.scheduler);
    «module» = module_of ds Everywhere (called_module h t.module);
    arguments = map remade_value t.arguments;
    name = t.name;
  }

  abbrev pub remade_order : ClientOrder → ClientOrder
  remade_order (order.Create s m arguments) =
      order.Create (scheduler_of ds Everywhere (called_scheduler h s)) (module_of ds Everywhere (called_module h m)) (map remade_value arguments)
  remade_order (order.Control control t s) = order.Control control (remade_thread t) (scheduler_of ds Everywhere (called_scheduler h s))
  remade_order (order.Broadcast event value) = order.Broadcast (event_of ds Everywhere (called_event h event)) value

  abbrev pub remade_client : Client → Client
  remade_client c = record { name = c.name; orders = map remade_order c.orders }

  abbrev pub remade : List Part → Heads
  remade ps = record {
    schedulers = parts.schedulers_in ps;
    events = map remade_event (parts.events_in ps);
    shared = map remade_shared (parts.shared_in ps);
    modules = remade_modules 0 (parts.modules_in ps);
    starts = map remade_start (parts.starts_in ps);
    clients = map remade_client (parts.clients_in ps);
    items = items_from none_yet ps;
  }

  -- ---- parts of declarations: offsets aren't among the numbers

  same_parameters : (at : ℕ) (vs : List SlotHead) → slots_of (map (variable_at at) (map called_variable vs)) ≡ vs
  same_parameters at [] = refl
  same_parameters at (v ∷ vs) = ap (λ ws. v ∷ ws) (same_parameters at vs)

  same_locals : (at : ℕ) (vs : List SlotHead) → slots_of (locals_from at (map called_variable vs)) ≡ vs
  same_locals at [] = refl
  same_locals at (v ∷ vs) = ap (λ ws. v ∷ ws) (same_locals (after_local at (called_variable v)) vs)

  same_place : (scope : Scope) (at : ℕ) (p : PlaceName) → place_of ds scope (place_at at p) ≡ place_of ds scope p
  same_place scope at (InScheduler name) = refl
  same_place scope at Unlinked = refl

  same_end : (scope : Scope) (at : ℕ) (begin : PlaceName) (end : Option PlaceName) → end_of ds scope (place_at at begin) (option_map (place_at at) end) ≡ end_of ds scope begin end
  same_end scope at begin None = same_place scope at begin
  same_end scope at begin (Some end) = same_place scope at end

  same_arguments : (at : ℕ) (args : List Value) → arguments_of ds Everywhere (map (argument_at at) (map (called_argument h) args)) ≡ map remade_value args
  same_arguments at [] = refl
  same_arguments at (value.Int number ∷ args) = ap (λ xs. value.Int number ∷ xs) (same_arguments at args)
  same_arguments at (value.Thread t ∷ args) = ap (λ xs. value.Thread (remade_thread t) ∷ xs) (same_arguments at args)

  same_order : (at : ℕ) (x : ClientOrder) → client_order ds Everywhere (order_at at (called_order h x)) ≡ remade_order x
  same_order at (order.Create s m arguments) = ap (order.Create (scheduler_of ds Everywhere (called_scheduler h s)) (module_of ds Everywhere (called_module h m))) (same_arguments at arguments)
  same_order at (order.Control control t s) = refl
  same_order at (order.Broadcast event value) = refl

  same_orders : (at : ℕ) (xs : List ClientOrder) → client_orders ds Everywhere (orders_from at (map (called_order h) xs)) ≡ map remade_order xs
  same_orders at [] = refl
  same_orders at (x ∷ xs) = (λ i. same_order at x i ∷ same_orders (after_order at (called_order h x)) xs i)

  same_name : (at : ℕ) (name : Option (List ℕ)) → name_text (option_map (name_at at) (option_map called name)) ≡ name
  same_name at None = refl
  same_name at (Some name) = refl

  -- ---- declarations

  same_schedulers : (at : ℕ) (ps : List Part) → numbers.schedulers_in (source_of (said h at ps)) ≡ parts.schedulers_in ps
  same_schedulers at [] = refl
  same_schedulers at (SchedulerPart name ∷ ps) = ap (λ xs. name ∷ xs) (same_schedulers (after_part h at (SchedulerPart name)) ps)
  same_schedulers at (p ∷ ps) = same_schedulers (after_part h at p) ps

  same_events : (at : ℕ) (ps : List Part) → numbers.events_in ds (source_of (said h at ps)) ≡ map remade_event (parts.events_in ps)
  same_events at [] = refl
  same_events at (EventPart x ∷ ps) = ap (λ xs. remade_event x ∷ xs) (same_events (after_part h at (EventPart x)) ps)
  same_events at (p ∷ ps) = same_events (after_part h at p) ps

  same_shared : (at : ℕ) (ps : List Part) → numbers.shared_in ds (source_of (said h at ps)) ≡ map remade_shared (parts.shared_in ps)
  same_shared at [] = refl
  same_shared at (SharedPart x ∷ ps) = ap (λ xs. remade_shared x ∷ xs) (same_shared (after_part h at (SharedPart x)) ps)
  same_shared at (p ∷ ps) = same_shared (after_part h at p) ps

  same_modules : (k at : ℕ) (ps : List Part) → numbers.signatures_in ds k (source_of (said h at ps)) ≡ remade_modules k (parts.modules_in ps)
  same_modules k at [] = refl
  same_modules k at (ModulePart m lines ∷ ps) = (λ i. record {
    name = m.name;
    parameters = same_parameters at m.parameters i;
    locals = same_locals (after_head h at m) m.locals i;
    begin = same_place (Within k) at (called_place h m.begin) i;
    end = same_end (Within k) at (called_place h m.begin) (called_end h m.begin m.end) i;
  } ∷ same_modules (k + 1) (after_part h at (ModulePart m lines)) ps i)
  same_modules k at (p ∷ ps) = same_modules k (after_part h at p) ps

  same_starts : (at : ℕ) (ps : List Part) → numbers.starts_in ds (source_of (said h at ps)) ≡ map remade_start (parts.starts_in ps)
  same_starts at [] = refl
  same_starts at (StartPart t ∷ ps) = (λ i. record {
    scheduler = scheduler_of ds Everywhere (called_scheduler h t.scheduler);
    «module» = module_of ds Everywhere (called_module h t.module);
    arguments = same_arguments at t.arguments i;
    name = same_name at t.name i;
  } ∷ same_starts (after_part h at (StartPart t)) ps i)
  same_starts at (p ∷ ps) = same_starts (after_part h at p) ps

  same_clients : (at : ℕ) (ps : List Part) → numbers.clients_in ds (source_of (said h at ps)) ≡ map remade_client (parts.clients_in ps)
  same_clients at [] = refl
  same_clients at (ClientPart c ∷ ps) = (λ i. record { name = c.name; orders = same_orders (after_name at c.name) c.orders i } ∷ same_clients (after_part h at (ClientPart c)) ps i)
  same_clients at (p ∷ ps) = same_clients (after_part h at p) ps

  same_items : (k : DeclarationCounts) (at : ℕ) (ps : List Part) → numbers.items_in k (source_of (said h at ps)) ≡ items_from k ps
  same_items k at [] = refl
  same_items k at (SchedulerPart name ∷ ps) = ap (λ xs. item.Scheduler (record { 0 = k.schedulers }) ∷ xs) (same_items (record k { schedulers = k.schedulers + 1 }) (after_part h at (SchedulerPart name)) ps)
  same_items k at (EventPart x ∷ ps) = ap (λ xs. item.Event (record { 0 = k.events }) ∷ xs) (same_items (record k { events = k.events + 1 }) (after_part h at (EventPart x)) ps)
  same_items k at (SharedPart x ∷ ps) = ap (λ xs. item.Shared (record { 0 = k.shared }) ∷ xs) (same_items (record k { shared = k.shared + 1 }) (after_part h at (SharedPart x)) ps)
  same_items k at (ModulePart x lines ∷ ps) = ap (λ xs. item.Module (record { 0 = k.modules }) ∷ xs) (same_items (record k { modules = k.modules + 1 }) (after_part h at (ModulePart x lines)) ps)
  same_items k at (StartPart x ∷ ps) = ap (λ xs. item.Start k.starts ∷ xs) (same_items (record k { starts = k.starts + 1 }) (after_part h at (StartPart x)) ps)
  same_items k at (ClientPart x ∷ ps) = ap (λ xs. item.Client k.clients ∷ xs) (same_items (record k { clients = k.clients + 1 }) (after_part h at (ClientPart x)) ps)

  pub heads_remade : (at : ℕ) (ps : List Part) → heads_of ds (source_of (said h at ps)) ≡ remade ps
  heads_remade at ps = (λ i. record {
    schedulers = same_schedulers at ps i;
    events = same_events at ps i;
    shared = same_shared at ps i;
    modules = same_modules 0 at ps i;
    starts = same_starts at ps i;
    clients = same_clients at ps i;
    items = same_items none_yet at ps i;
  })
