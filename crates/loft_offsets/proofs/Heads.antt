-- What a program declares has the same numbers without offsets.
use Rattle.std.proofs.Common.{◌≡◌, ℕ, ◌+◌, List, [], ◌∷◌, ◌++◌, map, Option, Some, None, option_map, refl, sym, ap, ◌∙◌}
use Rattle.std.proofs.lemmas.List.{map-append}
use Rattle.loft_base.specs.declared.ids.ThreadId.{ThreadId}
use Rattle.loft_base.specs.declared.ids.Maker.TheVariants as maker
use Rattle.loft_base.specs.declared.ids.Value.TheVariants as value
use Rattle.loft_tree.specs.declared.heads.Place.TheVariants.{Sched}
use Rattle.loft_tree.specs.declared.heads.ClientOrder.TheVariants as order
use Rattle.loft_tree.specs.declared.heads.HeadItem.{HeadItem}
use Rattle.loft_tree.specs.declared.named.LinkItem.{LinkItem}
use Rattle.loft_tree.specs.declared.named.LinkItem.TheVariants as link
use Rattle.loft_tree.specs.Source.{Ident, Named, PlaceName, InScheduler, Unlinked, Argument, ANumber, AName, Order, CreateThere, ControlThere, BroadcastThere, Declaration, Scheduler, Event, Shared, Module, Start, Outside, Source}
use Rattle.loft_tree.specs.NamedTree.{NamedProgram}
use Rattle.loft_show.specs.Places.{bare_name, bare_named, bare_place, bare_argument, bare_order, bare_declaration, without_places}
use Rattle.loft_scopes.specs.declared.scope.Scope.{Scope}
use Rattle.loft_scopes.specs.declared.scope.Scope.TheVariants.{Everywhere, Within}
use Rattle.loft_scopes.specs.declared.counts.DeclarationCounts.{DeclarationCounts}
use Rattle.loft_scopes.specs.Scopes.{Declared, after, declared, none_yet}
use Rattle.loft_numbers.specs.Numbers.{argument_of, arguments_of, client_order, client_orders, clients_in, creates_in, end_of, events_in, heads_of, item_of, items_in, links_in, links_of, modules_in, name_text, number_of, numbered, place_of, schedulers_in, shared_in, signatures_in, slots_of, starts_in}
use Rattle.loft_offsets.proofs.Declared.{after_bare, bares, declared_bare}
use Rattle.loft_offsets.proofs.Named.{bare_link, bare_module, bare_program}
use Rattle.loft_offsets.proofs.Numbered.{body_bare, event_bare, module_bare, number_bare, scheduler_bare}

slots_bare : (vs : List Named) → slots_of (map bare_named vs) ≡ slots_of vs
slots_bare [] = refl
slots_bare (v ∷ vs) = λ i. record { kind = v.kind; name = v.name.text } ∷ slots_bare vs i

name_bare : (name : Option Ident) → name_text (option_map bare_name name) ≡ name_text name
name_bare None = refl
name_bare (Some name) = refl

-- the declarations of the program, and where its names are used
module _ (ds : List Declared) (scope : Scope) where
  place_bare : (p : PlaceName) → place_of (bares ds) scope (bare_place p) ≡ place_of ds scope p
  place_bare (InScheduler name) = λ i. Sched (scheduler_bare ds scope name i)
  place_bare Unlinked = refl

  end_bare : (begin : PlaceName) (end : Option PlaceName) → end_of (bares ds) scope (bare_place begin) (option_map bare_place end) ≡ end_of ds scope begin end
  end_bare begin None = place_bare begin
  end_bare begin (Some end) = place_bare end

  thread_bare : (name : Ident) → (let t : ThreadId = record { maker = maker.Source; seq = number_of (bares ds) scope (bare_name name) } in t) ≡ record { maker = maker.Source; seq = number_of ds scope name }
  thread_bare name = λ i. record { maker = maker.Source; seq = number_bare ds scope name i }

  argument_bare : (a : Argument) → argument_of (bares ds) scope (bare_argument a) ≡ argument_of ds scope a
  argument_bare (ANumber at number) = refl
  argument_bare (AName name) = λ i. value.Thread (thread_bare name i)

  arguments_bare : (args : List Argument) → arguments_of (bares ds) scope (map bare_argument args) ≡ arguments_of ds scope args
  arguments_bare [] = refl
  arguments_bare (a ∷ args) = λ i. argument_bare a i ∷ arguments_bare args i

  order_bare : (x : Order) → client_order (bares ds) scope (bare_order x) ≡ client_order ds scope x
  order_bare (CreateThere scheduler called arguments) = λ i. order.Create (scheduler_bare ds scope scheduler i) (module_bare ds scope called i) (arguments_bare arguments i)
  order_bare (ControlThere control thread scheduler) = λ i. order.Control control (thread_bare thread i) (scheduler_bare ds scope scheduler i)
  order_bare (BroadcastThere event value) = λ i. order.Broadcast (event_bare ds scope event i) value

  orders_bare : (xs : List Order) → client_orders (bares ds) scope (map bare_order xs) ≡ client_orders ds scope xs
  orders_bare [] = refl
  orders_bare (x ∷ xs) = λ i. order_bare x i ∷ orders_bare xs i

-- ---- heads

schedulers_bare : (p : Source) → schedulers_in (without_places p) ≡ schedulers_in p
schedulers_bare [] = refl
schedulers_bare (Scheduler name ∷ rest) = λ i. name.text ∷ schedulers_bare rest i
schedulers_bare (other ∷ rest) = schedulers_bare rest

module _ (ds : List Declared) where
  events_bare : (p : Source) → events_in (bares ds) (without_places p) ≡ events_in ds p
  events_bare [] = refl
  events_bare (Event name scheduler ∷ rest) = λ i. record { name = name.text; scheduler = scheduler_bare ds Everywhere scheduler i } ∷ events_bare rest i
  events_bare (other ∷ rest) = events_bare rest

  shared_bare : (p : Source) → shared_in (bares ds) (without_places p) ≡ shared_in ds p
  shared_bare [] = refl
  shared_bare (Shared name scheduler value ∷ rest) = λ i. record { name = name.text; scheduler = scheduler_bare ds Everywhere scheduler i; value = value } ∷ shared_bare rest i
  shared_bare (other ∷ rest) = shared_bare rest

  signatures_bare : (m : ℕ) (p : Source) → signatures_in (bares ds) m (without_places p) ≡ signatures_in ds m p
  signatures_bare m [] = refl
  signatures_bare m (Module head locals body ∷ rest) = λ i.
      record {
        name = head.name.text;
        parameters = slots_bare head.parameters i;
        locals = slots_bare locals i;
        begin = place_bare ds (Within m) head.begin i;
        end = end_bare ds (Within m) head.begin head.end i;
      }
      ∷ signatures_bare (m + 1) rest i
  signatures_bare m (other ∷ rest) = signatures_bare m rest

  starts_bare : (p : Source) → starts_in (bares ds) (without_places p) ≡ starts_in ds p
  starts_bare [] = refl
  starts_bare (Start scheduler called arguments name ∷ rest) = λ i.
      record { scheduler = scheduler_bare ds Everywhere scheduler i; «module» = module_bare ds Everywhere called i; arguments = arguments_bare ds Everywhere arguments i; name = name_bare name i }
      ∷ starts_bare rest i
  starts_bare (other ∷ rest) = starts_bare rest

  clients_bare : (p : Source) → clients_in (bares ds) (without_places p) ≡ clients_in ds p
  clients_bare [] = refl
  clients_bare (Outside name orders ∷ rest) = λ i. record { name = name.text; orders = orders_bare ds Everywhere orders i } ∷ clients_bare rest i
  clients_bare (other ∷ rest) = clients_bare rest

  modules_bare : (m : ℕ) (p : Source) → modules_in (bares ds) m (without_places p) ≡ map bare_module (modules_in ds m p)
  modules_bare m [] = refl
  modules_bare m (Module head locals body ∷ rest) = λ i. record { at = 0; body = body_bare ds (Within m) body 0 i } ∷ modules_bare (m + 1) rest i
  modules_bare m (other ∷ rest) = modules_bare m rest

item_bare : (k : DeclarationCounts) (d : Declaration) → item_of k (bare_declaration d) ≡ item_of k d
item_bare k (Scheduler name) = refl
item_bare k (Event name scheduler) = refl
item_bare k (Shared name scheduler value) = refl
item_bare k (Module head locals body) = refl
item_bare k (Start scheduler called arguments name) = refl
item_bare k (Outside name orders) = refl

items_bare : (k : DeclarationCounts) (p : Source) → items_in k (without_places p) ≡ items_in k p
items_bare k [] = refl
items_bare k (d ∷ rest) =
    (λ i. item_bare k d i ∷ items_in (after_bare k d i) (without_places rest)) ∙ ap (λ (is : List HeadItem). item_of k d ∷ is) (items_bare (after k d) rest)

-- ---- links

creates_bare : (client number : ℕ) (xs : List Order) → creates_in client number (map bare_order xs) ≡ map bare_link (creates_in client number xs)
creates_bare client number [] = refl
creates_bare client number (CreateThere scheduler called arguments ∷ xs) =
    ap (λ (ls : List LinkItem). bare_link (link.Create scheduler.at client number) ∷ ls) (creates_bare client (number + 1) xs)
creates_bare client number (ControlThere control thread scheduler ∷ xs) = creates_bare client (number + 1) xs
creates_bare client number (BroadcastThere event value ∷ xs) = creates_bare client (number + 1) xs

link_bare : (k : DeclarationCounts) (d : Declaration) → links_of k (bare_declaration d) ≡ map bare_link (links_of k d)
link_bare k (Scheduler name) = refl
link_bare k (Event name scheduler) = refl
link_bare k (Shared name scheduler value) = refl
link_bare k (Module head locals body) = refl
link_bare k (Start scheduler called arguments name) = refl
link_bare k (Outside name orders) = creates_bare k.clients 0 orders

links_bare : (k : DeclarationCounts) (p : Source) → links_in k (without_places p) ≡ map bare_link (links_in k p)
links_bare k [] = refl
links_bare k (d ∷ rest) =
    (λ i. link_bare k d i ++ links_in (after_bare k d i) (without_places rest))
    ∙ ap (λ (ls : List LinkItem). map bare_link (links_of k d) ++ ls) (links_bare (after k d) rest)
    ∙ sym (map-append bare_link (links_of k d) (links_in (after k d) rest))

-- ---- programs

heads_bare : (ds : List Declared) (p : Source) → heads_of (bares ds) (without_places p) ≡ heads_of ds p
heads_bare ds p = λ i. record {
  schedulers = schedulers_bare p i;
  events = events_bare ds p i;
  shared = shared_bare ds p i;
  modules = signatures_bare ds 0 p i;
  starts = starts_bare ds p i;
  clients = clients_bare ds p i;
  items = items_bare none_yet p i;
}

abbrev numbered_by : List Declared → Source → NamedProgram
numbered_by ds p = record { heads = heads_of ds p; modules = modules_in ds 0 p; links = links_in none_yet p }

-- the program without offsets has the same numbers
pub numbered_bare : (p : Source) → numbered (without_places p) ≡ bare_program (numbered p)
numbered_bare p =
    ap (λ (ds : List Declared). numbered_by ds (without_places p)) (declared_bare none_yet p)
    ∙ (λ i. record { heads = heads_bare (declared p) p i; modules = modules_bare (declared p) 0 p i; links = links_bare none_yet p i })
