-- The heads of a program without faults hold.
use Rattle.std.proofs.Common.{◌≡◌, ℕ, ◌+◌, ◌≤◌, List, [], ◌∷◌, length, Option, Some, None, arith}
use Rattle.loft_tree.specs.Source.{Ident, Named, PlaceName, InScheduler, Unlinked, ModuleHead, Statements, Scheduler, Event, Shared, Module, Start, Outside, Source}
use Rattle.loft_tree.specs.declared.heads.Heads.{Heads}
use Rattle.loft_tree.specs.Fits.{Each, IfThere, NameFits, ModuleFits, DeclarationFits, SourceFits}
use Rattle.loft_tree.specs.NamedFits.{IsName, IsPlace, SlotHolds, EventHolds, SharedHolds, SignatureHolds, StartHolds, ClientHolds, HeadsHold}
use Rattle.loft_scopes.specs.Modules.{next_module}
use Rattle.loft_scopes.specs.declared.scope.Scope.{Scope}
use Rattle.loft_scopes.specs.declared.scope.Scope.TheVariants.{Everywhere, Within}
use Rattle.loft_scopes.specs.Scopes.{Declared, declared}
use Rattle.loft_scopes.specs.Faults.{NamesFit, faults, declares_scheduler, place_faults, end_faults, module_uses, declaration_uses, uses_from, twice_from}
use Rattle.loft_numbers.specs.Numbers.{schedulers_in, events_in, shared_in, slots_of, signature_of, signatures_in, starts_in, clients_in, place_of, end_of, name_text, heads_of}
use Rattle.loft_names.specs.HeadOf.{HasHead}
use Rattle.loft_names.specs.HeadsKept.{HeadsKept}
use Rattle.loft_names.proofs.HeadsLists.{some_passes}
use Rattle.loft_names.proofs.HeadsNumbers.{each_declared_has}
use Rattle.loft_names.proofs.HeadsMeaning.{none_left, none_right, is_a_scheduler, scheduler_holds}
use Rattle.loft_names.proofs.HeadsCalls.{call_holds, orders_hold, orders-length}
use Rattle.loft_names.proofs.HeadsDiffer.{names_differ}
use Rattle.loft_names.proofs.HeadsCounted.{schedulers-length, events-length, shared-length, modules-length, starts-length, clients-length, slots-length, items_counted}

schedulers_hold : (p : Source) → Each DeclarationFits p → Each IsName (schedulers_in p)
schedulers_hold [] fits = tt
schedulers_hold (Scheduler name ∷ rest) fits = (fits.0, schedulers_hold rest fits.1)
schedulers_hold (d ∷ rest) fits = schedulers_hold rest fits.1

slots_hold : (vs : List Named) → Each (λ v. NameFits v.name) vs → Each SlotHolds (slots_of vs)
slots_hold [] fits = tt
slots_hold (v ∷ vs) fits = (fits.0, slots_hold vs fits.1)

name_holds : (name : Option Ident) → IfThere NameFits name → IfThere IsName (name_text name)
name_holds None fits = tt
name_holds (Some name) fits = fits

-- a table of declarations that have heads
module _ (h : Heads) (ds : List Declared) (each : Each (HasHead h) ds) where
  events_hold : (m : ℕ) (p : Source) → Each DeclarationFits p → uses_from ds m p ≡ [] → Each (EventHolds h) (events_in ds p)
  events_hold m [] fits none = tt
  events_hold m (Event name scheduler ∷ rest) fits none =
      (record { name = fits.0.0; scheduler = scheduler_holds h ds each Everywhere scheduler (none_left _ _ none) }, events_hold m rest fits.1 (none_right (declaration_uses ds m (Event name scheduler)) _ none))
  events_hold m (d ∷ rest) fits none = events_hold (next_module m d) rest fits.1 (none_right (declaration_uses ds m d) _ none)

  shared_hold : (m : ℕ) (p : Source) → Each DeclarationFits p → uses_from ds m p ≡ [] → Each (SharedHolds h) (shared_in ds p)
  shared_hold m [] fits none = tt
  shared_hold m (Shared name scheduler value ∷ rest) fits none = (
    record { name = fits.0.0; scheduler = scheduler_holds h ds each Everywhere scheduler (none_left _ _ none); value = fits.0.2 },
    shared_hold m rest fits.1 (none_right (declaration_uses ds m (Shared name scheduler value)) _ none),
  )
  shared_hold m (d ∷ rest) fits none = shared_hold (next_module m d) rest fits.1 (none_right (declaration_uses ds m d) _ none)

  place_holds : (scope : Scope) (place : PlaceName) → place_faults ds scope place ≡ [] → IsPlace h (place_of ds scope place)
  place_holds scope (InScheduler name) none = scheduler_holds h ds each scope name none
  place_holds scope Unlinked none = tt

  end_holds : (scope : Scope) (begin : PlaceName) (end : Option PlaceName) → place_faults ds scope begin ≡ [] → end_faults ds scope end ≡ [] → IsPlace h (end_of ds scope begin end)
  end_holds scope begin None none_begin none = place_holds scope begin none_begin
  end_holds scope begin (Some end) none_begin none = place_holds scope end none

  signature_holds : (m : ℕ) (head : ModuleHead) (locals : List Named) (body : Statements) → ModuleFits head locals body → module_uses ds m head body ≡ []
      → SignatureHolds h (signature_of ds m head locals)
  signature_holds m head locals body fits none =
      let begin = none_left (place_faults ds (Within m) head.begin) _ none in
      let end = none_left (end_faults ds (Within m) head.end) _ (none_right (place_faults ds (Within m) head.begin) _ none) in
      record {
        name = fits.name;
        parameters = slots_hold head.parameters fits.parameters;
        few_parameters = omega (arith, slots-length head.parameters, fits.few_parameters);
        locals = slots_hold locals fits.each_local;
        few_locals = omega (arith, slots-length locals, fits.few_locals);
        begin = place_holds (Within m) head.begin begin;
        end = end_holds (Within m) head.begin head.end begin end;
      }

  modules_hold : (m : ℕ) (p : Source) → Each DeclarationFits p → uses_from ds m p ≡ [] → Each (SignatureHolds h) (signatures_in ds m p)
  modules_hold m [] fits none = tt
  modules_hold m (Module head locals body ∷ rest) fits none =
      (signature_holds m head locals body fits.0 (none_left _ _ none), modules_hold (m + 1) rest fits.1 (none_right (declaration_uses ds m (Module head locals body)) _ none))
  modules_hold m (d ∷ rest) fits none = modules_hold (next_module m d) rest fits.1 (none_right (declaration_uses ds m d) _ none)

  starts_hold : (m : ℕ) (p : Source) → Each DeclarationFits p → uses_from ds m p ≡ [] → Each (StartHolds h) (starts_in ds p)
  starts_hold m [] fits none = tt
  starts_hold m (Start scheduler called arguments name ∷ rest) fits none = (
    record { call = call_holds h ds each Everywhere scheduler called arguments fits.0.0 (none_left _ _ none); name = name_holds name fits.0.1 },
    starts_hold m rest fits.1 (none_right (declaration_uses ds m (Start scheduler called arguments name)) _ none),
  )
  starts_hold m (d ∷ rest) fits none = starts_hold (next_module m d) rest fits.1 (none_right (declaration_uses ds m d) _ none)

  clients_hold : (m : ℕ) (p : Source) → Each DeclarationFits p → uses_from ds m p ≡ [] → Each (ClientHolds h) (clients_in ds p)
  clients_hold m [] fits none = tt
  clients_hold m (Outside name orders ∷ rest) fits none = (
    record {
      name = fits.0.0;
      orders = orders_hold h ds each Everywhere orders fits.0.1 (none_left _ _ none);
      few_orders = omega (arith, orders-length h ds each Everywhere orders, fits.0.2);
    },
    clients_hold m rest fits.1 (none_right (declaration_uses ds m (Outside name orders)) _ none),
  )
  clients_hold m (d ∷ rest) fits none = clients_hold (next_module m d) rest fits.1 (none_right (declaration_uses ds m d) _ none)

some_scheduler : (p : Source) → NamesFit p → 1 ≤ length (schedulers_in p)
some_scheduler p fits =
    let h = heads_of (declared p) p in
    let found = some_passes (HasHead h) declares_scheduler (declared p) (each_declared_has p) fits.scheduler in
    let within = is_a_scheduler h found.0.scope found.0.sort found.0.number found.0.name.text found.1 found.2 in
    omega (arith, within)

-- a program without faults may have no scheduler
pub heads_kept : (p : Source) → SourceFits p → faults p ≡ [] → HeadsKept (heads_of (declared p) p)
heads_kept p fits faultless =
    let ds = declared p in
    let h = heads_of ds p in
    let has = each_declared_has p in
    let none : uses_from ds 0 p ≡ [] = none_right (twice_from [] ds) (uses_from ds 0 p) faultless in
    record {
      within = record {
        schedulers = schedulers_hold p fits.each;
        few_schedulers = omega (arith, schedulers-length p, fits.schedulers);
        events = events_hold h ds has 0 p fits.each none;
        few_events = omega (arith, events-length ds p, fits.events);
        shared = shared_hold h ds has 0 p fits.each none;
        few_shared = omega (arith, shared-length ds p, fits.shared);
        modules = modules_hold h ds has 0 p fits.each none;
        few_modules = omega (arith, modules-length ds 0 p, fits.modules);
        starts = starts_hold h ds has 0 p fits.each none;
        few_starts = omega (arith, starts-length ds p, fits.starts);
        clients = clients_hold h ds has 0 p fits.each none;
        few_clients = omega (arith, clients-length ds p, fits.clients);
        items = items_counted ds p;
      };
      names = names_differ p faultless;
    }

pub heads_hold : (p : Source) → SourceFits p → NamesFit p → HeadsHold (heads_of (declared p) p)
heads_hold p fits names = record { within = (heads_kept p fits names.faultless).within; some_scheduler = some_scheduler p names }
