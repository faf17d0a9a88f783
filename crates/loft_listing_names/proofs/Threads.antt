-- Threads that can begin where they are made fit what is declared.
use Rattle.std.proofs.Common.{◌≡◌, ℕ, ◌+◌, zero, suc, Bool, true, false, List, [], ◌∷◌, Option, Some, None, refl, sym, ap, ◌∙◌, arith}
use Rattle.std.specs.Prelude.{slice_get, if◌then◌else◌}
use Rattle.std.specs.List.{flat_map}
use Rattle.std.specs.Option.{option_and_then}
use Rattle.std.proofs.lemmas.Bool.{eqb-true}
use Rattle.loft_base.specs.declared.ids.SchedId.{SchedId}
use Rattle.loft_base.specs.declared.ids.Value.{Value}
use Rattle.loft_tree.specs.declared.heads.Place.TheVariants.{Sched}
use Rattle.loft_tree.specs.declared.heads.Signature.{Signature}
use Rattle.loft_tree.specs.Source.{Ident, PlaceName, InScheduler, Unlinked, ModuleHead, Argument, Order, CreateThere, ControlThere, BroadcastThere, Module, Start, Outside, Source}
use Rattle.loft_tree.specs.Fits.{Each, SourceFits}
use Rattle.loft_tree.specs.HeadsFit.{TakesIn, HeadsFit}
use Rattle.loft_tree.specs.NamedFits.{TakesArguments, CallHolds, StartHolds, OrderHolds, ClientHolds}
use Rattle.loft_scopes.specs.declared.scope.Scope.TheVariants.{Everywhere, Within}
use Rattle.loft_scopes.specs.Scopes.{Sort, AScheduler, AnEvent, AShared, AModule, AStart, AClient, AVariable, Declared, declared, meaning}
use Rattle.loft_scopes.specs.Faults.{faults, is_scheduler}
use Rattle.loft_numbers.specs.Numbers.{number_or_0, number_of, scheduler_of, module_of, place_of, arguments_of, client_orders, signature_of, signatures_in, starts_in, clients_in, heads_of}
use Rattle.loft_names.proofs.HeadsMeaning.{none_left, none_right}
use Rattle.loft_names.proofs.HeadsHolding.{heads_kept}
use Rattle.loft_code.specs.Fits.{StartFits, ClientOrderFits, ClientFits}
use Rattle.loft_listing_names.specs.Wrong.{if_scheduler, if_module, heads_in, same_number, scheduler_meant, module_meant, place_meant, begins_in, can_begin, order_misplaced, declaration_misplaced}

-- ---- numbers of names

scheduler_number : (o : Option Declared) (n : ℕ) → option_and_then (λ d. if_scheduler (is_scheduler d.sort) d.number) o ≡ Some n → number_or_0 o ≡ n
scheduler_number None n is = absurd cc
scheduler_number (Some d) n is = elim (is_scheduler d.sort) as (λ b. if_scheduler b d.number ≡ Some n → d.number ≡ n) [ true ↦ λ e. cc | false ↦ λ e. absurd cc ] is

number_of_module : (sort : Sort) (m n : ℕ) → if_module sort m ≡ Some n → m ≡ n
number_of_module AScheduler m n is = absurd cc
number_of_module AnEvent m n is = absurd cc
number_of_module AShared m n is = absurd cc
number_of_module (AModule parameters) m n is = cc
number_of_module AStart m n is = absurd cc
number_of_module AClient m n is = absurd cc
number_of_module (AVariable kind) m n is = absurd cc

module_number : (o : Option Declared) (n : ℕ) → option_and_then (λ d. if_module d.sort d.number) o ≡ Some n → number_or_0 o ≡ n
module_number None n is = absurd cc
module_number (Some d) n is = number_of_module d.sort d.number n is

one_number : (a b : Option ℕ) → same_number a b ≡ true → (n : ℕ) × (a ≡ Some n) × (b ≡ Some n)
one_number None b same = absurd cc
one_number (Some m) None same = absurd cc
one_number (Some m) (Some n) same = (m, refl, ap Some (sym (eqb-true m n same)))

first_some : {A B : Type 0} (f : A → Option B) (o : Option A) (y : B) → option_and_then f o ≡ Some y → (x : A) × (o ≡ Some x) × (f x ≡ Some y)
first_some f None y is = absurd cc
first_some f (Some x) y is = (x, refl, is)

-- ---- where a module begins

module _ (ds : List Declared) where
  place_begins : (m : ℕ) (p : PlaceName) (n : ℕ) → place_meant ds m p ≡ Some n → place_of ds (Within m) p ≡ Sched (record { 0 = n })
  place_begins m (InScheduler name) n is = ap (λ k. Sched (record { 0 = k })) (scheduler_number (meaning ds (Within m) name) n is)
  place_begins m Unlinked n is = absurd cc

  -- the signature of a module with this head
  record IsSignature (k i : ℕ) (rest : Source) (head : ModuleHead) : Type 0 where
    signature : Signature
    there : slice_get (signatures_in ds k rest) i ≡ Some signature
    begins : signature.begin ≡ place_of ds (Within (k + i)) head.begin

  signature_at : (k : ℕ) (rest : Source) (i : ℕ) (head : ModuleHead) → slice_get (heads_in rest) i ≡ Some head → IsSignature k i rest head
  signature_at k [] i head is = absurd cc
  signature_at k (Module first locals body ∷ rest) zero head is =
      let same : first ≡ head = cc in
      let e : k ≡ k + 0 = omega arith in
      record { signature = signature_of ds k first locals; there = refl; begins = λ j. place_of ds (Within (e j)) (same j).begin }
  signature_at k (Module first locals body ∷ rest) (suc i) head is =
      let s = signature_at (k + 1) rest i head is in
      let e : k + 1 + i ≡ k + suc i = omega arith in
      record { signature = s.signature; there = s.there; begins = s.begins ∙ ap (λ n. place_of ds (Within n) head.begin) e }
  signature_at k (d ∷ rest) i head is = let s = signature_at k rest i head is in record { signature = s.signature; there = s.there; begins = s.begins }

  -- the module that is called begins in the scheduler
  record Begins (p : Source) (scheduler called : Ident) : Type 0 where
    signature : Signature
    there : slice_get (signatures_in ds 0 p) (number_of ds Everywhere called) ≡ Some signature
    begins : signature.begin ≡ Sched (scheduler_of ds Everywhere scheduler)

  begins_there : (p : Source) (scheduler called : Ident) → can_begin ds (heads_in p) scheduler called ≡ true → Begins p scheduler called
  begins_there p scheduler called can =
      let both = one_number (scheduler_meant ds Everywhere scheduler) (option_and_then (begins_in ds (heads_in p)) (module_meant ds called)) can in
      let m = first_some (begins_in ds (heads_in p)) (module_meant ds called) both.0 both.2 in
      let head = first_some (λ (h : ModuleHead). place_meant ds m.0 h.begin) (slice_get (heads_in p) m.0) both.0 m.2 in
      let s = signature_at 0 p m.0 head.0 head.1 in
      let number : number_of ds Everywhere called ≡ m.0 = module_number (meaning ds Everywhere called) m.0 m.1 in
      let there : number_of ds Everywhere scheduler ≡ both.0 = scheduler_number (meaning ds Everywhere scheduler) both.0 both.1 in
      let e : 0 + m.0 ≡ m.0 = omega arith in
      record {
        signature = s.signature;
        there = ap (slice_get (signatures_in ds 0 p)) number ∙ s.there;
        begins =
            s.begins ∙ ap (λ n. place_of ds (Within n) head.0.begin) e ∙ place_begins m.0 head.0.begin both.0 head.2
            ∙ ap (λ n. Sched (record { 0 = n })) (sym there);
      }

-- ---- what is made

takes_in : (s : SchedId) (o : Option Signature) (args : List Value) (signature : Signature) → o ≡ Some signature → signature.begin ≡ Sched s → TakesArguments o args → TakesIn s o args
takes_in s None args signature is begins takes = absurd takes
takes_in s (Some x) args signature is begins takes = let same : x ≡ signature = cc in (ap (λ y. y.begin) same ∙ begins, takes)

none_misplaced : (b : Bool) (n : ℕ) → (if b then [] else n ∷ []) ≡ [] → b ≡ true
none_misplaced true n none = refl
none_misplaced false n none = absurd cc

module _ (ds : List Declared) (p : Source) where
  call_fits : (scheduler called : Ident) (args : List Argument)
      → CallHolds (heads_of ds p) (scheduler_of ds Everywhere scheduler) (module_of ds Everywhere called) (arguments_of ds Everywhere args)
      → (if can_begin ds (heads_in p) scheduler called then [] else scheduler.at ∷ []) ≡ []
      → HeadsFit (heads_of ds p) (scheduler_of ds Everywhere scheduler) (module_of ds Everywhere called) (arguments_of ds Everywhere args)
  call_fits scheduler called args holds none =
      let b = begins_there ds p scheduler called (none_misplaced (can_begin ds (heads_in p) scheduler called) scheduler.at none) in
      (holds.scheduler, takes_in (scheduler_of ds Everywhere scheduler) (slice_get (signatures_in ds 0 p) (number_of ds Everywhere called)) (arguments_of ds Everywhere args) b.signature b.there b.begins holds.takes)

  starts_fit : (rest : Source) → Each (StartHolds (heads_of ds p)) (starts_in ds rest) → flat_map (declaration_misplaced ds (heads_in p)) rest ≡ []
      → Each (StartFits (heads_of ds p)) (starts_in ds rest)
  starts_fit [] hold none = tt
  starts_fit (Start scheduler called args name ∷ rest) hold none = (
    call_fits scheduler called args hold.0.call (none_left _ _ none),
    starts_fit rest hold.1 (none_right (declaration_misplaced ds (heads_in p) (Start scheduler called args name)) _ none),
  )
  starts_fit (d ∷ rest) hold none = starts_fit rest hold (none_right (declaration_misplaced ds (heads_in p) d) _ none)

  orders_fit : (xs : List Order) → Each (OrderHolds (heads_of ds p)) (client_orders ds Everywhere xs) → flat_map (order_misplaced ds (heads_in p)) xs ≡ []
      → Each (ClientOrderFits (heads_of ds p)) (client_orders ds Everywhere xs)
  orders_fit [] hold none = tt
  orders_fit (CreateThere scheduler called args ∷ xs) hold none = (
    call_fits scheduler called args hold.0 (none_left _ _ none),
    orders_fit xs hold.1 (none_right (order_misplaced ds (heads_in p) (CreateThere scheduler called args)) _ none),
  )
  orders_fit (ControlThere control thread scheduler ∷ xs) hold none = (tt, orders_fit xs hold.1 none)
  orders_fit (BroadcastThere event value ∷ xs) hold none = (tt, orders_fit xs hold.1 none)

  clients_fit : (rest : Source) → Each (ClientHolds (heads_of ds p)) (clients_in ds rest) → flat_map (declaration_misplaced ds (heads_in p)) rest ≡ []
      → Each (ClientFits (heads_of ds p)) (clients_in ds rest)
  clients_fit [] hold none = tt
  clients_fit (Outside name orders ∷ rest) hold none = (
    orders_fit orders hold.0.orders (none_left _ _ none),
    clients_fit rest hold.1 (none_right (declaration_misplaced ds (heads_in p) (Outside name orders)) _ none),
  )
  clients_fit (d ∷ rest) hold none = clients_fit rest hold (none_right (declaration_misplaced ds (heads_in p) d) _ none)

pub starts_begin : (p : Source) → SourceFits p → faults p ≡ [] → flat_map (declaration_misplaced (declared p) (heads_in p)) p ≡ []
    → Each (StartFits (heads_of (declared p) p)) (starts_in (declared p) p)
starts_begin p fits faultless none = starts_fit (declared p) p p (heads_kept p fits faultless).within.starts none

pub clients_begin : (p : Source) → SourceFits p → faults p ≡ [] → flat_map (declaration_misplaced (declared p) (heads_in p)) p ≡ []
    → Each (ClientFits (heads_of (declared p) p)) (clients_in (declared p) p)
clients_begin p fits faultless none = clients_fit (declared p) p p (heads_kept p fits faultless).within.clients none
