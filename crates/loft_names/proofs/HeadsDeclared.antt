-- Each head stands for a declaration with its name.
use Rattle.std.proofs.Common.{◌≡◌, ℕ, ◌+◌, zero, suc, List, [], ◌∷◌, ◌++◌, length, Option, Some, None, refl, sym, subst, arith}
use Rattle.std.specs.Prelude.{slice_get}
use Rattle.std.specs.Option.{option_map}
use Rattle.std.proofs.lemmas.List.Elements.{Contains-append_left, Contains-append_right}
use Rattle.loft_tree.specs.declared.kinds.Kind.{Kind}
use Rattle.loft_tree.specs.Source.{Ident, Named, ModuleHead, Scheduler, Event, Shared, Module, Start, Outside, Source}
use Rattle.loft_tree.specs.declared.heads.SlotHead.{SlotHead}
use Rattle.loft_tree.specs.declared.heads.Signature.{Signature}
use Rattle.loft_tree.specs.HeadsFit.{kinds_of as slot_kinds}
use Rattle.loft_scopes.specs.declared.scope.Scope.{Scope}
use Rattle.loft_scopes.specs.declared.scope.Scope.TheVariants.{Everywhere, Within}
use Rattle.loft_scopes.specs.declared.counts.DeclarationCounts.{DeclarationCounts}
use Rattle.loft_scopes.specs.Scopes.{Sort, AScheduler, AnEvent, AShared, AModule, AStart, AClient, AVariable, Declared, kinds_of, variables, module_declared, everywhere, start_name, after, none_yet, declared_by, declared_from, declared}
use Rattle.loft_numbers.specs.Numbers.{schedulers_in, events_in, shared_in, slots_of, signature_of, signatures_in, starts_in, clients_in, name_text, heads_of}
use Rattle.loft_names.specs.HeadOf.{IsHeadIn, IsModuleHead, IsSlotHead, IsDeclared}
use Rattle.loft_names.proofs.HeadsLists.{head_contained}
use Rattle.loft_names.proofs.HeadsNumbers.{slot-kinds}

-- a declaration of a part is one of the whole
earlier : (ds es : List Declared) (scope : Scope) (sort : Sort) (number : ℕ) (name : List ℕ) → IsDeclared ds scope sort number name → IsDeclared (ds ++ es) scope sort number name
earlier ds es scope sort number name is = record {
  declaration = is.declaration;
  there = Contains-append_left ds es is.declaration is.there;
  seen = is.seen;
  sorted = is.sorted;
  numbered = is.numbered;
  named = is.named;
}

later : (ds es : List Declared) (scope : Scope) (sort : Sort) (number : ℕ) (name : List ℕ) → IsDeclared es scope sort number name → IsDeclared (ds ++ es) scope sort number name
later ds es scope sort number name is = record {
  declaration = is.declaration;
  there = Contains-append_right ds es is.declaration is.there;
  seen = is.seen;
  sorted = is.sorted;
  numbered = is.numbered;
  named = is.named;
}

-- the first of a list
first : (d : Declared) (ds : List Declared) (number : ℕ) (name : List ℕ) → d.number ≡ number → d.name.text ≡ name → IsDeclared (d ∷ ds) d.scope d.sort number name
first d ds number name numbered named = record { declaration = d; there = head_contained d ds; seen = refl; sorted = refl; numbered = numbered; named = named }

-- the numbers go on after the first
further : (ds : List Declared) (scope : Scope) (sort : Sort) (n i : ℕ) (name : List ℕ) → IsDeclared ds scope sort (n + 1 + i) name → IsDeclared ds scope sort (n + suc i) name
further ds scope sort n i name is = let e : n + 1 + i ≡ n + suc i = omega arith in subst (λ (k : ℕ). IsDeclared ds scope sort k name) e is

module _ (ds : List Declared) where
  scheduler_is : (n : DeclarationCounts) (rest : Source) (i : ℕ) (name : List ℕ) → slice_get (schedulers_in rest) i ≡ Some name
      → IsDeclared (declared_from n rest) Everywhere AScheduler (n.schedulers + i) name
  scheduler_is n [] i name is = absurd cc
  scheduler_is n (Scheduler x ∷ rest) zero name is =
      let e : n.schedulers ≡ n.schedulers + 0 = omega arith in first (everywhere x AScheduler n.schedulers) (declared_from (after n (Scheduler x)) rest) _ name e cc
  scheduler_is n (Scheduler x ∷ rest) (suc i) name is =
      further _ Everywhere AScheduler n.schedulers i name (later (declared_by n (Scheduler x)) _ Everywhere AScheduler _ name (scheduler_is (after n (Scheduler x)) rest i name is))
  scheduler_is n (d ∷ rest) i name is = later (declared_by n d) _ Everywhere AScheduler _ name (scheduler_is (after n d) rest i name is)

  event_is : (n : DeclarationCounts) (rest : Source) (i : ℕ) (name : List ℕ) → option_map (λ x. x.name) (slice_get (events_in ds rest) i) ≡ Some name
      → IsDeclared (declared_from n rest) Everywhere AnEvent (n.events + i) name
  event_is n [] i name is = absurd cc
  event_is n (Event x scheduler ∷ rest) zero name is =
      let e : n.events ≡ n.events + 0 = omega arith in first (everywhere x AnEvent n.events) (declared_from (after n (Event x scheduler)) rest) _ name e cc
  event_is n (Event x scheduler ∷ rest) (suc i) name is =
      further _ Everywhere AnEvent n.events i name (later (declared_by n (Event x scheduler)) _ Everywhere AnEvent _ name (event_is (after n (Event x scheduler)) rest i name is))
  event_is n (d ∷ rest) i name is = later (declared_by n d) _ Everywhere AnEvent _ name (event_is (after n d) rest i name is)

  shared_is : (n : DeclarationCounts) (rest : Source) (i : ℕ) (name : List ℕ) → option_map (λ x. x.name) (slice_get (shared_in ds rest) i) ≡ Some name
      → IsDeclared (declared_from n rest) Everywhere AShared (n.shared + i) name
  shared_is n [] i name is = absurd cc
  shared_is n (Shared x scheduler value ∷ rest) zero name is =
      let e : n.shared ≡ n.shared + 0 = omega arith in first (everywhere x AShared n.shared) (declared_from (after n (Shared x scheduler value)) rest) _ name e cc
  shared_is n (Shared x scheduler value ∷ rest) (suc i) name is =
      further _ Everywhere AShared n.shared i name
      (later (declared_by n (Shared x scheduler value)) _ Everywhere AShared _ name (shared_is (after n (Shared x scheduler value)) rest i name is))
  shared_is n (d ∷ rest) i name is = later (declared_by n d) _ Everywhere AShared _ name (shared_is (after n d) rest i name is)

  client_is : (n : DeclarationCounts) (rest : Source) (i : ℕ) (name : List ℕ) → option_map (λ x. x.name) (slice_get (clients_in ds rest) i) ≡ Some name
      → IsDeclared (declared_from n rest) Everywhere AClient (n.clients + i) name
  client_is n [] i name is = absurd cc
  client_is n (Outside x orders ∷ rest) zero name is =
      let e : n.clients ≡ n.clients + 0 = omega arith in first (everywhere x AClient n.clients) (declared_from (after n (Outside x orders)) rest) _ name e cc
  client_is n (Outside x orders ∷ rest) (suc i) name is =
      further _ Everywhere AClient n.clients i name (later (declared_by n (Outside x orders)) _ Everywhere AClient _ name (client_is (after n (Outside x orders)) rest i name is))
  client_is n (d ∷ rest) i name is = later (declared_by n d) _ Everywhere AClient _ name (client_is (after n d) rest i name is)

  -- a start with a name is one that was declared
  started : (x : Option Ident) (more : List Declared) (n : ℕ) (name : List ℕ) → Some (name_text x) ≡ Some (Some name) → IsDeclared (start_name x n ++ more) Everywhere AStart (n + 0) name
  started None more n name is = absurd cc
  started (Some x) more n name is = let e : n ≡ n + 0 = omega arith in first (everywhere x AStart n) more _ name e cc

  start_is : (n : DeclarationCounts) (rest : Source) (i : ℕ) (name : List ℕ) → option_map (λ x. x.name) (slice_get (starts_in ds rest) i) ≡ Some (Some name)
      → IsDeclared (declared_from n rest) Everywhere AStart (n.starts + i) name
  start_is n [] i name is = absurd cc
  start_is n (Start s m arguments x ∷ rest) zero name is = started x (declared_from (after n (Start s m arguments x)) rest) n.starts name is
  start_is n (Start s m arguments x ∷ rest) (suc i) name is =
      further _ Everywhere AStart n.starts i name
      (later (declared_by n (Start s m arguments x)) _ Everywhere AStart _ name (start_is (after n (Start s m arguments x)) rest i name is))
  start_is n (d ∷ rest) i name is = later (declared_by n d) _ Everywhere AStart _ name (start_is (after n d) rest i name is)

  module_is : (n : DeclarationCounts) (rest : Source) (i : ℕ) (signature : Signature) → slice_get (signatures_in ds n.modules rest) i ≡ Some signature
      → IsDeclared (declared_from n rest) Everywhere (AModule (slot_kinds signature.parameters)) (n.modules + i) signature.name
  module_is n [] i signature is = absurd cc
  module_is n (Module head locals body ∷ rest) zero signature is =
      let e : n.modules ≡ n.modules + 0 = omega arith in
      let same : signature_of ds n.modules head locals ≡ signature = cc in
      let here = first (everywhere head.name (AModule (kinds_of head.parameters)) n.modules) (variables n.modules 0 head.parameters ++ variables n.modules (length head.parameters) locals) _ head.name.text e refl in
      let sorted = subst (λ (ks : List Kind). IsDeclared (module_declared n.modules head locals) Everywhere (AModule ks) (n.modules + 0) head.name.text) (sym (slot-kinds head.parameters)) here in
      subst (λ (x : Signature). IsDeclared (declared_from n (Module head locals body ∷ rest)) Everywhere (AModule (slot_kinds x.parameters)) (n.modules + 0) x.name) same
      (earlier (module_declared n.modules head locals) _ Everywhere _ _ _ sorted)
  module_is n (Module head locals body ∷ rest) (suc i) signature is =
      further _ Everywhere _ n.modules i _ (later (declared_by n (Module head locals body)) _ Everywhere _ _ _ (module_is (after n (Module head locals body)) rest i signature is))
  module_is n (d ∷ rest) i signature is = later (declared_by n d) _ Everywhere _ _ _ (module_is (after n d) rest i signature is)

  -- a slot of these variables, or one of those after them
  variable_is : (m k : ℕ) (vs : List Named) (i : ℕ) (slot : SlotHead) → slice_get (slots_of vs) i ≡ Some slot → IsDeclared (variables m k vs) (Within m) (AVariable slot.kind) (k + i) slot.name
  variable_is m k [] i slot is = absurd cc
  variable_is m k (v ∷ vs) zero slot is =
      let e : k ≡ k + 0 = omega arith in
      let here = first (record { name = v.name; scope = Within m; sort = AVariable v.kind; number = k }) (variables m (k + 1) vs) (k + 0) v.name.text e refl in
      let of : SlotHead → Type 0 = λ x. IsDeclared (variables m k (v ∷ vs)) (Within m) (AVariable x.kind) (k + 0) x.name in
      let same : record { kind = v.kind; name = v.name.text } ≡ slot = cc in subst of same here
  variable_is m k (v ∷ vs) (suc i) slot is =
      further _ (Within m) _ k i _ (later (record { name = v.name; scope = Within m; sort = AVariable v.kind; number = k } ∷ []) (variables m (k + 1) vs) (Within m) _ _ _ (variable_is m (k + 1) vs i slot is))

  either_is : (m k : ℕ) (vs ws : List Named) (i : ℕ) (slot : SlotHead) → slice_get (slots_of vs ++ slots_of ws) i ≡ Some slot
      → IsDeclared (variables m k vs ++ variables m (k + length vs) ws) (Within m) (AVariable slot.kind) (k + i) slot.name
  either_is m k [] ws i slot is = let e : k ≡ k + 0 = omega arith in subst (λ (n : ℕ). IsDeclared (variables m n ws) (Within m) (AVariable slot.kind) (k + i) slot.name) e (variable_is m k ws i slot is)
  either_is m k (v ∷ vs) ws zero slot is = earlier (variables m k (v ∷ vs)) _ (Within m) _ _ _ (variable_is m k (v ∷ vs) 0 slot is)
  either_is m k (v ∷ vs) ws (suc i) slot is =
      let e : k + 1 + length vs ≡ k + suc (length vs) = omega arith in
      let there = subst (λ (n : ℕ). IsDeclared (variables m (k + 1) vs ++ variables m n ws) (Within m) (AVariable slot.kind) (k + 1 + i) slot.name) e (either_is m (k + 1) vs ws i slot is) in
      further _ (Within m) _ k i _ (later (record { name = v.name; scope = Within m; sort = AVariable v.kind; number = k } ∷ []) _ (Within m) _ _ _ there)

  in_module : (m : ℕ) (head : ModuleHead) (locals : List Named) (k : ℕ) (slot : SlotHead) → slice_get (slots_of head.parameters ++ slots_of locals) k ≡ Some slot
      → IsDeclared (module_declared m head locals) (Within (m + 0)) (AVariable slot.kind) k slot.name
  in_module m head locals k slot is =
      let here : m ≡ m + 0 = omega arith in
      let many : 0 + length head.parameters ≡ length head.parameters = omega arith in
      let number : 0 + k ≡ k = omega arith in
      let there = either_is m 0 head.parameters locals k slot is in
      let counted = subst (λ (n : ℕ). IsDeclared (variables m 0 head.parameters ++ variables m n locals) (Within m) (AVariable slot.kind) (0 + k) slot.name) many there in
      let numbered = subst (λ (n : ℕ). IsDeclared (variables m 0 head.parameters ++ variables m (length head.parameters) locals) (Within m) (AVariable slot.kind) n slot.name) number counted in
      let seen = subst (λ (n : ℕ). IsDeclared (variables m 0 head.parameters ++ variables m (length head.parameters) locals) (Within n) (AVariable slot.kind) k slot.name) here numbered in
      later (everywhere head.name (AModule (kinds_of head.parameters)) m ∷ []) _ _ _ _ _ seen

  slot_is : (n : DeclarationCounts) (rest : Source) (i : ℕ) (signature : Signature) (k : ℕ) (slot : SlotHead) → slice_get (signatures_in ds n.modules rest) i ≡ Some signature
      → slice_get (signature.parameters ++ signature.locals) k ≡ Some slot → IsDeclared (declared_from n rest) (Within (n.modules + i)) (AVariable slot.kind) k slot.name
  slot_is n [] i signature k slot is there = absurd cc
  slot_is n (Module head locals body ∷ rest) zero signature k slot is there =
      let same : signature ≡ signature_of ds n.modules head locals = cc in
      let found = subst (λ (x : Signature). slice_get (x.parameters ++ x.locals) k ≡ Some slot) same there in
      earlier (module_declared n.modules head locals) _ _ _ _ _ (in_module n.modules head locals k slot found)
  slot_is n (Module head locals body ∷ rest) (suc i) signature k slot is there =
      let e : n.modules + 1 + i ≡ n.modules + suc i = omega arith in
      subst (λ (m : ℕ). IsDeclared (declared_from n (Module head locals body ∷ rest)) (Within m) (AVariable slot.kind) k slot.name) e
      (later (declared_by n (Module head locals body)) _ _ _ _ _ (slot_is (after n (Module head locals body)) rest i signature k slot is there))
  slot_is n (d ∷ rest) i signature k slot is there = later (declared_by n d) _ _ _ _ _ (slot_is (after n d) rest i signature k slot is there)

-- what is known of a number from the beginning on
from_start : (ds : List Declared) (scope : Scope) (sort : Sort) (i : ℕ) (name : List ℕ) → IsDeclared ds scope sort (0 + i) name → IsDeclared ds scope sort i name
from_start ds scope sort i name is = let e : 0 + i ≡ i = omega arith in subst (λ (k : ℕ). IsDeclared ds scope sort k name) e is

declared_module : (p : Source) (kinds : List Kind) (number : ℕ) (name : List ℕ) → IsModuleHead (heads_of (declared p) p) number name kinds → IsDeclared (declared p) Everywhere (AModule kinds) number name
declared_module p kinds number name is =
    let found = from_start (declared p) _ _ number _ (module_is (declared p) none_yet p number is.head is.there) in
    let taken = subst (λ (ks : List Kind). IsDeclared (declared p) Everywhere (AModule ks) number is.head.name) is.takes found in
    subst (λ (x : List ℕ). IsDeclared (declared p) Everywhere (AModule kinds) number x) is.named taken

declared_slot : (p : Source) (m : ℕ) (kind : Kind) (number : ℕ) (name : List ℕ) → IsSlotHead (heads_of (declared p) p) m number name kind → IsDeclared (declared p) (Within m) (AVariable kind) number name
declared_slot p m kind number name is =
    let e : 0 + m ≡ m = omega arith in
    subst (λ (k : ℕ). IsDeclared (declared p) (Within k) (AVariable kind) number name) e
    (slot_is (declared p) none_yet p m is.head number (record { kind = kind; name = name }) is.there is.slot)

-- what has a head is declared
pub heads_are_declared : (p : Source) (scope : Scope) (sort : Sort) (number : ℕ) (name : List ℕ) → IsHeadIn (heads_of (declared p) p) scope sort number name → IsDeclared (declared p) scope sort number name
heads_are_declared p Everywhere AScheduler number name is = from_start (declared p) _ _ number name (scheduler_is (declared p) none_yet p number name is)
heads_are_declared p Everywhere AnEvent number name is = from_start (declared p) _ _ number name (event_is (declared p) none_yet p number name is)
heads_are_declared p Everywhere AShared number name is = from_start (declared p) _ _ number name (shared_is (declared p) none_yet p number name is)
heads_are_declared p Everywhere (AModule kinds) number name is = declared_module p kinds number name is
heads_are_declared p Everywhere AStart number name is = from_start (declared p) _ _ number name (start_is (declared p) none_yet p number name is)
heads_are_declared p Everywhere AClient number name is = from_start (declared p) _ _ number name (client_is (declared p) none_yet p number name is)
heads_are_declared p Everywhere (AVariable kind) number name is = absurd is
heads_are_declared p (Within m) (AVariable kind) number name is = declared_slot p m kind number name is
heads_are_declared p (Within m) AScheduler number name is = absurd is
heads_are_declared p (Within m) AnEvent number name is = absurd is
heads_are_declared p (Within m) AShared number name is = absurd is
heads_are_declared p (Within m) (AModule kinds) number name is = absurd is
heads_are_declared p (Within m) AStart number name is = absurd is
heads_are_declared p (Within m) AClient number name is = absurd is
