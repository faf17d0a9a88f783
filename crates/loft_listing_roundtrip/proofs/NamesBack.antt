-- A name that is right is the name of what its number stands for.
use Rattle.std.proofs.Common.{◌≡◌, ℕ, true, ◌&&◌, List, [], ◌++◌, Option, Some, None, refl, sym, subst, ap, ◌∙◌}
use Rattle.std.specs.Prelude.{slice_get, unwrap_or}
use Rattle.std.specs.Option.{option_map}
use Rattle.std.proofs.lemmas.Bool.{and_parts, eqb-true}
use Rattle.std.proofs.lemmas.Slice.Eq.{bytes_eq-Decides}
use Rattle.loft_base.specs.declared.ids.Maker.TheVariants as maker
use Rattle.loft_tree.specs.declared.kinds.Kind.{Kind}
use Rattle.loft_tree.specs.declared.heads.EventHead.{EventHead}
use Rattle.loft_tree.specs.declared.heads.SharedHead.{SharedHead}
use Rattle.loft_tree.specs.declared.heads.SlotHead.{SlotHead}
use Rattle.loft_tree.specs.declared.heads.Signature.{Signature}
use Rattle.loft_tree.specs.declared.heads.Start.{Start}
use Rattle.loft_tree.specs.declared.heads.Heads.{Heads}
use Rattle.loft_tree.specs.Source.{EventName, Ident}
use Rattle.loft_tree.specs.Fits.{Each}
use Rattle.loft_show.specs.Places.{bare_event, bare_name}
use Rattle.loft_scopes.specs.Scopes.{AModule, AScheduler, AShared, AStart, AVariable, AnEvent, Declared, Sort, is_seen, meaning, same_name}
use Rattle.loft_scopes.specs.declared.scope.Scope.{Scope}
use Rattle.loft_scopes.specs.declared.scope.Scope.TheVariants.{Everywhere, Within}
use Rattle.loft_scopes.specs.Faults.{Means, NotDeclared, OtherSort, Use, use_faults}
use Rattle.loft_names.specs.HeadOf.{HasHead, IsHeadIn}
use Rattle.loft_names.specs.NamesHold.{MeansA}
use Rattle.loft_numbers.specs.Numbers.{event_of, holder_of, if_shared, module_of, number_of, number_or_0, scheduler_of, shared_or, Holder, InShared, InSlot}
use Rattle.loft_names.proofs.HeadsLists.{each_contained, found_in}
use Rattle.loft_listing.specs.Called.{called, called_event, called_made, called_module, called_scheduler, called_shared, called_slot, start_name}
use Rattle.loft_listing_names.specs.Named.{is_right}

-- what is right has no fault
pub right_none : {A : Type 0} (u : Use A) (at : ℕ) → is_right u ≡ true → use_faults at u ≡ []
right_none NotDeclared at right = absurd cc
right_none OtherSort at right = absurd cc
right_none (Means x) at right = refl

-- what has a name is called so
called_so : {A : Type 0} (of : A → List ℕ) (xs : List A) (k : ℕ) (name : List ℕ) → option_map of (slice_get xs k) ≡ Some name → unwrap_or (option_map of (slice_get xs k)) [] ≡ name
called_so of xs k name is = ap (λ (o : Option (List ℕ)). unwrap_or o []) is

itself : (o : Option (List ℕ)) → option_map (λ x. x) o ≡ o
itself None = refl
itself (Some x) = refl

module _ (ds : List Declared) (h : Heads) (each : Each (HasHead h) ds) where
  -- what a name means, and stands for
  record Stands (from : Scope) (sort : Sort) (name : Ident) : Type 0 where
    declaration : Declared
    means : meaning ds from name ≡ Some declaration
    sorted : declaration.sort ≡ sort
    has : IsHeadIn h declaration.scope sort declaration.number name.text
    seen : is_seen declaration.scope from ≡ true

  stands : (from : Scope) (sort : Sort) (name : Ident) → MeansA ds from sort name → Stands from sort name
  stands from sort name m =
      let d = m.declaration in
      let at = found_in (λ x. same_name name x && is_seen x.scope from) ds d m.means in
      let parts = and_parts (same_name name d) (is_seen d.scope from) at.1 in
      let named : d.name.text ≡ name.text = (bytes_eq-Decides d.name.text name.text).0 parts.0 in
      let has : IsHeadIn h d.scope d.sort d.number name.text = subst (λ (x : List ℕ). IsHeadIn h d.scope d.sort d.number x) named (each_contained (HasHead h) ds d each at.0) in
      record { declaration = d; means = m.means; sorted = m.sorted; has = subst (λ (s : Sort). IsHeadIn h d.scope s d.number name.text) m.sorted has; seen = parts.1 }

  number_is : (from : Scope) (sort : Sort) (name : Ident) (s : Stands from sort name) → number_of ds from name ≡ s.declaration.number
  number_is from sort name s = ap number_or_0 s.means

  -- ---- heads

  scheduler_head : (scope : Scope) (number : ℕ) (name : List ℕ) → IsHeadIn h scope AScheduler number name → slice_get h.schedulers number ≡ Some name
  scheduler_head Everywhere number name has = has
  scheduler_head (Within m) number name has = absurd has

  event_head : (scope : Scope) (number : ℕ) (name : List ℕ) → IsHeadIn h scope AnEvent number name → option_map (λ (x : EventHead). x.name) (slice_get h.events number) ≡ Some name
  event_head Everywhere number name has = has
  event_head (Within m) number name has = absurd has

  shared_head : (scope : Scope) (number : ℕ) (name : List ℕ) → IsHeadIn h scope AShared number name → option_map (λ (x : SharedHead). x.name) (slice_get h.shared number) ≡ Some name
  shared_head Everywhere number name has = has
  shared_head (Within m) number name has = absurd has

  start_head : (scope : Scope) (number : ℕ) (name : List ℕ) → IsHeadIn h scope AStart number name → option_map (λ (x : Start). x.name) (slice_get h.starts number) ≡ Some (Some name)
  start_head Everywhere number name has = has
  start_head (Within m) number name has = absurd has

  module_head : (scope : Scope) (kinds : List Kind) (number : ℕ) (name : List ℕ) → IsHeadIn h scope (AModule kinds) number name → option_map (λ (x : Signature). x.name) (slice_get h.modules number) ≡ Some name
  module_head Everywhere kinds number name has = ap (λ (o : Option Signature). option_map (λ x. x.name) o) has.there ∙ ap Some has.named
  module_head (Within m) kinds number name has = absurd has

  slot_head : (m : ℕ) (signature : Signature) → slice_get h.modules m ≡ Some signature → (scope : Scope) (kind : Kind) (number : ℕ) (name : List ℕ) → is_seen scope (Within m) ≡ true
      → IsHeadIn h scope (AVariable kind) number name → option_map (λ (x : SlotHead). x.name) (slice_get (signature.parameters ++ signature.locals) number) ≡ Some name
  slot_head m signature is Everywhere kind number name seen has = absurd has
  slot_head m signature is (Within n) kind number name seen has =
      let same : n ≡ m = eqb-true n m seen in
      let heads : Some has.head ≡ Some signature = sym has.there ∙ ap (slice_get h.modules) same ∙ is in
      let head : has.head ≡ signature = cc in
      ap (λ (x : Signature). option_map (λ (v : SlotHead). v.name) (slice_get (x.parameters ++ x.locals) number)) (sym head) ∙ ap (λ (o : Option SlotHead). option_map (λ v. v.name) o) has.slot

  -- ---- names of declarations

  pub scheduler_back : (from : Scope) (name : Ident) → MeansA ds from AScheduler name → called_scheduler h (scheduler_of ds from name) ≡ bare_name name
  scheduler_back from name m =
      let s = stands from AScheduler name m in
      let head = itself (slice_get h.schedulers s.declaration.number) ∙ scheduler_head s.declaration.scope s.declaration.number name.text s.has in
      ap (λ k. called (unwrap_or (option_map (λ x. x) (slice_get h.schedulers k)) [])) (number_is from AScheduler name s)
      ∙ ap called (called_so (λ x. x) h.schedulers s.declaration.number name.text head)

  pub event_back : (from : Scope) (event : EventName) → MeansA ds from AnEvent event.name → called_event h (event_of ds from event) ≡ bare_event event
  event_back from event m =
      let s = stands from AnEvent event.name m in
      let head = event_head s.declaration.scope s.declaration.number event.name.text s.has in
      ap (λ k. record { name = called (unwrap_or (option_map (λ x. x.name) (slice_get h.events k)) []) }) (number_is from AnEvent event.name s)
      ∙ ap (λ t. record { name = called t }) (called_so (λ x. x.name) h.events s.declaration.number event.name.text head)

  pub module_back : (from : Scope) (kinds : List Kind) (name : Ident) → MeansA ds from (AModule kinds) name → called_module h (module_of ds from name) ≡ bare_name name
  module_back from kinds name m =
      let s = stands from (AModule kinds) name m in
      let head = module_head s.declaration.scope kinds s.declaration.number name.text s.has in
      ap (λ k. called (unwrap_or (option_map (λ x. x.name) (slice_get h.modules k)) [])) (number_is from (AModule kinds) name s)
      ∙ ap called (called_so (λ x. x.name) h.modules s.declaration.number name.text head)

  -- the start gives its thread this name
  pub start_named : (from : Scope) (name : Ident) → MeansA ds from AStart name → option_map (λ (x : Start). x.name) (slice_get h.starts (number_of ds from name)) ≡ Some (Some name.text)
  start_named from name m =
      let s = stands from AStart name m in
      ap (λ k. option_map (λ (x : Start). x.name) (slice_get h.starts k)) (number_is from AStart name s) ∙ start_head s.declaration.scope s.declaration.number name.text s.has

  started : (o : Option Start) (name : List ℕ) → option_map (λ x. x.name) o ≡ Some (Some name) → unwrap_or (option_map start_name o) [] ≡ name
  started None name is = absurd cc
  started (Some t) name is = let same : t.name ≡ Some name = cc in ap (λ (n : Option (List ℕ)). unwrap_or n []) same

  pub start_back : (from : Scope) (name : Ident) → MeansA ds from AStart name → called_made h maker.Source (number_of ds from name) ≡ bare_name name
  start_back from name m = ap called (started (slice_get h.starts (number_of ds from name)) name.text (start_named from name m))

  -- ---- names of values

  -- what holds a value has this name in the module with this signature
  abbrev pub HolderNamed : Signature → Ident → Holder → Type 0
  HolderNamed signature name (InShared x) = called_shared h x ≡ bare_name name
  HolderNamed signature name (InSlot slot) = called_slot signature slot ≡ bare_name name

  pub shared_back : (from : Scope) (signature : Signature) (name : Ident) → MeansA ds from AShared name → HolderNamed signature name (holder_of (meaning ds from name))
  shared_back from signature name m =
      let s = stands from AShared name m in
      let d = s.declaration in
      let held : holder_of (meaning ds from name) ≡ InShared (record { 0 = d.number }) = ap holder_of s.means ∙ ap (λ x. shared_or (if_shared x d.number) d.number) s.sorted in
      subst (HolderNamed signature name) (sym held) (ap called (called_so (λ x. x.name) h.shared d.number name.text (shared_head d.scope d.number name.text s.has)))

  pub slot_back : (m : ℕ) (signature : Signature) → slice_get h.modules m ≡ Some signature → (kind : Kind) (name : Ident) → MeansA ds (Within m) (AVariable kind) name
      → HolderNamed signature name (holder_of (meaning ds (Within m) name))
  slot_back m signature is kind name means =
      let s = stands (Within m) (AVariable kind) name means in
      let d = s.declaration in
      let held : holder_of (meaning ds (Within m) name) ≡ InSlot d.number = ap holder_of s.means ∙ ap (λ x. shared_or (if_shared x d.number) d.number) s.sorted in
      subst (HolderNamed signature name) (sym held)
      (ap called (called_so (λ x. x.name) (signature.parameters ++ signature.locals) d.number name.text (slot_head m signature is d.scope kind d.number name.text s.seen s.has)))
