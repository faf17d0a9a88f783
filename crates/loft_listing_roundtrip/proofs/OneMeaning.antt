-- A name of code means the one declaration that has it.
use Rattle.std.proofs.Common.{◌≡◌, ℕ, true, false, ◌&&◌, List, [], ◌++◌, Option, Some, None, map, refl, sym, subst, ap, ◌∙◌}
use Rattle.std.specs.Prelude.{slice_get}
use Rattle.std.specs.Option.{option_map}
use Rattle.std.proofs.lemmas.Bool.{and_from, and_parts, eqb-true}
use Rattle.std.proofs.lemmas.List.{map-append}
use Rattle.std.proofs.lemmas.Option.{slice_get-map}
use Rattle.std.proofs.lemmas.Slice.Eq.{bytes_eq-Decides}
use Rattle.loft_tree.specs.declared.kinds.Kind.{Kind}
use Rattle.loft_tree.specs.declared.heads.Signature.{Signature}
use Rattle.loft_tree.specs.declared.heads.SlotHead.{SlotHead}
use Rattle.loft_tree.specs.declared.heads.HeadItem.{HeadItem}
use Rattle.loft_tree.specs.declared.heads.HeadItem.TheVariants as item
use Rattle.loft_tree.specs.declared.heads.Heads.{Heads}
use Rattle.loft_tree.specs.Fits.{Each}
use Rattle.loft_tree.specs.HeadsFit.{kinds_of as slot_kinds}
use Rattle.loft_tree.specs.NamedFits.{IsNamed, NamesDiffer, SlotsDiffer, slot_names}
use Rattle.loft_tree.specs.Source.{Ident}
use Rattle.loft_scopes.specs.Scopes.{Sort, AScheduler, AnEvent, AShared, AModule, AStart, AClient, AVariable, Declared, is_seen, meaning, same_name}
use Rattle.loft_scopes.specs.declared.scope.Scope.{Scope}
use Rattle.loft_scopes.specs.declared.scope.Scope.TheVariants.{Everywhere, Within}
use Rattle.loft_names.specs.HeadOf.{IsHeadOfSort, IsHeadWithin, IsHeadIn, IsSlotHead, HasHead, IsDeclared}
use Rattle.loft_names.proofs.HeadsLists.{each_contained, each_get, found_in, none_found}

-- ---- what a head is

kinds_or_none : Option Signature → List Kind
kinds_or_none None = []
kinds_or_none (Some m) = slot_kinds m.parameters

sort_at : Heads → HeadItem → Sort
sort_at h (item.Scheduler s) = AScheduler
sort_at h (item.Event e) = AnEvent
sort_at h (item.Shared x) = AShared
sort_at h (item.Module m) = AModule (kinds_or_none (slice_get h.modules m.0))
sort_at h (item.Start t) = AStart
sort_at h (item.Client c) = AClient

number_at : HeadItem → ℕ
number_at (item.Scheduler s) = s.0
number_at (item.Event e) = e.0
number_at (item.Shared x) = x.0
number_at (item.Module m) = m.0
number_at (item.Start t) = t
number_at (item.Client c) = c

-- the head with this sort, number and name
record IsItem (h : Heads) (sort : Sort) (number : ℕ) (name : List ℕ) : Type 0 where
  item : HeadItem
  named : IsNamed h item name
  sorted : sort_at h item ≡ sort
  numbered : number_at item ≡ number

item_of : (h : Heads) (sort : Sort) (number : ℕ) (name : List ℕ) → IsHeadOfSort h sort number name → IsItem h sort number name
unfolding sort_at number_at kinds_or_none
item_of h AScheduler number name is = record { item = item.Scheduler (record { 0 = number }); named = is; sorted = refl; numbered = refl }
item_of h AnEvent number name is = record { item = item.Event (record { 0 = number }); named = is; sorted = refl; numbered = refl }
item_of h AShared number name is = record { item = item.Shared (record { 0 = number }); named = is; sorted = refl; numbered = refl }
item_of h (AModule kinds) number name is = record {
  item = item.Module (record { 0 = number });
  named = ap (λ (o : Option Signature). option_map (λ x. x.name) o) is.there ∙ ap Some is.named;
  sorted = ap (λ (o : Option Signature). AModule (kinds_or_none o)) is.there ∙ ap AModule is.takes;
  numbered = refl;
}
item_of h AStart number name is = record { item = item.Start number; named = is; sorted = refl; numbered = refl }
item_of h AClient number name is = record { item = item.Client number; named = is; sorted = refl; numbered = refl }
item_of h (AVariable kind) number name is = absurd is

-- a slot of a module by its name
slot_at : (m : Signature) (i : ℕ) (kind : Kind) (name : List ℕ) → slice_get (m.parameters ++ m.locals) i ≡ Some (record { kind = kind; name = name }) → slice_get (slot_names m) i ≡ Some name
slot_at m i kind name is =
    let all : List SlotHead = m.parameters ++ m.locals in
    let names : slot_names m ≡ map (λ (v : SlotHead). v.name) all = sym (map-append (λ (v : SlotHead). v.name) m.parameters m.locals) in
    ap (λ xs. slice_get xs i) names ∙ slice_get-map (λ (v : SlotHead). v.name) all i ∙ ap (λ (o : Option SlotHead). option_map (λ v. v.name) o) is

kind_or : Kind → Option SlotHead → Kind
kind_or kind None = kind
kind_or kind (Some v) = v.kind

-- two declarations are one
pub record AreOne (s t : Scope) (a b : Sort) (i j : ℕ) : Type 0 where
  pub scopes : s ≡ t
  pub sorts : a ≡ b
  pub numbers : i ≡ j

module _ (h : Heads) (differ : NamesDiffer h) where
  one_everywhere : (a b : Sort) (i j : ℕ) (name : List ℕ) → IsHeadOfSort h a i name → IsHeadOfSort h b j name → (a ≡ b) × (i ≡ j)
  one_everywhere a b i j name is also =
      let x = item_of h a i name is in
      let y = item_of h b j name also in
      let same : x.item ≡ y.item = differ.declarations x.item y.item name x.named y.named in
      (sym x.sorted ∙ ap (sort_at h) same ∙ y.sorted, sym x.numbered ∙ ap number_at same ∙ y.numbered)

  -- no slot has the name of a declaration that is seen everywhere
  no_slot : (m i j : ℕ) (kind : Kind) (sort : Sort) (name : List ℕ) → IsSlotHead h m i name kind → IsHeadOfSort h sort j name → ⊥
  no_slot m i j kind sort name is also =
      let x = item_of h sort j name also in
      (each_get (SlotsDiffer h) h.modules m is.head differ.slots is.there).others i x.item name (slot_at is.head i kind name is.slot) x.named

  one_slot : (m i j : ℕ) (k l : Kind) (name : List ℕ) → IsSlotHead h m i name k → IsSlotHead h m j name l → (k ≡ l) × (i ≡ j)
  unfolding kind_or
  one_slot m i j k l name is also =
      let heads : Some is.head ≡ Some also.head = sym is.there ∙ also.there in
      let same : is.head ≡ also.head = cc in
      let there : slice_get (is.head.parameters ++ is.head.locals) j ≡ Some (record { kind = l; name = name }) = ap (λ (x : Signature). slice_get (x.parameters ++ x.locals) j) same ∙ also.slot in
      let one : i ≡ j = (each_get (SlotsDiffer h) h.modules m is.head differ.slots is.there).each_other i j name (slot_at is.head i k name is.slot) (slot_at is.head j l name there) in
      let slots : Some (record { kind = k; name = name }) ≡ Some (record { kind = l; name = name }) = sym is.slot ∙ ap (λ n. slice_get (is.head.parameters ++ is.head.locals) n) one ∙ there in
      let kinds : k ≡ l = ap (kind_or k) {x = Some (record { kind = k; name = name })} {y = Some (record { kind = l; name = name })} slots in
      (kinds, one)

  one_within : (m i j : ℕ) (a b : Sort) (name : List ℕ) → IsHeadWithin h m a i name → IsHeadWithin h m b j name → (a ≡ b) × (i ≡ j)
  one_within m i j (AVariable k) (AVariable l) name is also = let one = one_slot m i j k l name is also in (ap AVariable one.0, one.1)
  one_within m i j (AVariable k) b name is also = absurd also
  one_within m i j a b name is also = absurd is

  none_within : (m i j : ℕ) (a b : Sort) (name : List ℕ) → IsHeadWithin h m a i name → IsHeadOfSort h b j name → ⊥
  none_within m i j (AVariable k) b name is also = no_slot m i j k b name is also
  none_within m i j a b name is also = absurd is

  pub are_one : (from s t : Scope) (a b : Sort) (i j : ℕ) (name : List ℕ) → is_seen s from ≡ true → is_seen t from ≡ true → IsHeadIn h s a i name → IsHeadIn h t b j name → AreOne s t a b i j
  are_one from Everywhere Everywhere a b i j name seen also_seen is also = let one = one_everywhere a b i j name is also in record { scopes = refl; sorts = one.0; numbers = one.1 }
  are_one from Everywhere (Within n) a b i j name seen also_seen is also = absurd (none_within n j i b a name also is)
  are_one from (Within m) Everywhere a b i j name seen also_seen is also = absurd (none_within m i j a b name is also)
  are_one Everywhere (Within m) (Within n) a b i j name seen also_seen is also = absurd cc
  are_one (Within k) (Within m) (Within n) a b i j name seen also_seen is also =
      let left : m ≡ k = eqb-true m k seen in
      let right : n ≡ k = eqb-true n k also_seen in
      let same : n ≡ m = right ∙ sym left in
      let one = one_within m i j a b name is (subst (λ (x : ℕ). IsHeadWithin h x b j name) same also) in
      record { scopes = ap Within (sym same); sorts = one.0; numbers = one.1 }

-- the name means a declaration of this sort with this number
pub record Meant (ds : List Declared) (from : Scope) (sort : Sort) (number : ℕ) (name : Ident) : Type 0 where
  pub declaration : Declared
  pub means : meaning ds from name ≡ Some declaration
  pub sorted : declaration.sort ≡ sort
  pub numbered : declaration.number ≡ number

module _ (h : Heads) (differ : NamesDiffer h) (ds : List Declared) (each : Each (HasHead h) ds)
    (there : (scope : Scope) (sort : Sort) (number : ℕ) (name : List ℕ) → IsHeadIn h scope sort number name → IsDeclared ds scope sort number name) where
  meant_by : (from scope : Scope) (sort : Sort) (number : ℕ) (name : Ident) → is_seen scope from ≡ true → IsHeadIn h scope sort number name.text
      → (o : Option Declared) → meaning ds from name ≡ o → Meant ds from sort number name
  meant_by from scope sort number name seen is None none =
      let one = there scope sort number name.text is in
      let d = one.declaration in
      let fails = each_contained (λ x. (same_name name x && is_seen x.scope from) ≡ false) ds d (none_found (λ x. same_name name x && is_seen x.scope from) ds none) one.there in
      let named : same_name name d ≡ true = (bytes_eq-Decides d.name.text name.text).1 one.named in
      let passes : (same_name name d && is_seen d.scope from) ≡ true = and_from _ _ named (ap (λ s. is_seen s from) one.seen ∙ seen) in
      let both : true ≡ false = sym passes ∙ fails in
      absurd cc
  meant_by from scope sort number name seen is (Some d) found =
      let at = found_in (λ x. same_name name x && is_seen x.scope from) ds d found in
      let parts = and_parts (same_name name d) (is_seen d.scope from) at.1 in
      let named : d.name.text ≡ name.text = (bytes_eq-Decides d.name.text name.text).0 parts.0 in
      let has : IsHeadIn h d.scope d.sort d.number name.text = subst (λ (x : List ℕ). IsHeadIn h d.scope d.sort d.number x) named (each_contained (HasHead h) ds d each at.0) in
      let one = are_one h differ from d.scope scope d.sort sort d.number number name.text parts.1 seen has is in
      record { declaration = d; means = found; sorted = one.sorts; numbered = one.numbers }

-- these are the declarations of what code declares
pub record Says (ds : List Declared) (h : Heads) : Type 0 where
  pub differ : NamesDiffer h
  pub each : Each (HasHead h) ds
  pub there : (scope : Scope) (sort : Sort) (number : ℕ) (name : List ℕ) → IsHeadIn h scope sort number name → IsDeclared ds scope sort number name

-- a name of a head that is seen from there means it
pub meant : (ds : List Declared) (h : Heads) → Says ds h → (from scope : Scope) (sort : Sort) (number : ℕ) (name : Ident) → is_seen scope from ≡ true → IsHeadIn h scope sort number name.text → Meant ds from sort number name
meant ds h says from scope sort number name seen is = meant_by h says.differ ds says.each says.there from scope sort number name seen is (meaning ds from name) refl
