-- The heads of a program without faults have names that differ where they can be seen together.
use Rattle.std.proofs.Common.{◌≡◌, ℕ, zero, suc, true, List, [], ◌∷◌, ◌++◌, Option, Some, None, map, refl, sym, ap, ◌∙◌}
use Rattle.std.specs.Prelude.{slice_get}
use Rattle.std.specs.Option.{option_map}
use Rattle.std.proofs.lemmas.Bool.{eq-eqb}
use Rattle.std.proofs.lemmas.Option.{slice_get-map}
use Rattle.std.proofs.lemmas.List.{map-append}
use Rattle.loft_tree.specs.declared.kinds.Kind.{Kind}
use Rattle.loft_tree.specs.declared.heads.SlotHead.{SlotHead}
use Rattle.loft_tree.specs.declared.heads.Signature.{Signature}
use Rattle.loft_tree.specs.declared.heads.HeadItem.{HeadItem}
use Rattle.loft_tree.specs.declared.heads.HeadItem.TheVariants as item
use Rattle.loft_tree.specs.HeadsFit.{kinds_of as slot_kinds}
use Rattle.loft_tree.specs.NamedFits.{IsNamed, NamesDiffer, SlotsDiffer, slot_names}
use Rattle.loft_tree.specs.Source.{Source}
use Rattle.loft_scopes.specs.declared.scope.Scope.{Scope}
use Rattle.loft_scopes.specs.declared.scope.Scope.TheVariants.{Everywhere, Within}
use Rattle.loft_scopes.specs.Scopes.{Sort, AScheduler, AnEvent, AShared, AModule, AStart, AClient, AVariable, Declared, declared, seen_together}
use Rattle.loft_scopes.specs.Faults.{faults, twice_from, uses_from}
use Rattle.loft_numbers.specs.Numbers.{heads_of}
use Rattle.loft_names.specs.HeadOf.{IsDeclared}
use Rattle.loft_names.proofs.HeadsLists.{index_of, each_from_get}
use Rattle.loft_names.proofs.HeadsMeaning.{none_left}
use Rattle.loft_names.proofs.HeadsDeclared.{heads_are_declared}
use Rattle.loft_names.proofs.HeadsTwice.{at_one_index}

-- two declarations of one name that can be seen together are one declaration
same_declaration : (p : Source) → faults p ≡ [] → (s t : Scope) (a b : Sort) (i j : ℕ) (name : List ℕ) → IsDeclared (declared p) s a i name → IsDeclared (declared p) t b j name
    → seen_together s t ≡ true → (s ≡ t) × (a ≡ b) × (i ≡ j)
same_declaration p none s t a b i j name one other together =
    let ds = declared p in
    let d = one.declaration in
    let e = other.declaration in
    let at = index_of ds d one.there in
    let there = index_of ds e other.there in
    let seen : seen_together d.scope e.scope ≡ true = (λ k. seen_together (one.seen k) (other.seen k)) ∙ together in
    let index = at_one_index [] ds (none_left (twice_from [] ds) (uses_from ds 0 p) none) at.0 there.0 d e at.1 there.1 (record { named = one.named ∙ sym other.named; together = seen }) in
    let both : Some d ≡ Some e = sym at.1 ∙ ap (slice_get ds) index ∙ there.1 in
    let same : d ≡ e = cc in
    (sym one.seen ∙ ap (λ x. x.scope) same ∙ other.seen, sym one.sorted ∙ ap (λ x. x.sort) same ∙ other.sorted, sym one.numbered ∙ ap (λ x. x.number) same ∙ other.numbered)

-- the item of a declaration in the whole program
abbrev item_at : Sort → ℕ → Option HeadItem
item_at AScheduler number = Some (item.Scheduler (record { 0 = number }))
item_at AnEvent number = Some (item.Event (record { 0 = number }))
item_at AShared number = Some (item.Shared (record { 0 = number }))
item_at (AModule kinds) number = Some (item.Module (record { 0 = number }))
item_at AStart number = Some (item.Start number)
item_at AClient number = Some (item.Client number)
item_at (AVariable kind) number = None

-- what an item stands for is declared
record IsItem (ds : List Declared) (a : HeadItem) (name : List ℕ) : Type 0 where
  sort : Sort
  number : ℕ
  item : item_at sort number ≡ Some a
  there : IsDeclared ds Everywhere sort number name

module_named : (p : Source) (m : ℕ) (name : List ℕ) → option_map (λ x. x.name) (slice_get (heads_of (declared p) p).modules m) ≡ Some name
    → (kinds : List Kind) × IsDeclared (declared p) Everywhere (AModule kinds) m name
module_named p m name is = elim (slice_get (heads_of (declared p) p).modules m)
    as (λ o. slice_get (heads_of (declared p) p).modules m ≡ o → option_map (λ x. x.name) o ≡ Some name → (kinds : List Kind) × IsDeclared (declared p) Everywhere (AModule kinds) m name) [
      | None ↦ λ there named. absurd cc
      | Some head ↦ λ there named. let same : head.name ≡ name = cc in
          (slot_kinds head.parameters, heads_are_declared p Everywhere (AModule (slot_kinds head.parameters)) m name (record { head = head; there = there; named = same; takes = refl }))
    ] refl is

is_item : (p : Source) (a : HeadItem) (name : List ℕ) → IsNamed (heads_of (declared p) p) a name → IsItem (declared p) a name
is_item p (item.Scheduler s) name is = record { sort = AScheduler; number = s.0; item = refl; there = heads_are_declared p Everywhere AScheduler s.0 name is }
is_item p (item.Event e) name is = record { sort = AnEvent; number = e.0; item = refl; there = heads_are_declared p Everywhere AnEvent e.0 name is }
is_item p (item.Shared x) name is = record { sort = AShared; number = x.0; item = refl; there = heads_are_declared p Everywhere AShared x.0 name is }
is_item p (item.Module m) name is = let found = module_named p m.0 name is in record { sort = AModule found.0; number = m.0; item = refl; there = found.1 }
is_item p (item.Start t) name is = record { sort = AStart; number = t; item = refl; there = heads_are_declared p Everywhere AStart t name is }
is_item p (item.Client c) name is = record { sort = AClient; number = c; item = refl; there = heads_are_declared p Everywhere AClient c name is }

one_item : (p : Source) → faults p ≡ [] → (a b : HeadItem) (name : List ℕ) → IsNamed (heads_of (declared p) p) a name → IsNamed (heads_of (declared p) p) b name → a ≡ b
one_item p none a b name is also =
    let x = is_item p a name is in
    let y = is_item p b name also in
    let same = same_declaration p none Everywhere Everywhere x.sort y.sort x.number y.number name x.there y.there refl in
    let items : Some a ≡ Some b = sym x.item ∙ (λ k. item_at (same.1 k) (same.2 k)) ∙ y.item in
    cc

-- a slot by its name
slot_named : (slots : List SlotHead) (i : ℕ) (name : List ℕ) → option_map (λ v. v.name) (slice_get slots i) ≡ Some name → (kind : Kind) × (slice_get slots i ≡ Some (record { kind = kind; name = name }))
slot_named [] i name is = absurd cc
slot_named (v ∷ vs) zero name is = let same : v.name ≡ name = cc in (v.kind, λ k. Some (record { kind = v.kind; name = same k }))
slot_named (v ∷ vs) (suc i) name is = slot_named vs i name is

slot_declared : (p : Source) (m : ℕ) (signature : Signature) → slice_get (heads_of (declared p) p).modules m ≡ Some signature
    → (i : ℕ) (name : List ℕ) → slice_get (slot_names signature) i ≡ Some name → (kind : Kind) × IsDeclared (declared p) (Within m) (AVariable kind) i name
slot_declared p m signature there i name is =
    let all : List SlotHead = signature.parameters ++ signature.locals in
    let names : slot_names signature ≡ map (λ v. v.name) all = sym (map-append (λ v. v.name) signature.parameters signature.locals) in
    let of : option_map (λ v. v.name) (slice_get all i) ≡ Some name = sym (slice_get-map (λ v. v.name) all i) ∙ ap (λ xs. slice_get xs i) (sym names) ∙ is in
    let slot = slot_named all i name of in
    (slot.0, heads_are_declared p (Within m) (AVariable slot.0) i name (record { head = signature; there = there; slot = slot.1 }))

slots_differ : (p : Source) → faults p ≡ [] → (m : ℕ) (signature : Signature) → slice_get (heads_of (declared p) p).modules m ≡ Some signature → SlotsDiffer (heads_of (declared p) p) signature
slots_differ p none m signature there = record {
  each_other = λ i j name is also.
      let x = slot_declared p m signature there i name is in
      let y = slot_declared p m signature there j name also in
      (same_declaration p none (Within m) (Within m) (AVariable x.0) (AVariable y.0) i j name x.1 y.1 (eq-eqb m m refl)).2;
  others = λ i a name is also.
      let x = slot_declared p m signature there i name is in
      let y = is_item p a name also in
      let same = same_declaration p none (Within m) Everywhere (AVariable x.0) y.sort i y.number name x.1 y.there refl in
      let differ = same.0 in cc;
}

pub names_differ : (p : Source) → faults p ≡ [] → NamesDiffer (heads_of (declared p) p)
names_differ p none = record {
  declarations = one_item p none;
  slots = each_from_get (SlotsDiffer (heads_of (declared p) p)) (heads_of (declared p) p).modules (slots_differ p none);
}
