-- The declarations of a source have numbers of their own; where its heads have names that differ, the names of its declarations differ.
use Rattle.std.proofs.Common.{◌≡◌, ℕ, ◌+◌, ◌<◌, ◌≤◌, zero, suc, true, ◌⊎◌, inl, inr, List, [], ◌∷◌, ◌++◌, length, Some, None, refl, sym, subst, ap, ◌∙◌, arith}
use Rattle.std.specs.Prelude.{slice_get}
use Rattle.std.proofs.lemmas.Bool.{eq-eqb}
use Rattle.loft_tree.specs.declared.heads.Heads.{Heads}
use Rattle.loft_tree.specs.Fits.{Each}
use Rattle.loft_tree.specs.NamedFits.{NamesDiffer}
use Rattle.loft_tree.specs.Source.{Named, Declaration, Scheduler, Event, Shared, Module, Start, Outside, Source}
use Rattle.loft_scopes.specs.Scopes.{Sort, AScheduler, AnEvent, AShared, AModule, AStart, AClient, AVariable, Declared, variables, after, declared_by, declared_from, seen_together, is_seen}
use Rattle.loft_scopes.specs.declared.scope.Scope.{Scope}
use Rattle.loft_scopes.specs.declared.scope.Scope.TheVariants.{Everywhere, Within}
use Rattle.loft_scopes.specs.declared.counts.DeclarationCounts.{DeclarationCounts}
use Rattle.loft_names.specs.HeadOf.{HasHead, IsHeadIn}
use Rattle.loft_names.specs.NamesHold.{NamesApart}
use Rattle.loft_names.proofs.HeadsLists.{each-append, each_get, each_map}
use Rattle.loft_listing_roundtrip.proofs.OneMeaning.{AreOne, are_one}

-- ---- numbers of declarations

-- the declaration comes after so many
comes_after : DeclarationCounts → Scope → Sort → ℕ → Type 0
comes_after n Everywhere AScheduler k = n.schedulers ≤ k
comes_after n Everywhere AnEvent k = n.events ≤ k
comes_after n Everywhere AShared k = n.shared ≤ k
comes_after n Everywhere (AModule kinds) k = n.modules ≤ k
comes_after n Everywhere AStart k = n.starts ≤ k
comes_after n Everywhere AClient k = n.clients ≤ k
comes_after n Everywhere (AVariable kind) k = ⊥
comes_after n (Within m) sort k = n.modules ≤ m

-- it is one of so many
is_among : DeclarationCounts → Scope → Sort → ℕ → Type 0
is_among n Everywhere AScheduler k = k < n.schedulers
is_among n Everywhere AnEvent k = k < n.events
is_among n Everywhere AShared k = k < n.shared
is_among n Everywhere (AModule kinds) k = k < n.modules
is_among n Everywhere AStart k = k < n.starts
is_among n Everywhere AClient k = k < n.clients
is_among n Everywhere (AVariable kind) k = ⊥
is_among n (Within m) sort k = m < n.modules

ComesAfter : DeclarationCounts → Declared → Type 0
ComesAfter n d = comes_after n d.scope d.sort d.number

IsAmong : DeclarationCounts → Declared → Type 0
IsAmong n d = is_among n d.scope d.sort d.number

not_both : (n : DeclarationCounts) (scope : Scope) (sort : Sort) (k : ℕ) → is_among n scope sort k → comes_after n scope sort k → ⊥
unfolding comes_after is_among
not_both n Everywhere AScheduler k among later = omega arith
not_both n Everywhere AnEvent k among later = omega arith
not_both n Everywhere AShared k among later = omega arith
not_both n Everywhere (AModule kinds) k among later = omega arith
not_both n Everywhere AStart k among later = omega arith
not_both n Everywhere AClient k among later = omega arith
not_both n Everywhere (AVariable kind) k among later = among
not_both n (Within m) sort k among later = omega arith

-- as many or more of each sort
record IsNoLess (n m : DeclarationCounts) : Type 0 where
  schedulers : n.schedulers ≤ m.schedulers
  events : n.events ≤ m.events
  shared : n.shared ≤ m.shared
  modules : n.modules ≤ m.modules
  starts : n.starts ≤ m.starts
  clients : n.clients ≤ m.clients

one_more : (n : DeclarationCounts) (d : Declaration) → IsNoLess n (after n d)
one_more n (Scheduler name) = record { schedulers = omega arith; events = omega arith; shared = omega arith; modules = omega arith; starts = omega arith; clients = omega arith }
one_more n (Event name scheduler) = record { schedulers = omega arith; events = omega arith; shared = omega arith; modules = omega arith; starts = omega arith; clients = omega arith }
one_more n (Shared name scheduler value) = record { schedulers = omega arith; events = omega arith; shared = omega arith; modules = omega arith; starts = omega arith; clients = omega arith }
one_more n (Module head locals body) = record { schedulers = omega arith; events = omega arith; shared = omega arith; modules = omega arith; starts = omega arith; clients = omega arith }
one_more n (Start scheduler called arguments name) = record { schedulers = omega arith; events = omega arith; shared = omega arith; modules = omega arith; starts = omega arith; clients = omega arith }
one_more n (Outside name orders) = record { schedulers = omega arith; events = omega arith; shared = omega arith; modules = omega arith; starts = omega arith; clients = omega arith }

after_fewer : (n m : DeclarationCounts) → IsNoLess n m → (scope : Scope) (sort : Sort) (k : ℕ) → comes_after m scope sort k → comes_after n scope sort k
unfolding comes_after
after_fewer n m less Everywhere AScheduler k later = omega (arith, less.schedulers)
after_fewer n m less Everywhere AnEvent k later = omega (arith, less.events)
after_fewer n m less Everywhere AShared k later = omega (arith, less.shared)
after_fewer n m less Everywhere (AModule kinds) k later = omega (arith, less.modules)
after_fewer n m less Everywhere AStart k later = omega (arith, less.starts)
after_fewer n m less Everywhere AClient k later = omega (arith, less.clients)
after_fewer n m less Everywhere (AVariable kind) k later = later
after_fewer n m less (Within x) sort k later = omega (arith, less.modules)

-- ---- what one declaration declares

variables_after : (n : DeclarationCounts) (k : ℕ) (vs : List Named) → Each (ComesAfter n) (variables n.modules k vs)
unfolding ComesAfter comes_after
variables_after n k [] = tt
variables_after n k (v ∷ vs) = (omega arith, variables_after n (k + 1) vs)

variables_among : (n m : DeclarationCounts) → n.modules < m.modules → (k : ℕ) (vs : List Named) → Each (IsAmong m) (variables n.modules k vs)
unfolding IsAmong is_among
variables_among n m less k [] = tt
variables_among n m less k (v ∷ vs) = (less, variables_among n m less (k + 1) vs)

by_after : (n : DeclarationCounts) (d : Declaration) → Each (ComesAfter n) (declared_by n d)
unfolding ComesAfter comes_after
by_after n (Scheduler name) = (omega arith, tt)
by_after n (Event name scheduler) = (omega arith, tt)
by_after n (Shared name scheduler value) = (omega arith, tt)
by_after n (Module head locals body) =
    (omega arith, each-append (ComesAfter n) (variables n.modules 0 head.parameters) (variables n.modules (length head.parameters) locals) (variables_after n 0 head.parameters) (variables_after n (length head.parameters) locals))
by_after n (Start scheduler called arguments None) = tt
by_after n (Start scheduler called arguments (Some name)) = (omega arith, tt)
by_after n (Outside name orders) = (omega arith, tt)

by_among : (n : DeclarationCounts) (d : Declaration) → Each (IsAmong (after n d)) (declared_by n d)
unfolding IsAmong is_among
by_among n (Scheduler name) = (omega arith, tt)
by_among n (Event name scheduler) = (omega arith, tt)
by_among n (Shared name scheduler value) = (omega arith, tt)
by_among n (Module head locals body) =
    let more = after n (Module head locals body) in
    let less : n.modules < n.modules + 1 = omega arith in
    (less, each-append (IsAmong more) (variables n.modules 0 head.parameters) (variables n.modules (length head.parameters) locals) (variables_among n more less 0 head.parameters) (variables_among n more less (length head.parameters) locals))
by_among n (Start scheduler called arguments None) = tt
by_among n (Start scheduler called arguments (Some name)) = (omega arith, tt)
by_among n (Outside name orders) = (omega arith, tt)

all_after : (n : DeclarationCounts) (p : Source) → Each (ComesAfter n) (declared_from n p)
unfolding ComesAfter
all_after n [] = tt
all_after n (d ∷ p) =
    each-append (ComesAfter n) (declared_by n d) (declared_from (after n d) p) (by_after n d)
    (each_map (ComesAfter (after n d)) (ComesAfter n) (declared_from (after n d) p) (λ x later. after_fewer n (after n d) (one_more n d) x.scope x.sort x.number later) (all_after (after n d) p))

-- ---- one number, one place

-- declarations with one scope, sort and number stand at one place
abbrev AreNumbered : List Declared → Type 0
AreNumbered ds = (i j : ℕ) (d e : Declared) → slice_get ds i ≡ Some d → slice_get ds j ≡ Some e → AreOne d.scope e.scope d.sort e.sort d.number e.number → i ≡ j

-- an element of two lists is one of the first, or of the second
which : {A : Type 0} (xs ys : List A) (i : ℕ) (x : A) → slice_get (xs ++ ys) i ≡ Some x → (slice_get xs i ≡ Some x) ⊎ ((k : ℕ) × (i ≡ length xs + k) × (slice_get ys k ≡ Some x))
which [] ys i x is = let e : i ≡ 0 + i = omega arith in inr (i, e, is)
which (y ∷ xs) ys zero x is = inl is
which (y ∷ xs) ys (suc i) x is = elim (which xs ys i x is) [
  | inl here ↦ inl here
  | inr (k, at, there) ↦ let e : suc i ≡ suc (length xs) + k = omega arith in inr (k, e, there)
]

-- what comes later is none of those before
differ : (n : DeclarationCounts) (d e : Declared) → IsAmong n d → ComesAfter n e → AreOne d.scope e.scope d.sort e.sort d.number e.number → ⊥
unfolding IsAmong ComesAfter
differ n d e among later one =
    not_both n e.scope e.sort e.number
    (subst (λ (k : ℕ). is_among n e.scope e.sort k) one.numbers (subst (λ (x : Sort). is_among n e.scope x d.number) one.sorts (subst (λ (x : Scope). is_among n x d.sort d.number) one.scopes among)))
    later

other_way : (d e : Declared) → AreOne d.scope e.scope d.sort e.sort d.number e.number → AreOne e.scope d.scope e.sort d.sort e.number d.number
other_way d e one = record { scopes = sym one.scopes; sorts = sym one.sorts; numbers = sym one.numbers }

-- both stand in the first list, or both in the second one
both_parts : (n : DeclarationCounts) (xs ys : List Declared) → AreNumbered xs → AreNumbered ys → Each (IsAmong n) xs → Each (ComesAfter n) ys → AreNumbered (xs ++ ys)
both_parts n xs ys left right among later = λ i j d e is also one.
    elim (which xs ys i d is) [
      | inl here ↦ elim (which xs ys j e also) [
        | inl there ↦ left i j d e here there one
        | inr (l, at, there) ↦ absurd (differ n d e (each_get (IsAmong n) xs i d among here) (each_get (ComesAfter n) ys l e later there) one)
      ]
      | inr (k, from, here) ↦ elim (which xs ys j e also) [
        | inl there ↦ absurd (differ n e d (each_get (IsAmong n) xs j e among there) (each_get (ComesAfter n) ys k d later here) (other_way d e one))
        | inr (l, at, there) ↦ let same = right k l d e here there one in omega arith
      ]
    ]

alone : (x : Declared) → AreNumbered (x ∷ [])
alone x = λ i j d e is also one. one_place i j d e is also where
  one_place : (i j : ℕ) (d e : Declared) → slice_get (x ∷ []) i ≡ Some d → slice_get (x ∷ []) j ≡ Some e → i ≡ j
  one_place zero zero d e is also = refl
  one_place zero (suc j) d e is also = absurd cc
  one_place (suc i) j d e is also = absurd cc

variable_at : (m k : ℕ) (vs : List Named) (i : ℕ) (d : Declared) → slice_get (variables m k vs) i ≡ Some d → (d.number ≡ k + i) × (d.scope ≡ Within m)
variable_at m k [] i d is = absurd cc
variable_at m k (v ∷ vs) zero d is =
    let same : record { name = v.name; scope = Within m; sort = AVariable v.kind; number = k } ≡ d = cc in
    let number : k ≡ d.number = ap (λ (x : Declared). x.number) same in
    (omega arith, sym (ap (λ (x : Declared). x.scope) same))
variable_at m k (v ∷ vs) (suc i) d is = let rest = variable_at m (k + 1) vs i d is in (omega (arith, rest.0), rest.1)

variables_length : (m k : ℕ) (vs : List Named) → length (variables m k vs) ≡ length vs
variables_length m k [] = refl
variables_length m k (v ∷ vs) = ap suc (variables_length m (k + 1) vs)

slot_at : (m : ℕ) (vs ws : List Named) (i : ℕ) (d : Declared) → slice_get (variables m 0 vs ++ variables m (length vs) ws) i ≡ Some d → (d.number ≡ i) × (d.scope ≡ Within m)
slot_at m vs ws i d is = elim (which (variables m 0 vs) (variables m (length vs) ws) i d is) [
  | inl here ↦ let at = variable_at m 0 vs i d here in (omega (arith, at.0), at.1)
  | inr (k, from, there) ↦ let at = variable_at m (length vs) ws k d there in (omega (arith, at.0, from, variables_length m 0 vs), at.1)
]

-- the first is everywhere, all others are in a module, where the number tells the place
in_module : (x : Declared) (m : ℕ) (vs ws : List Named) → x.scope ≡ Everywhere → AreNumbered (x ∷ (variables m 0 vs ++ variables m (length vs) ws))
in_module x m vs ws everywhere = λ i j d e is also one. one_place i j d e is also one where
  one_place : (i j : ℕ) (d e : Declared) → slice_get (x ∷ (variables m 0 vs ++ variables m (length vs) ws)) i ≡ Some d → slice_get (x ∷ (variables m 0 vs ++ variables m (length vs) ws)) j ≡ Some e
      → AreOne d.scope e.scope d.sort e.sort d.number e.number → i ≡ j
  one_place zero zero d e is also one = refl
  one_place zero (suc j) d e is also one =
      let same : x ≡ d = cc in
      let mixed : Everywhere ≡ Within m = sym everywhere ∙ ap (λ (y : Declared). y.scope) same ∙ one.scopes ∙ (slot_at m vs ws j e also).1 in
      absurd cc
  one_place (suc i) zero d e is also one =
      let same : x ≡ e = cc in
      let mixed : Everywhere ≡ Within m = sym everywhere ∙ ap (λ (y : Declared). y.scope) same ∙ sym one.scopes ∙ (slot_at m vs ws i d is).1 in
      absurd cc
  one_place (suc i) (suc j) d e is also one = ap suc (sym (slot_at m vs ws i d is).0 ∙ one.numbers ∙ (slot_at m vs ws j e also).0)

by_numbered : (n : DeclarationCounts) (d : Declaration) → AreNumbered (declared_by n d)
by_numbered n (Scheduler name) = alone _
by_numbered n (Event name scheduler) = alone _
by_numbered n (Shared name scheduler value) = alone _
by_numbered n (Module head locals body) = in_module _ n.modules head.parameters locals refl
by_numbered n (Start scheduler called arguments None) = λ i j d e is also one. absurd cc
by_numbered n (Start scheduler called arguments (Some name)) = alone _
by_numbered n (Outside name orders) = alone _

all_numbered : (n : DeclarationCounts) (p : Source) → AreNumbered (declared_from n p)
all_numbered n [] = λ i j d e is also one. absurd cc
all_numbered n (d ∷ p) = both_parts (after n d) (declared_by n d) (declared_from (after n d) p) (by_numbered n d) (all_numbered (after n d) p) (by_among n d) (all_after (after n d) p)

-- ---- names

-- two declarations that are seen together are seen from one place
from_both : (s t : Scope) → seen_together s t ≡ true → (from : Scope) × (is_seen s from ≡ true) × (is_seen t from ≡ true)
from_both Everywhere Everywhere seen = (Everywhere, refl, refl)
from_both Everywhere (Within n) seen = (Within n, refl, eq-eqb n n refl)
from_both (Within m) Everywhere seen = (Within m, eq-eqb m m refl, refl)
from_both (Within m) (Within n) seen = (Within n, seen, eq-eqb n n refl)

pub names_apart : (h : Heads) → NamesDiffer h → (n : DeclarationCounts) (p : Source) → Each (HasHead h) (declared_from n p) → NamesApart (declared_from n p)
names_apart h apart n p each = λ i j d e is also seen named.
    let from = from_both d.scope e.scope seen in
    let here = each_get (HasHead h) (declared_from n p) i d each is in
    let there = subst (λ (x : List ℕ). IsHeadIn h e.scope e.sort e.number x) (sym named) (each_get (HasHead h) (declared_from n p) j e each also) in
    all_numbered n p i j d e is also (are_one h apart from.0 d.scope e.scope d.sort e.sort d.number e.number d.name.text from.1 from.2 here there)
