-- The names of the draft of code stand for what the code declares.
use Rattle.std.proofs.Common.{◌≡◌, ℕ, ◌+◌, zero, suc, List, [], ◌∷◌, ◌++◌, Some, map, refl, sym, subst, ap, ◌∙◌, arith}
use Rattle.std.specs.Prelude.{slice_get}
use Rattle.std.specs.Option.{option_map}
use Rattle.loft_tree.specs.declared.kinds.Kind.{Kind}
use Rattle.loft_tree.specs.declared.heads.Signature.{Signature}
use Rattle.loft_tree.specs.declared.heads.Heads.{Heads}
use Rattle.loft_tree.specs.Fits.{Each}
use Rattle.loft_tree.specs.HeadsFit.{kinds_of as slot_kinds}
use Rattle.loft_tree.specs.Source.{Source}
use Rattle.loft_scopes.specs.Scopes.{Sort, AScheduler, AnEvent, AShared, AModule, AStart, AClient, AVariable, Declared, declared}
use Rattle.loft_scopes.specs.declared.scope.Scope.{Scope}
use Rattle.loft_scopes.specs.declared.scope.Scope.TheVariants.{Everywhere, Within}
use Rattle.loft_numbers.specs.Numbers.{heads_of}
use Rattle.loft_names.specs.HeadOf.{IsHeadIn, IsModuleHead, IsSlotHead, HasHead, IsDeclared}
use Rattle.loft_names.proofs.HeadsLists.{each_map}
use Rattle.loft_names.proofs.HeadsNumbers.{each_declared_has}
use Rattle.loft_names.proofs.HeadsDeclared.{heads_are_declared}
use Rattle.loft_listing_draft.specs.Drafts.{source_of}
use Rattle.loft_listing_roundtrip.proofs.Parts.{Part, heads_in, events_in, shared_in, modules_in, starts_in, clients_in}
use Rattle.loft_listing_roundtrip.proofs.Saying.{said}
use Rattle.loft_listing_roundtrip.proofs.Remade.{remade, remade_event, remade_shared, remade_module, remade_modules, remade_start, remade_client, heads_remade}

-- what is the same of each element
same_of : {A B : Type 0} (of : A → B) (f : A → A) → ((x : A) → of (f x) ≡ of x) → (xs : List A) (k : ℕ) → option_map of (slice_get (map f xs) k) ≡ option_map of (slice_get xs k)
same_of of f same [] k = refl
same_of of f same (x ∷ xs) zero = ap Some (same x)
same_of of f same (x ∷ xs) (suc k) = same_of of f same xs k

module _ (ds : List Declared) (h : Heads) where
  -- a module that was remade
  pub made_from : (n : ℕ) (ms : List Signature) (k : ℕ) (x : Signature) → slice_get (remade_modules ds h n ms) k ≡ Some x → (m : Signature) × (slice_get ms k ≡ Some m) × (remade_module ds h (n + k) m ≡ x)
  made_from n [] k x is = absurd cc
  made_from n (m ∷ ms) zero x is = let e : n + 0 ≡ n = omega arith in let same : remade_module ds h n m ≡ x = cc in (m, refl, ap (λ i. remade_module ds h i m) e ∙ same)
  made_from n (m ∷ ms) (suc k) x is = let e : n + suc k ≡ n + 1 + k = omega arith in let rest = made_from (n + 1) ms k x is in (rest.0, rest.1, ap (λ i. remade_module ds h i rest.0) e ∙ rest.2)

  pub made_of : (n : ℕ) (ms : List Signature) (k : ℕ) (m : Signature) → slice_get ms k ≡ Some m → slice_get (remade_modules ds h n ms) k ≡ Some (remade_module ds h (n + k) m)
  made_of n [] k m is = absurd cc
  made_of n (x ∷ ms) zero m is = let same : x ≡ m = cc in let e : n ≡ n + 0 = omega arith in (λ i. Some (remade_module ds h (e i) (same i)))
  made_of n (x ∷ ms) (suc k) m is = let e : n + 1 + k ≡ n + suc k = omega arith in made_of (n + 1) ms k m is ∙ ap (λ i. Some (remade_module ds h i m)) e

  -- ---- names stand for the same

  module_before : (number : ℕ) (name : List ℕ) (kinds : List Kind) (ps : List Part) → IsModuleHead (remade ds h ps) number name kinds → IsModuleHead (heads_in ps) number name kinds
  module_before number name kinds ps is =
      let made = made_from 0 (modules_in ps) number is.head is.there in
      record { head = made.0; there = made.1; named = ap (λ (x : Signature). x.name) made.2 ∙ is.named; takes = ap (λ (x : Signature). slot_kinds x.parameters) made.2 ∙ is.takes }

  slot_before : (m number : ℕ) (name : List ℕ) (kind : Kind) (ps : List Part) → IsSlotHead (remade ds h ps) m number name kind → IsSlotHead (heads_in ps) m number name kind
  slot_before m number name kind ps is =
      let made = made_from 0 (modules_in ps) m is.head is.there in
      record { head = made.0; there = made.1; slot = ap (λ (x : Signature). slice_get (x.parameters ++ x.locals) number) made.2 ∙ is.slot }

  before : (ps : List Part) (scope : Scope) (sort : Sort) (number : ℕ) (name : List ℕ) → IsHeadIn (remade ds h ps) scope sort number name → IsHeadIn (heads_in ps) scope sort number name
  before ps Everywhere AScheduler number name is = is
  before ps Everywhere AnEvent number name is = sym (same_of (λ x. x.name) (remade_event ds h) (λ x. refl) (events_in ps) number) ∙ is
  before ps Everywhere AShared number name is = sym (same_of (λ x. x.name) (remade_shared ds h) (λ x. refl) (shared_in ps) number) ∙ is
  before ps Everywhere (AModule kinds) number name is = module_before number name kinds ps is
  before ps Everywhere AStart number name is = sym (same_of (λ x. x.name) (remade_start ds h) (λ x. refl) (starts_in ps) number) ∙ is
  before ps Everywhere AClient number name is = sym (same_of (λ x. x.name) (remade_client ds h) (λ x. refl) (clients_in ps) number) ∙ is
  before ps Everywhere (AVariable kind) number name is = absurd is
  before ps (Within m) (AVariable kind) number name is = slot_before m number name kind ps is
  before ps (Within m) sort number name is = absurd is

  after : (ps : List Part) (scope : Scope) (sort : Sort) (number : ℕ) (name : List ℕ) → IsHeadIn (heads_in ps) scope sort number name → IsHeadIn (remade ds h ps) scope sort number name
  after ps Everywhere AScheduler number name is = is
  after ps Everywhere AnEvent number name is = same_of (λ x. x.name) (remade_event ds h) (λ x. refl) (events_in ps) number ∙ is
  after ps Everywhere AShared number name is = same_of (λ x. x.name) (remade_shared ds h) (λ x. refl) (shared_in ps) number ∙ is
  after ps Everywhere (AModule kinds) number name is =
      record { head = remade_module ds h (0 + number) is.head; there = made_of 0 (modules_in ps) number is.head is.there; named = is.named; takes = is.takes }
  after ps Everywhere AStart number name is = same_of (λ x. x.name) (remade_start ds h) (λ x. refl) (starts_in ps) number ∙ is
  after ps Everywhere AClient number name is = same_of (λ x. x.name) (remade_client ds h) (λ x. refl) (clients_in ps) number ∙ is
  after ps Everywhere (AVariable kind) number name is = absurd is
  after ps (Within m) (AVariable kind) number name is =
      record { head = remade_module ds h (0 + m) is.head; there = made_of 0 (modules_in ps) m is.head is.there; slot = is.slot }
  after ps (Within m) sort number name is = absurd is

-- what is declared by parts, from this offset on
abbrev pub declared_in : ℕ → List Part → List Declared
declared_in at ps = declared (source_of (said (heads_in ps) at ps))

-- the number of each declaration stands for the head with its name
pub each_has_head : (at : ℕ) (ps : List Part) → Each (HasHead (heads_in ps)) (declared_in at ps)
each_has_head at ps =
    let p : Source = source_of (said (heads_in ps) at ps) in
    let ds : List Declared = declared p in
    each_map (HasHead (heads_of ds p)) (HasHead (heads_in ps)) ds
    (λ d is. before ds (heads_in ps) ps d.scope d.sort d.number d.name.text (subst (λ (x : Heads). HasHead x d) (heads_remade ds (heads_in ps) at ps) is))
    (each_declared_has p)

-- each head stands for a declaration with its name
pub head_is_declared : (at : ℕ) (ps : List Part) (scope : Scope) (sort : Sort) (number : ℕ) (name : List ℕ) → IsHeadIn (heads_in ps) scope sort number name → IsDeclared (declared_in at ps) scope sort number name
head_is_declared at ps scope sort number name is =
    let p : Source = source_of (said (heads_in ps) at ps) in
    let ds : List Declared = declared p in
    heads_are_declared p scope sort number name
    (subst (λ (x : Heads). IsHeadIn x scope sort number name) (sym (heads_remade ds (heads_in ps) at ps)) (after ds (heads_in ps) ps scope sort number name is))
