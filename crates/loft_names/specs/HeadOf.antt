-- The head that each declaration has: what its number stands for (docs/LANGUAGE.md, "Numbers of names").
use Rattle.std.specs.Prelude.{◌≡◌, ℕ, List, ◌++◌, Some, slice_get}
use Rattle.std.specs.List.{Contains}
use Rattle.std.specs.Option.{option_map}
use Rattle.loft_tree.specs.declared.kinds.Kind.{Kind}
use Rattle.loft_tree.specs.declared.heads.Signature.{Signature}
use Rattle.loft_tree.specs.declared.heads.Heads.{Heads}
use Rattle.loft_tree.specs.HeadsFit.{kinds_of}
use Rattle.loft_scopes.specs.declared.scope.Scope.{Scope}
use Rattle.loft_scopes.specs.declared.scope.Scope.TheVariants.{Everywhere, Within}
use Rattle.loft_scopes.specs.Scopes.{Sort, AScheduler, AnEvent, AShared, AModule, AStart, AClient, AVariable, Declared}

-- the module with this number, whose parameters have these kinds
pub record IsModuleHead (h : Heads) (number : ℕ) (name : List ℕ) (kinds : List Kind) : Type 0 where
  pub head : Signature
  pub there : slice_get h.modules number ≡ Some head
  pub named : head.name ≡ name
  pub takes : kinds_of head.parameters ≡ kinds

-- the slot with this number of the module m
pub record IsSlotHead (h : Heads) (m number : ℕ) (name : List ℕ) (kind : Kind) : Type 0 where
  pub head : Signature
  pub there : slice_get h.modules m ≡ Some head
  pub slot : slice_get (head.parameters ++ head.locals) number ≡ Some (record { kind = kind; name = name })

-- what a declaration in the whole program stands for
abbrev pub IsHeadOfSort : Heads → Sort → ℕ → List ℕ → Type 0
IsHeadOfSort h AScheduler number name = slice_get h.schedulers number ≡ Some name
IsHeadOfSort h AnEvent number name = option_map (λ x. x.name) (slice_get h.events number) ≡ Some name
IsHeadOfSort h AShared number name = option_map (λ x. x.name) (slice_get h.shared number) ≡ Some name
IsHeadOfSort h (AModule kinds) number name = IsModuleHead h number name kinds
IsHeadOfSort h AStart number name = option_map (λ x. x.name) (slice_get h.starts number) ≡ Some (Some name)
IsHeadOfSort h AClient number name = option_map (λ x. x.name) (slice_get h.clients number) ≡ Some name
IsHeadOfSort h (AVariable kind) number name = ⊥

-- what a declaration in a module stands for
abbrev pub IsHeadWithin : Heads → ℕ → Sort → ℕ → List ℕ → Type 0
IsHeadWithin h m AScheduler number name = ⊥
IsHeadWithin h m AnEvent number name = ⊥
IsHeadWithin h m AShared number name = ⊥
IsHeadWithin h m (AModule kinds) number name = ⊥
IsHeadWithin h m AStart number name = ⊥
IsHeadWithin h m AClient number name = ⊥
IsHeadWithin h m (AVariable kind) number name = IsSlotHead h m number name kind

abbrev pub IsHeadIn : Heads → Scope → Sort → ℕ → List ℕ → Type 0
IsHeadIn h Everywhere sort number name = IsHeadOfSort h sort number name
IsHeadIn h (Within m) sort number name = IsHeadWithin h m sort number name

-- the number of a declaration stands for the head with its name
abbrev pub HasHead : Heads → Declared → Type 0
HasHead h d = IsHeadIn h d.scope d.sort d.number d.name.text

-- one of these declarations has this name, this sort and this number, and can be seen in this scope
pub record IsDeclared (ds : List Declared) (scope : Scope) (sort : Sort) (number : ℕ) (name : List ℕ) : Type 0 where
  pub declaration : Declared
  pub there : Contains ds declaration
  pub seen : declaration.scope ≡ scope
  pub sorted : declaration.sort ≡ sort
  pub numbered : declaration.number ≡ number
  pub named : declaration.name.text ≡ name
