-- Expressions whose names are right are written as they were read.
use Rattle.std.proofs.Common.{◌≡◌, ℕ, true, inl, inr, List, [], ◌∷◌, Option, Some, None, map, refl, ap}
use Rattle.std.specs.Prelude.{slice_get}
use Rattle.std.specs.List.{list_all}
use Rattle.std.proofs.lemmas.Bool.{and_parts}
use Rattle.loft_tree.specs.declared.heads.Signature.{Signature}
use Rattle.loft_tree.specs.declared.heads.Heads.{Heads}
use Rattle.loft_tree.specs.Source.{Binary, EventName, Expression, Ident, Number, Special, Unary, Variable}
use Rattle.loft_tree.specs.Fits.{Each}
use Rattle.loft_tree.specs.Resolved.{events_of, exp_if, exp_of, exps_of, target_of}
use Rattle.loft_show.specs.Places.{bare_event, bare_expression, bare_name, bare_value}
use Rattle.loft_scopes.specs.Scopes.{Declared, meaning}
use Rattle.loft_scopes.specs.declared.scope.Scope.TheVariants.{Within}
use Rattle.loft_scopes.specs.Faults.{is_event, is_scheduler, module_use, only_if, used, value_use}
use Rattle.loft_names.specs.HeadOf.{HasHead}
use Rattle.loft_numbers.specs.Numbers as numbers
use Rattle.loft_numbers.specs.Numbers.{event_of, event_uses, held_by, holder_of, module_of, scheduler_of, term_of, terms_of, value_of, variable_term, Holder, InShared, InSlot}
use Rattle.loft_names.proofs.HoldsValues.{event_means, module_means, scheduler_means, variable_means}
use Rattle.loft_listing.specs.Called.{called_event, called_expression, called_module, called_scheduler, called_target, called_value}
use Rattle.loft_listing_names.specs.Named.{expression_names, names_event, names_module, names_scheduler, names_variable, value_names}
use Rattle.loft_listing_roundtrip.proofs.NamesBack.{HolderNamed, event_back, module_back, right_none, scheduler_back, shared_back, slot_back}

-- what stands in the module with this number and this signature
module _ (ds : List Declared) (h : Heads) (each : Each (HasHead h) ds) (m : ℕ) (signature : Signature) (is : slice_get h.modules m ≡ Some signature) where
  -- ---- names

  pub scheduler_read : (name : Ident) → names_scheduler ds (Within m) name ≡ true → called_scheduler h (scheduler_of ds (Within m) name) ≡ bare_name name
  scheduler_read name right = scheduler_back ds h each (Within m) name (scheduler_means ds (Within m) name (right_none (used (only_if is_scheduler) (meaning ds (Within m) name)) name.at right))

  pub event_read : (event : EventName) → names_event ds (Within m) event ≡ true → called_event h (event_of ds (Within m) event) ≡ bare_event event
  event_read event right = event_back ds h each (Within m) event (event_means ds (Within m) event (right_none (used (only_if is_event) (meaning ds (Within m) event.name)) event.name.at right))

  pub module_read : (name : Ident) → names_module ds (Within m) name ≡ true → called_module h (module_of ds (Within m) name) ≡ bare_name name
  module_read name right =
      let means = module_means ds (Within m) name (right_none (module_use ds (Within m) name) name.at right) in
      module_back ds h each (Within m) means.0 name means.1

  holder_named : (name : Ident) → names_variable ds (Within m) name ≡ true → HolderNamed ds h each signature name (holder_of (meaning ds (Within m) name))
  holder_named name right =
      let means = variable_means ds (Within m) name (right_none (value_use ds (Within m) name) name.at right) in
      elim means.2 [
        | inl slot ↦ slot_back ds h each m signature is means.0 name slot
        | inr (shared, int) ↦ shared_back ds h each (Within m) signature name shared
      ]

  variable_read : (name : Ident) (holder : Holder) → HolderNamed ds h each signature name holder
      → called_expression h signature (exp_of (variable_term ds (Within m) name.at holder)) ≡ Variable (bare_name name)
  variable_read name (InShared x) named = ap Variable named
  variable_read name (InSlot slot) named = ap Variable named

  held_read : (name : Ident) (holder : Holder) → HolderNamed ds h each signature name holder → called_target h signature (target_of (held_by ds (Within m) name.at holder)) ≡ bare_name name
  held_read name (InShared x) named = named
  held_read name (InSlot slot) named = named

  pub target_read : (name : Ident) → names_variable ds (Within m) name ≡ true → called_target h signature (target_of (numbers.target_of ds (Within m) name)) ≡ bare_name name
  target_read name right = held_read name (holder_of (meaning ds (Within m) name)) (holder_named name right)

  pub events_read : (events : List EventName) → list_all (names_event ds (Within m)) events ≡ true → map (called_event h) (events_of (event_uses ds (Within m) events)) ≡ map bare_event events
  events_read [] right = refl
  events_read (event ∷ events) right = let parts = and_parts _ _ right in (λ i. event_read event parts.0 i ∷ events_read events parts.1 i)

  -- ---- expressions

  pub expression_read : (e : Expression) → expression_names ds (Within m) e ≡ true → called_expression h signature (exp_of (term_of ds (Within m) e)) ≡ bare_expression e
  expression_read (Number at value) right = refl
  expression_read (Variable name) right = variable_read name (holder_of (meaning ds (Within m) name)) (holder_named name right)
  expression_read (Special at builtin) right = refl
  expression_read (Unary at operator operand) right = ap (Unary 0 operator) (expression_read operand right)
  expression_read (Binary operator left right) both =
      let parts = and_parts _ _ both in (λ i. Binary operator (expression_read left parts.0 i) (expression_read right parts.1 i))

  pub value_read : (e : Option Expression) → value_names ds (Within m) e ≡ true → called_value h signature (exp_if (value_of ds (Within m) e)) ≡ bare_value e
  value_read None right = refl
  value_read (Some e) right = ap Some (expression_read e right)

  pub values_read : (es : List Expression) → list_all (expression_names ds (Within m)) es ≡ true → map (called_expression h signature) (exps_of (terms_of ds (Within m) es)) ≡ map bare_expression es
  values_read [] right = refl
  values_read (e ∷ es) right = let parts = and_parts _ _ right in (λ i. expression_read e parts.0 i ∷ values_read es parts.1 i)
