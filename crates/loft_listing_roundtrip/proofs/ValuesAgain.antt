-- Expressions with the names of code are right, and mean the same numbers again.
use Rattle.std.proofs.Common.{◌≡◌, ℕ, ◌<◌, true, List, [], ◌∷◌, length, Option, Some, None, map, refl, ap}
use Rattle.std.specs.Prelude.{slice_get}
use Rattle.std.specs.List.{list_all}
use Rattle.std.proofs.lemmas.Bool.{and_from, and_parts, ltb-true}
use Rattle.loft_base.specs.declared.ids.SchedId.{SchedId}
use Rattle.loft_base.specs.declared.ids.EventId.{EventId}
use Rattle.loft_base.specs.declared.ids.ModuleId.{ModuleId}
use Rattle.loft_tree.specs.declared.kinds.Kind.TheVariants.{Int}
use Rattle.loft_tree.specs.declared.heads.Signature.{Signature}
use Rattle.loft_tree.specs.declared.heads.Heads.{Heads}
use Rattle.loft_tree.specs.HeadsFit.{kinds_of}
use Rattle.loft_tree.specs.NamedFits.{slots_of}
use Rattle.loft_tree.specs.Resolved as r
use Rattle.loft_tree.specs.Resolved.{Exp, Target, exp_of, exp_if, exps_of, events_of, target_of}
use Rattle.loft_scopes.specs.Scopes.{Declared, AScheduler, AnEvent, AShared, AModule, AVariable}
use Rattle.loft_scopes.specs.declared.scope.Scope.TheVariants.{Within}
use Rattle.loft_scopes.specs.Faults.{is_scheduler, is_event, kind_in, only_if, parameters_of}
use Rattle.loft_numbers.specs.Numbers as numbers
use Rattle.loft_numbers.specs.Numbers.{event_uses, held_by, term_of, terms_of, value_of, variable_term}
use Rattle.loft_names.proofs.HoldsValues.{means_view}
use Rattle.loft_code.specs.Names.{exp_has, value_has, exps_have, target_has, has_events}
use Rattle.loft_listing.specs.Called.{called_scheduler, called_event, called_module, called_expression, called_value, called_target}
use Rattle.loft_listing_names.specs.Named.{is_right, names_scheduler, names_event, names_module, expression_names, value_names, names_variable}
use Rattle.loft_listing_roundtrip.proofs.OneMeaning.{Says}
use Rattle.loft_listing_roundtrip.proofs.Called.{there_at, slot_there, means_a, number_meant, slot_held, shared_held, scheduler_meant, event_meant, shared_meant, module_meant, slot_meant}

-- what stands in the module with this number and this signature
module _ (ds : List Declared) (h : Heads) (says : Says ds h) (k : ℕ) (m : Signature) (is : slice_get h.modules k ≡ Some m) where
  -- ---- names

  pub scheduler_named : (s : SchedId) → s.0 < length h.schedulers → names_scheduler ds (Within k) (called_scheduler h s) ≡ true
  scheduler_named s less = ap is_right (means_view ds (Within k) (only_if is_scheduler) AScheduler tt (called_scheduler h s) refl (means_a ds (Within k) _ _ _ (scheduler_meant ds h says (Within k) s less)))

  pub event_named : (e : EventId) → e.0 < length h.events → names_event ds (Within k) (called_event h e) ≡ true
  event_named e less = ap is_right (means_view ds (Within k) (only_if is_event) AnEvent tt (called_event h e).name refl (means_a ds (Within k) _ _ _ (event_meant ds h says (Within k) e less)))

  pub module_named : (x : ModuleId) → x.0 < length h.modules → names_module ds (Within k) (called_module h x) ≡ true
  module_named x less =
      let signature = there_at h.modules x.0 less in
      ap is_right (means_view ds (Within k) parameters_of (AModule (kinds_of signature.0.parameters)) (kinds_of signature.0.parameters) (called_module h x) refl (means_a ds (Within k) _ _ _ (module_meant ds h says (Within k) x signature.0 signature.1)))

  pub target_named : (t : Target) → target_has h (slots_of m) t ≡ true → names_variable ds (Within k) (called_target h m t) ≡ true
  target_named (r.ToSlot slot) has =
      let v = slot_there m.parameters m.locals slot has in
      ap is_right (means_view ds (Within k) kind_in (AVariable v.0.kind) v.0.kind (called_target h m (r.ToSlot slot)) refl (means_a ds (Within k) _ _ _ (slot_meant ds h says k m slot v.0 is v.1)))
  target_named (r.ToShared x) has =
      ap is_right (means_view ds (Within k) kind_in AShared Int (called_target h m (r.ToShared x)) refl (means_a ds (Within k) _ _ _ (shared_meant ds h says (Within k) x (ltb-true x.0 (length h.shared) has))))

  pub events_named : (es : List EventId) → has_events h es ≡ true → list_all (names_event ds (Within k)) (map (called_event h) es) ≡ true
  events_named [] has = refl
  events_named (e ∷ es) has =
      let parts = and_parts _ _ has in
      and_from _ _ (event_named e (ltb-true e.0 (length h.events) parts.0)) (events_named es parts.1)

  -- ---- expressions

  pub expression_named : (e : Exp) → exp_has h (slots_of m) e ≡ true → expression_names ds (Within k) (called_expression h m e) ≡ true
  expression_named (r.Number value) has = refl
  expression_named (r.Slot slot) has = target_named (r.ToSlot slot) has
  expression_named (r.Shared x) has = target_named (r.ToShared x) has
  expression_named (r.Special builtin) has = refl
  expression_named (r.Unary operator operand) has = expression_named operand has
  expression_named (r.Binary operator left right) has =
      let parts = and_parts _ _ has in and_from _ _ (expression_named left parts.0) (expression_named right parts.1)

  pub value_named : (e : Option Exp) → value_has h (slots_of m) e ≡ true → value_names ds (Within k) (called_value h m e) ≡ true
  value_named None has = refl
  value_named (Some e) has = expression_named e has

  pub values_named : (es : List Exp) → exps_have h (slots_of m) es ≡ true → list_all (expression_names ds (Within k)) (map (called_expression h m) es) ≡ true
  values_named [] has = refl
  values_named (e ∷ es) has = let parts = and_parts _ _ has in and_from _ _ (expression_named e parts.0) (values_named es parts.1)

  -- ---- the same again

  pub target_again : (t : Target) → target_has h (slots_of m) t ≡ true → target_of (numbers.target_of ds (Within k) (called_target h m t)) ≡ t
  target_again (r.ToSlot slot) has =
      let v = slot_there m.parameters m.locals slot has in
      ap (λ x. target_of (held_by ds (Within k) 0 x)) (slot_held ds (Within k) v.0.kind slot _ (slot_meant ds h says k m slot v.0 is v.1))
  target_again (r.ToShared x) has =
      ap (λ y. target_of (held_by ds (Within k) 0 y)) (shared_held ds (Within k) x _ (shared_meant ds h says (Within k) x (ltb-true x.0 (length h.shared) has)))

  pub exp_again : (e : Exp) → exp_has h (slots_of m) e ≡ true → exp_of (term_of ds (Within k) (called_expression h m e)) ≡ e
  exp_again (r.Number value) has = refl
  exp_again (r.Slot slot) has =
      let v = slot_there m.parameters m.locals slot has in
      ap (λ x. exp_of (variable_term ds (Within k) 0 x)) (slot_held ds (Within k) v.0.kind slot _ (slot_meant ds h says k m slot v.0 is v.1))
  exp_again (r.Shared x) has =
      ap (λ y. exp_of (variable_term ds (Within k) 0 y)) (shared_held ds (Within k) x _ (shared_meant ds h says (Within k) x (ltb-true x.0 (length h.shared) has)))
  exp_again (r.Special builtin) has = refl
  exp_again (r.Unary operator operand) has = ap (r.Unary operator) (exp_again operand has)
  exp_again (r.Binary operator left right) has =
      let parts = and_parts _ _ has in (λ i. r.Binary operator (exp_again left parts.0 i) (exp_again right parts.1 i))

  pub value_again : (e : Option Exp) → value_has h (slots_of m) e ≡ true → exp_if (value_of ds (Within k) (called_value h m e)) ≡ e
  value_again None has = refl
  value_again (Some e) has = ap Some (exp_again e has)

  pub values_again : (es : List Exp) → exps_have h (slots_of m) es ≡ true → exps_of (terms_of ds (Within k) (map (called_expression h m) es)) ≡ es
  values_again [] has = refl
  values_again (e ∷ es) has = let parts = and_parts _ _ has in (λ i. exp_again e parts.0 i ∷ values_again es parts.1 i)

  pub event_again : (e : EventId) → e.0 < length h.events → numbers.event_of ds (Within k) (called_event h e) ≡ e
  event_again e less = (λ i. record { 0 = number_meant ds (Within k) _ _ _ (event_meant ds h says (Within k) e less) i })

  pub events_again : (es : List EventId) → has_events h es ≡ true → events_of (event_uses ds (Within k) (map (called_event h) es)) ≡ es
  events_again [] has = refl
  events_again (e ∷ es) has =
      let parts = and_parts _ _ has in
      (λ i. event_again e (ltb-true e.0 (length h.events) parts.0) i ∷ events_again es parts.1 i)
