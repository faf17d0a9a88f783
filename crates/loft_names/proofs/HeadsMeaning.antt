-- What a name that is used without a fault means: its number is that of a head.
use Rattle.std.proofs.Common.{◌≡◌, ℕ, ◌<◌, Bool, true, false, ◌&&◌, List, [], ◌∷◌, ◌++◌, length, Option, Some, None, refl, sym, ap, subst, ◌∙◌}
use Rattle.std.specs.Prelude.{slice_get, if◌then◌else◌}
use Rattle.std.proofs.lemmas.Option.{slice_get_within}
use Rattle.loft_tree.specs.declared.kinds.Kind.{Kind}
use Rattle.loft_tree.specs.declared.kinds.Kind.TheVariants.{Thread}
use Rattle.loft_tree.specs.declared.heads.Heads.{Heads}
use Rattle.loft_tree.specs.declared.heads.Signature.{Signature}
use Rattle.loft_tree.specs.Source.{Ident, EventName}
use Rattle.loft_tree.specs.Fits.{Each}
use Rattle.loft_tree.specs.HeadsFit.{kinds_of as slot_kinds}
use Rattle.loft_tree.specs.NamedFits.{IsScheduler}
use Rattle.loft_scopes.specs.declared.scope.Scope.{Scope}
use Rattle.loft_scopes.specs.declared.scope.Scope.TheVariants.{Everywhere, Within}
use Rattle.loft_scopes.specs.Scopes.{Sort, AScheduler, AnEvent, AModule, AStart, Declared, is_seen, same_name, meaning}
use Rattle.loft_scopes.specs.Faults.{allowed, used, only_if, use_faults, meant, is_scheduler, is_event, is_start, parameters_of, scheduler_faults, event_faults, module_use, start_use, thread_if}
use Rattle.loft_numbers.specs.Numbers.{number_or_0, number_of, scheduler_of}
use Rattle.loft_names.specs.HeadOf.{HasHead, IsHeadIn, IsModuleHead}
use Rattle.loft_names.proofs.HeadsLists.{each_found, mapped_within}

-- no faults of two lists are none of each
pub none_left : {A : Type 0} (xs ys : List A) → xs ++ ys ≡ [] → xs ≡ []
none_left [] ys none = refl
none_left (x ∷ xs) ys none = absurd cc

pub none_right : {A : Type 0} (xs ys : List A) → xs ++ ys ≡ [] → ys ≡ []
none_right [] ys none = none
none_right (x ∷ xs) ys none = absurd cc

-- a use without a fault is that of a declaration of the needed sort
pub record MeansOne {A : Type 0} (view : Sort → Option A) (o : Option Declared) : Type 0 where
  pub declaration : Declared
  pub value : A
  pub found : o ≡ Some declaration
  pub viewed : view declaration.sort ≡ Some value

pub means_one : {A : Type 0} (view : Sort → Option A) (o : Option Declared) (at : ℕ) → use_faults at (used view o) ≡ [] → MeansOne view o
means_one view None at none = absurd cc
means_one view (Some d) at none = elim (view d.sort) as (λ v. view d.sort ≡ v → use_faults at (allowed v) ≡ [] → MeansOne view (Some d)) [
  | None ↦ λ is fault. absurd cc
  | Some x ↦ λ is fault. record { declaration = d; value = x; found = refl; viewed = is }
] refl none

pub meant_one : {A : Type 0} (view : Sort → Option A) (o : Option Declared) (m : MeansOne view o) → meant (used view o) ≡ Some m.value
meant_one view o m = ap (λ x. meant (used view x)) m.found ∙ ap (λ v. meant (allowed v)) m.viewed

pub only_if_true : (test : Sort → Bool) (sort : Sort) (x : Unit {0}) → only_if test sort ≡ Some x → test sort ≡ true
only_if_true test sort x is = elim (test sort) as (λ b. (if b then Some tt else None) ≡ Some x → b ≡ true) [ true ↦ λ e. refl | false ↦ λ e. absurd cc ] is

pub thread_if_true : (test : Sort → Bool) (sort : Sort) → test sort ≡ true → thread_if test sort ≡ Some Thread
thread_if_true test sort is = ap (λ b. if b then Some Thread else None) is

-- ---- the head of what is meant

module _ (h : Heads) where
  pub is_a_scheduler : (scope : Scope) (sort : Sort) (number : ℕ) (name : List ℕ) → IsHeadIn h scope sort number name → is_scheduler sort ≡ true → number < length h.schedulers
  is_a_scheduler Everywhere AScheduler number name has passes = slice_get_within h.schedulers number name has
  is_a_scheduler (Within m) AScheduler number name has passes = absurd has
  is_a_scheduler scope sort number name has passes = absurd cc

  is_an_event : (scope : Scope) (sort : Sort) (number : ℕ) (name : List ℕ) → IsHeadIn h scope sort number name → is_event sort ≡ true → number < length h.events
  is_an_event Everywhere AnEvent number name has passes = mapped_within (λ x. x.name) h.events number name has
  is_an_event (Within m) AnEvent number name has passes = absurd has
  is_an_event scope sort number name has passes = absurd cc

  is_a_start : (scope : Scope) (sort : Sort) (number : ℕ) (name : List ℕ) → IsHeadIn h scope sort number name → is_start sort ≡ true → number < length h.starts
  is_a_start Everywhere AStart number name has passes = mapped_within (λ x. x.name) h.starts number (Some name) has
  is_a_start (Within m) AStart number name has passes = absurd has
  is_a_start scope sort number name has passes = absurd cc

  is_a_module : (scope : Scope) (sort : Sort) (number : ℕ) (name : List ℕ) (kinds : List Kind) → IsHeadIn h scope sort number name → parameters_of sort ≡ Some kinds
      → IsModuleHead h number name kinds
  is_a_module Everywhere (AModule ks) number name kinds has takes =
      let same : ks ≡ kinds = cc in subst (λ (x : List Kind). IsModuleHead h number name x) same has
  is_a_module (Within m) (AModule ks) number name kinds has takes = absurd has
  is_a_module scope sort number name kinds has takes = absurd cc

-- a table of declarations that have heads, and where names are used
module _ (h : Heads) (ds : List Declared) (each : Each (HasHead h) ds) (scope : Scope) where
  -- what a name means has a head
  pub meaning_has : (name : Ident) (d : Declared) → meaning ds scope name ≡ Some d → HasHead h d
  meaning_has name d is = each_found (HasHead h) (λ x. same_name name x && is_seen x.scope scope) ds d each is

  pub scheduler_holds : (name : Ident) → scheduler_faults ds scope name ≡ [] → IsScheduler h (scheduler_of ds scope name)
  scheduler_holds name none =
      let m = means_one (only_if is_scheduler) (meaning ds scope name) name.at none in
      let d = m.declaration in
      let number : number_of ds scope name ≡ d.number = ap number_or_0 m.found in
      let within = is_a_scheduler h d.scope d.sort d.number d.name.text (meaning_has name d m.found) (only_if_true is_scheduler d.sort m.value m.viewed) in
      subst (λ (n : ℕ). n < length h.schedulers) (sym number) within

  pub event_holds : (name : EventName) → event_faults ds scope name ≡ [] → number_of ds scope name.name < length h.events
  event_holds event none =
      let m = means_one (only_if is_event) (meaning ds scope event.name) event.name.at none in
      let d = m.declaration in
      let number : number_of ds scope event.name ≡ d.number = ap number_or_0 m.found in
      let within = is_an_event h d.scope d.sort d.number d.name.text (meaning_has event.name d m.found) (only_if_true is_event d.sort m.value m.viewed) in
      subst (λ (n : ℕ). n < length h.events) (sym number) within

  pub start_holds : (name : Ident) → use_faults name.at (start_use ds scope name) ≡ [] → number_of ds scope name < length h.starts
  start_holds name none =
      let m = means_one (only_if is_start) (meaning ds scope name) name.at none in
      let d = m.declaration in
      let number : number_of ds scope name ≡ d.number = ap number_or_0 m.found in
      let within = is_a_start h d.scope d.sort d.number d.name.text (meaning_has name d m.found) (only_if_true is_start d.sort m.value m.viewed) in
      subst (λ (n : ℕ). n < length h.starts) (sym number) within

  -- a module that is called is declared, and its parameters have the kinds that the call is compared with
  pub record IsCalled (name : Ident) : Type 0 where
    pub kinds : List Kind
    pub wanted : meant (module_use ds scope name) ≡ Some kinds
    pub head : Signature
    pub there : slice_get h.modules (number_of ds scope name) ≡ Some head
    pub takes : slot_kinds head.parameters ≡ kinds

  pub called_holds : (name : Ident) → use_faults name.at (module_use ds scope name) ≡ [] → IsCalled name
  called_holds name none =
      let m = means_one parameters_of (meaning ds scope name) name.at none in
      let d = m.declaration in
      let number : number_of ds scope name ≡ d.number = ap number_or_0 m.found in
      let has = is_a_module h d.scope d.sort d.number d.name.text m.value (meaning_has name d m.found) m.viewed in
      record { kinds = m.value; wanted = meant_one parameters_of (meaning ds scope name) m; head = has.head; there = ap (slice_get h.modules) number ∙ has.there; takes = has.takes }
