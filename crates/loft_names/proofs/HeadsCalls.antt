-- Threads that are made outside module bodies, in a program without faults: what they name is declared, and arguments agree.
use Rattle.std.proofs.Common.{◌≡◌, ℕ, suc, true, false, ◌==◌, List, [], ◌∷◌, length, Option, Some, refl, sym, ap, subst, ◌∙◌, arith}
use Rattle.std.specs.Prelude.{if◌then◌else◌}
use Rattle.std.proofs.lemmas.Bool.{and_from, eqb-true}
use Rattle.loft_tree.specs.declared.kinds.Kind.{Kind}
use Rattle.loft_tree.specs.declared.kinds.Kind.TheVariants.{Int, Thread}
use Rattle.loft_tree.specs.declared.heads.Heads.{Heads}
use Rattle.loft_tree.specs.declared.heads.Signature.{Signature}
use Rattle.loft_tree.specs.Source.{Ident, Argument, ANumber, AName, Order, CreateThere, ControlThere, BroadcastThere}
use Rattle.loft_tree.specs.Fits.{Each, ArgumentFits, CallFits, OrderFits}
use Rattle.loft_tree.specs.HeadsFit.{agree, is_of}
use Rattle.loft_tree.specs.NamedFits.{ArgumentHolds, TakesArguments, CallHolds, OrderHolds}
use Rattle.loft_scopes.specs.declared.error.NameError.TheVariants.{Arity}
use Rattle.loft_scopes.specs.declared.scope.Scope.{Scope}
use Rattle.loft_scopes.specs.Scopes.{Declared, meaning}
use Rattle.loft_scopes.specs.Faults.{used, allowed, only_if, use_faults, meant, is_start, arity_faults, kinds_wanted, outer_faults, argument_faults, argument_kind, argument_at, scheduler_faults, module_use, start_use, unlike, thread_if, start_faults, order_faults, orders_faults}
use Rattle.loft_numbers.specs.Numbers.{scheduler_of, module_of, argument_of, arguments_of, client_order, client_orders}
use Rattle.loft_names.specs.HeadOf.{HasHead}
use Rattle.loft_names.proofs.HeadsMeaning.{none_left, none_right, means_one, only_if_true, thread_if_true, scheduler_holds, event_holds, start_holds, called_holds}

pub arity_holds : (at : ℕ) (ks : List Kind) (many : ℕ) → arity_faults at (Some ks) many ≡ [] → many ≡ length ks
arity_holds at ks many none = elim (many == length ks) as (λ b. (many == length ks) ≡ b → (if b then [] else Arity at ∷ []) ≡ [] → many ≡ length ks) [
  | true ↦ λ same empty. eqb-true many (length ks) same
  | false ↦ λ differ fault. absurd cc
] refl none

-- a kind that isn't unlike the wanted one is that one
pub kind_holds : (wanted found : Kind) (at : ℕ) → unlike (Some wanted) (Some found) at ≡ [] → wanted ≡ found
kind_holds Int Int at none = refl
kind_holds Int Thread at none = absurd cc
kind_holds Thread Int at none = absurd cc
kind_holds Thread Thread at none = refl

module _ (ds : List Declared) (scope : Scope) where
  -- an argument's value is of the kind that the argument has
  of_kind : (a : Argument) → argument_faults ds scope a ≡ [] → (k : Kind) × (argument_kind ds scope a ≡ Some k) × (is_of (argument_of ds scope a) k ≡ true)
  of_kind (ANumber at number) none = (Int, refl, refl)
  of_kind (AName name) none =
      let m = means_one (only_if is_start) (meaning ds scope name) name.at none in
      let thread = thread_if_true is_start m.declaration.sort (only_if_true is_start m.declaration.sort m.value m.viewed) in
      (Thread, ap (λ o. meant (used (thread_if is_start) o)) m.found ∙ ap (λ v. meant (allowed v)) thread, refl)

  is_wanted : (k : Kind) (a : Argument) (at : ℕ) → argument_faults ds scope a ≡ [] → unlike (Some k) (argument_kind ds scope a) at ≡ [] → is_of (argument_of ds scope a) k ≡ true
  is_wanted k a at none alike =
      let of = of_kind a none in
      let same = kind_holds k of.0 at (ap (λ o. unlike (Some k) o at) (sym of.1) ∙ alike) in
      subst (λ (x : Kind). is_of (argument_of ds scope a) x ≡ true) (sym same) of.2

  agrees : (ks : List Kind) (args : List Argument) → length args ≡ length ks → outer_faults ds scope ks args ≡ [] → agree ks (arguments_of ds scope args) ≡ true
  agrees [] [] many none = refl
  agrees [] (a ∷ args) many none = absurd cc
  agrees (k ∷ ks) [] many none = absurd cc
  agrees (k ∷ ks) (a ∷ args) many none =
      let rest = none_right (argument_faults ds scope a) _ none in
      and_from _ _ (is_wanted k a (argument_at a) (none_left _ _ none) (none_left _ _ rest)) (agrees ks args (omega arith) (none_right (unlike (Some k) (argument_kind ds scope a) (argument_at a)) _ rest))

module _ (h : Heads) (ds : List Declared) (each : Each (HasHead h) ds) (scope : Scope) where
  argument_holds : (a : Argument) → ArgumentFits a → argument_faults ds scope a ≡ [] → ArgumentHolds h (argument_of ds scope a)
  argument_holds (ANumber at number) fits none = fits
  argument_holds (AName name) fits none = (refl, start_holds h ds each scope name none)

  arguments_hold : (ks : List Kind) (args : List Argument) → Each ArgumentFits args → outer_faults ds scope ks args ≡ [] → Each (ArgumentHolds h) (arguments_of ds scope args)
  arguments_hold ks [] fits none = tt
  arguments_hold [] (a ∷ args) fits none =
      (argument_holds a fits.0 (none_left _ _ none), arguments_hold [] args fits.1 (none_right (argument_faults ds scope a) _ none))
  arguments_hold (k ∷ ks) (a ∷ args) fits none =
      let rest = none_right (argument_faults ds scope a) _ none in
      (argument_holds a fits.0 (none_left _ _ none), arguments_hold ks args fits.1 (none_right (unlike (Some k) (argument_kind ds scope a) (argument_at a)) _ rest))

  pub call_holds : (scheduler called : Ident) (args : List Argument) → CallFits scheduler called args → start_faults ds scope scheduler called args ≡ []
      → CallHolds h (scheduler_of ds scope scheduler) (module_of ds scope called) (arguments_of ds scope args)
  call_holds scheduler called args fits none =
      let after_scheduler = none_right (scheduler_faults ds scope scheduler) _ none in
      let after_use = none_right (use_faults called.at (module_use ds scope called)) _ after_scheduler in
      let arity = none_left (arity_faults called.at (meant (module_use ds scope called)) (length args)) _ after_use in
      let outer = none_right (arity_faults called.at (meant (module_use ds scope called)) (length args)) _ after_use in
      let c = called_holds h ds each scope called (none_left _ _ after_scheduler) in
      let many = arity_holds called.at c.kinds (length args) (ap (λ o. arity_faults called.at o (length args)) (sym c.wanted) ∙ arity) in
      let alike = ap (λ o. outer_faults ds scope (kinds_wanted o) args) (sym c.wanted) ∙ outer in
      let agreed = subst (λ (ks : List Kind). agree ks (arguments_of ds scope args) ≡ true) (sym c.takes) (agrees ds scope c.kinds args many alike) in
      record {
        scheduler = scheduler_holds h ds each scope scheduler (none_left _ _ none);
        arguments = arguments_hold _ args fits.each outer;
        takes = subst (λ (o : Option Signature). TakesArguments o (arguments_of ds scope args)) (sym c.there) agreed;
      }

  pub order_holds : (x : Order) → OrderFits x → order_faults ds scope x ≡ [] → OrderHolds h (client_order ds scope x)
  order_holds (CreateThere scheduler called arguments) fits none = call_holds scheduler called arguments fits none
  order_holds (ControlThere control thread scheduler) fits none =
      ((refl, start_holds h ds each scope thread (none_left _ _ none)), scheduler_holds h ds each scope scheduler (none_right (use_faults thread.at (start_use ds scope thread)) _ none))
  order_holds (BroadcastThere event value) fits none = (event_holds h ds each scope event none, fits.1)

  pub orders_hold : (xs : List Order) → Each OrderFits xs → orders_faults ds scope xs ≡ [] → Each (OrderHolds h) (client_orders ds scope xs)
  orders_hold [] fits none = tt
  orders_hold (x ∷ xs) fits none = (order_holds x fits.0 (none_left _ _ none), orders_hold xs fits.1 (none_right (order_faults ds scope x) _ none))

  pub orders-length : (xs : List Order) → length (client_orders ds scope xs) ≡ length xs
  orders-length [] = refl
  orders-length (x ∷ xs) = ap suc (orders-length xs)
