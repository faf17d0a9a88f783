-- What is wrong with the names and kinds of a program is as much without offsets.
use Rattle.std.proofs.Common.{◌≡◌, ℕ, List, [], ◌∷◌, ◌++◌, map, length, Option, Some, None, option_map, refl, sym, ap, ◌∙◌, subst}
use Rattle.std.proofs.lemmas.List.{map-append, length-map}
use Rattle.std.specs.List.{list_any}
use Rattle.loft_tree.specs.declared.kinds.Kind.{Kind}
use Rattle.loft_tree.specs.Source.{Ident, Argument, ANumber, AName, Order, CreateThere, ControlThere, BroadcastThere, Declaration, Scheduler, Event, Shared, Module, Start, Outside, Source}
use Rattle.loft_show.specs.Places.{bare_name, bare_argument, bare_order, bare_declaration, without_places}
use Rattle.loft_scopes.specs.declared.scope.Scope.{Scope}
use Rattle.loft_scopes.specs.declared.scope.Scope.TheVariants.{Everywhere, Within}
use Rattle.loft_scopes.specs.Scopes.{Declared, declared, earlier, none_yet}
use Rattle.loft_scopes.specs.Modules.{next_module}
use Rattle.loft_scopes.specs.Faults.{Use, again, argument_at, argument_faults, argument_kind, declaration_uses, declares_scheduler, faults, is_start, kinds_wanted, meant, module_use, only_if, order_faults, orders_faults, outer_faults, parameters_of, start_faults, thread_if, twice_from, uses_from, NamesFit}
use Rattle.loft_offsets.proofs.Alike.{both, emptied, none}
use Rattle.loft_offsets.proofs.Declared.{bare_declared, bares, declared_bare, earlier_bare, next_bare}
use Rattle.loft_offsets.proofs.Declared as names
use Rattle.loft_offsets.proofs.Faults.{AsMany, arity_same, body_bare, end_bare, event_bare, mark, name_use, place_bare, scheduler_bare, unlike_same, use_bare}

-- the declarations of the program, and where its names are used
module _ (ds : List Declared) (scope : Scope) where
  argument_bare : (a : Argument) → AsMany (argument_faults (bares ds) scope (bare_argument a)) (argument_faults ds scope a)
  argument_bare (ANumber at value) = none
  argument_bare (AName name) = use_bare ds scope (only_if is_start) name

  kind_bare : (a : Argument) → argument_kind (bares ds) scope (bare_argument a) ≡ argument_kind ds scope a
  kind_bare (ANumber at value) = refl
  kind_bare (AName name) = ap meant (name_use ds scope (thread_if is_start) name)

  outer_bare : (kinds : List Kind) (args : List Argument) → AsMany (outer_faults (bares ds) scope kinds (map bare_argument args)) (outer_faults ds scope kinds args)
  outer_bare kinds [] = none
  outer_bare [] (a ∷ args) = both (argument_bare a) (outer_bare [] args)
  outer_bare (kind ∷ kinds) (a ∷ args) =
      both (argument_bare a)
      (both (unlike_same (Some kind) (Some kind) (argument_kind (bares ds) scope (bare_argument a)) (argument_kind ds scope a) (argument_at (bare_argument a)) (argument_at a) refl (kind_bare a))
      (outer_bare kinds args))

  made_bare : (scheduler called : Ident) (args : List Argument)
      → AsMany (start_faults (bares ds) scope (bare_name scheduler) (bare_name called) (map bare_argument args)) (start_faults ds scope scheduler called args)
  made_bare scheduler called args =
      let u : Use (List Kind) = module_use (bares ds) scope (bare_name called) in
      let v : Use (List Kind) = module_use ds scope called in
      let is : u ≡ v = name_use ds scope parameters_of called in
      both (scheduler_bare ds scope scheduler)
      (both (use_bare ds scope parameters_of called)
      (both (arity_same u v (length (map bare_argument args)) (length args) 0 called.at is (length-map args bare_argument))
      (subst (λ (x : Use (List Kind)). AsMany (outer_faults (bares ds) scope (kinds_wanted (meant x)) (map bare_argument args)) (outer_faults ds scope (kinds_wanted (meant v)) args)) (sym is)
      (outer_bare (kinds_wanted (meant v)) args))))

  order_bare : (x : Order) → AsMany (order_faults (bares ds) scope (bare_order x)) (order_faults ds scope x)
  order_bare (CreateThere scheduler called arguments) = made_bare scheduler called arguments
  order_bare (ControlThere control thread scheduler) = both (use_bare ds scope (only_if is_start) thread) (scheduler_bare ds scope scheduler)
  order_bare (BroadcastThere event value) = event_bare ds scope event

  orders_bare : (xs : List Order) → AsMany (orders_faults (bares ds) scope (map bare_order xs)) (orders_faults ds scope xs)
  orders_bare [] = none
  orders_bare (x ∷ xs) = both (order_bare x) (orders_bare xs)

-- ---- programs

module _ (ds : List Declared) where
  declaration_bare : (number : ℕ) (d : Declaration) → AsMany (declaration_uses (bares ds) number (bare_declaration d)) (declaration_uses ds number d)
  declaration_bare number (Scheduler name) = none
  declaration_bare number (Event name scheduler) = scheduler_bare ds Everywhere scheduler
  declaration_bare number (Shared name scheduler value) = scheduler_bare ds Everywhere scheduler
  declaration_bare number (Module head locals body) =
      both (place_bare ds (Within number) head.begin) (both (end_bare ds (Within number) head.end) (body_bare ds (Within number) body))
  declaration_bare number (Start scheduler called arguments name) = made_bare ds Everywhere scheduler called arguments
  declaration_bare number (Outside name orders) = orders_bare ds Everywhere orders

  uses_bare : (number : ℕ) (p : Source) → AsMany (uses_from (bares ds) number (without_places p)) (uses_from ds number p)
  uses_bare number [] = none
  uses_bare number (d ∷ rest) =
      both (declaration_bare number d)
      (subst (λ (k : ℕ). AsMany (uses_from (bares ds) k (without_places rest)) (uses_from ds (next_module number d) rest)) (sym (next_bare number d))
      (uses_bare (next_module number d) rest))

again_one : (d : Declared) (o : Option Declared) → AsMany (again (bare_declared d) (option_map bare_declared o)) (again d o)
again_one d None = none
again_one d (Some first) = record { same = refl }

again_bare : (before : List Declared) (d : Declared) → AsMany (again (bare_declared d) (earlier (bares before) (bare_declared d))) (again d (earlier before d))
again_bare before d =
    subst (λ (o : Option Declared). AsMany (again (bare_declared d) o) (again d (earlier before d))) (sym (earlier_bare before d)) (again_one d (earlier before d))

twice_bare : (before ds : List Declared) → AsMany (twice_from (bares before) (bares ds)) (twice_from before ds)
twice_bare before [] = none
twice_bare before (d ∷ ds) =
    both (again_bare before d)
    (subst (λ (es : List Declared). AsMany (twice_from es (bares ds)) (twice_from (before ++ d ∷ []) ds)) (map-append bare_declared before (d ∷ []))
    (twice_bare (before ++ d ∷ []) ds))

faults_bare : (p : Source) → AsMany (faults (without_places p)) (faults p)
faults_bare p =
    subst (λ (ds : List Declared). AsMany (twice_from [] ds ++ uses_from ds 0 (without_places p)) (faults p)) (sym (declared_bare none_yet p))
    (both (twice_bare [] (declared p)) (uses_bare (declared p) 0 p))

-- names and kinds that are correct without offsets are correct, and the other way round
pub names_from : (p : Source) → NamesFit (without_places p) → NamesFit p
names_from p fit = record {
  scheduler = sym (ap (λ (ds : List Declared). list_any declares_scheduler ds) (declared_bare none_yet p) ∙ names.scheduler_bare (declared p)) ∙ fit.scheduler;
  faultless = emptied {f = mark} (faults p) (record { same = sym (ap (map mark) fit.faultless) ∙ (faults_bare p).same });
}

pub names_to : (p : Source) → NamesFit p → NamesFit (without_places p)
names_to p fit = record {
  scheduler = ap (λ (ds : List Declared). list_any declares_scheduler ds) (declared_bare none_yet p) ∙ names.scheduler_bare (declared p) ∙ fit.scheduler;
  faultless = emptied {f = mark} (faults (without_places p)) (record { same = sym (ap (map mark) fit.faultless) ∙ sym (faults_bare p).same });
}
