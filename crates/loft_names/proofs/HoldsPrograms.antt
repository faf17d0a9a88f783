-- Programs: their names fit where they hold, and hold where they fit.
use Rattle.std.proofs.Common.{◌≡◌, ℕ, zero, suc, true, false, ◌&&◌, ◌||◌, List, [], ◌∷◌, ◌++◌, length, Option, Some, None, refl, sym, ap, subst, ◌∙◌, append_assoc, arith}
use Rattle.std.specs.Prelude.{slice_get}
use Rattle.std.proofs.lemmas.Option.{slice_get_within}
use Rattle.std.specs.List.{list_any}
use Rattle.std.specs.Str.{bytes_eq}
use Rattle.std.proofs.lemmas.Bool.{or_left, or_right, and_parts}
use Rattle.std.proofs.lemmas.Slice.Eq.{bytes_eq-Decides}
use Rattle.loft_tree.specs.declared.kinds.Kind.{Kind}
use Rattle.loft_tree.specs.declared.kinds.Kind.TheVariants.{Int, Thread}
use Rattle.loft_tree.specs.Fits.{Each, IfThere}
use Rattle.loft_tree.specs.Source.{Ident, PlaceName, InScheduler, Unlinked, Argument, ANumber, AName, Order, CreateThere, ControlThere, BroadcastThere, Declaration, Scheduler, Event, Shared, Module, Start, Outside, Source}
use Rattle.loft_scopes.specs.Modules.{next_module}
use Rattle.loft_scopes.specs.declared.scope.Scope.{Scope}
use Rattle.loft_scopes.specs.declared.scope.Scope.TheVariants.{Everywhere, Within}
use Rattle.loft_scopes.specs.Scopes.{AScheduler, AStart, Declared, declared, earlier, seen_together, same_name}
use Rattle.loft_scopes.specs.Faults.{meant, use_faults, unlike, kinds_wanted, arity_faults, thread_if, is_start, is_scheduler, declares_scheduler, again, twice_from, uses_from, NamesFit, scheduler_faults, place_faults, end_faults, argument_faults, argument_kind, argument_at, outer_faults, module_use, start_use, start_faults, order_faults, orders_faults, declaration_uses}
use Rattle.loft_names.specs.NamesHold.{MeansA, ArgumentIs, OuterAgree, MakesThread, OrderAgrees, PlaceAgrees, DeclarationAgrees, UsesAgree, NamesApart, NamesHold}
use Rattle.loft_names.proofs.HeadsLists.{found_in, index_of, contains_at}
use Rattle.loft_names.proofs.HeadsMeaning.{none_left, none_right}
use Rattle.loft_names.proofs.HeadsCalls.{arity_holds, kind_holds}
use Rattle.loft_names.proofs.HeadsTwice.{at_one_index, together-sym}
use Rattle.loft_names.proofs.HoldsValues.{none_both, unlike_none, arity_none, means_view, scheduler_sort, scheduler_means, scheduler_none, event_means, event_none, start_means, start_none, module_means, module_meant}
use Rattle.loft_names.proofs.HoldsStatements.{body_agrees, body_none}

module _ (ds : List Declared) (scope : Scope) where
  place_agrees : (place : PlaceName) → place_faults ds scope place ≡ [] → PlaceAgrees ds scope place
  place_agrees (InScheduler name) none = scheduler_means ds scope name none
  place_agrees Unlinked none = tt

  place_none : (place : PlaceName) → PlaceAgrees ds scope place → place_faults ds scope place ≡ []
  place_none (InScheduler name) agrees = scheduler_none ds scope name agrees
  place_none Unlinked agrees = refl

  end_agrees : (place : Option PlaceName) → end_faults ds scope place ≡ [] → IfThere (PlaceAgrees ds scope) place
  end_agrees None none = tt
  end_agrees (Some place) none = place_agrees place none

  end_none : (place : Option PlaceName) → IfThere (PlaceAgrees ds scope) place → end_faults ds scope place ≡ []
  end_none None agrees = refl
  end_none (Some place) agrees = place_none place agrees

  -- ---- arguments

  thread_kind : (name : Ident) → MeansA ds scope AStart name → argument_kind ds scope (AName name) ≡ Some Thread
  thread_kind name m = ap meant (means_view ds scope (thread_if is_start) AStart Thread name refl m)

  argument_is : (kind : Kind) (a : Argument) (at : ℕ) → argument_faults ds scope a ≡ [] → unlike (Some kind) (argument_kind ds scope a) at ≡ [] → ArgumentIs ds scope a kind
  argument_is kind (ANumber a value) at none alike = kind_holds kind Int at alike
  argument_is kind (AName name) at none alike =
      let m = start_means ds scope name none in (m, kind_holds kind Thread at (ap (λ o. unlike (Some kind) o at) (sym (thread_kind name m)) ∙ alike))

  argument_none : (kind : Kind) (a : Argument) (at : ℕ) → ArgumentIs ds scope a kind → (argument_faults ds scope a ≡ []) × (unlike (Some kind) (argument_kind ds scope a) at ≡ [])
  argument_none kind (ANumber a value) at is = (refl, unlike_none kind (Some Int) at (ap Some (sym is)))
  argument_none kind (AName name) at is = (start_none ds scope name is.0, unlike_none kind (argument_kind ds scope (AName name)) at (thread_kind name is.0 ∙ ap Some (sym is.1)))

  outer_agree : (ks : List Kind) (args : List Argument) → length args ≡ length ks → outer_faults ds scope ks args ≡ [] → OuterAgree ds scope ks args
  outer_agree [] [] many none = tt
  outer_agree [] (a ∷ args) many none = absurd cc
  outer_agree (k ∷ ks) [] many none = absurd cc
  outer_agree (k ∷ ks) (a ∷ args) many none =
      let rest = none_right (argument_faults ds scope a) _ none in
      (argument_is k a (argument_at a) (none_left _ _ none) (none_left _ _ rest), outer_agree ks args (omega arith) (none_right (unlike (Some k) (argument_kind ds scope a) (argument_at a)) _ rest))

  outer_none : (ks : List Kind) (args : List Argument) → OuterAgree ds scope ks args → (length args ≡ length ks) × (outer_faults ds scope ks args ≡ [])
  outer_none [] [] agree = (refl, refl)
  outer_none [] (a ∷ args) agree = absurd agree
  outer_none (k ∷ ks) [] agree = absurd agree
  outer_none (k ∷ ks) (a ∷ args) agree =
      let here = argument_none k a (argument_at a) agree.0 in
      let rest = outer_none ks args agree.1 in
      (ap suc rest.0, none_both _ _ here.0 (none_both _ _ here.1 rest.1))

  -- ---- threads that are made, and orders

  makes_thread : (scheduler called : Ident) (args : List Argument) → start_faults ds scope scheduler called args ≡ [] → MakesThread ds scope scheduler called args
  makes_thread scheduler called args none =
      let after_scheduler = none_right (scheduler_faults ds scope scheduler) _ none in
      let after_use = none_right (use_faults called.at (module_use ds scope called)) _ after_scheduler in
      let arity = none_left (arity_faults called.at (meant (module_use ds scope called)) (length args)) _ after_use in
      let outer = none_right (arity_faults called.at (meant (module_use ds scope called)) (length args)) _ after_use in
      let m = module_means ds scope called (none_left _ _ after_scheduler) in
      let is : meant (module_use ds scope called) ≡ Some m.0 = ap meant (module_meant ds scope called m.0 m.1) in
      let many = arity_holds called.at m.0 (length args) (ap (λ o. arity_faults called.at o (length args)) (sym is) ∙ arity) in
      (scheduler_means ds scope scheduler (none_left _ _ none), m.0, m.1, outer_agree m.0 args many (ap (λ o. outer_faults ds scope (kinds_wanted o) args) (sym is) ∙ outer))

  thread_none : (scheduler called : Ident) (args : List Argument) → MakesThread ds scope scheduler called args → start_faults ds scope scheduler called args ≡ []
  thread_none scheduler called args (there, kinds, m, agree) =
      let is = module_meant ds scope called kinds m in
      let rest = outer_none kinds args agree in
      none_both _ _ (scheduler_none ds scope scheduler there)
      (none_both _ _ (ap (use_faults called.at) is)
      (none_both _ _ (ap (λ u. arity_faults called.at (meant u) (length args)) is ∙ arity_none ds scope called.at kinds (length args) rest.0)
      (ap (λ u. outer_faults ds scope (kinds_wanted (meant u)) args) is ∙ rest.1)))

  order_agrees : (x : Order) → order_faults ds scope x ≡ [] → OrderAgrees ds scope x
  order_agrees (CreateThere scheduler called arguments) none = makes_thread scheduler called arguments none
  order_agrees (ControlThere control thread scheduler) none =
      (start_means ds scope thread (none_left _ _ none), scheduler_means ds scope scheduler (none_right (use_faults thread.at (start_use ds scope thread)) _ none))
  order_agrees (BroadcastThere event value) none = event_means ds scope event none

  order_none : (x : Order) → OrderAgrees ds scope x → order_faults ds scope x ≡ []
  order_none (CreateThere scheduler called arguments) agrees = thread_none scheduler called arguments agrees
  order_none (ControlThere control thread scheduler) agrees = none_both _ _ (start_none ds scope thread agrees.0) (scheduler_none ds scope scheduler agrees.1)
  order_none (BroadcastThere event value) agrees = event_none ds scope event agrees

  orders_agree : (xs : List Order) → orders_faults ds scope xs ≡ [] → Each (OrderAgrees ds scope) xs
  orders_agree [] none = tt
  orders_agree (x ∷ xs) none = (order_agrees x (none_left _ _ none), orders_agree xs (none_right (order_faults ds scope x) _ none))

  orders_none : (xs : List Order) → Each (OrderAgrees ds scope) xs → orders_faults ds scope xs ≡ []
  orders_none [] agree = refl
  orders_none (x ∷ xs) agree = none_both _ _ (order_none x agree.0) (orders_none xs agree.1)

-- ---- uses

declaration_agrees : (ds : List Declared) (m : ℕ) (d : Declaration) → declaration_uses ds m d ≡ [] → DeclarationAgrees ds m d
declaration_agrees ds m (Scheduler name) none = tt
declaration_agrees ds m (Event name scheduler) none = scheduler_means ds Everywhere scheduler none
declaration_agrees ds m (Shared name scheduler value) none = scheduler_means ds Everywhere scheduler none
declaration_agrees ds m (Module head locals body) none =
    let rest = none_right (place_faults ds (Within m) head.begin) _ none in
    (place_agrees ds (Within m) head.begin (none_left _ _ none), end_agrees ds (Within m) head.end (none_left _ _ rest), body_agrees ds (Within m) body (none_right (end_faults ds (Within m) head.end) _ rest))
declaration_agrees ds m (Start scheduler called arguments name) none = makes_thread ds Everywhere scheduler called arguments none
declaration_agrees ds m (Outside name orders) none = orders_agree ds Everywhere orders none

declaration_none : (ds : List Declared) (m : ℕ) (d : Declaration) → DeclarationAgrees ds m d → declaration_uses ds m d ≡ []
declaration_none ds m (Scheduler name) agrees = refl
declaration_none ds m (Event name scheduler) agrees = scheduler_none ds Everywhere scheduler agrees
declaration_none ds m (Shared name scheduler value) agrees = scheduler_none ds Everywhere scheduler agrees
declaration_none ds m (Module head locals body) agrees =
    none_both _ _ (place_none ds (Within m) head.begin agrees.0) (none_both _ _ (end_none ds (Within m) head.end agrees.1) (body_none ds (Within m) body agrees.2))
declaration_none ds m (Start scheduler called arguments name) agrees = thread_none ds Everywhere scheduler called arguments agrees
declaration_none ds m (Outside name orders) agrees = orders_none ds Everywhere orders agrees

pub uses_agree : (ds : List Declared) (m : ℕ) (p : Source) → uses_from ds m p ≡ [] → UsesAgree ds m p
uses_agree ds m [] none = tt
uses_agree ds m (d ∷ rest) none = (declaration_agrees ds m d (none_left _ _ none), uses_agree ds (next_module m d) rest (none_right (declaration_uses ds m d) _ none))

pub uses_none : (ds : List Declared) (m : ℕ) (p : Source) → UsesAgree ds m p → uses_from ds m p ≡ []
uses_none ds m [] agree = refl
uses_none ds m (d ∷ rest) agree = none_both _ _ (declaration_none ds m d agree.0) (uses_none ds (next_module m d) rest agree.1)

-- ---- names

names_apart : (ds : List Declared) → twice_from [] ds ≡ [] → NamesApart ds
names_apart ds none = λ i j d e is also together named. at_one_index [] ds none i j d e is also (record { named = named; together = together })

-- what comes before and after
after_those : {A : Type 0} (before : List A) (x : A) (xs : List A) → slice_get (before ++ x ∷ xs) (length before) ≡ Some x
after_those [] x xs = refl
after_those (y ∷ ys) x xs = after_those ys x xs

among_those : {A : Type 0} (before : List A) (xs : List A) (k : ℕ) (x : A) → slice_get before k ≡ Some x → slice_get (before ++ xs) k ≡ Some x
among_those [] xs k x is = absurd cc
among_those (y ∷ ys) xs zero x is = is
among_those (y ∷ ys) xs (suc k) x is = among_those ys xs k x is

same_bytes : (xs ys : List ℕ) → bytes_eq xs ys ≡ true → xs ≡ ys
same_bytes xs ys is = (bytes_eq-Decides xs ys).0 is

again_none : (before : List Declared) (d : Declared) (ds : List Declared) → NamesApart (before ++ d ∷ ds) → (o : Option Declared) → earlier before d ≡ o → again d o ≡ []
again_none before d ds apart None is = refl
again_none before d ds apart (Some first) is =
    let found = found_in (λ x. same_name d.name x && seen_together d.scope x.scope) before first is in
    let parts = and_parts (same_name d.name first) (seen_together d.scope first.scope) found.1 in
    let at = index_of before first found.0 in
    let same : first.name.text ≡ d.name.text = same_bytes first.name.text d.name.text parts.0 in
    let index = apart at.0 (length before) first d (among_those before (d ∷ ds) at.0 first at.1) (after_those before d ds) (together-sym d.scope first.scope parts.1) same in
    let within = slice_get_within before at.0 first at.1 in
    absurd (omega (arith, index, within))

pub twice_none : (before ds : List Declared) → NamesApart (before ++ ds) → twice_from before ds ≡ []
twice_none before [] apart = refl
twice_none before (d ∷ ds) apart =
    none_both _ _ (again_none before d ds apart (earlier before d) refl)
    (twice_none (before ++ d ∷ []) ds (subst NamesApart (sym (append_assoc before (d ∷ []) ds)) apart))

-- ---- schedulers

declares : (ds : List Declared) → list_any declares_scheduler ds ≡ true → (k : ℕ) × (d : Declared) × (slice_get ds k ≡ Some d) × (d.sort ≡ AScheduler)
declares [] some = absurd cc
declares (d ∷ ds) some = elim (is_scheduler d.sort) as (λ b. is_scheduler d.sort ≡ b → (b || list_any declares_scheduler ds) ≡ true → (k : ℕ) × (x : Declared) × (slice_get (d ∷ ds) k ≡ Some x) × (x.sort ≡ AScheduler)) [
  | true ↦ λ is some. (0, d, refl, scheduler_sort d.sort is)
  | false ↦ λ is later. let rest = declares ds later in (suc rest.0, rest.1, rest.2, rest.3)
] refl some

declared_so : (ds : List Declared) (k : ℕ) (d : Declared) → slice_get ds k ≡ Some d → d.sort ≡ AScheduler → list_any declares_scheduler ds ≡ true
declared_so [] k d is sort = absurd cc
declared_so (x ∷ ds) zero d is sort = let same : x ≡ d = cc in or_left (is_scheduler x.sort) (list_any declares_scheduler ds) (ap (λ y. is_scheduler y.sort) same ∙ ap is_scheduler sort)
declared_so (x ∷ ds) (suc k) d is sort = or_right (is_scheduler x.sort) (list_any declares_scheduler ds) (declared_so ds k d is sort)

-- ---- the law

pub fits_holds : (p : Source) → NamesFit p → NamesHold p
fits_holds p fits = record {
  scheduler = let found = declares (declared p) fits.scheduler in (found.1, contains_at (declared p) found.0 found.1 found.2, found.3);
  apart = names_apart (declared p) (none_left _ _ fits.faultless);
  uses = uses_agree (declared p) 0 p (none_right (twice_from [] (declared p)) _ fits.faultless);
}

pub holds_fits : (p : Source) → NamesHold p → NamesFit p
holds_fits p holds = record {
  scheduler = let at = index_of (declared p) holds.scheduler.0 holds.scheduler.1 in declared_so (declared p) at.0 holds.scheduler.0 at.1 holds.scheduler.2;
  faultless = none_both _ _ (twice_none [] (declared p) holds.apart) (uses_none (declared p) 0 p holds.uses);
}
