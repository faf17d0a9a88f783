-- Declarations whose names are right are written as they were read.
use Rattle.std.proofs.Common.{◌≡◌, ℕ, Bool, true, false, ◌==◌, List, [], ◌∷◌, Option, Some, None, map, refl, sym, ap, ◌∙◌}
use Rattle.std.specs.Prelude.{if◌then◌else◌}
use Rattle.std.specs.Option.{option_map}
use Rattle.std.specs.Str.{bytes_eq}
use Rattle.std.proofs.lemmas.Bool.{eq-eqb, eqb-true}
use Rattle.std.proofs.lemmas.Slice.Eq.{bytes_eq-Decides}
use Rattle.loft_tree.specs.declared.kinds.Kind.{Kind}
use Rattle.loft_tree.specs.declared.heads.Place.{Place}
use Rattle.loft_tree.specs.declared.heads.Place.TheVariants as place
use Rattle.loft_tree.specs.declared.heads.Heads.{Heads}
use Rattle.loft_tree.specs.Source.{AName, ANumber, Argument, BroadcastThere, ControlThere, CreateThere, Ident, InScheduler, ModuleHead, Named, Order, PlaceName, Unlinked}
use Rattle.loft_tree.specs.Fits as fits
use Rattle.loft_tree.specs.Fits.{Each, EndFits, IfThere}
use Rattle.loft_show.specs.Places.{bare_argument, bare_head, bare_name, bare_named, bare_order, bare_place}
use Rattle.loft_scopes.specs.Scopes.{AScheduler, Declared}
use Rattle.loft_scopes.specs.declared.scope.Scope.{Scope}
use Rattle.loft_scopes.specs.declared.scope.Scope.TheVariants.{Everywhere, Within}
use Rattle.loft_names.specs.HeadOf.{HasHead}
use Rattle.loft_names.specs.NamesHold.{ArgumentIs, MeansA, OrderAgrees, OuterAgree, PlaceAgrees}
use Rattle.loft_numbers.specs.Numbers.{argument_of, arguments_of, client_order, client_orders, end_of, name_text, number_of, place_of, signature_of, slots_of}
use Rattle.loft_code.specs.Places.{same_place}
use Rattle.loft_listing.specs.Called.{called, called_argument, called_end, called_head, called_order, called_place, called_scheduler, called_variable}
use Rattle.loft_listing_roundtrip.proofs.NamesBack.{event_back, module_back, scheduler_back, start_back}

-- parameters and local variables
pub variables_back : (vs : List Named) → map called_variable (slots_of vs) ≡ map bare_named vs
variables_back [] = refl
variables_back (v ∷ vs) = ap (λ ws. bare_named v ∷ ws) (variables_back vs)

same_place_self : (p : Place) → same_place p p ≡ true
same_place_self (place.Sched s) = eq-eqb s.0 s.0 refl
same_place_self place.Unlinked = refl

pub name_back : (name : Option Ident) → option_map called (name_text name) ≡ option_map bare_name name
name_back None = refl
name_back (Some name) = refl

module _ (ds : List Declared) (h : Heads) (each : Each (HasHead h) ds) where
  -- ---- places

  pub place_back : (from : Scope) (p : PlaceName) → PlaceAgrees ds from p → called_place h (place_of ds from p) ≡ bare_place p
  place_back from (InScheduler name) agrees = ap InScheduler (scheduler_back ds h each from name agrees)
  place_back from Unlinked agrees = refl

  -- two names of one scheduler are the same
  one_name : (from : Scope) (x y : Ident) → MeansA ds from AScheduler x → MeansA ds from AScheduler y → (b : Bool) → (number_of ds from x == number_of ds from y) ≡ b → bytes_eq x.text y.text ≡ false → b ≡ false
  one_name from x y means also true same differ =
      let number : number_of ds from x ≡ number_of ds from y = eqb-true (number_of ds from x) (number_of ds from y) same in
      let names : bare_name x ≡ bare_name y = sym (scheduler_back ds h each from x means) ∙ (λ i. called_scheduler h (record { 0 = number i })) ∙ scheduler_back ds h each from y also in
      let texts : x.text ≡ y.text = ap (λ (n : Ident). n.text) names in
      let both : true ≡ false = sym ((bytes_eq-Decides x.text y.text).1 texts) ∙ differ in absurd cc
  one_name from x y means also false same differ = refl

  places_differ : (from : Scope) (p q : PlaceName) → PlaceAgrees ds from p → PlaceAgrees ds from q → fits.same_place p q ≡ false → same_place (place_of ds from p) (place_of ds from q) ≡ false
  places_differ from (InScheduler x) (InScheduler y) agrees also differ = one_name from x y agrees also (number_of ds from x == number_of ds from y) refl differ
  places_differ from (InScheduler x) Unlinked agrees also differ = refl
  places_differ from Unlinked (InScheduler y) agrees also differ = refl
  places_differ from Unlinked Unlinked agrees also differ = absurd cc

  end_back : (from : Scope) (begin : PlaceName) (end : Option PlaceName) → PlaceAgrees ds from begin → IfThere (PlaceAgrees ds from) end → EndFits begin end
      → called_end h (place_of ds from begin) (end_of ds from begin end) ≡ option_map bare_place end
  end_back from begin None agrees also fit = ap (λ b. if b then None else Some (called_place h (place_of ds from begin))) (same_place_self (place_of ds from begin))
  end_back from begin (Some end) agrees also fit =
      ap (λ b. if b then None else Some (called_place h (place_of ds from end))) (places_differ from begin end agrees also fit.1) ∙ ap Some (place_back from end also)

  pub head_back : (m : ℕ) (head : ModuleHead) (locals : List Named) → PlaceAgrees ds (Within m) head.begin → IfThere (PlaceAgrees ds (Within m)) head.end → EndFits head.begin head.end
      → called_head h (signature_of ds m head locals) ≡ bare_head head
  head_back m head locals agrees also fit = (λ i. record {
    name = called head.name.text;
    parameters = variables_back head.parameters i;
    begin = place_back (Within m) head.begin agrees i;
    end = end_back (Within m) head.begin head.end agrees also fit i;
  })

  -- ---- threads that are made

  argument_back : (a : Argument) (kind : Kind) → ArgumentIs ds Everywhere a kind → called_argument h (argument_of ds Everywhere a) ≡ bare_argument a
  argument_back (ANumber at value) kind is = refl
  argument_back (AName name) kind is = ap AName (start_back ds h each Everywhere name is.0)

  pub arguments_back : (kinds : List Kind) (args : List Argument) → OuterAgree ds Everywhere kinds args → map (called_argument h) (arguments_of ds Everywhere args) ≡ map bare_argument args
  arguments_back [] [] agree = refl
  arguments_back [] (a ∷ args) agree = absurd agree
  arguments_back (kind ∷ kinds) [] agree = absurd agree
  arguments_back (kind ∷ kinds) (a ∷ args) agree = (λ i. argument_back a kind agree.0 i ∷ arguments_back kinds args agree.1 i)

  order_back : (x : Order) → OrderAgrees ds Everywhere x → called_order h (client_order ds Everywhere x) ≡ bare_order x
  order_back (CreateThere scheduler called arguments) agrees =
      (λ i. CreateThere (scheduler_back ds h each Everywhere scheduler agrees.0 i) (module_back ds h each Everywhere agrees.1 called agrees.2 i) (arguments_back agrees.1 arguments agrees.3 i))
  order_back (ControlThere control thread scheduler) agrees = (λ i. ControlThere control (start_back ds h each Everywhere thread agrees.0 i) (scheduler_back ds h each Everywhere scheduler agrees.1 i))
  order_back (BroadcastThere event value) agrees = (λ i. BroadcastThere (event_back ds h each Everywhere event agrees i) value)

  pub orders_back : (xs : List Order) → Each (OrderAgrees ds Everywhere) xs → map (called_order h) (client_orders ds Everywhere xs) ≡ map bare_order xs
  orders_back [] agree = refl
  orders_back (x ∷ xs) agree = (λ i. order_back x agree.0 i ∷ orders_back xs agree.1 i)
