-- In the draft of code each thread is made where it can begin.
use Rattle.std.proofs.Common.{◌≡◌, ℕ, zero, suc, true, List, [], ◌∷◌, ◌++◌, Option, Some, None, map, refl, ap, ◌∙◌}
use Rattle.std.specs.Prelude.{slice_get, if◌then◌else◌}
use Rattle.std.specs.List.{flat_map}
use Rattle.std.specs.Option.{option_and_then}
use Rattle.std.proofs.lemmas.Bool.{eq-eqb}
use Rattle.loft_base.specs.declared.ids.SchedId.{SchedId}
use Rattle.loft_base.specs.declared.ids.ModuleId.{ModuleId}
use Rattle.loft_base.specs.declared.ids.Value.{Value}
use Rattle.loft_tree.specs.declared.heads.Place.TheVariants.{Sched}
use Rattle.loft_tree.specs.declared.heads.Signature.{Signature}
use Rattle.loft_tree.specs.declared.heads.ClientOrder.{ClientOrder}
use Rattle.loft_tree.specs.declared.heads.ClientOrder.TheVariants as order
use Rattle.loft_tree.specs.declared.heads.Heads.{Heads}
use Rattle.loft_tree.specs.Fits.{Each}
use Rattle.loft_tree.specs.HeadsFit.{HeadsFit, TakesIn}
use Rattle.loft_tree.specs.NamedFits.{IsScheduler}
use Rattle.loft_tree.specs.Source.{ModuleHead}
use Rattle.loft_scopes.specs.Scopes.{Declared}
use Rattle.loft_scopes.specs.declared.scope.Scope.{Scope}
use Rattle.loft_scopes.specs.declared.scope.Scope.TheVariants.{Everywhere, Within}
use Rattle.loft_scopes.specs.Faults.{is_scheduler}
use Rattle.loft_code.specs.Fits.{ClientOrderFits}
use Rattle.loft_listing_draft.specs.Drafts.{source_of}
use Rattle.loft_listing_draft.specs.Lined.{head_at, name_at, order_at, place_at}
use Rattle.loft_listing.specs.Called.{called_head, called_module, called_order, called_place, called_scheduler}
use Rattle.loft_listing_names.specs.Wrong as wrong
use Rattle.loft_listing_names.specs.Wrong.{begins_in, can_begin, declaration_misplaced, if_module, if_scheduler, misplaced, order_misplaced, place_meant, same_number}
use Rattle.loft_listing_roundtrip.proofs.Parts.{Part, ModulePart, StartPart, ClientPart, modules_in}
use Rattle.loft_listing_roundtrip.proofs.Saying.{after_name, after_order, after_part, orders_from, said}
use Rattle.loft_listing_roundtrip.proofs.OneMeaning.{Says}
use Rattle.loft_listing_roundtrip.proofs.Called.{module_meant, scheduler_meant}
use Rattle.loft_listing_roundtrip.proofs.PartsHold.{PartKeeps}

-- the heads of modules in the draft
pub heads_there : (h : Heads) (at : ℕ) (ps : List Part) (k : ℕ) (m : Signature) → slice_get (modules_in ps) k ≡ Some m
    → (l : ℕ) × (slice_get (wrong.heads_in (source_of (said h at ps))) k ≡ Some (head_at l (called_head h m)))
heads_there h at [] k m is = absurd cc
heads_there h at (ModulePart x lines ∷ ps) zero m is = let same : x ≡ m = cc in (at, ap (λ y. Some (head_at at (called_head h y))) same)
heads_there h at (ModulePart x lines ∷ ps) (suc k) m is = heads_there h (after_part h at (ModulePart x lines)) ps k m is
heads_there h at (p ∷ ps) k m is = heads_there h (after_part h at p) ps k m is

taken_in : (s : SchedId) (o : Option Signature) (args : List Value) → TakesIn s o args → (m : Signature) × (o ≡ Some m) × (m.begin ≡ Sched s)
taken_in s None args takes = absurd takes
taken_in s (Some m) args takes = (m, refl, takes.0)

none_in_all : {A B : Type 0} (f : A → List B) (xs : List A) → Each (λ x. f x ≡ []) xs → flat_map f xs ≡ []
none_in_all f [] each = refl
none_in_all f (x ∷ xs) each = (λ i. each.0 i ++ none_in_all f xs each.1 i)

module _ (ds : List Declared) (h : Heads) (says : Says ds h) (heads : List ModuleHead)
    (there : (k : ℕ) (m : Signature) → slice_get h.modules k ≡ Some m → (l : ℕ) × (slice_get heads k ≡ Some (head_at l (called_head h m)))) where
  scheduler_is : (from : Scope) (at : ℕ) (s : SchedId) → IsScheduler h s → wrong.scheduler_meant ds from (name_at at (called_scheduler h s)) ≡ Some s.0
  scheduler_is from at s less =
      let m = scheduler_meant ds h says from s less in
      ap (option_and_then (λ d. if_scheduler (is_scheduler d.sort) d.number)) m.means ∙ (λ i. if_scheduler (is_scheduler (m.sorted i)) (m.numbered i))

  module_is : (at : ℕ) (m : ModuleId) (signature : Signature) → slice_get h.modules m.0 ≡ Some signature → wrong.module_meant ds (name_at at (called_module h m)) ≡ Some m.0
  module_is at m signature is =
      let x = module_meant ds h says Everywhere m signature is in
      ap (option_and_then (λ d. if_module d.sort d.number)) x.means ∙ (λ i. if_module (x.sorted i) (x.numbered i))

  begins_there : (s : SchedId) (m : ModuleId) (signature : Signature) → slice_get h.modules m.0 ≡ Some signature → signature.begin ≡ Sched s → IsScheduler h s → begins_in ds heads m.0 ≡ Some s.0
  begins_there s m signature is begin less =
      let head = there m.0 signature is in
      ap (option_and_then (λ (x : ModuleHead). place_meant ds m.0 x.begin)) head.1
      ∙ ap (λ p. place_meant ds m.0 (place_at head.0 (called_place h p))) begin
      ∙ scheduler_is (Within m.0) head.0 s less

  thread_placed : (at : ℕ) (s : SchedId) (m : ModuleId) (args : List Value) → HeadsFit h s m args → misplaced ds heads (name_at at (called_scheduler h s)) (name_at at (called_module h m)) ≡ []
  thread_placed at s m args fits =
      let taken = taken_in s (slice_get h.modules m.0) args fits.1 in
      let begins = begins_there s m taken.0 taken.1 taken.2 fits.0 in
      let can : can_begin ds heads (name_at at (called_scheduler h s)) (name_at at (called_module h m)) ≡ true =
      (λ i. same_number (scheduler_is Everywhere at s fits.0 i) (option_and_then (begins_in ds heads) (module_is at m taken.0 taken.1 i)))
      ∙ ap (same_number (Some s.0)) begins ∙ eq-eqb s.0 s.0 refl in
      ap (λ b. if b then [] else at ∷ []) can

  order_placed : (at : ℕ) (x : ClientOrder) → ClientOrderFits h x → order_misplaced ds heads (order_at at (called_order h x)) ≡ []
  order_placed at (order.Create s m args) fits = thread_placed at s m args fits
  order_placed at (order.Control control t s) fits = refl
  order_placed at (order.Broadcast event value) fits = refl

  orders_placed : (at : ℕ) (xs : List ClientOrder) → Each (ClientOrderFits h) xs → flat_map (order_misplaced ds heads) (orders_from at (map (called_order h) xs)) ≡ []
  orders_placed at [] fit = refl
  orders_placed at (x ∷ xs) fit = (λ i. order_placed at x fit.0 i ++ orders_placed (after_order at (called_order h x)) xs fit.1 i)

  pub threads_placed : (at : ℕ) (ps : List Part) → Each (PartKeeps h) ps → flat_map (declaration_misplaced ds heads) (source_of (said h at ps)) ≡ []
  threads_placed at [] keep = refl
  threads_placed at (StartPart t ∷ ps) keep = (λ i. thread_placed at t.scheduler t.module t.arguments keep.0.fits i ++ threads_placed (after_part h at (StartPart t)) ps keep.1 i)
  threads_placed at (ClientPart c ∷ ps) keep = (λ i. orders_placed (after_name at c.name) c.orders keep.0.fits i ++ threads_placed (after_part h at (ClientPart c)) ps keep.1 i)
  threads_placed at (p ∷ ps) keep = threads_placed (after_part h at p) ps keep.1
