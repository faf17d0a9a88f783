-- The names of the draft of code are right outside operations.
use Rattle.std.proofs.Common.{◌≡◌, ℕ, ◌+◌, true, Bool, false, List, [], ◌∷◌, Option, Some, None, map, refl, subst}
use Rattle.std.specs.Prelude.{slice_get, if◌then◌else◌}
use Rattle.std.specs.Option.{option_map}
use Rattle.std.proofs.lemmas.Bool.{and_parts}
use Rattle.loft_base.specs.declared.ids.SchedId.{SchedId}
use Rattle.loft_base.specs.declared.ids.ModuleId.{ModuleId}
use Rattle.loft_base.specs.declared.ids.ThreadId.{ThreadId}
use Rattle.loft_base.specs.declared.ids.Value.{Value}
use Rattle.loft_base.specs.declared.ids.Value.TheVariants as value
use Rattle.loft_tree.specs.declared.kinds.Kind.{Kind}
use Rattle.loft_tree.specs.declared.kinds.Kind.TheVariants.{Int, Thread}
use Rattle.loft_tree.specs.declared.heads.Place.{Place}
use Rattle.loft_tree.specs.declared.heads.Place.TheVariants.{Sched, Unlinked}
use Rattle.loft_tree.specs.declared.heads.Signature.{Signature}
use Rattle.loft_tree.specs.declared.heads.ClientOrder.{ClientOrder}
use Rattle.loft_tree.specs.declared.heads.ClientOrder.TheVariants as order
use Rattle.loft_tree.specs.declared.heads.Heads.{Heads}
use Rattle.loft_tree.specs.Fits.{Each, IfThere}
use Rattle.loft_tree.specs.HeadsFit.{agree, kinds_of, is_of}
use Rattle.loft_tree.specs.NamedFits.{ArgumentHolds, CallHolds, OrderHolds, TakesArguments, IsPlace, IsScheduler, IsStarted}
use Rattle.loft_scopes.specs.Scopes.{Declared, AScheduler, AStart}
use Rattle.loft_scopes.specs.declared.scope.Scope.{Scope}
use Rattle.loft_scopes.specs.declared.scope.Scope.TheVariants.{Everywhere, Within}
use Rattle.loft_names.specs.NamesHold.{ArgumentIs, MakesThread, MeansA, OrderAgrees, OuterAgree, PlaceAgrees, UsesAgree}
use Rattle.loft_code.specs.Places.{same_place}
use Rattle.loft_listing_draft.specs.Drafts.{source_of}
use Rattle.loft_listing_draft.specs.Lined.{argument_at, name_at, order_at, place_at}
use Rattle.loft_listing.specs.Called.{called_argument, called_event, called_module, called_order, called_place, called_scheduler, called_thread}
use Rattle.loft_listing_roundtrip.specs.ThreadsNamed.{ArgumentNamed, IsNamedThread, OrderNamed}
use Rattle.loft_listing_roundtrip.proofs.Parts.{Part, SchedulerPart, EventPart, SharedPart, ModulePart, StartPart, ClientPart}
use Rattle.loft_listing_roundtrip.proofs.Saying.{after_name, after_order, after_part, orders_from, said}
use Rattle.loft_listing_roundtrip.proofs.OneMeaning.{Says}
use Rattle.loft_listing_roundtrip.proofs.Called.{event_meant, means_a, module_meant, placed, scheduler_meant, thread_meant}
use Rattle.loft_listing_roundtrip.proofs.HeadsAgain.{signature_there}
use Rattle.loft_listing_roundtrip.proofs.PartsHold.{PartKeeps}

module _ (ds : List Declared) (h : Heads) (says : Says ds h) where
  scheduler_agrees : (from : Scope) (at : ℕ) (s : SchedId) → IsScheduler h s → MeansA ds from AScheduler (name_at at (called_scheduler h s))
  scheduler_agrees from at s less = means_a ds from _ _ _ (placed ds from _ _ (called_scheduler h s) at (scheduler_meant ds h says from s less))

  place_agrees : (from : Scope) (at : ℕ) (p : Place) → IsPlace h p → PlaceAgrees ds from (place_at at (called_place h p))
  place_agrees from at (Sched s) is = scheduler_agrees from at s is
  place_agrees from at Unlinked is = tt

  end_by : (from : Scope) (at : ℕ) (end : Place) (b : Bool) → IsPlace h end → IfThere (PlaceAgrees ds from) (option_map (place_at at) (if b then None else Some (called_place h end)))
  end_by from at end true is = tt
  end_by from at end false is = place_agrees from at end is

  thread_agrees : (at : ℕ) (t : ThreadId) → IsStarted h t → IsNamedThread h t → MeansA ds Everywhere AStart (name_at at (called_thread h t))
  thread_agrees at t started named = means_a ds Everywhere _ _ _ (placed ds Everywhere _ _ (called_thread h t) at (thread_meant ds h says Everywhere t started.0 named))

  -- ---- threads that are made

  argument_agrees : (at : ℕ) (v : Value) (kind : Kind) → ArgumentHolds h v → ArgumentNamed h v → is_of v kind ≡ true → ArgumentIs ds Everywhere (argument_at at (called_argument h v)) kind
  argument_agrees at (value.Int number) Int holds named is = refl
  argument_agrees at (value.Int number) Thread holds named is = absurd cc
  argument_agrees at (value.Thread t) Int holds named is = absurd cc
  argument_agrees at (value.Thread t) Thread holds named is = (thread_agrees at t holds named, refl)

  arguments_agree : (at : ℕ) (args : List Value) (kinds : List Kind) → Each (ArgumentHolds h) args → Each (ArgumentNamed h) args → agree kinds args ≡ true
      → OuterAgree ds Everywhere kinds (map (argument_at at) (map (called_argument h) args))
  arguments_agree at [] [] hold named is = tt
  arguments_agree at [] (kind ∷ kinds) hold named is = absurd cc
  arguments_agree at (v ∷ args) [] hold named is = absurd cc
  arguments_agree at (v ∷ args) (kind ∷ kinds) hold named is =
      let parts = and_parts (is_of v kind) (agree kinds args) is in
      (argument_agrees at v kind hold.0 named.0 parts.0, arguments_agree at args kinds hold.1 named.1 parts.1)

  makes_thread : (at : ℕ) (s : SchedId) (m : ModuleId) (args : List Value) → CallHolds h s m args → Each (ArgumentNamed h) args
      → MakesThread ds Everywhere (name_at at (called_scheduler h s)) (name_at at (called_module h m)) (map (argument_at at) (map (called_argument h) args))
  makes_thread at s m args holds named =
      let signature = signature_there (slice_get h.modules m.0) args holds.takes in
      let kinds : List Kind = kinds_of signature.0.parameters in
      let takes : TakesArguments (Some signature.0) args = subst (λ (o : Option Signature). TakesArguments o args) signature.1 holds.takes in (
        scheduler_agrees Everywhere at s holds.scheduler,
        kinds,
        means_a ds Everywhere _ _ _ (placed ds Everywhere _ _ (called_module h m) at (module_meant ds h says Everywhere m signature.0 signature.1)),
        arguments_agree at args kinds holds.arguments named takes,
      )

  order_agrees : (at : ℕ) (x : ClientOrder) → OrderHolds h x → OrderNamed h x → OrderAgrees ds Everywhere (order_at at (called_order h x))
  order_agrees at (order.Create s m args) holds named = makes_thread at s m args holds named
  order_agrees at (order.Control control t s) holds named = (thread_agrees at t holds.0 named, scheduler_agrees Everywhere at s holds.1)
  order_agrees at (order.Broadcast event value) holds named = means_a ds Everywhere _ _ _ (placed ds Everywhere _ _ (called_event h event).name at (event_meant ds h says Everywhere event holds.0))

  orders_agree : (at : ℕ) (xs : List ClientOrder) → Each (OrderHolds h) xs → Each (OrderNamed h) xs → Each (OrderAgrees ds Everywhere) (orders_from at (map (called_order h) xs))
  orders_agree at [] hold named = tt
  orders_agree at (x ∷ xs) hold named = (order_agrees at x hold.0 named.0, orders_agree (after_order at (called_order h x)) xs hold.1 named.1)

  -- ---- all

  -- the names of parts, where the next module has the number k
  pub uses_agree : (k at : ℕ) (ps : List Part) → Each (PartKeeps h) ps → UsesAgree ds k (source_of (said h at ps))
  uses_agree k at [] keep = tt
  uses_agree k at (SchedulerPart name ∷ ps) keep = (tt, uses_agree k (after_part h at (SchedulerPart name)) ps keep.1)
  uses_agree k at (EventPart x ∷ ps) keep = (scheduler_agrees Everywhere at x.scheduler keep.0.scheduler, uses_agree k (after_part h at (EventPart x)) ps keep.1)
  uses_agree k at (SharedPart x ∷ ps) keep = (scheduler_agrees Everywhere at x.scheduler keep.0.scheduler, uses_agree k (after_part h at (SharedPart x)) ps keep.1)
  uses_agree k at (ModulePart m lines ∷ ps) keep =
      ((place_agrees (Within k) at m.begin keep.0.0.begin, end_by (Within k) at m.end (same_place m.begin m.end) keep.0.0.end, tt), uses_agree (k + 1) (after_part h at (ModulePart m lines)) ps keep.1)
  uses_agree k at (StartPart t ∷ ps) keep = (makes_thread at t.scheduler t.module t.arguments keep.0.holds.call keep.0.named, uses_agree k (after_part h at (StartPart t)) ps keep.1)
  uses_agree k at (ClientPart c ∷ ps) keep = (orders_agree (after_name at c.name) c.orders keep.0.holds.orders keep.0.named, uses_agree k (after_part h at (ClientPart c)) ps keep.1)
