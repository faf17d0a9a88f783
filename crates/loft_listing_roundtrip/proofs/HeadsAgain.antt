-- The draft of code declares what the code declares.
use Rattle.std.proofs.Common.{◌≡◌, ℕ, ◌+◌, Bool, true, false, List, [], ◌∷◌, Option, Some, None, map, refl, sym, ap, ◌∙◌}
use Rattle.std.specs.Prelude.{slice_get, if◌then◌else◌}
use Rattle.std.proofs.lemmas.Bool.{eqb-true}
use Rattle.loft_base.specs.declared.ids.SchedId.{SchedId}
use Rattle.loft_base.specs.declared.ids.ModuleId.{ModuleId}
use Rattle.loft_base.specs.declared.ids.ThreadId.{ThreadId}
use Rattle.loft_base.specs.declared.ids.Value.{Value}
use Rattle.loft_base.specs.declared.ids.Value.TheVariants as value
use Rattle.loft_tree.specs.declared.heads.Place.{Place}
use Rattle.loft_tree.specs.declared.heads.Place.TheVariants.{Sched, Unlinked}
use Rattle.loft_tree.specs.declared.heads.EventHead.{EventHead}
use Rattle.loft_tree.specs.declared.heads.SharedHead.{SharedHead}
use Rattle.loft_tree.specs.declared.heads.Signature.{Signature}
use Rattle.loft_tree.specs.declared.heads.Start.{Start}
use Rattle.loft_tree.specs.declared.heads.ClientOrder.{ClientOrder}
use Rattle.loft_tree.specs.declared.heads.ClientOrder.TheVariants as order
use Rattle.loft_tree.specs.declared.heads.Client.{Client}
use Rattle.loft_tree.specs.declared.heads.Heads.{Heads}
use Rattle.loft_tree.specs.Fits.{Each}
use Rattle.loft_tree.specs.NamedFits.{EventHolds, SharedHolds, SignatureHolds, StartHolds, ClientHolds, OrderHolds, ArgumentHolds, TakesArguments, IsPlace, IsScheduler, IsStarted}
use Rattle.loft_scopes.specs.Scopes.{Declared}
use Rattle.loft_scopes.specs.declared.scope.Scope.{Scope}
use Rattle.loft_scopes.specs.declared.scope.Scope.TheVariants.{Everywhere, Within}
use Rattle.loft_numbers.specs.Numbers.{scheduler_of, module_of, place_of, end_of, heads_of}
use Rattle.loft_code.specs.Fits.{HeadsKeep}
use Rattle.loft_code.specs.Places.{same_place}
use Rattle.loft_listing_draft.specs.Drafts.{source_of}
use Rattle.loft_listing.specs.Called.{called_scheduler, called_module, called_place}
use Rattle.loft_listing_roundtrip.specs.ThreadsNamed.{ArgumentNamed, StartNamed, OrderNamed, ClientNamed, IsNamedThread, ThreadsNamed}
use Rattle.loft_listing_roundtrip.proofs.Parts.{Part, heads_in}
use Rattle.loft_listing_roundtrip.proofs.Saying.{said}
use Rattle.loft_listing_roundtrip.proofs.Remade.{remade_event, remade_shared, remade_module, remade_modules, remade_thread, remade_value, remade_start, remade_order, remade_client, heads_remade}
use Rattle.loft_listing_roundtrip.proofs.OneMeaning.{Says}
use Rattle.loft_listing_roundtrip.proofs.Called.{scheduler_meant, event_meant, module_meant, thread_meant, number_meant}

-- what maps each element to itself
map_same : {A : Type 0} (f : A → A) (P : A → Type 0) → ((x : A) → P x → f x ≡ x) → (xs : List A) → Each P xs → map f xs ≡ xs
map_same f P same [] each = refl
map_same f P same (x ∷ xs) each = (λ i. same x each.0 i ∷ map_same f P same xs each.1 i)

-- of two facts of each element one
map_same2 : {A : Type 0} (f : A → A) (P Q : A → Type 0) → ((x : A) → P x → Q x → f x ≡ x) → (xs : List A) → Each P xs → Each Q xs → map f xs ≡ xs
map_same2 f P Q same [] each also = refl
map_same2 f P Q same (x ∷ xs) each also = (λ i. same x each.0 also.0 i ∷ map_same2 f P Q same xs each.1 also.1 i)

-- places that are the same
pub place_is : (p q : Place) → same_place p q ≡ true → p ≡ q
place_is (Sched s) (Sched t) is = let same : s.0 ≡ t.0 = eqb-true s.0 t.0 is in (λ i. Sched (record { 0 = same i }))
place_is (Sched s) Unlinked is = absurd cc
place_is Unlinked (Sched t) is = absurd cc
place_is Unlinked Unlinked is = refl

-- a module that takes arguments is declared
pub signature_there : (o : Option Signature) (args : List Value) → TakesArguments o args → (m : Signature) × (o ≡ Some m)
signature_there None args takes = absurd takes
signature_there (Some m) args takes = (m, refl)

module _ (ds : List Declared) (h : Heads) (says : Says ds h) where
  pub scheduler_again : (from : Scope) (s : SchedId) → IsScheduler h s → scheduler_of ds from (called_scheduler h s) ≡ s
  scheduler_again from s less = (λ i. record { 0 = number_meant ds from _ _ _ (scheduler_meant ds h says from s less) i })

  pub module_again : (from : Scope) (m : ModuleId) (signature : Signature) → slice_get h.modules m.0 ≡ Some signature → module_of ds from (called_module h m) ≡ m
  module_again from m signature is = (λ i. record { 0 = number_meant ds from _ _ _ (module_meant ds h says from m signature is) i })

  pub place_again : (from : Scope) (p : Place) → IsPlace h p → place_of ds from (called_place h p) ≡ p
  place_again from (Sched s) is = ap Sched (scheduler_again from s is)
  place_again from Unlinked is = refl

  event_again : (e : EventHead) → EventHolds h e → remade_event ds h e ≡ e
  event_again e holds = (λ i. record { name = e.name; scheduler = scheduler_again Everywhere e.scheduler holds.scheduler i })

  shared_again : (x : SharedHead) → SharedHolds h x → remade_shared ds h x ≡ x
  shared_again x holds = (λ i. record { name = x.name; scheduler = scheduler_again Everywhere x.scheduler holds.scheduler i; value = x.value })

  end_by : (from : Scope) (begin end : Place) → IsPlace h begin → IsPlace h end → (b : Bool) → same_place begin end ≡ b
      → end_of ds from (called_place h begin) (if b then None else Some (called_place h end)) ≡ end
  end_by from begin end is also true same = place_again from begin is ∙ place_is begin end same
  end_by from begin end is also false other = place_again from end also

  module_again_at : (k : ℕ) (m : Signature) → SignatureHolds h m → remade_module ds h k m ≡ m
  module_again_at k m holds = (λ i. record {
    name = m.name;
    parameters = m.parameters;
    locals = m.locals;
    begin = place_again (Within k) m.begin holds.begin i;
    end = end_by (Within k) m.begin m.end holds.begin holds.end (same_place m.begin m.end) refl i;
  })

  modules_again : (k : ℕ) (ms : List Signature) → Each (SignatureHolds h) ms → remade_modules ds h k ms ≡ ms
  modules_again k [] hold = refl
  modules_again k (m ∷ ms) hold = (λ i. module_again_at k m hold.0 i ∷ modules_again (k + 1) ms hold.1 i)

  thread_again : (t : ThreadId) → IsStarted h t → IsNamedThread h t → remade_thread ds h t ≡ t
  thread_again t started named = (λ i. record { maker = sym started.0 i; seq = number_meant ds Everywhere _ _ _ (thread_meant ds h says Everywhere t started.0 named) i })

  value_again : (v : Value) → ArgumentHolds h v → ArgumentNamed h v → remade_value ds h v ≡ v
  value_again (value.Int number) holds named = refl
  value_again (value.Thread t) holds named = ap value.Thread (thread_again t holds named)

  values_again : (args : List Value) → Each (ArgumentHolds h) args → Each (ArgumentNamed h) args → map (remade_value ds h) args ≡ args
  values_again args hold named = map_same2 (remade_value ds h) (ArgumentHolds h) (ArgumentNamed h) value_again args hold named

  start_again : (t : Start) → StartHolds h t → StartNamed h t → remade_start ds h t ≡ t
  start_again t holds named =
      let m = signature_there (slice_get h.modules t.module.0) t.arguments holds.call.takes in
      (λ i. record {
        scheduler = scheduler_again Everywhere t.scheduler holds.call.scheduler i;
        «module» = module_again Everywhere t.module m.0 m.1 i;
        arguments = values_again t.arguments holds.call.arguments named i;
        name = t.name;
      })

  order_again : (x : ClientOrder) → OrderHolds h x → OrderNamed h x → remade_order ds h x ≡ x
  order_again (order.Create s m args) holds named =
      let signature = signature_there (slice_get h.modules m.0) args holds.takes in
      (λ i. order.Create (scheduler_again Everywhere s holds.scheduler i) (module_again Everywhere m signature.0 signature.1 i) (values_again args holds.arguments named i))
  order_again (order.Control control t s) holds named = (λ i. order.Control control (thread_again t holds.0 named i) (scheduler_again Everywhere s holds.1 i))
  order_again (order.Broadcast event value) holds named =
      (λ i. order.Broadcast (record { 0 = number_meant ds Everywhere _ _ _ (event_meant ds h says Everywhere event holds.0) i }) value)

  client_again : (c : Client) → ClientHolds h c → ClientNamed h c → remade_client ds h c ≡ c
  client_again c holds named = (λ i. record { name = c.name; orders = map_same2 (remade_order ds h) (OrderHolds h) (OrderNamed h) order_again c.orders holds.orders named i })

-- what the draft of parts declares
pub heads_again : (ds : List Declared) (ps : List Part) → Says ds (heads_in ps) → HeadsKeep (heads_in ps) → ThreadsNamed (heads_in ps) → (at : ℕ)
    → heads_of ds (source_of (said (heads_in ps) at ps)) ≡ heads_in ps
heads_again ds ps says keeps named at =
    let h : Heads = heads_in ps in
    heads_remade ds h at ps
    ∙ (λ i. record {
      schedulers = h.schedulers;
      events = map_same (remade_event ds h) (EventHolds h) (event_again ds h says) h.events keeps.within.events i;
      shared = map_same (remade_shared ds h) (SharedHolds h) (shared_again ds h says) h.shared keeps.within.shared i;
      modules = modules_again ds h says 0 h.modules keeps.within.modules i;
      starts = map_same2 (remade_start ds h) (StartHolds h) (StartNamed h) (start_again ds h says) h.starts keeps.within.starts named.starts i;
      clients = map_same2 (remade_client ds h) (ClientHolds h) (ClientNamed h) (client_again ds h says) h.clients keeps.within.clients named.clients i;
      items = h.items;
    })
