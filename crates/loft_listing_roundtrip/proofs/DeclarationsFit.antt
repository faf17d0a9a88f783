-- The declarations of the draft of code keep the limits of a source.
use Rattle.std.proofs.Common.{◌≡◌, ℕ, ◌<◌, ◌≤◌, zero, suc, Bool, true, false, ◌==◌, List, [], ◌∷◌, length, Option, Some, None, map, refl, sym, subst, ap, ◌∙◌, arith}
use Rattle.std.specs.Prelude.{slice_get, unwrap_or, if◌then◌else◌}
use Rattle.std.specs.Option.{option_map}
use Rattle.std.specs.Str.{bytes_eq}
use Rattle.std.proofs.lemmas.Bool.{and_parts, eq-eqb}
use Rattle.std.proofs.lemmas.Slice.Eq.{bytes_eq-Decides}
use Rattle.std.proofs.lemmas.List.{length-map}
use Rattle.std.proofs.lemmas.Option.{slice_get_within}
use Rattle.loft_base.specs.declared.ids.SchedId.{SchedId}
use Rattle.loft_base.specs.declared.ids.EventId.{EventId}
use Rattle.loft_base.specs.declared.ids.SharedId.{SharedId}
use Rattle.loft_base.specs.declared.ids.ModuleId.{ModuleId}
use Rattle.loft_base.specs.declared.ids.Maker.{Maker}
use Rattle.loft_base.specs.declared.ids.Maker.TheVariants as maker
use Rattle.loft_base.specs.declared.ids.ThreadId.{ThreadId}
use Rattle.loft_base.specs.declared.ids.Value.{Value}
use Rattle.loft_base.specs.declared.ids.Value.TheVariants as value
use Rattle.loft_tree.specs.declared.limits.TheConstants.{MAX_ORDERS, MAX_PARAMETERS, MAX_LOCALS}
use Rattle.loft_tree.specs.declared.heads.Place.{Place}
use Rattle.loft_tree.specs.declared.heads.Place.TheVariants.{Sched, Unlinked}
use Rattle.loft_tree.specs.declared.heads.SlotHead.{SlotHead}
use Rattle.loft_tree.specs.declared.heads.Signature.{Signature}
use Rattle.loft_tree.specs.declared.heads.Start.{Start}
use Rattle.loft_tree.specs.declared.heads.ClientOrder.{ClientOrder}
use Rattle.loft_tree.specs.declared.heads.ClientOrder.TheVariants as order
use Rattle.loft_tree.specs.declared.heads.HeadItem.{HeadItem}
use Rattle.loft_tree.specs.declared.heads.HeadItem.TheVariants as item
use Rattle.loft_tree.specs.declared.heads.Heads.{Heads}
use Rattle.loft_tree.specs.Fits.{Each, IfThere, NameFits, PlaceFits, EndFits, ArgumentFits, CallFits, OrderFits, DeclarationFits}
use Rattle.loft_tree.specs.Fits as fits
use Rattle.loft_tree.specs.Source as src
use Rattle.loft_tree.specs.Source.{Named}
use Rattle.loft_tree.specs.HeadsFit.{agree, kinds_of, is_of}
use Rattle.loft_tree.specs.NamedFits.{ArgumentHolds, CallHolds, EventHolds, IsName, IsPlace, IsScheduler, OrderHolds, SharedHolds, SignatureHolds, SlotHolds, StartHolds, TakesArguments}
use Rattle.loft_names.proofs.HeadsLists.{each_get}
use Rattle.loft_code.specs.Fits.{HeadsKeep}
use Rattle.loft_code.specs.Places.{same_place}
use Rattle.loft_grammar.specs.PartsFit.{HeadFits, NamedFits}
use Rattle.loft_listing_line.specs.Rows as rows
use Rattle.loft_listing_draft.proofs.Offsets.{line_at_fits}
use Rattle.loft_listing.specs.Called.{called, called_argument, called_event, called_head, called_module, called_order, called_place, called_scheduler, called_shared, called_thread, called_variable, start_declaration, start_name}
use Rattle.loft_listing_roundtrip.specs.ThreadsNamed.{ArgumentNamed, IsNamedThread, OrderNamed}
use Rattle.loft_listing_roundtrip.proofs.Parts.{Part, SchedulerPart, EventPart, SharedPart, ModulePart, StartPart, ClientPart}
use Rattle.loft_listing_roundtrip.proofs.Saying.{after_head, after_local, after_name, after_order, locals_from, orders_from, part_item}
use Rattle.loft_listing_roundtrip.proofs.Called.{there_at}
use Rattle.loft_listing_roundtrip.proofs.HeadsAgain.{signature_there}
use Rattle.loft_listing_roundtrip.proofs.PartsHold.{PartKeeps, StartKeeps}

-- ---- names

-- what is called at a number has a name
pub name_there : {A : Type 0} (of : A → List ℕ) (P : A → Type 0) → ((x : A) → P x → IsName (of x)) → (xs : List A) (k : ℕ) → Each P xs → k < length xs
    → IsName (unwrap_or (option_map of (slice_get xs k)) [])
name_there of P named [] k each less = absurd (omega arith)
name_there of P named (x ∷ xs) zero each less = named x each.0
name_there of P named (x ∷ xs) (suc k) each less = name_there of P named xs k each.1 (omega arith)

number_of : HeadItem → ℕ
number_of (item.Scheduler s) = s.0
number_of (item.Event e) = e.0
number_of (item.Shared x) = x.0
number_of (item.Module m) = m.0
number_of (item.Start t) = t
number_of (item.Client c) = c

-- ---- parameters and local variables

slots_fit : (vs : List SlotHead) → Each SlotHolds vs → Each NamedFits (map called_variable vs)
slots_fit [] hold = tt
slots_fit (v ∷ vs) hold = (hold.0, slots_fit vs hold.1)

locals_fit : (at : ℕ) (vs : List Named) → Each NamedFits vs → Each NamedFits (locals_from at vs)
locals_fit at [] fit = tt
locals_fit at (v ∷ vs) fit = (fit.0, locals_fit (after_local at v) vs fit.1)

locals_length : (at : ℕ) (vs : List Named) → length (locals_from at vs) ≡ length vs
locals_length at [] = refl
locals_length at (v ∷ vs) = ap suc (locals_length (after_local at v) vs)

-- ---- orders

orders_stand_fit : (at : ℕ) (xs : List src.Order) → Each OrderFits xs → Each OrderFits (orders_from at xs)
orders_stand_fit at [] fit = tt
orders_stand_fit at (x ∷ xs) fit = (line_at_fits at (rows.Order x) fit.0, orders_stand_fit (after_order at x) xs fit.1)

orders_length : (at : ℕ) (xs : List src.Order) → length (orders_from at xs) ≡ length xs
orders_length at [] = refl
orders_length at (x ∷ xs) = ap suc (orders_length (after_order at x) xs)

module _ (h : Heads) (keeps : HeadsKeep h) where
  pub scheduler_fits : (s : SchedId) → IsScheduler h s → NameFits (called_scheduler h s)
  scheduler_fits s less = name_there (λ x. x) IsName (λ x is. is) h.schedulers s.0 keeps.within.schedulers less

  pub event_fits : (e : EventId) → e.0 < length h.events → NameFits (called_event h e).name
  event_fits e less = name_there (λ x. x.name) (EventHolds h) (λ x is. is.name) h.events e.0 keeps.within.events less

  pub shared_fits : (x : SharedId) → x.0 < length h.shared → NameFits (called_shared h x)
  shared_fits x less = name_there (λ y. y.name) (SharedHolds h) (λ y is. is.name) h.shared x.0 keeps.within.shared less

  pub module_fits : (m : ModuleId) → m.0 < length h.modules → NameFits (called_module h m)
  module_fits m less = name_there (λ x. x.name) (SignatureHolds h) (λ x is. is.name) h.modules m.0 keeps.within.modules less

  started : (o : Option Start) (name : List ℕ) → option_map (λ x. x.name) o ≡ Some (Some name) → ((t : Start) → o ≡ Some t → IfThere IsName t.name) → IsName (unwrap_or (option_map start_name o) [])
  started None name is holds = absurd cc
  started (Some t) name is holds =
      let same : t.name ≡ Some name = cc in
      let fits : IsName name = subst (λ (n : Option (List ℕ)). IfThere IsName n) same (holds t refl) in
      subst (λ (n : Option (List ℕ)). IsName (unwrap_or n [])) (sym same) fits

  thread_by : (by : Maker) (seq : ℕ) → by ≡ maker.Source → IsNamedThread h (record { maker = by; seq = seq }) → NameFits (called_thread h (record { maker = by; seq = seq }))
  thread_by by seq source named =
      subst (λ (m : Maker). NameFits (called_thread h (record { maker = m; seq = seq }))) (sym source)
      (started (slice_get h.starts seq) named.0 named.1 (λ t is. (each_get (StartHolds h) h.starts seq t keeps.within.starts is).name))

  pub thread_fits : (t : ThreadId) → t.maker ≡ maker.Source → IsNamedThread h t → NameFits (called_thread h t)
  thread_fits t source named = thread_by t.maker t.seq source named

  -- ---- places

  pub place_fits : (p : Place) → IsPlace h p → PlaceFits (called_place h p)
  place_fits (Sched s) is = scheduler_fits s is
  place_fits Unlinked is = tt

  -- schedulers have names of their own
  one_scheduler : (s t : SchedId) → IsScheduler h s → IsScheduler h t → (called_scheduler h s).text ≡ (called_scheduler h t).text → s.0 ≡ t.0
  unfolding number_of
  one_scheduler s t is also same =
      let x = there_at h.schedulers s.0 is in
      let y = there_at h.schedulers t.0 also in
      let name : x.0 ≡ y.0 = ap (λ (o : Option (List ℕ)). unwrap_or (option_map (λ z. z) o) []) (sym x.1) ∙ same ∙ ap (λ (o : Option (List ℕ)). unwrap_or (option_map (λ z. z) o) []) y.1 in
      ap number_of (keeps.names.declarations (item.Scheduler s) (item.Scheduler t) x.0 x.1 (y.1 ∙ ap Some (sym name)))

  other_name : (s t : SchedId) → IsScheduler h s → IsScheduler h t → (s.0 == t.0) ≡ false → (b : Bool) → bytes_eq (called_scheduler h s).text (called_scheduler h t).text ≡ b → b ≡ false
  other_name s t is also other true same =
      let one : s.0 ≡ t.0 = one_scheduler s t is also ((bytes_eq-Decides (called_scheduler h s).text (called_scheduler h t).text).0 same) in
      let both : true ≡ false = sym (eq-eqb s.0 t.0 one) ∙ other in absurd cc
  other_name s t is also other false same = refl

  places_differ : (p q : Place) → IsPlace h p → IsPlace h q → same_place p q ≡ false → fits.same_place (called_place h p) (called_place h q) ≡ false
  places_differ (Sched s) (Sched t) is also other = other_name s t is also other (bytes_eq (called_scheduler h s).text (called_scheduler h t).text) refl
  places_differ (Sched s) Unlinked is also other = refl
  places_differ Unlinked (Sched t) is also other = refl
  places_differ Unlinked Unlinked is also other = absurd cc

  end_fits : (begin end : Place) → IsPlace h begin → IsPlace h end → (b : Bool) → same_place begin end ≡ b
      → EndFits (called_place h begin) (if b then None else Some (called_place h end))
  end_fits begin end is also true same = tt
  end_fits begin end is also false other = (place_fits end also, places_differ begin end is also other)

  -- ---- parts of declarations

  argument_fits : (v : Value) → ArgumentHolds h v → ArgumentNamed h v → ArgumentFits (called_argument h v)
  argument_fits (value.Int number) holds named = holds
  argument_fits (value.Thread t) holds named = thread_fits t holds.0 named

  arguments_fit : (args : List Value) → Each (ArgumentHolds h) args → Each (ArgumentNamed h) args → Each ArgumentFits (map (called_argument h) args)
  arguments_fit [] hold named = tt
  arguments_fit (v ∷ args) hold named = (argument_fits v hold.0 named.0, arguments_fit args hold.1 named.1)

  as_many : (vs : List SlotHead) (args : List Value) → agree (kinds_of vs) args ≡ true → length (map (called_argument h) args) ≡ length vs
  as_many [] [] is = refl
  as_many [] (x ∷ args) is = absurd cc
  as_many (v ∷ vs) [] is = absurd cc
  as_many (v ∷ vs) (x ∷ args) is = ap suc (as_many vs args (and_parts (is_of x v.kind) (agree (kinds_of vs) args) is).1)

  call_fits : (s : SchedId) (m : ModuleId) (args : List Value) → CallHolds h s m args → Each (ArgumentNamed h) args
      → CallFits (called_scheduler h s) (called_module h m) (map (called_argument h) args)
  call_fits s m args holds named =
      let signature = signature_there (slice_get h.modules m.0) args holds.takes in
      let takes : TakesArguments (Some signature.0) args = subst (λ (o : Option Signature). TakesArguments o args) signature.1 holds.takes in
      let many : length (map (called_argument h) args) ≡ length signature.0.parameters = as_many signature.0.parameters args takes in
      let few : length signature.0.parameters ≤ MAX_PARAMETERS = (each_get (SignatureHolds h) h.modules m.0 signature.0 keeps.within.modules signature.1).few_parameters in
      record {
        there = scheduler_fits s holds.scheduler;
        runs = module_fits m (slice_get_within h.modules m.0 signature.0 signature.1);
        each = arguments_fit args holds.arguments named;
        few = omega (arith, many, few);
      }

  order_fits : (x : ClientOrder) → OrderHolds h x → OrderNamed h x → OrderFits (called_order h x)
  order_fits (order.Create s m args) holds named = call_fits s m args holds named
  order_fits (order.Control control t s) holds named = (thread_fits t holds.0.0 named, scheduler_fits s holds.1)
  order_fits (order.Broadcast event value) holds named = (event_fits event holds.0, holds.1)

  pub orders_fit : (xs : List ClientOrder) → Each (OrderHolds h) xs → Each (OrderNamed h) xs → Each OrderFits (map (called_order h) xs)
  orders_fit [] hold named = tt
  orders_fit (x ∷ xs) hold named = (order_fits x hold.0 named.0, orders_fit xs hold.1 named.1)

  name_if_fits : (name : Option (List ℕ)) → IfThere IsName name → IfThere NameFits (option_map called name)
  name_if_fits None is = tt
  name_if_fits (Some name) is = is

  -- ---- declarations

  pub head_fits : (m : Signature) → SignatureHolds h m → HeadFits (called_head h m)
  head_fits m holds = record {
    name = holds.name;
    parameters = slots_fit m.parameters holds.parameters;
    few_parameters = subst (λ (n : ℕ). n ≤ MAX_PARAMETERS) (sym (length-map m.parameters called_variable)) holds.few_parameters;
    begin = place_fits m.begin holds.begin;
    end = end_fits m.begin m.end holds.begin holds.end (same_place m.begin m.end) refl;
  }

  pub start_fits : (t : Start) → StartKeeps h t → DeclarationFits (start_declaration h t)
  start_fits t keep = (call_fits t.scheduler t.module t.arguments keep.holds.call keep.named, name_if_fits t.name keep.holds.name)

  -- with the offsets at which they stand
  pub declaration_fits : (at : ℕ) (p : Part) → PartKeeps h p → DeclarationFits (part_item h at p).declaration
  declaration_fits at (SchedulerPart name) keep = keep
  declaration_fits at (EventPart x) keep = (keep.name, scheduler_fits x.scheduler keep.scheduler)
  declaration_fits at (SharedPart x) keep = (keep.name, scheduler_fits x.scheduler keep.scheduler, keep.value)
  declaration_fits at (ModulePart m lines) keep =
      let head = line_at_fits at (rows.Head (called_head h m)) (head_fits m keep.0) in
      let locals : List Named = map called_variable m.locals in
      let many = locals_length (after_head h at m) locals ∙ length-map m.locals called_variable in
      record {
        name = head.name;
        parameters = head.parameters;
        few_parameters = head.few_parameters;
        begin = head.begin;
        end = head.end;
        each_local = locals_fit (after_head h at m) locals (slots_fit m.locals keep.0.locals);
        few_locals = subst (λ (n : ℕ). n ≤ MAX_LOCALS) (sym many) keep.0.few_locals;
        statements = tt;
        few_statements = omega arith;
      }
  declaration_fits at (StartPart t) keep = (line_at_fits at (rows.Item (start_declaration h t)) (tt, start_fits t keep)).1
  declaration_fits at (ClientPart c) keep =
      let orders : List src.Order = map (called_order h) c.orders in
      let many = orders_length (after_name at c.name) orders ∙ length-map c.orders (called_order h) in
      (keep.holds.name, orders_stand_fit (after_name at c.name) orders (orders_fit c.orders keep.holds.orders keep.named), subst (λ (n : ℕ). n ≤ MAX_ORDERS) (sym many) keep.holds.few_orders)
