-- What an operation names is declared and there, and of the kinds that it takes, where it passes the tests of code.
use Rattle.std.proofs.Common.{◌≡◌, ℕ, Bool, true, false, List, [], ◌∷◌, length, Option, Some, None, slice_get, refl, sym, ap, ◌∙◌, subst}
use Rattle.std.specs.Prelude.{not, ◌&&◌, ◌||◌, ◌≢◌, is_some}
use Rattle.std.proofs.lemmas.Bool.{and_parts, or_parts, not-false, eqb-true, ltb-true}
use Rattle.loft_base.specs.declared.ids.EventId.{EventId}
use Rattle.loft_base.specs.declared.ids.ModuleId.{ModuleId}
use Rattle.loft_base.specs.declared.ids.SchedId.{SchedId}
use Rattle.loft_base.specs.declared.ids.SharedId.{SharedId}
use Rattle.loft_tree.specs.declared.kinds.Kind.{Kind}
use Rattle.loft_tree.specs.declared.kinds.Kind.TheVariants.{Int, Thread}
use Rattle.loft_tree.specs.declared.heads.Place.{Place}
use Rattle.loft_tree.specs.declared.heads.Place.TheVariants.{Sched, Unlinked}
use Rattle.loft_tree.specs.declared.heads.EventHead.{EventHead}
use Rattle.loft_tree.specs.declared.heads.SharedHead.{SharedHead}
use Rattle.loft_tree.specs.declared.heads.Signature.{Signature}
use Rattle.loft_tree.specs.declared.heads.Heads.{Heads}
use Rattle.loft_tree.specs.Fits.{Each, IfThere}
use Rattle.loft_tree.specs.HeadsFit.{kinds_of}
use Rattle.loft_tree.specs.KindOf.{compares}
use Rattle.loft_tree.specs.NamedFits.{slots_of, IsScheduler, OperandsAgree}
use Rattle.loft_tree.specs.Resolved.{Exp, Number, Slot, Shared, Special, Unary, Binary, Target, ToSlot, ToShared, Action, Assign, Make, PrintText, PrintValue, Generate, ControlThread, Broadcast, Pause, Cooperate, Await, Get, Join, Link, Unlink, Halt}
use Rattle.loft_code.specs.Operations.{Operation, Do, Hold, Call, Branch, Count, Line}
use Rattle.loft_code.specs.Leads.{Passes}
use Rattle.loft_code.specs.Names.{has_place, has_module, has_scheduler, exp_has, value_has, exps_have, target_has, made_has, has_event, has_choices, operation_has}
use Rattle.loft_code.specs.Places.{is_linked, is_at, same_place, event_at, shared_at, begins_at, event_is_here, exp_is_here, value_is_here, exps_are_here, target_is_here, made_is_here, events_are_here, operation_is_here, linked_only, is_allowed}
use Rattle.loft_code.specs.Kinds.{same_kind, kind_or_int, operands_agree, kind_of, agrees, has_kind, int_if, agrees_if, arguments_agree, call_agrees, target_kind, thread_if, operation_agrees}
use Rattle.loft_sense.specs.Stands.{begin_of, begin_or_unlinked}
use Rattle.loft_soundness.specs.WorkFits.{IsShared, IsEvent, HasKind, IsInt, HasSomeKind, TargetHasKind, ArgumentsFit, CallFits, ActionFits, PauseFits, RunFits}

-- ---- places and kinds

at_place : (s : SchedId) (here : Place) → is_at s here ≡ true → Sched s ≡ here
at_place s (Sched t) is = ap (λ k. Sched (record { 0 = k })) (eqb-true s.0 t.0 is)
at_place s Unlinked is = absurd cc

place_is : (p here : Place) → same_place p here ≡ true → p ≡ here
place_is (Sched s) here is = at_place s here is
place_is Unlinked (Sched t) is = absurd cc
place_is Unlinked Unlinked is = refl

linked_is : (here : Place) → (is_linked here || false) ≡ true → here ≢ Unlinked
linked_is (Sched s) is = λ same. absurd cc
linked_is Unlinked is = absurd cc

kind_is : (a b : Kind) → same_kind a b ≡ true → a ≡ b
kind_is Int Int is = refl
kind_is Int Thread is = absurd cc
kind_is Thread Int is = absurd cc
kind_is Thread Thread is = refl

slot_is : (o : Option Kind) → is_some o ≡ true → o ≡ Some (kind_or_int o)
slot_is None is = absurd cc
slot_is (Some kind) is = refl

operands_fit : (b : Bool) (L R : Kind → Type 0) (k l : Kind) → L k → R l → operands_agree b k l ≡ true → OperandsAgree b L R
operands_fit true L R k l f g agree = (k, f, subst R (sym (kind_is k l agree)) g)
operands_fit false L R k l f g agree =
    let both = and_parts (same_kind k Int) (same_kind l Int) agree in
    (subst L (kind_is k Int both.0) f, subst R (kind_is l Int both.1) g)

module _ (h : Heads) (here : Place) where
  shared_by : (x : SharedId) (o : Option SharedHead) → slice_get h.shared x.0 ≡ o → shared_at here o ≡ true → IsShared h here x
  shared_by x None at is = absurd cc
  shared_by x (Some head) at is = (head, at, at_place head.scheduler here is)

  event_by : (e : EventId) (o : Option EventHead) → slice_get h.events e.0 ≡ o → event_at here o ≡ true → IsEvent h here e
  event_by e None at is = absurd cc
  event_by e (Some head) at is = (head, at, at_place head.scheduler here is)

  module_by : (m : ModuleId) (o : Option Signature) → slice_get h.modules m.0 ≡ o → begins_at here o ≡ true
      → (head : Signature) × (slice_get h.modules m.0 ≡ Some head) × (head.begin ≡ here)
  module_by m None at is = absurd cc
  module_by m (Some head) at is = (head, at, place_is head.begin here is)

  event_fits : (e : EventId) → event_is_here h here e ≡ true → IsEvent h here e
  event_fits e is = event_by e (slice_get h.events e.0) refl is

  events_fit : (es : List EventId) → events_are_here h here es ≡ true → Each (IsEvent h here) es
  events_fit [] are = tt
  events_fit (e ∷ es) are = let parts = and_parts (event_is_here h here e) (events_are_here h here es) are in (event_fits e parts.0, events_fit es parts.1)

-- ---- expressions

module _ (h : Heads) (slots : List Kind) (here : Place) where
  exp_fits : (e : Exp) → exp_has h slots e ≡ true → exp_is_here h here e ≡ true → agrees slots e ≡ true → HasKind h slots here e (kind_of slots e)
  exp_fits (Number value) has is agree = refl
  exp_fits (Slot slot) has is agree = slot_is (slice_get slots slot) has
  exp_fits (Shared x) has is agree = (shared_by h here x (slice_get h.shared x.0) refl is, refl)
  exp_fits (Special builtin) has is agree = refl
  exp_fits (Unary operator e) has is agree =
      let parts = and_parts (agrees slots e) (same_kind (kind_of slots e) Int) agree in
      (subst (HasKind h slots here e) (kind_is (kind_of slots e) Int parts.1) (exp_fits e has is parts.0), refl)
  exp_fits (Binary operator l r) has is agree =
      let names = and_parts (exp_has h slots l) (exp_has h slots r) has in
      let places = and_parts (exp_is_here h here l) (exp_is_here h here r) is in
      let kinds = and_parts (agrees slots l && agrees slots r) (operands_agree (compares operator) (kind_of slots l) (kind_of slots r)) agree in
      let both = and_parts (agrees slots l) (agrees slots r) kinds.0 in (
        operands_fit (compares operator) (HasKind h slots here l) (HasKind h slots here r) (kind_of slots l) (kind_of slots r)
            (exp_fits l names.0 places.0 both.0) (exp_fits r names.1 places.1 both.1) kinds.1,
        refl,
      )

  -- of the kind that is asked for
  of_kind : (kind : Kind) (e : Exp) → exp_has h slots e ≡ true → exp_is_here h here e ≡ true → has_kind slots kind e ≡ true → HasKind h slots here e kind
  of_kind kind e has is agree =
      let parts = and_parts (agrees slots e) (same_kind (kind_of slots e) kind) agree in
      subst (HasKind h slots here e) (kind_is (kind_of slots e) kind parts.1) (exp_fits e has is parts.0)

  int_if_fits : (e : Option Exp) → value_has h slots e ≡ true → value_is_here h here e ≡ true → int_if slots e ≡ true → IfThere (IsInt h slots here) e
  int_if_fits None has is agree = tt
  int_if_fits (Some e) has is agree = of_kind Int e has is agree

  value_if_fits : (e : Option Exp) → value_has h slots e ≡ true → value_is_here h here e ≡ true → agrees_if slots e ≡ true → IfThere (HasSomeKind h slots here) e
  value_if_fits None has is agree = tt
  value_if_fits (Some e) has is agree = (kind_of slots e, exp_fits e has is agree)

  arguments_fit : (kinds : List Kind) (es : List Exp) → exps_have h slots es ≡ true → exps_are_here h here es ≡ true → arguments_agree slots kinds es ≡ true → ArgumentsFit h slots here kinds es
  arguments_fit [] [] has are agree = tt
  arguments_fit [] (e ∷ es) has are agree = absurd cc
  arguments_fit (k ∷ ks) [] has are agree = absurd cc
  arguments_fit (k ∷ ks) (e ∷ es) has are agree =
      let names = and_parts (exp_has h slots e) (exps_have h slots es) has in
      let places = and_parts (exp_is_here h here e) (exps_are_here h here es) are in
      let kinds = and_parts (has_kind slots k e) (arguments_agree slots ks es) agree in
      (of_kind k e names.0 places.0 kinds.0, arguments_fit ks es names.1 places.1 kinds.1)

  -- a call of a module that begins at a place
  call_fits : (m : ModuleId) (es : List Exp) (there : Place) → begins_at there (slice_get h.modules m.0) ≡ true → exps_have h slots es ≡ true → exps_are_here h here es ≡ true
      → call_agrees slots (slice_get h.modules m.0) es ≡ true → (begin_of h m ≡ there) × CallFits h slots here m es
  call_fits m es there begins has are agree =
      let found = module_by h there m (slice_get h.modules m.0) refl begins in
      let kinds : arguments_agree slots (kinds_of found.0.parameters) es ≡ true = subst (λ (o : Option Signature). call_agrees slots o es ≡ true) found.1 agree in
      (ap begin_or_unlinked found.1 ∙ found.2, (found.0, found.1, arguments_fit (kinds_of found.0.parameters) es has are kinds))

  target_fits : (t : Target) → target_has h slots t ≡ true → target_is_here h here t ≡ true → TargetHasKind h slots here (target_kind slots t) t
  target_fits (ToSlot slot) has is = slot_is (slice_get slots slot) has
  target_fits (ToShared x) has is = (shared_by h here x (slice_get h.shared x.0) refl is, refl)

  of_target : (kind : Kind) (t : Target) → target_has h slots t ≡ true → target_is_here h here t ≡ true → same_kind (target_kind slots t) kind ≡ true → TargetHasKind h slots here kind t
  of_target kind t has is agree = subst (λ (k : Kind). TargetHasKind h slots here k t) (kind_is (target_kind slots t) kind agree) (target_fits t has is)

  made_fits : (t : Option Target) → made_has h slots t ≡ true → made_is_here h here t ≡ true → thread_if slots t ≡ true → IfThere (TargetHasKind h slots here Thread) t
  made_fits None has is agree = tt
  made_fits (Some t) has is agree = of_target Thread t has is agree

  -- ---- operations

  -- it passes the tests of names, places and kinds
  pub record IsTested (o : Operation) : Type 0 where
    pub names : operation_has h slots o ≡ true
    pub linked : (is_linked here || not (linked_only o)) ≡ true
    pub places : operation_is_here h here o ≡ true
    pub kinds : operation_agrees slots h o ≡ true

  scheduler_fits : (s : SchedId) → has_scheduler h s ≡ true → IsScheduler h s
  scheduler_fits s has = ltb-true s.0 (length h.schedulers) has

  pub action_fits : (action : Action) → IsTested (Do action) → ActionFits h slots here action
  action_fits (Assign t e) f =
      let names = and_parts (target_has h slots t) (exp_has h slots e) f.names in
      let places = and_parts (target_is_here h here t) (exp_is_here h here e) f.places in
      (target_kind slots t, target_fits t names.0 places.0, of_kind (target_kind slots t) e names.1 places.1 f.kinds)
  action_fits (Make t s m es) f =
      let names = and_parts (made_has h slots t && has_scheduler h s && has_module h m) (exps_have h slots es) f.names in
      let declared = and_parts (made_has h slots t && has_scheduler h s) (has_module h m) names.0 in
      let made = and_parts (made_has h slots t) (has_scheduler h s) declared.0 in
      let places = and_parts (made_is_here h here t && begins_at (Sched s) (slice_get h.modules m.0)) (exps_are_here h here es) f.places in
      let begins = and_parts (made_is_here h here t) (begins_at (Sched s) (slice_get h.modules m.0)) places.0 in
      let kinds = and_parts (thread_if slots t) (call_agrees slots (slice_get h.modules m.0) es) f.kinds in
      let call = call_fits m es (Sched s) begins.1 names.1 places.1 kinds.1 in
      (linked_is here f.linked, made_fits t made.0 begins.0 kinds.0, scheduler_fits s made.1, call.0, call.1)
  action_fits (PrintText line e) f = (linked_is here f.linked, value_if_fits e f.names f.places f.kinds)
  action_fits (PrintValue e) f = (linked_is here f.linked, (kind_of slots e, exp_fits e f.names f.places f.kinds))
  action_fits (Generate event e) f =
      let names = and_parts (has_event h event) (value_has h slots e) f.names in
      let places = and_parts (event_is_here h here event) (value_is_here h here e) f.places in
      (event_fits h here event places.0, int_if_fits e names.1 places.1 f.kinds)
  action_fits (ControlThread control e s) f =
      let names = and_parts (exp_has h slots e) (has_scheduler h s) f.names in
      (of_kind Thread e names.0 f.places f.kinds, scheduler_fits s names.1)
  action_fits (Broadcast event e) f =
      let names = and_parts (has_event h event) (value_has h slots e) f.names in
      (ltb-true event.0 (length h.events) names.0, int_if_fits e names.1 f.places f.kinds)

  pub pause_fits : (k : ℕ) (pause : Pause) → IsTested (Hold k pause) → PauseFits h slots here pause
  pause_fits k (Cooperate instants) f = (linked_is here f.linked, int_if_fits instants f.names f.places f.kinds)
  pause_fits k (Await events limit) f =
      let names = and_parts (has_choices h events) (value_has h slots limit) f.names in
      let places = and_parts (events_are_here h here events) (value_is_here h here limit) f.places in
      (events_fit h here events places.0, int_if_fits limit names.1 places.1 f.kinds)
  pause_fits k (Get event index t) f =
      let names = and_parts (has_event h event && exp_has h slots index) (target_has h slots t) f.names in
      let name = and_parts (has_event h event) (exp_has h slots index) names.0 in
      let places = and_parts (event_is_here h here event && exp_is_here h here index) (target_is_here h here t) f.places in
      let place = and_parts (event_is_here h here event) (exp_is_here h here index) places.0 in
      let kinds = and_parts (has_kind slots Int index) (same_kind (target_kind slots t) Int) f.kinds in
      (event_fits h here event place.0, of_kind Int index name.1 place.1 kinds.0, of_target Int t names.1 places.1 kinds.1)
  pause_fits k (Join thread limit) f =
      let names = and_parts (exp_has h slots thread) (value_has h slots limit) f.names in
      let places = and_parts (exp_is_here h here thread) (value_is_here h here limit) f.places in
      let kinds = and_parts (has_kind slots Thread thread) (int_if slots limit) f.kinds in
      (linked_is here f.linked, of_kind Thread thread names.0 places.0 kinds.0, int_if_fits limit names.1 places.1 kinds.1)
  pause_fits k (Link s) f = scheduler_fits s f.names
  pause_fits k Unlink f = linked_is here f.linked
  pause_fits k Halt f = linked_is here f.linked

  pub run_fits : (k : ℕ) (m : ModuleId) (es : List Exp) → IsTested (Call k m es) → RunFits h slots here m es
  run_fits k m es f =
      let names = and_parts (has_module h m) (exps_have h slots es) f.names in
      let places = and_parts (begins_at here (slice_get h.modules m.0)) (exps_are_here h here es) f.places in
      call_fits m es here places.0 names.1 places.1 f.kinds

  pub test_fits : (t : ℕ) (test : Exp) → IsTested (Branch t test) → IsInt h slots here test
  test_fits t test f = of_kind Int test f.names f.places f.kinds

  pub count_fits : (count : Exp) → IsTested (Count count) → IsInt h slots here count
  count_fits count f = of_kind Int count f.names f.places f.kinds

-- an operation that passes all tests
pub tested : (h : Heads) (signature : Signature) (lines : List Line) (p : ℕ) (l : Line) → Passes h signature lines p l → IsTested h (slots_of signature) l.place l.operation
tested h signature lines p l f =
    let names = and_parts (has_place h l.place) (operation_has h (slots_of signature) l.operation) (not-false (has_place h l.place && operation_has h (slots_of signature) l.operation) f.name) in
    let allowed = not-false (is_allowed h l.place l.operation) (or_parts _ _ (or_parts _ _ (or_parts _ _ f.place).0).0).0 in
    let parts = and_parts (is_linked l.place || not (linked_only l.operation)) (operation_is_here h l.place l.operation) allowed in
    record { names = names.1; linked = parts.0; places = parts.1; kinds = not-false (operation_agrees (slots_of signature) h l.operation) f.kind }
