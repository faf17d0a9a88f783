-- The operation of a statement passes the tests that look at it alone.
use Rattle.std.proofs.Common.{◌≡◌, ℕ, ◌≤◌, true, false, List, length, Option, Some, None, slice_get, refl, ap, ◌∙◌, arith}
use Rattle.std.specs.Prelude.{◌≢◌}
use Rattle.std.proofs.lemmas.Bool.{and_from, or_left, or_right, not_from_false, le-leb, lt-ltb}
use Rattle.std.proofs.lemmas.List.{length-map}
use Rattle.loft_base.specs.declared.ids.EventId.{EventId}
use Rattle.loft_base.specs.declared.ids.ModuleId.{ModuleId}
use Rattle.loft_tree.specs.declared.limits.TheConstants.{MAX_NESTING, MAX_CHOICES}
use Rattle.loft_tree.specs.declared.kinds.Kind.{Kind}
use Rattle.loft_tree.specs.declared.kinds.Kind.TheVariants.{Int, Thread}
use Rattle.loft_tree.specs.declared.heads.Place.{Place}
use Rattle.loft_tree.specs.declared.heads.Place.TheVariants.{Sched, Unlinked}
use Rattle.loft_tree.specs.declared.heads.Heads.{Heads}
use Rattle.loft_tree.specs.declared.named.Target.{Target}
use Rattle.loft_tree.specs.Fits.{IfThere}
use Rattle.loft_tree.specs.NamedTree as tree
use Rattle.loft_tree.specs.NamedTree.{EventUse, NamedAction, NamedPause}
use Rattle.loft_tree.specs.NamedFits.{TargetHasKind, ActionHolds, PauseHolds}
use Rattle.loft_tree.specs.Resolved as resolved
use Rattle.loft_tree.specs.Resolved.{Exp, exp_of, events_of, target_if, action_of, pause_of}
use Rattle.loft_place.specs.Links.{AreMet, MayStand, term_needs, value_needs, target_needs, made_needs, events_needs, creation_needs}
use Rattle.loft_code.specs.Operations.{Operation, Do, Hold, Call, Branch, Count}
use Rattle.loft_code.specs.Fits.{OperationFits}
use Rattle.loft_code.specs.Names.{has_events, has_choices, made_has, operation_has}
use Rattle.loft_code.specs.Places.{is_linked, linked_only, begins_at, made_is_here, operation_is_here, is_allowed}
use Rattle.loft_code.specs.Kinds.{has_kind, thread_if, operation_agrees}
use Rattle.loft_translation.proofs.OperandLemmas.{met_left, met_right, same_kind_from, event_passes, events_pass, OperandPasses, operand_passes, int_passes, value_passes, target_passes, CallPasses, call_passes, begins_there}

is_linked_from : (here : Place) → here ≢ Unlinked → is_linked here ≡ true
is_linked_from (Sched s) linked = refl
is_linked_from Unlinked linked = absurd (linked refl)

-- what a program declares, the kinds of the slots of a module, and where a thread is linked
module _ (h : Heads) (slots : List Kind) (here : Place) where
  -- all that it names is declared and here, its place allows it, its operands have their kinds, and it is small enough
  pub record OperationPasses (o : Operation) : Type 0 where
    pub has : operation_has h slots o ≡ true
    pub allowed : is_allowed h here o ≡ true
    pub agrees : operation_agrees slots h o ≡ true
    pub fits : OperationFits o

  allowed_linked : (o : Operation) → here ≢ Unlinked → operation_is_here h here o ≡ true → is_allowed h here o ≡ true
  allowed_linked o linked is = and_from _ _ (or_left (is_linked here) _ (is_linked_from here linked)) is

  pub allowed_anywhere : (o : Operation) → linked_only o ≡ false → operation_is_here h here o ≡ true → is_allowed h here o ≡ true
  allowed_anywhere o free is = and_from _ _ (or_right (is_linked here) _ (not_from_false _ free)) is

  -- ---- actions

  -- what a new thread is assigned to
  record MadePasses (t : Option resolved.Target) : Type 0 where
    pub has : made_has h slots t ≡ true
    pub is_here : made_is_here h here t ≡ true
    pub kind_is : thread_if slots t ≡ true

  made_passes : (t : Option Target) → IfThere (λ x. TargetHasKind h slots x Thread) t → AreMet (made_needs h here t) → MadePasses (target_if t)
  made_passes None holds met = record { has = refl; is_here = refl; kind_is = refl }
  made_passes (Some t) holds met =
      let target = target_passes h slots here Thread t holds met in
      record { has = target.has; is_here = target.is_here; kind_is = same_kind_from _ Thread target.kind_is }

  -- the action of a statement where n nestings may still be opened
  pub action_passes : (a : NamedAction) (at n : ℕ) → n ≤ MAX_NESTING → ActionHolds h slots a n → MayStand h here (tree.Do at a) → OperationPasses (Do (action_of a))
  action_passes (tree.Assign t e) at n few holds stands =
      let target = target_passes h slots here holds.0 t holds.1 (met_left (target_needs h here t) (term_needs h here e) stands.met) in
      let value = operand_passes h slots here n holds.0 e few holds.2 (met_right (target_needs h here t) (term_needs h here e) stands.met) in
      record {
        has = and_from _ _ target.has value.has;
        allowed = allowed_anywhere (Do (action_of (tree.Assign t e))) refl (and_from _ _ target.is_here value.is_here);
        agrees = ap (λ k. has_kind slots k (exp_of e)) target.kind_is ∙ value.kind_is;
        fits = value.fits;
      }
  action_passes (tree.Make t c) at n few holds stands =
      let made = made_passes t holds.0 (met_left (made_needs h here t) (creation_needs h here c) stands.met) in
      let met = met_right (made_needs h here t) (creation_needs h here c) stands.met in
      let call = call_passes h slots here n c.module c.arguments few holds.1.call met.1 in
      let declared = lt-ltb c.scheduler.0 (length h.schedulers) holds.1.scheduler in
      let begins = begins_there h slots here n c.module (Sched c.scheduler) c.arguments holds.1.call met.0 in
      record {
        has = and_from _ _ (and_from _ _ (and_from _ _ made.has declared) call.has) call.arguments;
        allowed = allowed_linked (Do (action_of (tree.Make t c))) stands.allowed (and_from _ _ (and_from _ _ made.is_here begins) call.are_here);
        agrees = and_from _ _ made.kind_is call.agrees;
        fits = call.fit;
      }
  action_passes (tree.PrintText line e) at n few holds stands =
      let value = value_passes h slots here n e few holds.1 stands.met in
      record { has = value.has; allowed = allowed_linked (Do (action_of (tree.PrintText line e))) stands.allowed value.is_here; agrees = value.kind_is; fits = (holds.0, value.fits) }
  action_passes (tree.PrintValue e) at n few holds stands =
      let value = operand_passes h slots here n holds.0 e few holds.1 stands.met in
      record { has = value.has; allowed = allowed_linked (Do (action_of (tree.PrintValue e))) stands.allowed value.is_here; agrees = value.agrees; fits = value.fits }
  action_passes (tree.Generate event e) at n few holds stands =
      let there = event_passes h slots here event holds.0 stands.met.0 in
      let value = int_passes h slots here n e few holds.1 stands.met.1 in
      record {
        has = and_from _ _ there.0 value.has;
        allowed = allowed_linked (Do (action_of (tree.Generate event e))) stands.allowed (and_from _ _ there.1 value.is_here);
        agrees = value.kind_is;
        fits = value.fits;
      }
  action_passes (tree.ControlThread control e s) at n few holds stands =
      let thread = operand_passes h slots here n Thread e few holds.0 stands.met in
      record {
        has = and_from _ _ thread.has (lt-ltb s.0 (length h.schedulers) holds.1);
        allowed = allowed_anywhere (Do (action_of (tree.ControlThread control e s))) refl thread.is_here;
        agrees = thread.kind_is;
        fits = thread.fits;
      }
  action_passes (tree.Broadcast event e) at n few holds stands =
      let value = int_passes h slots here n e few holds.1 stands.met in
      record {
        has = and_from _ _ (lt-ltb event.event.0 (length h.events) holds.0) value.has;
        allowed = allowed_anywhere (Do (action_of (tree.Broadcast event e))) refl value.is_here;
        agrees = value.kind_is;
        fits = value.fits;
      }

  -- ---- stops

  choices_pass : (events : List EventId) → 1 ≤ length events → length events ≤ MAX_CHOICES → has_events h events ≡ true → has_choices h events ≡ true
  choices_pass events some few declared = and_from _ _ (and_from _ _ (le-leb 1 (length events) some) (le-leb (length events) MAX_CHOICES few)) declared

  -- the same of a pause, at stop k
  pub pause_passes : (w : NamedPause) (at k n : ℕ) → n ≤ MAX_NESTING → PauseHolds h slots w n → MayStand h here (tree.Hold at k w) → OperationPasses (Hold k (pause_of w))
  pause_passes (tree.Cooperate e) at k n few holds stands =
      let value = int_passes h slots here n e few holds stands.met in
      record { has = value.has; allowed = allowed_linked (Hold k (pause_of (tree.Cooperate e))) stands.allowed value.is_here; agrees = value.kind_is; fits = value.fits }
  pause_passes (tree.Await events e) at k n few holds stands =
      let there = events_pass h slots here events holds.0.each (met_left (events_needs h here events) (value_needs h here e) stands.met) in
      let many : length (events_of events) ≡ length events = length-map events (λ (x : EventUse). x.event) in
      let some = choices_pass (events_of events) (omega (arith, many, holds.0.some)) (omega (arith, many, holds.0.few)) there.0 in
      let limit = int_passes h slots here n e few holds.1 (met_right (events_needs h here events) (value_needs h here e) stands.met) in
      record {
        has = and_from _ _ some limit.has;
        allowed = allowed_linked (Hold k (pause_of (tree.Await events e))) stands.allowed (and_from _ _ there.1 limit.is_here);
        agrees = limit.kind_is;
        fits = limit.fits;
      }
  pause_passes (tree.Get event e t) at k n few holds stands =
      let there = event_passes h slots here event holds.0 stands.met.0 in
      let index = operand_passes h slots here n Int e few holds.1 (met_left (term_needs h here e) (target_needs h here t) stands.met.1) in
      let target = target_passes h slots here Int t holds.2 (met_right (term_needs h here e) (target_needs h here t) stands.met.1) in
      record {
        has = and_from _ _ (and_from _ _ there.0 index.has) target.has;
        allowed = allowed_linked (Hold k (pause_of (tree.Get event e t))) stands.allowed (and_from _ _ (and_from _ _ there.1 index.is_here) target.is_here);
        agrees = and_from _ _ index.kind_is (same_kind_from _ Int target.kind_is);
        fits = index.fits;
      }
  pause_passes (tree.Join e limit) at k n few holds stands =
      let thread = operand_passes h slots here n Thread e few holds.0 (met_left (term_needs h here e) (value_needs h here limit) stands.met) in
      let value = int_passes h slots here n limit few holds.1 (met_right (term_needs h here e) (value_needs h here limit) stands.met) in
      record {
        has = and_from _ _ thread.has value.has;
        allowed = allowed_linked (Hold k (pause_of (tree.Join e limit))) stands.allowed (and_from _ _ thread.is_here value.is_here);
        agrees = and_from _ _ thread.kind_is value.kind_is;
        fits = (thread.fits, value.fits);
      }
  pause_passes (tree.Link s) at k n few holds stands =
      record { has = lt-ltb s.0 (length h.schedulers) holds; allowed = allowed_anywhere (Hold k (resolved.Link s)) refl refl; agrees = refl; fits = tt }
  pause_passes tree.Unlink at k n few holds stands = record { has = refl; allowed = allowed_linked (Hold k resolved.Unlink) stands.allowed refl; agrees = refl; fits = tt }
  pause_passes tree.Halt at k n few holds stands = record { has = refl; allowed = allowed_linked (Hold k resolved.Halt) stands.allowed refl; agrees = refl; fits = tt }

  pub run_passes : (k : ℕ) (m : ModuleId) (es : List Exp) → begins_at here (slice_get h.modules m.0) ≡ true → CallPasses h slots here m es → OperationPasses (Call k m es)
  run_passes k m es begins call = record {
    has = and_from _ _ call.has call.arguments;
    allowed = allowed_anywhere (Call k m es) refl (and_from _ _ begins call.are_here);
    agrees = call.agrees;
    fits = call.fit;
  }

  -- ---- tests and counts

  pub branch_passes : (t : ℕ) (e : Exp) → OperandPasses h slots here Int e → OperationPasses (Branch t e)
  branch_passes t e test = record { has = test.has; allowed = allowed_anywhere (Branch t e) refl test.is_here; agrees = test.kind_is; fits = test.fits }

  pub count_passes : (e : Exp) → OperandPasses h slots here Int e → OperationPasses (Count e)
  count_passes e count = record { has = count.has; allowed = allowed_anywhere (Count e) refl count.is_here; agrees = count.kind_is; fits = count.fits }
