-- Operations with the names of code can be written in lines of a listing.
use Rattle.std.proofs.Common.{◌≡◌, true, ◌&&◌, List, [], ◌∷◌, length, Option, Some, None, refl, arith}
use Rattle.std.specs.Prelude.{nat_le}
use Rattle.std.proofs.lemmas.Bool.{and_parts, ltb-true}
use Rattle.loft_base.specs.declared.ids.SchedId.{SchedId}
use Rattle.loft_base.specs.declared.ids.EventId.{EventId}
use Rattle.loft_base.specs.declared.ids.ModuleId.{ModuleId}
use Rattle.loft_tree.specs.declared.heads.Place.{Place}
use Rattle.loft_tree.specs.declared.heads.Place.TheVariants as place
use Rattle.loft_tree.specs.declared.heads.Signature.{Signature}
use Rattle.loft_tree.specs.declared.heads.Heads.{Heads}
use Rattle.loft_tree.specs.declared.limits.TheConstants.{MAX_CHOICES}
use Rattle.loft_tree.specs.Fits.{PlaceFits}
use Rattle.loft_tree.specs.NamedFits.{SignatureHolds, slots_of}
use Rattle.loft_tree.specs.Resolved as r
use Rattle.loft_tree.specs.Resolved.{Action, Exp, Pause, Target}
use Rattle.loft_code.specs.Fits.{ActionFits, HeadsKeep, OperationFits, PauseFits}
use Rattle.loft_code.specs.Names.{action_has, has_choices, has_event, has_events, has_place, made_has, operation_has, pause_has, value_has}
use Rattle.loft_code.specs.Operations.{Operation, Do, Hold, Call, Branch, Enter, Count, Turn, Jump, End}
use Rattle.loft_listing_line.specs.declared.sort.StatementSort.TheVariants as sort
use Rattle.loft_listing_line.specs.RowsFit.{InstructionFits, IsStatementOf}
use Rattle.loft_listing.specs.Called.{called_action, called_pause, called_place}
use Rattle.loft_listing.specs.Lines.{called_operation}
use Rattle.loft_listing_roundtrip.proofs.Passing.{IsSmall}
use Rattle.loft_listing_roundtrip.proofs.DeclarationsFit.{event_fits, module_fits, scheduler_fits}
use Rattle.loft_listing_roundtrip.proofs.ExpressionsFit.{events_fit, expression_fits, target_fits, value_fits, values_fit}

-- events that a wait has are declared
pub are_events : (h : Heads) (es : List EventId) → has_choices h es ≡ true → has_events h es ≡ true
are_events h es has = (and_parts (nat_le 1 (length es) && nat_le (length es) MAX_CHOICES) (has_events h es) has).1

-- what stands in the module with this signature
module _ (h : Heads) (keeps : HeadsKeep h) (m : Signature) (holds : SignatureHolds h m) where
  make_fits : (target : Option Target) (s : SchedId) (x : ModuleId) (args : List Exp) → action_has h (slots_of m) (r.Make target s x args) ≡ true → ActionFits (r.Make target s x args)
      → IsStatementOf sort.Action (called_action h m (r.Make target s x args))
  make_fits None s x args has fits =
      let one = and_parts _ _ has in
      let two = and_parts _ _ one.0 in
      let three = and_parts (made_has h (slots_of m) None) _ two.0 in
      (refl, (scheduler_fits h keeps s (ltb-true _ _ three.1), module_fits h keeps x (ltb-true _ _ two.1), values_fit h keeps m holds args one.1 fits))
  make_fits (Some target) s x args has fits =
      let one = and_parts _ _ has in
      let two = and_parts _ _ one.0 in
      let three = and_parts (made_has h (slots_of m) (Some target)) _ two.0 in
      (refl, (target_fits h keeps m holds target three.0, (scheduler_fits h keeps s (ltb-true _ _ three.1), module_fits h keeps x (ltb-true _ _ two.1), values_fit h keeps m holds args one.1 fits)))

  action_fits : (a : Action) → action_has h (slots_of m) a ≡ true → ActionFits a → IsStatementOf sort.Action (called_action h m a)
  action_fits (r.Assign target value) has fits = let parts = and_parts _ _ has in (refl, (target_fits h keeps m holds target parts.0, expression_fits h keeps m holds value parts.1 fits))
  action_fits (r.Make target s x args) has fits = make_fits target s x args has fits
  action_fits (r.PrintText line value) has fits = (refl, (fits.0, value_fits h keeps m holds value has fits.1))
  action_fits (r.PrintValue value) has fits = (refl, expression_fits h keeps m holds value has fits)
  action_fits (r.Generate event value) has fits = let parts = and_parts _ _ has in (refl, (event_fits h keeps event (ltb-true _ _ parts.0), value_fits h keeps m holds value parts.1 fits))
  action_fits (r.ControlThread control thread s) has fits = let parts = and_parts _ _ has in (refl, (expression_fits h keeps m holds thread parts.0 fits, scheduler_fits h keeps s (ltb-true _ _ parts.1)))
  action_fits (r.Broadcast event value) has fits = let parts = and_parts _ _ has in (refl, (event_fits h keeps event (ltb-true _ _ parts.0), value_fits h keeps m holds value parts.1 fits))

  wait_fits : (events : List EventId) (limit : Option Exp) → pause_has h (slots_of m) (r.Await events limit) ≡ true → PauseFits (r.Await events limit)
      → IsStatementOf sort.Stop (called_pause h m (r.Await events limit))
  wait_fits [] limit has fits = absurd cc
  wait_fits (event ∷ []) limit has fits =
      let parts = and_parts (has_choices h (event ∷ [])) (value_has h (slots_of m) limit) has in
      let events = and_parts (has_event h event) (has_events h []) (are_events h (event ∷ []) parts.0) in
      (refl, (event_fits h keeps event (ltb-true _ _ events.0), value_fits h keeps m holds limit parts.1 fits))
  wait_fits (event ∷ other ∷ events) limit has fits =
      let parts = and_parts (has_choices h (event ∷ other ∷ events)) (value_has h (slots_of m) limit) has in
      (refl, (events_fit h keeps m holds (event ∷ other ∷ events) (are_events h (event ∷ other ∷ events) parts.0), omega arith, value_fits h keeps m holds limit parts.1 fits))

  pause_fits : (p : Pause) → pause_has h (slots_of m) p ≡ true → PauseFits p → IsStatementOf sort.Stop (called_pause h m p)
  pause_fits (r.Cooperate instants) has fits = (refl, value_fits h keeps m holds instants has fits)
  pause_fits (r.Await events limit) has fits = wait_fits events limit has fits
  pause_fits (r.Get event index target) has fits =
      let one = and_parts _ _ has in
      let two = and_parts _ _ one.0 in
      (refl, (event_fits h keeps event (ltb-true _ _ two.0), expression_fits h keeps m holds index two.1 fits, target_fits h keeps m holds target one.1))
  pause_fits (r.Join thread limit) has fits = let parts = and_parts _ _ has in (refl, (expression_fits h keeps m holds thread parts.0 fits.0, value_fits h keeps m holds limit parts.1 fits.1))
  pause_fits (r.Link s) has fits = (refl, scheduler_fits h keeps s (ltb-true _ _ has))
  pause_fits r.Unlink has fits = (refl, tt)
  pause_fits r.Halt has fits = (refl, tt)

  pub instruction_fits : (o : Operation) → operation_has h (slots_of m) o ≡ true → OperationFits o → IsSmall o → InstructionFits (called_operation h m o)
  instruction_fits (Do action) has fits small = action_fits action has fits
  instruction_fits (Hold k pause) has fits small = (small, pause_fits pause has fits)
  instruction_fits (Call k x args) has fits small =
      let parts = and_parts _ _ has in (small, (refl, (module_fits h keeps x (ltb-true _ _ parts.0), values_fit h keeps m holds args parts.1 fits)))
  instruction_fits (Branch t test) has fits small = (small, expression_fits h keeps m holds test has fits)
  instruction_fits Enter has fits small = tt
  instruction_fits (Count count) has fits small = expression_fits h keeps m holds count has fits
  instruction_fits (Turn t) has fits small = small
  instruction_fits (Jump t) has fits small = small
  instruction_fits End has fits small = tt

  pub written_place_fits : (p : Place) → has_place h p ≡ true → PlaceFits (called_place h p)
  written_place_fits (place.Sched s) has = scheduler_fits h keeps s (ltb-true _ _ has)
  written_place_fits place.Unlinked has = tt
