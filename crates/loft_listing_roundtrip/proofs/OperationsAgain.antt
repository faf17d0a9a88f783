-- Operations with the names of code are right, and the same again with numbers.
use Rattle.std.proofs.Common.{◌≡◌, ℕ, ◌<◌, true, ◌&&◌, List, [], ◌∷◌, length, Option, Some, None, refl, ap}
use Rattle.std.specs.Prelude.{nat_le, slice_get}
use Rattle.std.proofs.lemmas.Bool.{and_from, and_parts, ltb-true}
use Rattle.loft_base.specs.declared.ids.SchedId.{SchedId}
use Rattle.loft_base.specs.declared.ids.EventId.{EventId}
use Rattle.loft_base.specs.declared.ids.ModuleId.{ModuleId}
use Rattle.loft_tree.specs.declared.limits.TheConstants.{MAX_CHOICES}
use Rattle.loft_tree.specs.declared.heads.Place.{Place}
use Rattle.loft_tree.specs.declared.heads.Place.TheVariants as place
use Rattle.loft_tree.specs.declared.heads.Signature.{Signature}
use Rattle.loft_tree.specs.declared.heads.Heads.{Heads}
use Rattle.loft_tree.specs.NamedFits.{slots_of}
use Rattle.loft_tree.specs.Resolved as r
use Rattle.loft_tree.specs.Resolved.{Exp, Target, Action, Pause}
use Rattle.loft_scopes.specs.Scopes.{Declared}
use Rattle.loft_scopes.specs.declared.scope.Scope.TheVariants.{Within}
use Rattle.loft_numbers.specs.Numbers.{module_of, place_of}
use Rattle.loft_code.specs.Names.{action_has, has_choices, has_event, has_events, has_place, made_has, operation_has, pause_has, value_has}
use Rattle.loft_code.specs.Operations.{Operation, Do, Hold, Call, Branch, Enter, Count, Turn, Jump, End, Line}
use Rattle.loft_listing.specs.Called.{called_action, called_pause, called_module, called_place}
use Rattle.loft_listing.specs.Lines.{called_operation}
use Rattle.loft_listing_names.specs.Named.{instruction_names, operation_names, place_names, statement_names}
use Rattle.loft_listing_reader.specs.Numbered.{numbered_instruction, numbered_line, numbered_statement}
use Rattle.loft_listing_roundtrip.proofs.Saying.{called_line}
use Rattle.loft_listing_roundtrip.proofs.OneMeaning.{Says}
use Rattle.loft_listing_roundtrip.proofs.Called.{there_at}
use Rattle.loft_listing_roundtrip.proofs.HeadsAgain.{scheduler_again, module_again, place_again}
use Rattle.loft_listing_roundtrip.proofs.ValuesAgain.{scheduler_named, event_named, module_named, target_named, events_named, expression_named, value_named, values_named, target_again, exp_again, value_again, values_again, event_again, events_again}

-- what stands in the module with this number and this signature
module _ (ds : List Declared) (h : Heads) (says : Says ds h) (k : ℕ) (m : Signature) (is : slice_get h.modules k ≡ Some m) where
  -- ---- names

  are_events : (es : List EventId) → has_choices h es ≡ true → has_events h es ≡ true
  are_events es has = (and_parts (nat_le 1 (length es) && nat_le (length es) MAX_CHOICES) (has_events h es) has).1

  make_named : (target : Option Target) (s : SchedId) (x : ModuleId) (args : List Exp) → action_has h (slots_of m) (r.Make target s x args) ≡ true
      → statement_names ds (Within k) (called_action h m (r.Make target s x args)) ≡ true
  make_named None s x args has =
      let one = and_parts _ _ has in
      let two = and_parts _ _ one.0 in
      let three = and_parts (made_has h (slots_of m) None) _ two.0 in
      and_from _ _ (scheduler_named ds h says k m is s (ltb-true _ _ three.1)) (and_from _ _ (module_named ds h says k m is x (ltb-true _ _ two.1)) (values_named ds h says k m is args one.1))
  make_named (Some target) s x args has =
      let one = and_parts _ _ has in
      let two = and_parts _ _ one.0 in
      let three = and_parts (made_has h (slots_of m) (Some target)) _ two.0 in
      and_from _ _ (target_named ds h says k m is target three.0)
      (and_from _ _ (scheduler_named ds h says k m is s (ltb-true _ _ three.1)) (and_from _ _ (module_named ds h says k m is x (ltb-true _ _ two.1)) (values_named ds h says k m is args one.1)))

  action_named : (a : Action) → action_has h (slots_of m) a ≡ true → statement_names ds (Within k) (called_action h m a) ≡ true
  action_named (r.Assign target value) has = let parts = and_parts _ _ has in and_from _ _ (target_named ds h says k m is target parts.0) (expression_named ds h says k m is value parts.1)
  action_named (r.Make target s x args) has = make_named target s x args has
  action_named (r.PrintText line value) has = value_named ds h says k m is value has
  action_named (r.PrintValue value) has = expression_named ds h says k m is value has
  action_named (r.Generate event value) has = let parts = and_parts _ _ has in and_from _ _ (event_named ds h says k m is event (ltb-true _ _ parts.0)) (value_named ds h says k m is value parts.1)
  action_named (r.ControlThread control thread s) has = let parts = and_parts _ _ has in and_from _ _ (expression_named ds h says k m is thread parts.0) (scheduler_named ds h says k m is s (ltb-true _ _ parts.1))
  action_named (r.Broadcast event value) has = let parts = and_parts _ _ has in and_from _ _ (event_named ds h says k m is event (ltb-true _ _ parts.0)) (value_named ds h says k m is value parts.1)

  wait_named : (events : List EventId) (limit : Option Exp) → pause_has h (slots_of m) (r.Await events limit) ≡ true
      → statement_names ds (Within k) (called_pause h m (r.Await events limit)) ≡ true
  wait_named [] limit has = value_named ds h says k m is limit (and_parts (has_choices h []) (value_has h (slots_of m) limit) has).1
  wait_named (event ∷ []) limit has =
      let parts = and_parts (has_choices h (event ∷ [])) (value_has h (slots_of m) limit) has in
      let events = and_parts (has_event h event) (has_events h []) (are_events (event ∷ []) parts.0) in
      and_from _ _ (event_named ds h says k m is event (ltb-true _ _ events.0)) (value_named ds h says k m is limit parts.1)
  wait_named (event ∷ other ∷ events) limit has =
      let parts = and_parts (has_choices h (event ∷ other ∷ events)) (value_has h (slots_of m) limit) has in
      and_from _ _ (events_named ds h says k m is (event ∷ other ∷ events) (are_events (event ∷ other ∷ events) parts.0)) (value_named ds h says k m is limit parts.1)

  pause_named : (p : Pause) → pause_has h (slots_of m) p ≡ true → statement_names ds (Within k) (called_pause h m p) ≡ true
  pause_named (r.Cooperate instants) has = value_named ds h says k m is instants has
  pause_named (r.Await events limit) has = wait_named events limit has
  pause_named (r.Get event index target) has =
      let one = and_parts _ _ has in
      let two = and_parts _ _ one.0 in
      and_from _ _ (event_named ds h says k m is event (ltb-true _ _ two.0)) (and_from _ _ (expression_named ds h says k m is index two.1) (target_named ds h says k m is target one.1))
  pause_named (r.Join thread limit) has = let parts = and_parts _ _ has in and_from _ _ (expression_named ds h says k m is thread parts.0) (value_named ds h says k m is limit parts.1)
  pause_named (r.Link s) has = scheduler_named ds h says k m is s (ltb-true _ _ has)
  pause_named r.Unlink has = refl
  pause_named r.Halt has = refl

  operation_named : (o : Operation) → operation_has h (slots_of m) o ≡ true → instruction_names ds (Within k) (called_operation h m o) ≡ true
  operation_named (Do action) has = action_named action has
  operation_named (Hold number pause) has = pause_named pause has
  operation_named (Call number x args) has =
      let parts = and_parts _ _ has in and_from _ _ (module_named ds h says k m is x (ltb-true _ _ parts.0)) (values_named ds h says k m is args parts.1)
  operation_named (Branch t test) has = expression_named ds h says k m is test has
  operation_named Enter has = refl
  operation_named (Count count) has = expression_named ds h says k m is count has
  operation_named (Turn t) has = refl
  operation_named (Jump t) has = refl
  operation_named End has = refl

  place_named : (p : Place) → has_place h p ≡ true → place_names ds (Within k) (called_place h p) ≡ true
  place_named (place.Sched s) has = scheduler_named ds h says k m is s (ltb-true _ _ has)
  place_named place.Unlinked has = refl

  -- the names of an operation are right
  pub line_named : (l : Line) → (has_place h l.place && operation_has h (slots_of m) l.operation) ≡ true → operation_names ds (Within k) (called_line h m l) ≡ true
  line_named l has = let parts = and_parts _ _ has in and_from _ _ (place_named l.place parts.0) (operation_named l.operation parts.1)

  -- ---- the same again

  called_again : (x : ModuleId) → x.0 < length h.modules → module_of ds (Within k) (called_module h x) ≡ x
  called_again x less = let signature = there_at h.modules x.0 less in module_again ds h says (Within k) x signature.0 signature.1

  make_again : (number : ℕ) (target : Option Target) (s : SchedId) (x : ModuleId) (args : List Exp) → action_has h (slots_of m) (r.Make target s x args) ≡ true
      → numbered_statement ds (Within k) number (called_action h m (r.Make target s x args)) ≡ Do (r.Make target s x args)
  make_again number None s x args has =
      let one = and_parts _ _ has in
      let two = and_parts _ _ one.0 in
      let three = and_parts (made_has h (slots_of m) None) _ two.0 in
      (λ i. Do (r.Make None (scheduler_again ds h says (Within k) s (ltb-true _ _ three.1) i) (called_again x (ltb-true _ _ two.1) i) (values_again ds h says k m is args one.1 i)))
  make_again number (Some target) s x args has =
      let one = and_parts _ _ has in
      let two = and_parts _ _ one.0 in
      let three = and_parts (made_has h (slots_of m) (Some target)) _ two.0 in
      (λ i. Do (r.Make (Some (target_again ds h says k m is target three.0 i)) (scheduler_again ds h says (Within k) s (ltb-true _ _ three.1) i) (called_again x (ltb-true _ _ two.1) i) (values_again ds h says k m is args one.1 i)))

  action_again : (number : ℕ) (a : Action) → action_has h (slots_of m) a ≡ true → numbered_statement ds (Within k) number (called_action h m a) ≡ Do a
  action_again number (r.Assign target value) has =
      let parts = and_parts _ _ has in (λ i. Do (r.Assign (target_again ds h says k m is target parts.0 i) (exp_again ds h says k m is value parts.1 i)))
  action_again number (r.Make target s x args) has = make_again number target s x args has
  action_again number (r.PrintText line value) has = (λ i. Do (r.PrintText line (value_again ds h says k m is value has i)))
  action_again number (r.PrintValue value) has = (λ i. Do (r.PrintValue (exp_again ds h says k m is value has i)))
  action_again number (r.Generate event value) has =
      let parts = and_parts _ _ has in (λ i. Do (r.Generate (event_again ds h says k m is event (ltb-true _ _ parts.0) i) (value_again ds h says k m is value parts.1 i)))
  action_again number (r.ControlThread control thread s) has =
      let parts = and_parts _ _ has in (λ i. Do (r.ControlThread control (exp_again ds h says k m is thread parts.0 i) (scheduler_again ds h says (Within k) s (ltb-true _ _ parts.1) i)))
  action_again number (r.Broadcast event value) has =
      let parts = and_parts _ _ has in (λ i. Do (r.Broadcast (event_again ds h says k m is event (ltb-true _ _ parts.0) i) (value_again ds h says k m is value parts.1 i)))

  wait_again : (number : ℕ) (events : List EventId) (limit : Option Exp) → pause_has h (slots_of m) (r.Await events limit) ≡ true
      → numbered_statement ds (Within k) number (called_pause h m (r.Await events limit)) ≡ Hold number (r.Await events limit)
  wait_again number [] limit has = (λ i. Hold number (r.Await [] (value_again ds h says k m is limit (and_parts (has_choices h []) (value_has h (slots_of m) limit) has).1 i)))
  wait_again number (event ∷ []) limit has =
      let parts = and_parts (has_choices h (event ∷ [])) (value_has h (slots_of m) limit) has in
      let events = and_parts (has_event h event) (has_events h []) (are_events (event ∷ []) parts.0) in
      (λ i. Hold number (r.Await (event_again ds h says k m is event (ltb-true _ _ events.0) i ∷ []) (value_again ds h says k m is limit parts.1 i)))
  wait_again number (event ∷ other ∷ events) limit has =
      let parts = and_parts (has_choices h (event ∷ other ∷ events)) (value_has h (slots_of m) limit) has in
      (λ i. Hold number (r.Await (events_again ds h says k m is (event ∷ other ∷ events) (are_events (event ∷ other ∷ events) parts.0) i) (value_again ds h says k m is limit parts.1 i)))

  pause_again : (number : ℕ) (p : Pause) → pause_has h (slots_of m) p ≡ true → numbered_statement ds (Within k) number (called_pause h m p) ≡ Hold number p
  pause_again number (r.Cooperate instants) has = (λ i. Hold number (r.Cooperate (value_again ds h says k m is instants has i)))
  pause_again number (r.Await events limit) has = wait_again number events limit has
  pause_again number (r.Get event index target) has =
      let one = and_parts _ _ has in
      let two = and_parts _ _ one.0 in
      (λ i. Hold number (r.Get (event_again ds h says k m is event (ltb-true _ _ two.0) i) (exp_again ds h says k m is index two.1 i) (target_again ds h says k m is target one.1 i)))
  pause_again number (r.Join thread limit) has =
      let parts = and_parts _ _ has in (λ i. Hold number (r.Join (exp_again ds h says k m is thread parts.0 i) (value_again ds h says k m is limit parts.1 i)))
  pause_again number (r.Link s) has = (λ i. Hold number (r.Link (scheduler_again ds h says (Within k) s (ltb-true _ _ has) i)))
  pause_again number r.Unlink has = refl
  pause_again number r.Halt has = refl

  operation_again : (o : Operation) → operation_has h (slots_of m) o ≡ true → numbered_instruction ds (Within k) (called_operation h m o) ≡ o
  operation_again (Do action) has = action_again 0 action has
  operation_again (Hold number pause) has = pause_again number pause has
  operation_again (Call number x args) has =
      let parts = and_parts _ _ has in (λ i. Call number (called_again x (ltb-true _ _ parts.0) i) (values_again ds h says k m is args parts.1 i))
  operation_again (Branch t test) has = ap (Branch t) (exp_again ds h says k m is test has)
  operation_again Enter has = refl
  operation_again (Count count) has = ap Count (exp_again ds h says k m is count has)
  operation_again (Turn t) has = refl
  operation_again (Jump t) has = refl
  operation_again End has = refl

  place_is_again : (p : Place) → has_place h p ≡ true → place_of ds (Within k) (called_place h p) ≡ p
  place_is_again (place.Sched s) has = place_again ds h says (Within k) (place.Sched s) (ltb-true _ _ has)
  place_is_again place.Unlinked has = refl

  -- an operation is the same again
  pub line_again : (l : Line) → (has_place h l.place && operation_has h (slots_of m) l.operation) ≡ true → numbered_line ds (Within k) (called_line h m l) ≡ l
  line_again l has = let parts = and_parts _ _ has in (λ i. record { place = place_is_again l.place parts.0 i; depth = l.depth; operation = operation_again l.operation parts.1 i })
