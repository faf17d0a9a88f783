-- Statements without a fault hold also with numbers.
use Rattle.std.proofs.Common.{◌≡◌, ℕ, ◌+◌, ◌≤◌, suc, List, [], ◌∷◌, ◌++◌, length, Option, Some, None, refl, sym, subst, ap, ◌∙◌, arith}
use Rattle.std.specs.Prelude.{slice_get}
use Rattle.loft_tree.specs.declared.kinds.Kind.{Kind}
use Rattle.loft_tree.specs.declared.kinds.Kind.TheVariants.{Int, Thread}
use Rattle.loft_tree.specs.declared.heads.Signature.{Signature}
use Rattle.loft_tree.specs.declared.heads.Heads.{Heads}
use Rattle.loft_tree.specs.declared.limits.TheConstants.{MAX_CHOICES}
use Rattle.loft_tree.specs.Source.{Ident, EventName, Expression, Creation, Statement, Assign, AssignCreate, Create, PrintText, PrintValue, Cooperate, Generate, Await, Select, Get, Join, ControlThread, Broadcast, Link, Unlink, Run, Halt, If, While, Repeat, Statements, Done, Then}
use Rattle.loft_tree.specs.Fits.{ArgumentsFit, ChoicesFit, CreationFits, Each, ExpressionFits, IfThere, StatementFits, StatementsFit}
use Rattle.loft_tree.specs.HeadsFit.{kinds_of}
use Rattle.loft_tree.specs.NamedFits.{ArgumentsHold, ChoicesHold, CreationHolds, IsCall, IsEvent, IsOf, IsValue, StatementHolds, StatementsHold, slots_of}
use Rattle.loft_scopes.specs.declared.scope.Scope.{Scope}
use Rattle.loft_scopes.specs.declared.scope.Scope.TheVariants.{Within}
use Rattle.loft_scopes.specs.Scopes.{Declared}
use Rattle.loft_scopes.specs.Faults.{arguments_faults, arity_faults, begin_of, body_faults, call_faults, creation_faults, event_faults, events_faults, expression_faults, kind_of, kinds_wanted, meant, module_use, scheduler_faults, statement_faults, target_faults, unlike, use_faults, value_use, wants, wants_if}
use Rattle.loft_numbers.specs.Numbers.{body_of, body_stops, creation_of, event_use, event_uses, number_of, statement_of, stops_in, terms_of, value_of}
use Rattle.loft_names.specs.HeadOf.{HasHead}
use Rattle.loft_names.proofs.HeadsCalls.{arity_holds}
use Rattle.loft_names.proofs.HeadsMeaning.{called_holds, event_holds, scheduler_holds}
use Rattle.loft_names.proofs.NumberedValues.{expression_kind, is_of, is_of_wanted, is_value, known_kind, none_of_both, target_holds, target_wanted, wanted_if, wanted_kind}

-- as many events as names
uses-length : (ds : List Declared) (scope : Scope) (events : List EventName) → length (event_uses ds scope events) ≡ length events
uses-length ds scope [] = refl
uses-length ds scope (event ∷ events) = ap suc (uses-length ds scope events)

module _ (h : Heads) (ds : List Declared) (each : Each (HasHead h) ds) (m : ℕ) (sig : Signature) (there : slice_get h.modules m ≡ Some sig) where
  -- ---- events

  each_event : (events : List EventName) → events_faults ds (Within m) events ≡ [] → Each (IsEvent h (slots_of sig)) (event_uses ds (Within m) events)
  each_event [] none = tt
  each_event (event ∷ events) none =
      let parts = none_of_both (event_faults ds (Within m) event) (events_faults ds (Within m) events) none in
      (event_holds h ds each (Within m) event parts.0, each_event events parts.1)

  choices_hold : (events : List EventName) → ChoicesFit events → events_faults ds (Within m) events ≡ [] → ChoicesHold h (slots_of sig) (event_uses ds (Within m) events)
  choices_hold events fits none = record {
    each = each_event events none;
    some = omega (arith, fits.several, uses-length ds (Within m) events);
    few = subst (λ (n : ℕ). n ≤ MAX_CHOICES) (sym (uses-length ds (Within m) events)) fits.few;
  }

  -- ---- calls

  arguments_hold : (n : ℕ) (kinds : List Kind) (es : List Expression) → Each (ExpressionFits n) es → length es ≡ length kinds → arguments_faults ds (Within m) kinds es ≡ []
      → ArgumentsHold h (slots_of sig) n kinds (terms_of ds (Within m) es)
  arguments_hold n [] [] fits many none = tt
  arguments_hold n [] (e ∷ es) fits many none = absurd (omega arith)
  arguments_hold n (kind ∷ kinds) [] fits many none = absurd (omega arith)
  arguments_hold n (kind ∷ kinds) (e ∷ es) fits many none =
      let parts = none_of_both (wants ds (Within m) kind e) (arguments_faults ds (Within m) kinds es) none in
      (is_of_wanted h ds each m sig there n kind e fits.0 parts.0, arguments_hold n kinds es fits.1 (omega arith) parts.1)

  call_holds : (n : ℕ) (called : Ident) (es : List Expression) → ArgumentsFit n es → call_faults ds (Within m) called es ≡ []
      → IsCall h (slots_of sig) n (slice_get h.modules (number_of ds (Within m) called)) (terms_of ds (Within m) es)
  call_holds n called es fits none =
      let parameters : Option (List Kind) = meant (module_use ds (Within m) called) in
      let one = none_of_both (use_faults called.at (module_use ds (Within m) called)) (arity_faults called.at parameters (length es) ++ arguments_faults ds (Within m) (kinds_wanted parameters) es) none in
      let two = none_of_both (arity_faults called.at parameters (length es)) (arguments_faults ds (Within m) (kinds_wanted parameters) es) one.1 in
      let callee = called_holds h ds each (Within m) called one.0 in
      let kinds : List Kind = kinds_of callee.head.parameters in
      let takes : parameters ≡ Some kinds = callee.wanted ∙ ap Some (sym callee.takes) in
      subst (λ (o : Option Signature). IsCall h (slots_of sig) n o (terms_of ds (Within m) es)) (sym callee.there)
      (arguments_hold n kinds es fits.each
      (arity_holds called.at kinds (length es) (ap (λ o. arity_faults called.at o (length es)) (sym takes) ∙ two.0))
      (ap (λ o. arguments_faults ds (Within m) (kinds_wanted o) es) (sym takes) ∙ two.1))

  creation_holds : (n : ℕ) (c : Creation) → CreationFits n c → creation_faults ds (Within m) c ≡ [] → CreationHolds h (slots_of sig) n (creation_of ds (Within m) c)
  creation_holds n c fits none =
      let parts = none_of_both (scheduler_faults ds (Within m) c.scheduler) (call_faults ds (Within m) c.called c.arguments) none in
      record { scheduler = scheduler_holds h ds each (Within m) c.scheduler parts.0; call = call_holds n c.called c.arguments fits.arguments parts.1 }

  -- ---- statements

  value_if : (n : ℕ) (value : Option Expression) (at : ℕ) (line : List ℕ) → IfThere (ExpressionFits n) value → statement_faults ds (Within m) (PrintText at line value) ≡ []
      → IfThere (IsValue h (slots_of sig) n) (value_of ds (Within m) value)
  value_if n None at line fits none = tt
  value_if n (Some e) at line fits none = is_value h ds each m sig there n e fits none

  event_and : (n : ℕ) (event : EventName) (value : Option Expression) → IfThere (ExpressionFits n) value → event_faults ds (Within m) event ++ wants_if ds (Within m) Int value ≡ []
      → IsEvent h (slots_of sig) (event_use ds (Within m) event) × IfThere (IsOf h (slots_of sig) Int n) (value_of ds (Within m) value)
  event_and n event value fits none =
      let parts = none_of_both (event_faults ds (Within m) event) (wants_if ds (Within m) Int value) none in
      (event_holds h ds each (Within m) event parts.0, wanted_if h ds each m sig there n Int value fits parts.1)

  await_holds : (n : ℕ) (event : EventName) (limit : Option Expression) → IfThere (ExpressionFits n) limit → event_faults ds (Within m) event ++ wants_if ds (Within m) Int limit ≡ []
      → ChoicesHold h (slots_of sig) (event_use ds (Within m) event ∷ []) × IfThere (IsOf h (slots_of sig) Int n) (value_of ds (Within m) limit)
  await_holds n event limit fits none =
      let parts = event_and n event limit fits none in
      (record { each = (parts.0, tt); some = omega arith; few = omega arith }, parts.1)

  assign_holds : (n : ℕ) (target : Ident) (value : Expression) → ExpressionFits n value → statement_faults ds (Within m) (Assign target value) ≡ []
      → StatementHolds h (slots_of sig) (statement_of ds (Within m) (Assign target value) 0) n
  assign_holds n target value fits none =
      let one = none_of_both (use_faults target.at (value_use ds (Within m) target)) (expression_faults ds (Within m) value ++ unlike (meant (value_use ds (Within m) target)) (kind_of ds (Within m) value) (begin_of value)) none in
      let two = none_of_both (expression_faults ds (Within m) value) (unlike (meant (value_use ds (Within m) target)) (kind_of ds (Within m) value) (begin_of value)) one.1 in
      let wanted = known_kind (value_use ds (Within m) target) target.at one.0 in
      let found = expression_kind h ds each m sig there value two.0 in
      let same : found.0 ≡ wanted.0 = wanted_kind wanted.0 (kind_of ds (Within m) value) found.0 (begin_of value) found.1 (ap (λ o. unlike o (kind_of ds (Within m) value) (begin_of value)) (sym wanted.1) ∙ two.1) in
      (wanted.0, target_holds h ds each m sig there target wanted.0 wanted.1, is_of h ds each m sig there n value wanted.0 fits two.0 (found.1 ∙ ap Some same))

  mutual
    statement_holds : (s : Statement) (n k : ℕ) → StatementFits s n → statement_faults ds (Within m) s ≡ [] → StatementHolds h (slots_of sig) (statement_of ds (Within m) s k) n
    statement_holds (Assign target value) n k fits none = assign_holds n target value fits.1 none
    statement_holds (AssignCreate target at creation) n k fits none =
        let parts = none_of_both (target_faults ds (Within m) Thread target) (creation_faults ds (Within m) creation) none in
        (target_wanted h ds each m sig there target Thread parts.0, creation_holds n creation fits.1 parts.1)
    statement_holds (Create at creation) n k fits none = (tt, creation_holds n creation fits none)
    statement_holds (PrintText at line value) n k fits none = (fits.0, value_if n value at line fits.1 none)
    statement_holds (PrintValue at value) n k fits none = is_value h ds each m sig there n value fits none
    statement_holds (Cooperate at instants) n k fits none = wanted_if h ds each m sig there n Int instants fits none
    statement_holds (Generate at event value) n k fits none = event_and n event value fits.1 none
    statement_holds (Await at event limit) n k fits none = await_holds n event limit fits.1 none
    statement_holds (Select at events limit) n k fits none =
        let parts = none_of_both (events_faults ds (Within m) events) (wants_if ds (Within m) Int limit) none in
        (choices_hold events fits.0 parts.0, wanted_if h ds each m sig there n Int limit fits.1 parts.1)
    statement_holds (Get at event index target) n k fits none =
        let one = none_of_both (event_faults ds (Within m) event) (wants ds (Within m) Int index ++ target_faults ds (Within m) Int target) none in
        let two = none_of_both (wants ds (Within m) Int index) (target_faults ds (Within m) Int target) one.1 in
        (event_holds h ds each (Within m) event one.0, is_of_wanted h ds each m sig there n Int index fits.1 two.0, target_wanted h ds each m sig there target Int two.1)
    statement_holds (Join at thread limit) n k fits none =
        let parts = none_of_both (wants ds (Within m) Thread thread) (wants_if ds (Within m) Int limit) none in
        (is_of_wanted h ds each m sig there n Thread thread fits.0 parts.0, wanted_if h ds each m sig there n Int limit fits.1 parts.1)
    statement_holds (ControlThread at control thread scheduler) n k fits none =
        let parts = none_of_both (wants ds (Within m) Thread thread) (scheduler_faults ds (Within m) scheduler) none in
        (is_of_wanted h ds each m sig there n Thread thread fits.0 parts.0, scheduler_holds h ds each (Within m) scheduler parts.1)
    statement_holds (Broadcast at event value) n k fits none = event_and n event value fits.1 none
    statement_holds (Link at scheduler) n k fits none = scheduler_holds h ds each (Within m) scheduler none
    statement_holds (Unlink at) n k fits none = tt
    statement_holds (Run at called arguments) n k fits none = call_holds n called arguments fits.1 none
    statement_holds (Halt at) n k fits none = tt
    statement_holds (If at test first second) n k (less, one_less, small, first_fits, second_fits) none =
        let one = none_of_both (wants ds (Within m) Int test) (body_faults ds (Within m) first ++ body_faults ds (Within m) second) none in
        let two = none_of_both (body_faults ds (Within m) first) (body_faults ds (Within m) second) one.1 in
        (less, one_less, is_of_wanted h ds each m sig there less Int test small one.0, statements_hold first less k first_fits two.0, statements_hold second less (k + body_stops first) second_fits two.1)
    statement_holds (While at test body) n k (less, one_less, small, body_fits) none =
        let parts = none_of_both (wants ds (Within m) Int test) (body_faults ds (Within m) body) none in
        (less, one_less, is_of_wanted h ds each m sig there less Int test small parts.0, statements_hold body less k body_fits parts.1)
    statement_holds (Repeat at count body) n k (less, one_less, small, body_fits) none =
        let parts = none_of_both (wants ds (Within m) Int count) (body_faults ds (Within m) body) none in
        (less, one_less, is_of_wanted h ds each m sig there less Int count small parts.0, statements_hold body less k body_fits parts.1)

    -- the statements of a body, whose stops are numbered from k + 1
    pub statements_hold : (ss : Statements) (n k : ℕ) → StatementsFit ss n → body_faults ds (Within m) ss ≡ [] → StatementsHold h (slots_of sig) (body_of ds (Within m) ss k) n
    statements_hold Done n k fits none = tt
    statements_hold (Then first rest) n k fits none =
        let parts = none_of_both (statement_faults ds (Within m) first) (body_faults ds (Within m) rest) none in
        (statement_holds first n k fits.0 parts.0, statements_hold rest n (k + stops_in first) fits.1 parts.1)
