-- Statements: they have no faults where they agree, and agree where they have none.
use Rattle.std.proofs.Common.{◌≡◌, List, [], ◌∷◌, Option, Some, None, refl, sym, ap, subst, ◌∙◌}
use Rattle.loft_tree.specs.declared.kinds.Kind.TheVariants.{Int, Thread}
use Rattle.loft_tree.specs.Fits.{Each, IfThere}
use Rattle.loft_tree.specs.Source.{Ident, EventName, Expression, Statement, Assign, AssignCreate, Create, PrintText, PrintValue, Cooperate, Generate, Await, Select, Get, Join, ControlThread, Broadcast, Link, Unlink, Run, Halt, If, While, Repeat, Statements, Done, Then}
use Rattle.loft_scopes.specs.declared.scope.Scope.{Scope}
use Rattle.loft_scopes.specs.Scopes.{Declared}
use Rattle.loft_scopes.specs.Faults.{use_faults, meant, unlike, begin_of, value_use, kind_of, expression_faults, wants, wants_if, event_faults, events_faults, target_faults, statement_faults, body_faults}
use Rattle.loft_names.specs.NamesHold.{MeansEvent, IsOfKind, IsInt, HasSomeKind, StatementAgrees, BodyAgrees}
use Rattle.loft_names.proofs.HeadsMeaning.{none_left, none_right}
use Rattle.loft_names.proofs.HeadsCalls.{kind_holds}
use Rattle.loft_names.proofs.HoldsValues.{none_both, unlike_none, scheduler_means, scheduler_none, event_means, event_none, variable_means, variable_meant, target_means, target_none, expression_agrees, expression_none, wanted_agrees, wanted_none, call_agrees, call_none, creation_agrees, creation_none}

module _ (ds : List Declared) (scope : Scope) where
  has_kind : (e : Expression) → expression_faults ds scope e ≡ [] → HasSomeKind ds scope e
  has_kind e none = let x = expression_agrees ds scope e none in (x.0, x.2)

  if_wanted : (e : Option Expression) → wants_if ds scope Int e ≡ [] → IfThere (IsInt ds scope) e
  if_wanted None none = tt
  if_wanted (Some e) none = wanted_agrees ds scope Int e none

  if_none : (e : Option Expression) → IfThere (IsInt ds scope) e → wants_if ds scope Int e ≡ []
  if_none None is = refl
  if_none (Some e) is = wanted_none ds scope Int e is

  events_mean : (events : List EventName) → events_faults ds scope events ≡ [] → Each (MeansEvent ds scope) events
  events_mean [] none = tt
  events_mean (event ∷ events) none = (event_means ds scope event (none_left _ _ none), events_mean events (none_right (event_faults ds scope event) _ none))

  events_none : (events : List EventName) → Each (MeansEvent ds scope) events → events_faults ds scope events ≡ []
  events_none [] mean = refl
  events_none (event ∷ events) mean = none_both _ _ (event_none ds scope event mean.0) (events_none events mean.1)

  -- the faults of an assignment
  assign_agrees : (target : Ident) (value : Expression) → statement_faults ds scope (Assign target value) ≡ [] → StatementAgrees ds scope (Assign target value)
  assign_agrees target value none =
      let after_target = none_right (use_faults target.at (value_use ds scope target)) _ none in
      let v = variable_means ds scope target (none_left _ _ none) in
      let x = expression_agrees ds scope value (none_left _ _ after_target) in
      let alike = none_right (expression_faults ds scope value) _ after_target in
      let same = kind_holds v.0 x.0 (begin_of value) ((λ i. unlike (sym v.1 i) (sym x.1 i) (begin_of value)) ∙ alike) in
      (v.0, v.2, subst (IsOfKind ds scope value) (sym same) x.2)

  assign_none : (target : Ident) (value : Expression) → StatementAgrees ds scope (Assign target value) → statement_faults ds scope (Assign target value) ≡ []
  assign_none target value (kind, variable, is) =
      let v = variable_meant ds scope kind target variable in
      let x = expression_none ds scope value kind is in
      none_both _ _ (ap (use_faults target.at) v)
      (none_both _ _ x.0 (ap (λ u. unlike (meant u) (kind_of ds scope value) (begin_of value)) v ∙ unlike_none kind (kind_of ds scope value) (begin_of value) x.1))

  mutual
    pub statement_agrees : (s : Statement) → statement_faults ds scope s ≡ [] → StatementAgrees ds scope s
    statement_agrees (Assign target value) none = assign_agrees target value none
    statement_agrees (AssignCreate target at creation) none =
        (target_means ds scope Thread target (none_left _ _ none), creation_agrees ds scope creation (none_right (target_faults ds scope Thread target) _ none))
    statement_agrees (Create at creation) none = creation_agrees ds scope creation none
    statement_agrees (PrintText at line None) none = tt
    statement_agrees (PrintText at line (Some value)) none = has_kind value none
    statement_agrees (PrintValue at value) none = has_kind value none
    statement_agrees (Cooperate at instants) none = if_wanted instants none
    statement_agrees (Generate at event value) none = (event_means ds scope event (none_left _ _ none), if_wanted value (none_right (event_faults ds scope event) _ none))
    statement_agrees (Await at event limit) none = (event_means ds scope event (none_left _ _ none), if_wanted limit (none_right (event_faults ds scope event) _ none))
    statement_agrees (Select at events limit) none = (events_mean events (none_left _ _ none), if_wanted limit (none_right (events_faults ds scope events) _ none))
    statement_agrees (Get at event index target) none =
        let rest = none_right (event_faults ds scope event) _ none in
        (event_means ds scope event (none_left _ _ none), wanted_agrees ds scope Int index (none_left _ _ rest), target_means ds scope Int target (none_right (wants ds scope Int index) _ rest))
    statement_agrees (Join at thread limit) none = (wanted_agrees ds scope Thread thread (none_left _ _ none), if_wanted limit (none_right (wants ds scope Thread thread) _ none))
    statement_agrees (ControlThread at control thread scheduler) none =
        (wanted_agrees ds scope Thread thread (none_left _ _ none), scheduler_means ds scope scheduler (none_right (wants ds scope Thread thread) _ none))
    statement_agrees (Broadcast at event value) none = (event_means ds scope event (none_left _ _ none), if_wanted value (none_right (event_faults ds scope event) _ none))
    statement_agrees (Link at scheduler) none = scheduler_means ds scope scheduler none
    statement_agrees (Unlink at) none = tt
    statement_agrees (Run at called arguments) none = call_agrees ds scope called arguments none
    statement_agrees (Halt at) none = tt
    statement_agrees (If at test first second) none =
        let rest = none_right (wants ds scope Int test) _ none in
        (wanted_agrees ds scope Int test (none_left _ _ none), body_agrees first (none_left _ _ rest), body_agrees second (none_right (body_faults ds scope first) _ rest))
    statement_agrees (While at test body) none = (wanted_agrees ds scope Int test (none_left _ _ none), body_agrees body (none_right (wants ds scope Int test) _ none))
    statement_agrees (Repeat at count body) none = (wanted_agrees ds scope Int count (none_left _ _ none), body_agrees body (none_right (wants ds scope Int count) _ none))

    pub body_agrees : (body : Statements) → body_faults ds scope body ≡ [] → BodyAgrees ds scope body
    body_agrees Done none = tt
    body_agrees (Then first rest) none = (statement_agrees first (none_left _ _ none), body_agrees rest (none_right (statement_faults ds scope first) _ none))

  mutual
    pub statement_none : (s : Statement) → StatementAgrees ds scope s → statement_faults ds scope s ≡ []
    statement_none (Assign target value) agrees = assign_none target value agrees
    statement_none (AssignCreate target at creation) agrees = none_both _ _ (target_none ds scope Thread target agrees.0) (creation_none ds scope creation agrees.1)
    statement_none (Create at creation) agrees = creation_none ds scope creation agrees
    statement_none (PrintText at line None) agrees = refl
    statement_none (PrintText at line (Some value)) agrees = (expression_none ds scope value agrees.0 agrees.1).0
    statement_none (PrintValue at value) agrees = (expression_none ds scope value agrees.0 agrees.1).0
    statement_none (Cooperate at instants) agrees = if_none instants agrees
    statement_none (Generate at event value) agrees = none_both _ _ (event_none ds scope event agrees.0) (if_none value agrees.1)
    statement_none (Await at event limit) agrees = none_both _ _ (event_none ds scope event agrees.0) (if_none limit agrees.1)
    statement_none (Select at events limit) agrees = none_both _ _ (events_none events agrees.0) (if_none limit agrees.1)
    statement_none (Get at event index target) agrees =
        none_both _ _ (event_none ds scope event agrees.0) (none_both _ _ (wanted_none ds scope Int index agrees.1) (target_none ds scope Int target agrees.2))
    statement_none (Join at thread limit) agrees = none_both _ _ (wanted_none ds scope Thread thread agrees.0) (if_none limit agrees.1)
    statement_none (ControlThread at control thread scheduler) agrees = none_both _ _ (wanted_none ds scope Thread thread agrees.0) (scheduler_none ds scope scheduler agrees.1)
    statement_none (Broadcast at event value) agrees = none_both _ _ (event_none ds scope event agrees.0) (if_none value agrees.1)
    statement_none (Link at scheduler) agrees = scheduler_none ds scope scheduler agrees
    statement_none (Unlink at) agrees = refl
    statement_none (Run at called arguments) agrees = call_none ds scope called arguments agrees
    statement_none (Halt at) agrees = refl
    statement_none (If at test first second) agrees = none_both _ _ (wanted_none ds scope Int test agrees.0) (none_both _ _ (body_none first agrees.1) (body_none second agrees.2))
    statement_none (While at test body) agrees = none_both _ _ (wanted_none ds scope Int test agrees.0) (body_none body agrees.1)
    statement_none (Repeat at count body) agrees = none_both _ _ (wanted_none ds scope Int count agrees.0) (body_none body agrees.1)

    pub body_none : (body : Statements) → BodyAgrees ds scope body → body_faults ds scope body ≡ []
    body_none Done agrees = refl
    body_none (Then first rest) agrees = none_both _ _ (statement_none first agrees.0) (body_none rest agrees.1)
