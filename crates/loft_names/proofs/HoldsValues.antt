-- Expressions and calls: they have no faults where they agree, and agree where they have none.
use Rattle.std.proofs.Common.{◌≡◌, ℕ, ◌⊎◌, inl, inr, suc, Bool, true, false, ◌==◌, List, [], ◌∷◌, ◌++◌, length, Option, Some, refl, sym, ap, subst, ◌∙◌, arith}
use Rattle.std.specs.Prelude.{if◌then◌else◌}
use Rattle.std.proofs.lemmas.Bool.{cond-true, eq-eqb}
use Rattle.loft_tree.specs.declared.kinds.Kind.{Kind}
use Rattle.loft_tree.specs.declared.kinds.Kind.TheVariants.{Int, Thread}
use Rattle.loft_tree.specs.KindOf.{builtin_kind, compares}
use Rattle.loft_tree.specs.NamedFits.{OperandsAgree}
use Rattle.loft_tree.specs.Source.{Ident, EventName, Expression, Number, Variable, Special, Unary, Binary, Creation}
use Rattle.loft_scopes.specs.declared.scope.Scope.{Scope}
use Rattle.loft_scopes.specs.Scopes.{Sort, AScheduler, AnEvent, AShared, AModule, AStart, AVariable, Declared, meaning}
use Rattle.loft_scopes.specs.Faults.{Means, allowed, used, use_faults, meant, only_if, is_scheduler, is_event, is_start, parameters_of, kind_in, arity_faults, kinds_wanted, unlike, begin_of, value_use, kind_of, kind_faults, expression_faults, wants, scheduler_faults, event_faults, target_faults, arguments_faults, module_use, call_faults, creation_faults, start_use}
use Rattle.loft_names.specs.NamesHold.{MeansA, MeansEvent, IsVariable, IsOfKind, HasSomeKind, ArgumentsAgree, CallAgrees, CreationAgrees}
use Rattle.loft_names.proofs.HeadsMeaning.{none_left, none_right, means_one, meant_one, only_if_true}
use Rattle.loft_names.proofs.HeadsCalls.{arity_holds, kind_holds}

pub none_both : {A : Type 0} (xs ys : List A) → xs ≡ [] → ys ≡ [] → xs ++ ys ≡ []
none_both xs ys left right = λ i. left i ++ right i

-- ---- sorts

pub scheduler_sort : (sort : Sort) → is_scheduler sort ≡ true → sort ≡ AScheduler
scheduler_sort AScheduler is = refl
scheduler_sort sort is = absurd cc

event_sort : (sort : Sort) → is_event sort ≡ true → sort ≡ AnEvent
event_sort AnEvent is = refl
event_sort sort is = absurd cc

start_sort : (sort : Sort) → is_start sort ≡ true → sort ≡ AStart
start_sort AStart is = refl
start_sort sort is = absurd cc

module_sort : (sort : Sort) (kinds : List Kind) → parameters_of sort ≡ Some kinds → sort ≡ AModule kinds
module_sort (AModule parameters) kinds is = let same : parameters ≡ kinds = cc in ap AModule same
module_sort sort kinds is = absurd cc

value_sort : (sort : Sort) (kind : Kind) → kind_in sort ≡ Some kind → (sort ≡ AVariable kind) ⊎ ((sort ≡ AShared) × (kind ≡ Int))
value_sort (AVariable k) kind is = let same : k ≡ kind = cc in inl (ap AVariable same)
value_sort AShared kind is = let same : kind ≡ Int = cc in inr (refl, same)
value_sort sort kind is = absurd cc

alike_none : (k : Kind) (at : ℕ) → unlike (Some k) (Some k) at ≡ []
alike_none Int at = refl
alike_none Thread at = refl

pub unlike_none : (k : Kind) (found : Option Kind) (at : ℕ) → found ≡ Some k → unlike (Some k) found at ≡ []
unlike_none k found at is = ap (λ o. unlike (Some k) o at) is ∙ alike_none k at

module _ (ds : List Declared) (scope : Scope) where
  -- ---- names

  -- what a declaration of a sort is used as
  pub means_view : {A : Type 0} (view : Sort → Option A) (sort : Sort) (x : A) (name : Ident) → view sort ≡ Some x → MeansA ds scope sort name → used view (meaning ds scope name) ≡ Means x
  means_view view sort x name is m = ap (used view) m.means ∙ ap (λ s. allowed (view s)) m.sorted ∙ ap allowed is

  pub scheduler_means : (name : Ident) → scheduler_faults ds scope name ≡ [] → MeansA ds scope AScheduler name
  scheduler_means name none =
      let m = means_one (only_if is_scheduler) (meaning ds scope name) name.at none in
      record { declaration = m.declaration; means = m.found; sorted = scheduler_sort m.declaration.sort (only_if_true is_scheduler m.declaration.sort m.value m.viewed) }

  pub scheduler_none : (name : Ident) → MeansA ds scope AScheduler name → scheduler_faults ds scope name ≡ []
  scheduler_none name m = ap (use_faults name.at) (means_view (only_if is_scheduler) AScheduler tt name refl m)

  pub event_means : (event : EventName) → event_faults ds scope event ≡ [] → MeansEvent ds scope event
  event_means event none =
      let m = means_one (only_if is_event) (meaning ds scope event.name) event.name.at none in
      record { declaration = m.declaration; means = m.found; sorted = event_sort m.declaration.sort (only_if_true is_event m.declaration.sort m.value m.viewed) }

  pub event_none : (event : EventName) → MeansEvent ds scope event → event_faults ds scope event ≡ []
  event_none event m = ap (use_faults event.name.at) (means_view (only_if is_event) AnEvent tt event.name refl m)

  pub start_means : (name : Ident) → use_faults name.at (start_use ds scope name) ≡ [] → MeansA ds scope AStart name
  start_means name none =
      let m = means_one (only_if is_start) (meaning ds scope name) name.at none in
      record { declaration = m.declaration; means = m.found; sorted = start_sort m.declaration.sort (only_if_true is_start m.declaration.sort m.value m.viewed) }

  pub start_none : (name : Ident) → MeansA ds scope AStart name → use_faults name.at (start_use ds scope name) ≡ []
  start_none name m = ap (use_faults name.at) (means_view (only_if is_start) AStart tt name refl m)

  pub module_means : (name : Ident) → use_faults name.at (module_use ds scope name) ≡ [] → (kinds : List Kind) × MeansA ds scope (AModule kinds) name
  module_means name none =
      let m = means_one parameters_of (meaning ds scope name) name.at none in
      (m.value, record { declaration = m.declaration; means = m.found; sorted = module_sort m.declaration.sort m.value m.viewed })

  pub module_meant : (name : Ident) (kinds : List Kind) → MeansA ds scope (AModule kinds) name → module_use ds scope name ≡ Means kinds
  module_meant name kinds m = means_view parameters_of (AModule kinds) kinds name refl m

  -- a value has a kind
  pub variable_means : (name : Ident) → use_faults name.at (value_use ds scope name) ≡ [] → (kind : Kind) × (meant (value_use ds scope name) ≡ Some kind) × IsVariable ds scope kind name
  variable_means name none =
      let m = means_one kind_in (meaning ds scope name) name.at none in (
        m.value,
        meant_one kind_in (meaning ds scope name) m,
        elim (value_sort m.declaration.sort m.value m.viewed) [
          | inl is ↦ inl (record { declaration = m.declaration; means = m.found; sorted = is })
          | inr (is, int) ↦ inr (record { declaration = m.declaration; means = m.found; sorted = is }, int)
        ],
      )

  pub variable_meant : (kind : Kind) (name : Ident) → IsVariable ds scope kind name → value_use ds scope name ≡ Means kind
  variable_meant kind name (inl m) = means_view kind_in (AVariable kind) kind name refl m
  variable_meant kind name (inr (m, int)) = means_view kind_in AShared Int name refl m ∙ ap Means (sym int)

  pub target_means : (kind : Kind) (name : Ident) → target_faults ds scope kind name ≡ [] → IsVariable ds scope kind name
  target_means kind name none =
      let v = variable_means name (none_left _ _ none) in
      let alike = none_right (use_faults name.at (value_use ds scope name)) _ none in
      let same = kind_holds kind v.0 name.at (ap (λ o. unlike (Some kind) o name.at) (sym v.1) ∙ alike) in
      subst (λ (k : Kind). IsVariable ds scope k name) (sym same) v.2

  pub target_none : (kind : Kind) (name : Ident) → IsVariable ds scope kind name → target_faults ds scope kind name ≡ []
  target_none kind name v =
      let is = variable_meant kind name v in
      none_both _ _ (ap (use_faults name.at) is) (unlike_none kind (meant (value_use ds scope name)) name.at (ap meant is))

  -- ---- expressions

  operands_agree : (b : Bool) (left right : Expression) (k l : Kind) → kind_of ds scope left ≡ Some k → kind_of ds scope right ≡ Some l → IsOfKind ds scope left k → IsOfKind ds scope right l
      → (if b then unlike (kind_of ds scope left) (kind_of ds scope right) (begin_of right) else kind_faults ds scope Int left ++ kind_faults ds scope Int right) ≡ []
      → OperandsAgree b (IsOfKind ds scope left) (IsOfKind ds scope right)
  operands_agree true left right k l left_has right_has left_is right_is none =
      let same = kind_holds k l (begin_of right) ((λ i. unlike (sym left_has i) (sym right_has i) (begin_of right)) ∙ none) in
      (k, left_is, subst (IsOfKind ds scope right) (sym same) right_is)
  operands_agree false left right k l left_has right_has left_is right_is none =
      let one = kind_holds Int k (begin_of left) (ap (λ o. unlike (Some Int) o (begin_of left)) (sym left_has) ∙ none_left _ _ none) in
      let other = kind_holds Int l (begin_of right) (ap (λ o. unlike (Some Int) o (begin_of right)) (sym right_has) ∙ none_right (kind_faults ds scope Int left) _ none) in
      (subst (IsOfKind ds scope left) (sym one) left_is, subst (IsOfKind ds scope right) (sym other) right_is)

  pub expression_agrees : (e : Expression) → expression_faults ds scope e ≡ [] → (kind : Kind) × (kind_of ds scope e ≡ Some kind) × IsOfKind ds scope e kind
  expression_agrees (Number at value) none = (Int, refl, refl)
  expression_agrees (Variable name) none = variable_means name none
  expression_agrees (Special at builtin) none = (builtin_kind builtin, refl, refl)
  expression_agrees (Unary at operator operand) none =
      let x = expression_agrees operand (none_left _ _ none) in
      let alike = none_right (expression_faults ds scope operand) _ none in
      let same = kind_holds Int x.0 (begin_of operand) (ap (λ o. unlike (Some Int) o (begin_of operand)) (sym x.1) ∙ alike) in
      (Int, refl, (subst (IsOfKind ds scope operand) (sym same) x.2, refl))
  expression_agrees (Binary operator left right) none =
      let after_left = none_right (expression_faults ds scope left) _ none in
      let x = expression_agrees left (none_left _ _ none) in
      let y = expression_agrees right (none_left _ _ after_left) in
      (Int, refl, (operands_agree (compares operator) left right x.0 y.0 x.1 y.1 x.2 y.2 (none_right (expression_faults ds scope right) _ after_left), refl))

  operands_none : (b : Bool) (left right : Expression)
      → ((k : Kind) → IsOfKind ds scope left k → kind_of ds scope left ≡ Some k) → ((k : Kind) → IsOfKind ds scope right k → kind_of ds scope right ≡ Some k)
      → OperandsAgree b (IsOfKind ds scope left) (IsOfKind ds scope right)
      → (if b then unlike (kind_of ds scope left) (kind_of ds scope right) (begin_of right) else kind_faults ds scope Int left ++ kind_faults ds scope Int right) ≡ []
  operands_none true left right left_has right_has agree =
      ap (λ o. unlike o (kind_of ds scope right) (begin_of right)) (left_has agree.0 agree.1) ∙ unlike_none agree.0 (kind_of ds scope right) (begin_of right) (right_has agree.0 agree.2)
  operands_none false left right left_has right_has agree =
      none_both _ _ (unlike_none Int (kind_of ds scope left) (begin_of left) (left_has Int agree.0)) (unlike_none Int (kind_of ds scope right) (begin_of right) (right_has Int agree.1))

  -- the operands of an operator have no faults of their own
  left_of : (b : Bool) (left right : Expression) → OperandsAgree b (IsOfKind ds scope left) (IsOfKind ds scope right) → HasSomeKind ds scope left × HasSomeKind ds scope right
  left_of true left right agree = ((agree.0, agree.1), (agree.0, agree.2))
  left_of false left right agree = ((Int, agree.0), (Int, agree.1))

  pub expression_none : (e : Expression) (kind : Kind) → IsOfKind ds scope e kind → (expression_faults ds scope e ≡ []) × (kind_of ds scope e ≡ Some kind)
  expression_none (Number at value) kind is = (refl, ap Some (sym is))
  expression_none (Variable name) kind is = let v = variable_meant kind name is in (ap (use_faults name.at) v, ap meant v)
  expression_none (Special at builtin) kind is = (refl, ap Some (sym is))
  expression_none (Unary at operator operand) kind is =
      let x = expression_none operand Int is.0 in
      (none_both _ _ x.0 (unlike_none Int (kind_of ds scope operand) (begin_of operand) x.1), ap Some (sym is.1))
  expression_none (Binary operator left right) kind is =
      let has = left_of (compares operator) left right is.0 in (
        none_both _ _ (expression_none left has.0.0 has.0.1).0 (none_both _ _ (expression_none right has.1.0 has.1.1).0
            (operands_none (compares operator) left right (λ k l. (expression_none left k l).1) (λ k r. (expression_none right k r).1) is.0)),
        ap Some (sym is.1),
      )

  pub wanted_agrees : (kind : Kind) (e : Expression) → wants ds scope kind e ≡ [] → IsOfKind ds scope e kind
  wanted_agrees kind e none =
      let x = expression_agrees e (none_left _ _ none) in
      let alike = none_right (expression_faults ds scope e) _ none in
      let same = kind_holds kind x.0 (begin_of e) (ap (λ o. unlike (Some kind) o (begin_of e)) (sym x.1) ∙ alike) in
      subst (IsOfKind ds scope e) (sym same) x.2

  pub wanted_none : (kind : Kind) (e : Expression) → IsOfKind ds scope e kind → wants ds scope kind e ≡ []
  wanted_none kind e is = let x = expression_none e kind is in none_both _ _ x.0 (unlike_none kind (kind_of ds scope e) (begin_of e) x.1)

  -- ---- calls

  arguments_agree : (ks : List Kind) (es : List Expression) → length es ≡ length ks → arguments_faults ds scope ks es ≡ [] → ArgumentsAgree ds scope ks es
  arguments_agree [] [] many none = tt
  arguments_agree [] (e ∷ es) many none = absurd cc
  arguments_agree (k ∷ ks) [] many none = absurd cc
  arguments_agree (k ∷ ks) (e ∷ es) many none = (wanted_agrees k e (none_left _ _ none), arguments_agree ks es (omega arith) (none_right (wants ds scope k e) _ none))

  arguments_none : (ks : List Kind) (es : List Expression) → ArgumentsAgree ds scope ks es → (length es ≡ length ks) × (arguments_faults ds scope ks es ≡ [])
  arguments_none [] [] agree = (refl, refl)
  arguments_none [] (e ∷ es) agree = absurd agree
  arguments_none (k ∷ ks) [] agree = absurd agree
  arguments_none (k ∷ ks) (e ∷ es) agree = let rest = arguments_none ks es agree.1 in (ap suc rest.0, none_both _ _ (wanted_none k e agree.0) rest.1)

  pub arity_none : (at : ℕ) (ks : List Kind) (many : ℕ) → many ≡ length ks → arity_faults at (Some ks) many ≡ []
  arity_none at ks many is = cond-true (many == length ks) _ _ (eq-eqb many (length ks) is)

  pub call_agrees : (called : Ident) (es : List Expression) → call_faults ds scope called es ≡ [] → CallAgrees ds scope called es
  call_agrees called es none =
      let after_use = none_right (use_faults called.at (module_use ds scope called)) _ none in
      let arity = none_left (arity_faults called.at (meant (module_use ds scope called)) (length es)) _ after_use in
      let arguments = none_right (arity_faults called.at (meant (module_use ds scope called)) (length es)) _ after_use in
      let m = module_means called (none_left _ _ none) in
      let is : meant (module_use ds scope called) ≡ Some m.0 = ap meant (module_meant called m.0 m.1) in
      let many = arity_holds called.at m.0 (length es) (ap (λ o. arity_faults called.at o (length es)) (sym is) ∙ arity) in
      (m.0, m.1, arguments_agree m.0 es many (ap (λ o. arguments_faults ds scope (kinds_wanted o) es) (sym is) ∙ arguments))

  pub call_none : (called : Ident) (es : List Expression) → CallAgrees ds scope called es → call_faults ds scope called es ≡ []
  call_none called es (kinds, m, agree) =
      let is = module_meant called kinds m in
      let rest = arguments_none kinds es agree in
      none_both _ _ (ap (use_faults called.at) is)
      (none_both _ _ (ap (λ u. arity_faults called.at (meant u) (length es)) is ∙ arity_none called.at kinds (length es) rest.0)
      (ap (λ u. arguments_faults ds scope (kinds_wanted (meant u)) es) is ∙ rest.1))

  pub creation_agrees : (c : Creation) → creation_faults ds scope c ≡ [] → CreationAgrees ds scope c
  creation_agrees c none = (scheduler_means c.scheduler (none_left _ _ none), call_agrees c.called c.arguments (none_right (scheduler_faults ds scope c.scheduler) _ none))

  pub creation_none : (c : Creation) → CreationAgrees ds scope c → creation_faults ds scope c ≡ []
  creation_none c agrees = none_both _ _ (scheduler_none c.scheduler agrees.0) (call_none c.called c.arguments agrees.1)
