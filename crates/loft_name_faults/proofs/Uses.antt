-- The faults of lists, one after the other.
use Rattle.std.proofs.Common.{◌≡◌, ℕ, ◌+◌, ◌<◌, zero, suc, List, [], ◌∷◌, ◌++◌, length, get_or, drop, drop-cons, add-one, map, refl, sym, ap, ◌∙◌, append_assoc, ◌≤◌, arith}
use Rattle.std.specs.Prelude.{slice_get, ◌==◌, Option, Some}
use Rattle.std.specs.Option.{option_map}
use Rattle.std.proofs.lemmas.Bool.{cond-true, cond-false, eq-eqb, ne_eqb}
use Rattle.std.proofs.lemmas.List.{drop-drop}
use Rattle.loft_tree.specs.declared.program.Variable.{Variable}
use Rattle.loft_tree.specs.declared.kinds.Kind.{Kind}
use Rattle.loft_tree.specs.declared.expression.Expr.{Expr}
use Rattle.loft_tree.specs.declared.program.Item.{Item}
use Rattle.loft_tree.specs.declared.program.Argument.{Argument as ArgumentInMemory}
use Rattle.loft_tree.specs.Source.{Argument, Expression, Declaration, Scheduler, Event, Shared, Module, Start, Outside}
use Rattle.loft_tree.specs.View.{argument_of, declaration_of, expression_of, named_of, source_of}
use Rattle.loft_scopes.specs.declared.error.NameError.TheVariants.{Arity}
use Rattle.loft_scopes.specs.declared.error.NameError.{NameError}
use Rattle.loft_scopes.specs.FirstFault.{least_of}
use Rattle.loft_scopes.proofs.First.{least_of-append}
use Rattle.loft_scopes.specs.declared.scope.Scope.{Scope}
use Rattle.loft_scopes.specs.Scopes.{Declared, kinds_of}
use Rattle.loft_scopes.specs.Modules.{next_module}
use Rattle.loft_scopes.specs.Faults.{argument_at, argument_faults, argument_kind, arguments_faults, arity_faults, outer_faults, begin_of, expression_faults, kind_of, kind_faults, declaration_uses, uses_from, unlike}

-- the element at an index begins what is left there
slice_get-drop : {A : Type 0} (xs : List A) (i : ℕ) → slice_get (drop i xs) 0 ≡ slice_get xs i
slice_get-drop [] zero = refl
slice_get-drop [] (suc i) = refl
slice_get-drop (x ∷ xs) zero = refl
slice_get-drop (x ∷ xs) (suc i) = slice_get-drop xs i

drop_more : {A : Type 0} (xs : List A) (i : ℕ) → drop 1 (drop i xs) ≡ drop (i + 1) xs
drop_more xs i = drop-drop 1 i xs

-- the kinds of parameters
pub kinds-length : (vs : List Variable) → length (kinds_of (map named_of vs)) ≡ length vs
kinds-length [] = refl
kinds-length (v ∷ vs) = ap suc (kinds-length vs)

pub kinds-get : (vs : List Variable) (i : ℕ) → slice_get (kinds_of (map named_of vs)) i ≡ option_map (λ v. v.kind) (slice_get vs i)
kinds-get [] i = refl
kinds-get (v ∷ vs) zero = refl
kinds-get (v ∷ vs) (suc i) = kinds-get vs i

pub arity_right : (at : ℕ) (vs : List Variable) (many : ℕ) → many ≡ length vs → arity_faults at (Some (kinds_of (map named_of vs))) many ≡ []
arity_right at vs many e = cond-true (many == length (kinds_of (map named_of vs))) _ _ (eq-eqb many _ (e ∙ sym (kinds-length vs)))

pub arity_wrong : (at : ℕ) (vs : List Variable) (many : ℕ) → (many ≡ length vs → ⊥) → arity_faults at (Some (kinds_of (map named_of vs))) many ≡ Arity at ∷ []
arity_wrong at vs many ne = cond-false (many == length (kinds_of (map named_of vs))) _ _ (ne_eqb many _ (λ e. ne (e ∙ kinds-length vs)))

module _ (ds : List Declared) (scope : Scope) where
  first_argument : (ks : List Kind) (e : Expression) (es : List Expression)
      → arguments_faults ds scope ks (e ∷ es) ≡ expression_faults ds scope e ++ (unlike (slice_get ks 0) (kind_of ds scope e) (begin_of e) ++ arguments_faults ds scope (drop 1 ks) es)
  first_argument [] e es = refl
  first_argument (k ∷ ks) e es = append_assoc (expression_faults ds scope e) (kind_faults ds scope k e) (arguments_faults ds scope ks es)

  -- the next argument of those that are left
  pub next_argument : (ks : List Kind) (es : List Expr) (i : ℕ) (e : Expr) → i < length es → e ≡ get_or es i e
      → arguments_faults ds scope (drop i ks) (map expression_of (drop i es))
      ≡ expression_faults ds scope (expression_of e) ++ (unlike (slice_get ks i) (kind_of ds scope (expression_of e)) (begin_of (expression_of e)) ++ arguments_faults ds scope (drop (i + 1) ks) (map expression_of (drop (i + 1) es)))
  next_argument ks es i e lt is =
      let split : drop i es ≡ e ∷ drop (i + 1) es = drop-cons es i e lt ∙ rw (← is, add-one) refl in
      ap (λ xs. arguments_faults ds scope (drop i ks) (map expression_of xs)) split
      ∙ first_argument (drop i ks) (expression_of e) (map expression_of (drop (i + 1) es))
      ∙ (λ j. expression_faults ds scope (expression_of e) ++ (unlike (slice_get-drop ks i j) (kind_of ds scope (expression_of e)) (begin_of (expression_of e)) ++ arguments_faults ds scope (drop_more ks i j) (map expression_of (drop (i + 1) es))))

  first_outer : (ks : List Kind) (a : Argument) (args : List Argument)
      → outer_faults ds scope ks (a ∷ args) ≡ argument_faults ds scope a ++ (unlike (slice_get ks 0) (argument_kind ds scope a) (argument_at a) ++ outer_faults ds scope (drop 1 ks) args)
  first_outer [] a args = refl
  first_outer (k ∷ ks) a args = refl

  -- the same outside module bodies
  pub next_outer : (ks : List Kind) (args : List ArgumentInMemory) (i : ℕ) (a : ArgumentInMemory) → i < length args → a ≡ get_or args i a
      → outer_faults ds scope (drop i ks) (map argument_of (drop i args))
      ≡ argument_faults ds scope (argument_of a) ++ (unlike (slice_get ks i) (argument_kind ds scope (argument_of a)) (argument_at (argument_of a)) ++ outer_faults ds scope (drop (i + 1) ks) (map argument_of (drop (i + 1) args)))
  next_outer ks args i a lt is =
      let split : drop i args ≡ a ∷ drop (i + 1) args = drop-cons args i a lt ∙ rw (← is, add-one) refl in
      ap (λ xs. outer_faults ds scope (drop i ks) (map argument_of xs)) split
      ∙ first_outer (drop i ks) (argument_of a) (map argument_of (drop (i + 1) args))
      ∙ (λ j. argument_faults ds scope (argument_of a) ++ (unlike (slice_get-drop ks i j) (argument_kind ds scope (argument_of a)) (argument_at (argument_of a)) ++ outer_faults ds scope (drop_more ks i j) (map argument_of (drop (i + 1) args))))

-- the fault of one that comes before those that are left
pub step : (so_far later total : Option NameError) (all one rest : List NameError)
    → least_of so_far all ≡ total → all ≡ one ++ rest → later ≡ least_of so_far one → least_of later rest ≡ total
step so_far later total all one rest e split is = ap (λ o. least_of o rest) is ∙ sym (least_of-append so_far one rest) ∙ ap (least_of so_far) (sym split) ∙ e

-- one of a list more
pub one_more : {A : Type 0} (faults : List A → List NameError) (fault : A → List NameError) (so_far later total : Option NameError) (xs : List A) (i : ℕ) (x : A)
    → ((y : A) (ys : List A) → faults (y ∷ ys) ≡ fault y ++ faults ys) → i < length xs → x ≡ get_or xs i x
    → least_of so_far (faults (drop i xs)) ≡ total → later ≡ least_of so_far (fault x) → least_of later (faults (drop (i + 1) xs)) ≡ total
one_more faults fault so_far later total xs i x each lt is e here =
    let split : drop i xs ≡ x ∷ drop (i + 1) xs = drop-cons xs i x lt ∙ rw (← is, add-one) refl in
    step so_far later total (faults (drop i xs)) (fault x) (faults (drop (i + 1) xs)) e (ap faults split ∙ each x (drop (i + 1) xs)) here

-- modules are numbered one by one
pub next_module-le : (number : ℕ) (d : Declaration) → next_module number d ≤ number + 1
next_module-le number (Scheduler name) = omega arith
next_module-le number (Event name scheduler) = omega arith
next_module-le number (Shared name scheduler value) = omega arith
next_module-le number (Module head locals body) = omega arith
next_module-le number (Start scheduler called arguments name) = omega arith
next_module-le number (Outside name orders) = omega arith

-- the uses of the next declaration of those that are left
pub next_item : (ds : List Declared) (number : ℕ) (items : List Item) (i : ℕ) (item : Item) → i < length items → item ≡ get_or items i item
    → uses_from ds number (source_of (drop i items)) ≡ declaration_uses ds number (declaration_of item) ++ uses_from ds (next_module number (declaration_of item)) (source_of (drop (i + 1) items))
next_item ds number items i item lt is =
    let split : drop i items ≡ item ∷ drop (i + 1) items = drop-cons items i item lt ∙ rw (← is, add-one) refl in
    ap (λ xs. uses_from ds number (source_of xs)) split
