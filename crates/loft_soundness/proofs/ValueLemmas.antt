-- Values of their kinds, and what expressions that fit have as values.
use Rattle.std.proofs.Common.{◌&&◌, IsTrue, ◌≡◌, ℕ, zero, suc, Bool, true, false, List, [], ◌∷◌, ◌++◌, map, Option, Some, None, slice_get, refl, sym, subst}
use Rattle.std.specs.Prelude.{ℤ, pos, if◌then◌else◌, slice_set, unwrap_or}
use Rattle.std.specs.Option.{option_map, option_and_then, option_map_or}
use Rattle.loft_base.specs.declared.ids.ModuleId.{ModuleId}
use Rattle.loft_base.specs.declared.ids.ThreadId.{ThreadId}
use Rattle.loft_base.specs.declared.ids.Value.{Value}
use Rattle.loft_base.specs.declared.ids.Value.TheVariants as value
use Rattle.loft_tree.specs.declared.kinds.Builtin.TheVariants.{Itself, Code, Mask}
use Rattle.loft_tree.specs.declared.kinds.UnaryOperator.{UnaryOperator}
use Rattle.loft_tree.specs.declared.kinds.UnaryOperator.TheVariants as unary
use Rattle.loft_tree.specs.declared.kinds.BinaryOperator.{BinaryOperator}
use Rattle.loft_tree.specs.declared.kinds.BinaryOperator.TheVariants as binary
use Rattle.loft_tree.specs.declared.kinds.Kind.{Kind}
use Rattle.loft_tree.specs.declared.kinds.Kind.TheVariants.{Int, Thread}
use Rattle.loft_tree.specs.declared.heads.Place.{Place}
use Rattle.loft_tree.specs.declared.heads.SlotHead.{SlotHead}
use Rattle.loft_tree.specs.declared.heads.Signature.{Signature}
use Rattle.loft_tree.specs.declared.heads.Heads.{Heads}
use Rattle.loft_tree.specs.Fits.{Each, IfThere}
use Rattle.loft_tree.specs.HeadsFit.{is_of, agree, kinds_of}
use Rattle.loft_tree.specs.NamedFits.{slots_of}
use Rattle.loft_tree.specs.Resolved.{Exp, Number, Slot, Shared, Special, Unary, Binary}
use Rattle.loft_sense.specs.Heads.{first_value, first_values}
use Rattle.loft_sense.specs.Around.{Beside}
use Rattle.loft_sense.specs.Eval.{number_of, truth, unary_value, binary_value, eval, eval_all, eval_if}
use Rattle.loft_sense.specs.Fits.{IsThread, IsValue}
use Rattle.loft_soundness.specs.WorkFits.{HasKind, IsInt, ArgumentsFit}
use Rattle.loft_soundness.specs.Points.{ValueFits, ValuesFit}

-- ---- values

both_true : (a b : Bool) → a ≡ true → b ≡ true → (a && b) ≡ true
both_true true b e f = f
both_true false b e f = e

pub first_true : (a b : Bool) → (a && b) ≡ true → a ≡ true
first_true true b e = refl
first_true false b e = e

pub second_true : (a b : Bool) → (a && b) ≡ true → b ≡ true
second_true true b e = e
second_true false b e = absurd cc

pub values_agree : (h : Heads) (kinds : List Kind) (vs : List Value) → ValuesFit h kinds vs → IsTrue (agree kinds vs)
values_agree h [] [] fit = refl
values_agree h [] (v ∷ vs) fit = absurd fit
values_agree h (k ∷ ks) [] fit = absurd fit
values_agree h (k ∷ ks) (v ∷ vs) fit = both_true (is_of v k) (agree ks vs) fit.0.0 (values_agree h ks vs fit.1)

pub values_name : (h : Heads) (kinds : List Kind) (vs : List Value) → ValuesFit h kinds vs → Each (IsValue h) vs
values_name h [] [] fit = tt
values_name h [] (v ∷ vs) fit = absurd fit
values_name h (k ∷ ks) [] fit = absurd fit
values_name h (k ∷ ks) (v ∷ vs) fit = (fit.0.1, values_name h ks vs fit.1)

pub values_fit : (h : Heads) (kinds : List Kind) (vs : List Value) → IsTrue (agree kinds vs) → Each (IsValue h) vs → ValuesFit h kinds vs
values_fit h [] [] e f = tt
values_fit h [] (v ∷ vs) e f = absurd cc
values_fit h (k ∷ ks) [] e f = absurd cc
values_fit h (k ∷ ks) (v ∷ vs) e f = ((first_true (is_of v k) (agree ks vs) e, f.0), values_fit h ks vs (second_true (is_of v k) (agree ks vs) e) f.1)

pub value_at : (h : Heads) (kinds : List Kind) (vs : List Value) (k : ℕ) (kind : Kind) → ValuesFit h kinds vs → slice_get kinds k ≡ Some kind
    → (v : Value) × (slice_get vs k ≡ Some v) × ValueFits h kind v
value_at h [] [] k kind fit at = absurd cc
value_at h [] (v ∷ vs) k kind fit at = absurd fit
value_at h (x ∷ xs) [] k kind fit at = absurd fit
value_at h (x ∷ xs) (v ∷ vs) zero kind fit at = let same : x ≡ kind = cc in (v, refl, subst (λ y. ValueFits h y v) same fit.0)
value_at h (x ∷ xs) (v ∷ vs) (suc k) kind fit at = value_at h xs vs k kind fit.1 at

pub values_set : (h : Heads) (kinds : List Kind) (vs : List Value) (k : ℕ) (kind : Kind) (v : Value) → ValuesFit h kinds vs → slice_get kinds k ≡ Some kind → ValueFits h kind v
    → ValuesFit h kinds (slice_set vs k v)
values_set h [] [] k kind v fit at new = absurd cc
values_set h [] (u ∷ vs) k kind v fit at new = absurd fit
values_set h (x ∷ xs) [] k kind v fit at new = absurd fit
values_set h (x ∷ xs) (u ∷ vs) zero kind v fit at new = let same : kind ≡ x = cc in (subst (λ y. ValueFits h y v) same new, fit.1)
values_set h (x ∷ xs) (u ∷ vs) (suc k) kind v fit at new = (fit.0, values_set h xs vs k kind v fit.1 at new)

values_append : (h : Heads) (ks ls : List Kind) (vs ws : List Value) → ValuesFit h ks vs → ValuesFit h ls ws → ValuesFit h (ks ++ ls) (vs ++ ws)
values_append h [] ls [] ws fit others = others
values_append h [] ls (v ∷ vs) ws fit others = absurd fit
values_append h (k ∷ ks) ls [] ws fit others = absurd fit
values_append h (k ∷ ks) ls (v ∷ vs) ws fit others = (fit.0, values_append h ks ls vs ws fit.1 others)

first_fits : (h : Heads) (t : ThreadId) (kind : Kind) → IsThread h t → ValueFits h kind (first_value t kind)
first_fits h t Int is = (refl, tt)
first_fits h t Thread is = (refl, is)

locals_fit : (h : Heads) (t : ThreadId) (xs : List SlotHead) → IsThread h t → ValuesFit h (kinds_of xs) (map (λ x. first_value t x.kind) xs)
locals_fit h t [] is = tt
locals_fit h t (x ∷ xs) is = (first_fits h t x.kind is, locals_fit h t xs is)

-- the values of a module's new frame
pub first_values_fit : (h : Heads) (t : ThreadId) (m : ModuleId) (head : Signature) (arguments : List Value) → IsThread h t → slice_get h.modules m.0 ≡ Some head → ValuesFit h (kinds_of head.parameters) arguments
    → ValuesFit h (slots_of head) (first_values h t m arguments)
first_values_fit h t m head arguments is at fit =
    subst (λ o. ValuesFit h (slots_of head) (arguments ++ map (λ x. first_value t x.kind) (option_map_or (λ s. s.locals) o []))) (sym at)
    (values_append h (kinds_of head.parameters) (kinds_of head.locals) arguments (map (λ x. first_value t x.kind) head.locals) fit (locals_fit h t head.locals is))

-- ---- expressions

truth_fits : (h : Heads) (b : Bool) → ValueFits h Int (truth b)
truth_fits h true = (refl, tt)
truth_fits h false = (refl, tt)

unary_fits : (h : Heads) (operator : UnaryOperator) (n : ℤ) → ValueFits h Int (unary_value operator n)
unary_fits h unary.Minus n = (refl, tt)
unary_fits h unary.Not n = truth_fits h _

divided_fits : (h : Heads) (b : Bool) (n : ℤ) → IfThere (ValueFits h Int) (if b then None else Some (value.Int n))
divided_fits h true n = tt
divided_fits h false n = (refl, tt)

binary_fits : (h : Heads) (operator : BinaryOperator) (a b : Value) → IfThere (ValueFits h Int) (binary_value operator a b)
binary_fits h binary.Or a b = truth_fits h _
binary_fits h binary.And a b = truth_fits h _
binary_fits h binary.Equal a b = truth_fits h _
binary_fits h binary.Unequal a b = truth_fits h _
binary_fits h binary.Less a b = truth_fits h _
binary_fits h binary.LessOrEqual a b = truth_fits h _
binary_fits h binary.Greater a b = truth_fits h _
binary_fits h binary.GreaterOrEqual a b = truth_fits h _
binary_fits h binary.Plus a b = (refl, tt)
binary_fits h binary.Minus a b = (refl, tt)
binary_fits h binary.Times a b = (refl, tt)
binary_fits h binary.Divide a b = divided_fits h _ _
binary_fits h binary.Remainder a b = divided_fits h _ _

unary_there : (h : Heads) (operator : UnaryOperator) (o : Option Value) → IfThere (ValueFits h Int) (option_map (λ a. unary_value operator (number_of a)) o)
unary_there h operator None = tt
unary_there h operator (Some a) = unary_fits h operator (number_of a)

binary_there : (h : Heads) (operator : BinaryOperator) (o p : Option Value) → IfThere (ValueFits h Int) (option_and_then (λ a. option_and_then (binary_value operator a) p) o)
binary_there h operator None p = tt
binary_there h operator (Some a) None = tt
binary_there h operator (Some a) (Some b) = binary_fits h operator a b

of_int : (h : Heads) (kind : Kind) (o : Option Value) → kind ≡ Int → IfThere (ValueFits h Int) o → IfThere (ValueFits h kind) o
of_int h kind o e fit = subst (λ k. IfThere (ValueFits h k) o) (sym e) fit

-- both there or both not, and the value a number
abbrev pub LimitFits : Heads → Option Exp → Option Value → Type 0
LimitFits h None None = Unit {0}
LimitFits h None (Some v) = ⊥
LimitFits h (Some e) None = ⊥
LimitFits h (Some e) (Some v) = ValueFits h Int v

module _ (h : Heads) (slots : List Kind) (here : Place) (values : List Value) (b : Beside) (fit : ValuesFit h slots values) (id : IsThread h b.id) where
  -- an expression has a value of its kind, or a divisor is 0
  pub eval_fits : (e : Exp) (kind : Kind) → HasKind h slots here e kind → IfThere (ValueFits h kind) (eval h values b e)
  eval_fits (Number n) kind has = of_int h kind (Some (value.Int n)) has (refl, tt)
  eval_fits (Slot k) kind has =
      let v = value_at h slots values k kind fit has in
      subst (λ o. ValueFits h kind (unwrap_or o (value.Int (pos 0)))) (sym v.1) v.2
  eval_fits (Shared x) kind has = of_int h kind (eval h values b (Shared x)) has.1 (refl, tt)
  eval_fits (Special Itself) kind has = subst (λ k. ValueFits h k (value.Thread b.id)) (sym has) (refl, id)
  eval_fits (Special Code) kind has = of_int h kind (Some (value.Int b.code)) has (refl, tt)
  eval_fits (Special Mask) kind has = of_int h kind (Some (value.Int b.mask)) has (refl, tt)
  eval_fits (Unary operator e) kind has = of_int h kind _ has.1 (unary_there h operator (eval h values b e))
  eval_fits (Binary operator l r) kind has = of_int h kind _ has.1 (binary_there h operator (eval h values b l) (eval h values b r))

  all_one : (kind : Kind) (kinds : List Kind) (o : Option Value) (os : Option (List Value)) → IfThere (ValueFits h kind) o → IfThere (ValuesFit h kinds) os
      → IfThere (ValuesFit h (kind ∷ kinds)) (option_and_then (λ v. option_map (λ vs. v ∷ vs) os) o)
  all_one kind kinds None os f g = tt
  all_one kind kinds (Some v) None f g = tt
  all_one kind kinds (Some v) (Some vs) f g = (f, g)

  pub eval_all_fits : (kinds : List Kind) (es : List Exp) → ArgumentsFit h slots here kinds es → IfThere (ValuesFit h kinds) (eval_all h values b es)
  eval_all_fits [] [] has = tt
  eval_all_fits [] (e ∷ es) has = absurd has
  eval_all_fits (k ∷ ks) [] has = absurd has
  eval_all_fits (k ∷ ks) (e ∷ es) has = all_one k ks (eval h values b e) (eval_all h values b es) (eval_fits e k has.0) (eval_all_fits ks es has.1)

  limit_one : (e : Exp) (o : Option Value) → IfThere (ValueFits h Int) o → IfThere (LimitFits h (Some e)) (option_map (λ v. Some v) o)
  limit_one e None f = tt
  limit_one e (Some v) f = f

  pub eval_if_fits : (e : Option Exp) → IfThere (IsInt h slots here) e → IfThere (LimitFits h e) (eval_if h values b e)
  eval_if_fits None has = tt
  eval_if_fits (Some e) has = limit_one e (eval h values b e) (eval_fits e Int has)
