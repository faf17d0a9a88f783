-- Expressions that are evaluated one after the other, and operators between numbers.
use Rattle.std.proofs.Common.{◌≡◌, ◌≢◌, ℕ, ℤ, ◌<◌, ◌+◌, List, [], ◌∷◌, ◌++◌, refl, sym, ap, ◌∙◌, Option, Some, None, length, drop, get_or, drop-cons, append_assoc, append-nil, arith, suc, add-one, length-drop}
use Rattle.std.specs.Prelude.{map}
use Rattle.std.specs.Option.{option_map, option_and_then}
use Rattle.loft_base.specs.declared.ids.Value.{Value}
use Rattle.loft_base.specs.declared.ids.Value.TheVariants.{Int}
use Rattle.loft_tree.specs.declared.kinds.BinaryOperator.{BinaryOperator}
use Rattle.loft_tree.specs.declared.kinds.BinaryOperator.TheVariants as binary
use Rattle.loft_tree.specs.declared.heads.Heads.{Heads}
use Rattle.loft_tree.specs.declared.named.NamedExpr.{NamedExpr}
use Rattle.loft_tree.specs.NamedView.{term_of}
use Rattle.loft_tree.specs.Resolved.{Exp, exp_of, exps_of}
use Rattle.loft_sense.specs.Around.{Beside}
use Rattle.loft_sense.specs.Eval.{number_of, binary_value, eval, eval_all}

-- what is seen is the same
pub eval_same : (h k : Heads) (vs us : List Value) (b c : Beside) (e : Exp) → h ≡ k → vs ≡ us → b ≡ c → eval h vs b e ≡ eval k us c e
eval_same h k vs us b c e heads values beside =
    ap (λ (g : Heads). eval g vs b e) heads ∙ (ap (λ (ws : List Value). eval k ws b e) values ∙ ap (λ (a : Beside). eval k us a e) beside)

-- these values, and then the others where there are any
abbrev pub onto : List Value → Option (List Value) → Option (List Value)
onto vs o = option_map (λ (more : List Value). vs ++ more) o

onto_one : (vs : List Value) (v : Value) (o : Option (List Value)) → onto vs (option_map (λ (more : List Value). v ∷ more) o) ≡ onto (vs ++ v ∷ []) o
onto_one vs v None = refl
onto_one vs v (Some more) = ap Some (sym (append_assoc vs (v ∷ []) more))

pub onto_none : (o : Option (List Value)) → onto [] o ≡ o
onto_none None = refl
onto_none (Some more) = refl

-- the expression at an index, and those after it
module _ (h : Heads) (vs : List Value) (b : Beside) (es : List NamedExpr) (i : ℕ) (e : NamedExpr) (within : i < length es) (is : e ≡ get_or es i e) where
  all_at : eval_all h vs b (exps_of (map term_of (drop i es))) ≡ eval_all h vs b (exps_of (map term_of (e ∷ drop (i + 1) es)))
  all_at = ap (λ (l : List NamedExpr). eval_all h vs b (exps_of (map term_of l))) (drop-cons es i e within ∙ ap (λ (x : NamedExpr). x ∷ drop (suc i) es) (sym is) ∙ ap (λ (n : ℕ). e ∷ drop n es) (sym (add-one i)))

  pub all_more : (done : List Value) (v : Value) → Some v ≡ eval h vs b (exp_of (term_of e))
      → onto done (eval_all h vs b (exps_of (map term_of (drop i es)))) ≡ onto (done ++ v ∷ []) (eval_all h vs b (exps_of (map term_of (drop (i + 1) es))))
  all_more done v has =
      ap (onto done) (all_at ∙ ap (λ (o : Option Value). option_and_then (λ (x : Value). option_map (λ (xs : List Value). x ∷ xs) (eval_all h vs b (exps_of (map term_of (drop (i + 1) es))))) o) (sym has))
      ∙ onto_one done v (eval_all h vs b (exps_of (map term_of (drop (i + 1) es))))

  pub all_fail : None ≡ eval h vs b (exp_of (term_of e)) → (done : List Value) → onto done (eval_all h vs b (exps_of (map term_of (drop i es)))) ≡ None
  all_fail fails done =
      ap (onto done) (all_at ∙ ap (λ (o : Option Value). option_and_then (λ (x : Value). option_map (λ (xs : List Value). x ∷ xs) (eval_all h vs b (exps_of (map term_of (drop (i + 1) es))))) o) (sym fails))

pub all_done : (h : Heads) (vs : List Value) (b : Beside) (es : List NamedExpr) (i : ℕ) → length es ≡ i → (done : List Value) → onto done (eval_all h vs b (exps_of (map term_of (drop i es)))) ≡ Some done
all_done h vs b es i at_end done = rest_of (drop i es) (omega (arith, at_end, length-drop i es))
  where
    rest_of : (l : List NamedExpr) → length l ≡ 0 → onto done (eval_all h vs b (exps_of (map term_of l))) ≡ Some done
    rest_of [] e = ap Some (append-nil done)
    rest_of (x ∷ xs) e = absurd (omega arith)

-- ---- operators between numbers

-- all operators but two take their operands as numbers
takes_numbers : (o : BinaryOperator) (a b : Value) → o ≢ binary.Equal → o ≢ binary.Unequal → binary_value o a b ≡ binary_value o (Int (number_of a)) (Int (number_of b))
takes_numbers binary.Or a b e u = refl
takes_numbers binary.And a b e u = refl
takes_numbers binary.Equal a b e u = absurd (e refl)
takes_numbers binary.Unequal a b e u = absurd (u refl)
takes_numbers binary.Less a b e u = refl
takes_numbers binary.LessOrEqual a b e u = refl
takes_numbers binary.Greater a b e u = refl
takes_numbers binary.GreaterOrEqual a b e u = refl
takes_numbers binary.Plus a b e u = refl
takes_numbers binary.Minus a b e u = refl
takes_numbers binary.Times a b e u = refl
takes_numbers binary.Divide a b e u = refl
takes_numbers binary.Remainder a b e u = refl

as_number : (x : Option ℤ) (v : Option Value) → option_map Int x ≡ v → x ≡ option_map number_of v
as_number None v e = ap (option_map number_of) e
as_number (Some n) v e = ap (option_map number_of) e

-- the number of the whole, by those of its operands
pub by_numbers : (o : BinaryOperator) (l r : Option Value) (m n : ℤ) (x : Option ℤ) → o ≢ binary.Equal → o ≢ binary.Unequal
    → Some m ≡ option_map number_of l → Some n ≡ option_map number_of r → option_map Int x ≡ binary_value o (Int m) (Int n)
    → x ≡ option_map number_of (option_and_then (λ a. option_and_then (binary_value o a) r) l)
by_numbers o None r m n x e u left right is = absurd cc
by_numbers o (Some a) None m n x e u left right is = absurd cc
by_numbers o (Some a) (Some b) m n x e u left right is =
    let m_is : m ≡ number_of a = cc in
    let n_is : n ≡ number_of b = cc in
    as_number x (binary_value o a b)
    (is
    ∙ (ap (λ (k : ℤ). binary_value o (Int k) (Int n)) m_is
    ∙ (ap (λ (k : ℤ). binary_value o (Int (number_of a)) (Int k)) n_is
    ∙ sym (takes_numbers o a b e u))))
