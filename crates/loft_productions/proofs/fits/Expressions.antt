-- Expressions that are spelled keep the limits.
use Rattle.std.proofs.Common.{◌≡◌, ℕ, zero, suc, ◌+◌, ◌≤◌, Bool, true, false, nat_lt, nat_le, ◌==◌, ◌&&◌, ◌||◌, List, [], ◌∷◌, Option, Some, None, refl, sym, subst, arith}
use Rattle.std.proofs.lemmas.Bool.Decides.{nat_tests}
use Rattle.loft_form.specs.Form.{inside, Limits}
use Rattle.loft_tree.specs.declared.kinds.BinaryOperator.{BinaryOperator}
use Rattle.loft_tree.specs.declared.kinds.Builtin.{Builtin}
use Rattle.loft_tree.specs.Source.{Expression, Special, Binary}
use Rattle.loft_tree.specs.Levels.{operator_level, level, left_bracketed, right_bracketed, sign_bracketed, in_brackets, nesting, operands}
use Rattle.loft_tree.specs.Fits.{Each, IfThere, NameFits, NumberFits, WordsFit, ExpressionFits}
use Rattle.loft_grammar.specs.Language.{Language, Bracketed, Signed}
use Rattle.loft_grammar.specs.Symbols.{name, numeral}
use Rattle.loft_grammar.specs.Expressions.{chain, comparison_of, builtin, bracketed, atom, negated, inverted, unary, factor, term, summand, sum, equality, ordering, compared, comparison, conjunct, conjunction, disjunct, expression, whole}
use Rattle.loft_grammar.specs.declared.counts.Counted.TheVariants.{Operand}
use Rattle.loft_productions.proofs.fits.Forms.{settles}
use Rattle.loft_productions.proofs.fits.Parts.{Gives, Weighs, IsLimited, gives_any, gives_leaf, ◌▸◌, ◌or◌, gives_made, gives_counted, gives_fresh, gives_maybe, gives_many, gives_both, gives_so, gives_inside_none, gives_inside, weighs_none, weighs_one, weighs_then, weighs_either, weighs_made, weights, weighs_many, weighs_maybe, weighs_so, weighs_inside_none, weighs_inside, gives_few}
use Rattle.loft_productions.proofs.fits.Rules.{expression_rules}
use Rattle.loft_productions.proofs.fits.Symbols.{name_of_fits, value_of_fits}

pub name_fits : {lim : Limits Language} {n : ℕ} → Gives lim n name NameFits
name_fits = gives_leaf (λ s h is. name_of_fits s.what is h)

pub numeral_fits : {lim : Limits Language} {n : ℕ} → Gives lim n numeral (λ x. NumberFits x.1)
numeral_fits = gives_leaf (λ s h is. value_of_fits s.what is h)

-- ---- nestings

-- Its names and numbers fit, and where an expression of level k is wanted, it nests at most n deep: in brackets, if its level is lower.
pub record Binds (n k : ℕ) (e : Expression) : Type 0 where
  pub words : WordsFit e
  pub nests : in_brackets (nat_lt (level e) k) (nesting e) ≤ n

-- brackets only where others had them too
fewer_brackets : (b c : Bool) (x n : ℕ) → (b ≡ true → c ≡ true) → in_brackets c x ≤ n → in_brackets b x ≤ n
fewer_brackets true true x n leads h = h
fewer_brackets true false x n leads h = absurd (let e = leads refl in cc)
fewer_brackets false true x n leads h = omega arith
fewer_brackets false false x n leads h = h

at_most_bracketed : (b : Bool) (x n : ℕ) → x + 1 ≤ n → in_brackets b x ≤ n
at_most_bracketed true x n h = h
at_most_bracketed false x n h = omega arith

unbracketed : (b : Bool) (x n : ℕ) → in_brackets b x ≤ n → x ≤ n
unbracketed true x n h = omega arith
unbracketed false x n h = h

-- what is below a level, compared by tests
lower_level : (l j k : ℕ) → j ≤ k → nat_lt l j ≡ true → nat_lt l k ≡ true
lower_level l j k less h = grind (arith, nat_tests)

not_lower : (l : ℕ) → nat_lt l l ≡ false
not_lower l = grind (arith, nat_tests)

right_level : (l k : ℕ) → nat_le l k ≡ true → nat_lt l (k + 1) ≡ true
right_level l k h = grind (arith, nat_tests)

left_level : (l k : ℕ) → (k == 3) ≡ false → (nat_lt l k || (k == 3 && l == 3)) ≡ true → nat_lt l k ≡ true
left_level l k other h = grind (arith, nat_tests)

compared_level : (l : ℕ) → (nat_lt l 3 || (true && l == 3)) ≡ true → nat_lt l 4 ≡ true
compared_level l h = grind (arith, nat_tests)

module _ {n : ℕ} where
  -- where a lower level is wanted it binds too
  binds_lower : (j k : ℕ) (e : Expression) → j ≤ k → Binds n k e → Binds n j e
  binds_lower j k e less h = record { words = h.words; nests = fewer_brackets _ (nat_lt (level e) k) (nesting e) n (lower_level (level e) j k less) h.nests }

  -- an operator between operands that bind as it wants
  binary : (op : BinaryOperator) (left right : Expression) (j k : ℕ) → operator_level op ≡ k → (left_bracketed op left ≡ true → nat_lt (level left) j ≡ true) → Binds n j left → Binds n (k + 1) right → Binds n k (Binary op left right)
  binary op left right j k at leads l r = record {
    words = (l.words, r.words);
    nests =
        let a : in_brackets (left_bracketed op left) (nesting left) ≤ n = fewer_brackets _ (nat_lt (level left) j) (nesting left) n leads l.nests in
        let b : in_brackets (right_bracketed op right) (nesting right) ≤ n = fewer_brackets _ (nat_lt (level right) (k + 1)) (nesting right) n (λ e. right_level (level right) k (subst (λ m. nat_le (level right) m ≡ true) at e)) r.nests in
        subst (λ m. in_brackets (nat_lt m k) (nesting (Binary op left right)) ≤ n) (sym at) (rw not_lower (omega arith));
  }

  -- a chain of operators of one level
  chain_binds : (k : ℕ) → (k == 3) ≡ false → (e : Expression) (xs : List (BinaryOperator × Expression)) → Binds n k e → Each (λ x. (operator_level x.0 ≡ k) × Binds n (k + 1) x.1) xs → Binds n k (chain e xs)
  chain_binds k other e [] h all = h
  chain_binds k other e (x ∷ xs) h all =
      chain_binds k other (Binary x.0 e x.1) xs
      (binary x.0 e x.1 k k all.0.0 (subst (λ m. (nat_lt (level e) m || (m == 3 && level e == 3)) ≡ true → nat_lt (level e) k ≡ true) (sym all.0.0) (left_level (level e) k other)) h all.0.1)
      all.1

  comparison_of_binds : (e : Expression) (x : Option (BinaryOperator × Expression)) → Binds n 4 e → IfThere (λ y. (operator_level y.0 ≡ 3) × Binds n 4 y.1) x → Binds n 3 (comparison_of e x)
  comparison_of_binds e None h there = binds_lower 3 4 e (omega arith) h
  comparison_of_binds e (Some x) h there =
      binary x.0 e x.1 4 3 there.0 (subst (λ m. (nat_lt (level e) m || (m == 3 && level e == 3)) ≡ true → nat_lt (level e) 4 ≡ true) (sym there.0) (compared_level (level e))) h there.1

-- what stands in brackets, and what a sign stands before
abbrev InBrackets : ℕ → Expression → Type 0
InBrackets n e = WordsFit e × (nesting e + 1 ≤ n)

abbrev AfterSign : ℕ → Expression → Type 0
AfterSign n e = WordsFit e × (in_brackets (sign_bracketed e) (nesting e) + 1 ≤ n)

module _ {lim : Limits Language} {n : ℕ} (bracketed_fits : Gives lim n (inside Bracketed) (InBrackets n)) (signed_fits : Gives lim n (inside Signed) (AfterSign n)) where
  special_binds : (at : ℕ) (special : Builtin) → Binds n 7 (Special at special)
  special_binds at special = record { words = tt; nests = omega arith }

  builtin_binds : Gives lim n builtin (Binds n 7)
  unfolding builtin
  builtin_binds =
      gives_made gives_any (λ at _. special_binds at _)
      or gives_made gives_any (λ at _. special_binds at _)
      or gives_made gives_any (λ at _. special_binds at _)

  bracketed_binds : Gives lim n bracketed (Binds n 7)
  unfolding bracketed
  bracketed_binds = gives_made (gives_any ▸ bracketed_fits ▸ gives_any) (λ x h. record { words = h.1.0.0; nests = at_most_bracketed _ (nesting x.1.0) n h.1.0.1 })

  atom_binds : Gives lim n atom (Binds n 7)
  unfolding atom
  atom_binds =
      gives_made (gives_counted numeral_fits) (λ x h. record { words = h; nests = omega arith })
      or gives_made (gives_counted name_fits) (λ x h. record { words = h; nests = omega arith })
      or builtin_binds
      or bracketed_binds

  negated_binds : Gives lim n negated (Binds n 6)
  unfolding negated
  negated_binds = gives_made (gives_any ▸ signed_fits) (λ x h. record { words = h.1.0; nests = h.1.1 })

  inverted_binds : Gives lim n inverted (Binds n 6)
  unfolding inverted
  inverted_binds = gives_made (gives_any ▸ signed_fits) (λ x h. record { words = h.1.0; nests = h.1.1 })

  unary_binds : Gives lim n unary (Binds n 6)
  unfolding unary
  unary_binds = negated_binds or inverted_binds or gives_so atom_binds (λ e h. binds_lower 6 7 e (omega arith) h)

  factor_binds : Gives lim n factor (λ x. (operator_level x.0 ≡ 5) × Binds n 6 x.1)
  unfolding factor
  factor_binds = (gives_made gives_any (λ _ _. refl) or gives_made gives_any (λ _ _. refl) or gives_made gives_any (λ _ _. refl)) ▸ unary_binds

  term_binds : Gives lim n term (Binds n 5)
  unfolding term
  term_binds = gives_made (unary_binds ▸ gives_many factor_binds) (λ x h. chain_binds 5 refl x.0 x.1 (binds_lower 5 6 x.0 (omega arith) h.0) h.1)

  summand_binds : Gives lim n summand (λ x. (operator_level x.0 ≡ 4) × Binds n 5 x.1)
  unfolding summand
  summand_binds = (gives_made gives_any (λ _ _. refl) or gives_made gives_any (λ _ _. refl)) ▸ term_binds

  sum_binds : Gives lim n sum (Binds n 4)
  unfolding sum
  sum_binds = gives_made (term_binds ▸ gives_many summand_binds) (λ x h. chain_binds 4 refl x.0 x.1 (binds_lower 4 5 x.0 (omega arith) h.0) h.1)

  compared_binds : Gives lim n compared (λ x. (operator_level x.0 ≡ 3) × Binds n 4 x.1)
  unfolding compared equality ordering
  compared_binds =
      ((gives_made gives_any (λ _ _. refl) or gives_made gives_any (λ _ _. refl))
      or gives_made gives_any (λ _ _. refl) or gives_made gives_any (λ _ _. refl) or gives_made gives_any (λ _ _. refl) or gives_made gives_any (λ _ _. refl))
      ▸ sum_binds

  comparison_binds : Gives lim n comparison (Binds n 3)
  unfolding comparison
  comparison_binds = gives_made (sum_binds ▸ gives_maybe compared_binds) (λ x h. comparison_of_binds x.0 x.1 h.0 h.1)

  conjunct_binds : Gives lim n conjunct (λ x. (operator_level x.0 ≡ 2) × Binds n 3 x.1)
  unfolding conjunct
  conjunct_binds = gives_made gives_any (λ _ _. refl) ▸ comparison_binds

  conjunction_binds : Gives lim n conjunction (Binds n 2)
  unfolding conjunction
  conjunction_binds = gives_made (comparison_binds ▸ gives_many conjunct_binds) (λ x h. chain_binds 2 refl x.0 x.1 (binds_lower 2 3 x.0 (omega arith) h.0) h.1)

  disjunct_binds : Gives lim n disjunct (λ x. (operator_level x.0 ≡ 1) × Binds n 2 x.1)
  unfolding disjunct
  disjunct_binds = gives_made gives_any (λ _ _. refl) ▸ conjunction_binds

  expression_binds : Gives lim n expression (Binds n 1)
  unfolding expression
  expression_binds = gives_made (conjunction_binds ▸ gives_many disjunct_binds) (λ x h. chain_binds 1 refl x.0 x.1 (binds_lower 1 2 x.0 (omega arith) h.0) h.1)

insides_bind : {lim : Limits Language} (n : ℕ) → Gives lim n (inside Bracketed) (InBrackets n) × Gives lim n (inside Signed) (AfterSign n)
insides_bind zero = (gives_inside_none Bracketed (InBrackets 0), gives_inside_none Signed (AfterSign 0))
insides_bind (suc n) =
    let h = insides_bind n in (
      gives_inside n Bracketed (InBrackets (suc n)) (gives_so (expression_binds h.0 h.1) (λ e k. (k.words, omega (arith, unbracketed _ (nesting e) n k.nests)))),
      gives_inside n Signed (AfterSign (suc n)) (gives_so (unary_binds h.0 h.1) (λ e k. (k.words, omega (arith, k.nests)))),
    )

-- ---- operands

chain_operands : (e : Expression) (xs : List (BinaryOperator × Expression)) → operands (chain e xs) ≤ operands e + weights (λ x. operands x.1) xs
chain_operands e [] = omega arith
chain_operands e (x ∷ xs) = omega (arith, chain_operands (Binary x.0 e x.1) xs)

abbrev second_operands : Option (BinaryOperator × Expression) → ℕ
second_operands None = 0
second_operands (Some x) = operands x.1

comparison_of_operands : (e : Expression) (x : Option (BinaryOperator × Expression)) → operands (comparison_of e x) ≤ operands e + second_operands x
comparison_of_operands e None = omega arith
comparison_of_operands e (Some x) = omega arith

module _ {lim : Limits Language} {n : ℕ} (bracketed_weighs : Weighs lim n Operand (inside Bracketed) operands) (signed_weighs : Weighs lim n Operand (inside Signed) operands) where
  builtin_operands : Weighs lim n Operand builtin operands
  unfolding builtin
  builtin_operands =
      weighs_either (weighs_made (weighs_one refl refl) (λ at. omega arith))
      (weighs_either (weighs_made (weighs_one refl refl) (λ at. omega arith)) (weighs_made (weighs_one refl refl) (λ at. omega arith)))

  bracketed_operands : Weighs lim n Operand bracketed operands
  unfolding bracketed
  bracketed_operands = weighs_made (weighs_then (weighs_none refl) (weighs_then bracketed_weighs (weighs_none refl))) (λ x. omega arith)

  atom_operands : Weighs lim n Operand atom operands
  unfolding atom
  atom_operands =
      weighs_either (weighs_made (weighs_one refl refl) (λ x. omega arith))
      (weighs_either (weighs_made (weighs_one refl refl) (λ x. omega arith)) (weighs_either builtin_operands bracketed_operands))

  unary_operands : Weighs lim n Operand unary operands
  unfolding unary negated inverted
  unary_operands =
      weighs_either (weighs_made (weighs_then (weighs_none refl) signed_weighs) (λ x. omega arith))
      (weighs_either (weighs_made (weighs_then (weighs_none refl) signed_weighs) (λ x. omega arith)) atom_operands)

  factor_operands : Weighs lim n Operand factor (λ x. operands x.1)
  unfolding factor
  factor_operands = weighs_so (weighs_then (weighs_none refl) unary_operands) (λ x. omega arith)

  term_operands : Weighs lim n Operand term operands
  unfolding term
  term_operands = weighs_made (weighs_then unary_operands (weighs_many factor_operands)) (λ x. chain_operands x.0 x.1)

  summand_operands : Weighs lim n Operand summand (λ x. operands x.1)
  unfolding summand
  summand_operands = weighs_so (weighs_then (weighs_none refl) term_operands) (λ x. omega arith)

  sum_operands : Weighs lim n Operand sum operands
  unfolding sum
  sum_operands = weighs_made (weighs_then term_operands (weighs_many summand_operands)) (λ x. chain_operands x.0 x.1)

  compared_operands : Weighs lim n Operand compared (λ x. operands x.1)
  unfolding compared equality ordering
  compared_operands = weighs_so (weighs_then (weighs_none refl) sum_operands) (λ x. omega arith)

  comparison_operands : Weighs lim n Operand comparison operands
  unfolding comparison
  comparison_operands =
      weighs_made (weighs_then sum_operands (weighs_maybe refl (λ x. omega arith) compared_operands))
      (λ x. comparison_of_operands x.0 x.1)

  conjunct_operands : Weighs lim n Operand conjunct (λ x. operands x.1)
  unfolding conjunct
  conjunct_operands = weighs_so (weighs_then (weighs_none refl) comparison_operands) (λ x. omega arith)

  conjunction_operands : Weighs lim n Operand conjunction operands
  unfolding conjunction
  conjunction_operands = weighs_made (weighs_then comparison_operands (weighs_many conjunct_operands)) (λ x. chain_operands x.0 x.1)

  disjunct_operands : Weighs lim n Operand disjunct (λ x. operands x.1)
  unfolding disjunct
  disjunct_operands = weighs_so (weighs_then (weighs_none refl) conjunction_operands) (λ x. omega arith)

  expression_operands : Weighs lim n Operand expression operands
  unfolding expression
  expression_operands = weighs_made (weighs_then conjunction_operands (weighs_many disjunct_operands)) (λ x. chain_operands x.0 x.1)

insides_operands : {lim : Limits Language} (n : ℕ) → Weighs lim n Operand (inside Bracketed) operands × Weighs lim n Operand (inside Signed) operands
insides_operands zero = (weighs_inside_none Operand Bracketed operands, weighs_inside_none Operand Signed operands)
insides_operands (suc n) =
    let h = insides_operands n in
    (weighs_inside n Operand Bracketed operands (expression_operands h.0 h.1), weighs_inside n Operand Signed operands (unary_operands h.0 h.1))

expression_settles : settles false expression ≡ true
unfolding expression_rules
expression_settles = refl

-- An expression that is no part of another keeps the limits.
pub whole_fits : {lim : Limits Language} → IsLimited lim Operand → (n : ℕ) → Gives lim n whole (ExpressionFits n)
unfolding whole
whole_fits limited n =
    let binds = insides_bind n in
    let counts = insides_operands n in
    gives_fresh (gives_so (gives_both (expression_binds binds.0 binds.1) (gives_few limited (expression_operands counts.0 counts.1) expression_settles)) (λ e h. record { words = h.0.words; nests = unbracketed _ (nesting e) n h.0.nests; few = h.1 }))
