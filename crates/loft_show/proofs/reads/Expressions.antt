-- The symbols of a canonical expression spell it.
use Rattle.std.proofs.Common.{◌≡◌, ℕ, zero, suc, ◌+◌, ◌-◌, ◌<◌, ◌≤◌, Bool, true, false, nat_le, List, [], ◌∷◌, ◌++◌, refl, sym, ap, subst, ◌∙◌, append_assoc, arith, lit≤}
use Rattle.std.proofs.lemmas.List.{append-nil, map-append}
use Rattle.std.proofs.lemmas.Bool.Decides.{nat_tests}
use Rattle.loft_lex.specs.declared.word.Word.TheVariants as w
use Rattle.loft_lex.specs.declared.sign.Sign.{Sign}
use Rattle.loft_lex.specs.declared.sign.Sign.TheVariants as s
use Rattle.loft_lex.specs.Symbol.{Symbol, Named as NamedWhat, Keyword, Numeral, Mark}
use Rattle.loft_tree.specs.declared.kinds.Builtin.{Builtin}
use Rattle.loft_tree.specs.declared.kinds.Builtin.TheVariants as b
use Rattle.loft_tree.specs.declared.kinds.UnaryOperator.{UnaryOperator}
use Rattle.loft_tree.specs.declared.kinds.UnaryOperator.TheVariants as u
use Rattle.loft_tree.specs.declared.kinds.BinaryOperator.{BinaryOperator}
use Rattle.loft_tree.specs.declared.kinds.BinaryOperator.TheVariants as o
use Rattle.loft_tree.specs.Source.{Expression, Number, Variable, Special, Unary, Binary}
use Rattle.loft_tree.specs.Levels.{operator_level, level, left_bracketed, right_bracketed, sign_bracketed, in_brackets, nesting, operands}
use Rattle.loft_form.specs.Form.{Limits, ◌▹◌, many, made, State}
use Rattle.loft_form.specs.Spells.{Adds, SpellsEach, Spelling, Spells, SpellsRule, owing}
use Rattle.loft_form.specs.Reading.{paid}
use Rattle.loft_grammar.specs.declared.counts.Counted.TheVariants as count
use Rattle.loft_grammar.specs.declared.counts.Counts.{Counts}
use Rattle.loft_grammar.specs.Counts.{put}
use Rattle.loft_grammar.specs.Language.{Language, Bracketed, Signed}
use Rattle.loft_grammar.specs.Symbols.{Form}
use Rattle.loft_grammar.specs.Expressions.{chain, operator, builtin, bracketed, atom, negated, inverted, unary, factor, term, summand, sum, equality, ordering, compared, comparison, conjunct, conjunction, disjunct, expression}
use Rattle.loft_grammar.specs.Statements.{rules}
use Rattle.loft_show.specs.Canon.{Piece, piece, space, tight, sign, builtin_word, unary_sign, binary_sign, held, expression_pieces}
use Rattle.loft_show.specs.Places.{bare_expression}
use Rattle.loft_show.proofs.reads.Spelling.{bare, syms, AtMost, fewer, one_below, Is, ◌then◌, left, right, some, none, nothing_more, counting_it, built, within, spelled_as, symbol, adds_more, sign_is, opening_sign_is}

-- the counts, with k more operands
abbrev pub more : Counts → ℕ → Counts
more c k = put count.Operand (c.operands + k) c

-- i more and then j more
more_more : (c : Counts) (i j : ℕ) → more (more c i) j ≡ more c (i + j)
more_more c i j = let e : c.operands + i + j ≡ c.operands + (i + j) = omega arith in ap (λ (k : ℕ). put count.Operand k c) e

-- ---- a chain goes on

-- an operator and an operand more at the end
chain_push : (e : Expression) (xs : List (BinaryOperator × Expression)) (op : BinaryOperator) (r : Expression) → chain e (xs ++ (op, r) ∷ []) ≡ Binary op (chain e xs) r
chain_push e [] op r = refl
chain_push e (x ∷ xs) op r = chain_push (Binary x.0 e x.1) xs op r

each_push : {A : Type 0} (One : Spelling Language A) (ss : List Symbol) (c : State Language) (xs : List A) (d : State Language) (ts : List Symbol) (x : A) (e : State Language) → SpellsEach One ss c xs d → One ts d x e → SpellsEach One (ss ++ ts) c (xs ++ x ∷ []) e
each_push One ss c [] d ts x e p q = rw (p.0) (ts, [], e, sym (append-nil ts), subst (λ b. One ts b x e) p.1 q, (refl, refl))
each_push One ss c (y ∷ ys) d ts x e (front, back, b, k, p, q) r = (front, back ++ ts, b, ap (λ t. t ++ ts) k ∙ append_assoc front back ts, p, each_push One back b ys d ts x e q r)

module _ {lim : Limits Language} {n : ℕ} {f : Form Expression} {g : Form (BinaryOperator × Expression)} where
  chain_none : {ss : List Symbol} {c d : State Language} {e : Expression} → Is lim n f ss c e d → Is lim n (made (λ x. chain x.0 x.1) (f ▹ many g)) ss c e d
  chain_none {ss} p = spelled_as (append-nil ss) (built (p then nothing_more))

  chain_more : {ss ts : List Symbol} {c m d : State Language} {e r : Expression} {op : BinaryOperator} → Is lim n (made (λ x. chain x.0 x.1) (f ▹ many g)) ss c e m → Is lim n g ts m (op, r) d → Is lim n (made (λ x. chain x.0 x.1) (f ▹ many g)) (ss ++ ts) c (Binary op e r) d
  chain_more {ss} {ts} {m = middle} {d} {r} {op} p q =
      let (y, is, parts) = p.spells in
      let (front, back, m, k, first, others) = parts in
      record { spells = ((y.0, y.1 ++ (op, r) ∷ []), ap (λ e. Binary op e r) is ∙ sym (chain_push y.0 y.1 op r), (front, back ++ ts, m, ap (λ t. t ++ ts) k ∙ append_assoc front back ts, first, each_push (Spells lim n (SpellsRule rules lim n) g) back m y.1 middle ts (op, r) d others q.spells)) }

-- ---- levels

-- the form of expressions of this level and higher ones
abbrev pub form_of : ℕ → Form Expression
form_of zero = expression
form_of (suc zero) = expression
form_of (suc (suc zero)) = conjunction
form_of (suc (suc (suc zero))) = comparison
form_of (suc (suc (suc (suc zero)))) = sum
form_of (suc (suc (suc (suc (suc zero))))) = term
form_of (suc (suc (suc (suc (suc (suc zero)))))) = unary
form_of (suc (suc (suc (suc (suc (suc (suc k))))))) = atom

module _ {lim : Limits Language} {n : ℕ} {ss : List Symbol} {c d : State Language} {e : Expression} where
  one_lower : (k : ℕ) → Is lim n (form_of (suc k)) ss c e d → Is lim n (form_of k) ss c e d
  unfolding expression conjunction comparison sum term unary
  one_lower zero p = p
  one_lower (suc zero) p = chain_none p
  one_lower (suc (suc zero)) p = chain_none p
  one_lower (suc (suc (suc zero))) p = spelled_as (append-nil ss) (built (p then none))
  one_lower (suc (suc (suc (suc zero)))) p = chain_none p
  one_lower (suc (suc (suc (suc (suc zero))))) p = chain_none p
  one_lower (suc (suc (suc (suc (suc (suc zero)))))) p = right (right p)
  one_lower (suc (suc (suc (suc (suc (suc (suc k))))))) p = p

  -- what is of a level is of each lower one
  pub lower : (k l : ℕ) → l ≤ k → Is lim n (form_of k) ss c e d → Is lim n (form_of l) ss c e d
  lower zero l h p = let same : 0 ≡ l = omega arith in subst (λ j. Is lim n (form_of j) ss c e d) same p
  lower (suc k) l h p = or_less (λ less. lower k l less (one_lower k p)) (nat_le l k) refl
    where
      or_less : (l ≤ k → Is lim n (form_of l) ss c e d) → (test : Bool) → nat_le l k ≡ test → Is lim n (form_of l) ss c e d
      or_less below true is = below (grind (arith, nat_tests))
      or_less below false is = let same : suc k ≡ l = grind (arith, nat_tests) in subst (λ j. Is lim n (form_of j) ss c e d) same p

-- the lowest level of a left operand without brackets, and of a right one
abbrev left_level : BinaryOperator → ℕ
left_level o.Or = 1
left_level o.And = 2
left_level o.Equal = 4
left_level o.Unequal = 4
left_level o.Less = 4
left_level o.LessOrEqual = 4
left_level o.Greater = 4
left_level o.GreaterOrEqual = 4
left_level o.Plus = 4
left_level o.Minus = 4
left_level o.Times = 5
left_level o.Divide = 5
left_level o.Remainder = 5

abbrev right_level : BinaryOperator → ℕ
right_level op = suc (operator_level op)

-- ---- operators

operator_is : {lim : Limits Language} {n : ℕ} (v : Sign) (op : BinaryOperator) (c : Counts) → Is lim n (operator v op) (bare (Mark v) ∷ []) (paid c) op (paid c)
operator_is v op c = built (sign_is c v)

-- two operands that need no brackets, or have them
binary_is : {lim : Limits Language} {n : ℕ} {xs ys : List Symbol} {c d : State Language} {l r : Expression} (m : Counts) (op : BinaryOperator) → Is lim n (form_of (left_level op)) xs c l (paid m) → Is lim n (form_of (right_level op)) ys (paid m) r d
    → Is lim n (form_of (operator_level op)) (xs ++ (bare (Mark (binary_sign op)) ∷ ys)) c (Binary op l r) d
unfolding expression disjunct conjunction conjunct comparison compared equality ordering sum summand term factor
binary_is m o.Or p q = chain_more p (operator_is s.Or o.Or m then q)
binary_is m o.And p q = chain_more p (operator_is s.And o.And m then q)
binary_is m o.Equal p q = built (p then some (left (left (operator_is s.Same o.Equal m)) then q))
binary_is m o.Unequal p q = built (p then some (left (right (operator_is s.Differs o.Unequal m)) then q))
binary_is m o.Less p q = built (p then some (right (left (operator_is s.Less o.Less m)) then q))
binary_is m o.LessOrEqual p q = built (p then some (right (right (left (operator_is s.LessOrSame o.LessOrEqual m))) then q))
binary_is m o.Greater p q = built (p then some (right (right (right (left (operator_is s.Greater o.Greater m)))) then q))
binary_is m o.GreaterOrEqual p q = built (p then some (right (right (right (right (operator_is s.GreaterOrSame o.GreaterOrEqual m)))) then q))
binary_is m o.Plus p q = chain_more p (left (operator_is s.Plus o.Plus m) then q)
binary_is m o.Minus p q = chain_more p (right (operator_is s.Minus o.Minus m) then q)
binary_is m o.Times p q = chain_more p (left (operator_is s.Star o.Times m) then q)
binary_is m o.Divide p q = chain_more p (right (left (operator_is s.Slash o.Divide m)) then q)
binary_is m o.Remainder p q = chain_more p (right (right (operator_is s.Percent o.Remainder m)) then q)

-- ---- brackets

-- what an operand needs no brackets for
left_free : (op : BinaryOperator) (e : Expression) → left_bracketed op e ≡ false → left_level op ≤ level e
left_free o.Or e h = grind (arith, nat_tests)
left_free o.And e h = grind (arith, nat_tests)
left_free o.Equal e h = grind (arith, nat_tests)
left_free o.Unequal e h = grind (arith, nat_tests)
left_free o.Less e h = grind (arith, nat_tests)
left_free o.LessOrEqual e h = grind (arith, nat_tests)
left_free o.Greater e h = grind (arith, nat_tests)
left_free o.GreaterOrEqual e h = grind (arith, nat_tests)
left_free o.Plus e h = grind (arith, nat_tests)
left_free o.Minus e h = grind (arith, nat_tests)
left_free o.Times e h = grind (arith, nat_tests)
left_free o.Divide e h = grind (arith, nat_tests)
left_free o.Remainder e h = grind (arith, nat_tests)

right_free : (op : BinaryOperator) (e : Expression) → right_bracketed op e ≡ false → right_level op ≤ level e
right_free op e h = grind (arith, nat_tests)

sign_free : (e : Expression) → sign_bracketed e ≡ false → 6 ≤ level e
sign_free e h = grind (arith, nat_tests)

left_low : (op : BinaryOperator) → left_level op ≤ 7
left_low o.Or = lit≤ tt
left_low o.And = lit≤ tt
left_low o.Equal = lit≤ tt
left_low o.Unequal = lit≤ tt
left_low o.Less = lit≤ tt
left_low o.LessOrEqual = lit≤ tt
left_low o.Greater = lit≤ tt
left_low o.GreaterOrEqual = lit≤ tt
left_low o.Plus = lit≤ tt
left_low o.Minus = lit≤ tt
left_low o.Times = lit≤ tt
left_low o.Divide = lit≤ tt
left_low o.Remainder = lit≤ tt

right_low : (op : BinaryOperator) → right_level op ≤ 7
right_low o.Or = lit≤ tt
right_low o.And = lit≤ tt
right_low o.Equal = lit≤ tt
right_low o.Unequal = lit≤ tt
right_low o.Less = lit≤ tt
right_low o.LessOrEqual = lit≤ tt
right_low o.Greater = lit≤ tt
right_low o.GreaterOrEqual = lit≤ tt
right_low o.Plus = lit≤ tt
right_low o.Minus = lit≤ tt
right_low o.Times = lit≤ tt
right_low o.Divide = lit≤ tt
right_low o.Remainder = lit≤ tt

-- The symbols of the expression spell it. What is due before it makes m of the counts.
abbrev pub Spelled : Limits Language → Expression → Type 0
Spelled lim e =
    (n : ℕ) (gap : List ℕ) (c : State Language) (m : Counts) → Adds lim c.due c.counts m → nesting e ≤ n → AtMost (lim.most count.Operand) (m.operands + operands e)
    → Is lim n (form_of (level e)) (syms (expression_pieces e gap)) c (bare_expression e) (paid (more m (operands e)))

-- brackets make an atom of it
bracket_is : {lim : Limits Language} (e : Expression) (n : ℕ) (gap : List ℕ) (c : State Language) (m : Counts) → 0 < n → Adds lim c.due c.counts m → Is lim (n - 1) expression (syms (expression_pieces e [])) (paid m) (bare_expression e) (paid (more m (operands e)))
    → Is lim n atom (syms (held true (expression_pieces e) gap)) c (bare_expression e) (paid (more m (operands e)))
unfolding atom bracketed
bracket_is e n gap c m deep adds p =
    spelled_as (sym (ap (λ (ss : List Symbol). bare (Mark s.Open) ∷ ss) (map-append (λ (x : Piece). bare x.what) (expression_pieces e []) (tight (sign s.Close) ∷ []))))
    (right (right (right (built (opening_sign_is c m s.Open deep adds then within n Bracketed _ _ _ _ deep p then sign_is (more m (operands e)) s.Close)))))

-- an operand, with brackets exactly where its level is too low
held_is : {lim : Limits Language} (e : Expression) → Spelled lim e → (l n : ℕ) (gap : List ℕ) (c : State Language) (m : Counts) (brackets : Bool) → l ≤ 7 → (brackets ≡ false → l ≤ level e)
    → Adds lim c.due c.counts m → in_brackets brackets (nesting e) ≤ n → AtMost (lim.most count.Operand) (m.operands + operands e) → Is lim n (form_of l) (syms (held brackets (expression_pieces e) gap)) c (bare_expression e) (paid (more m (operands e)))
held_is e spelled l n gap c m true low free adds nests few =
    lower 7 l low (bracket_is e n gap c m (omega arith) adds (lower (level e) 0 (omega arith) (spelled (n - 1) [] (paid m) m refl (omega arith) few)))
held_is e spelled l n gap c m false low free adds nests few = lower (level e) l (free refl) (spelled n gap c m adds nests few)

-- an atom of one symbol counts as one operand
counts_one : (lim : Limits Language) (c : State Language) (m : Counts) → Adds lim c.due c.counts m → AtMost (lim.most count.Operand) (m.operands + 1) → Adds lim (owing count.Operand c).due c.counts (more m 1)
counts_one lim c m adds few = adds_more lim c.due count.Operand c.counts m adds (one_below (lim.most count.Operand) m.operands (m.operands + 1) (omega arith) few)

special_is : {lim : Limits Language} (x : Builtin) (n : ℕ) (c : State Language) (m : Counts) → Adds lim (owing count.Operand c).due c.counts (more m 1) → Is lim n builtin (bare (Keyword (builtin_word x)) ∷ []) c (Special 0 x) (paid (more m 1))
unfolding builtin
special_is b.Itself n c m adds = left (built (counting_it (symbol (Keyword w.SelfWord) (owing count.Operand c) (more m 1) refl adds)))
special_is b.Code n c m adds = right (left (built (counting_it (symbol (Keyword w.Code) (owing count.Operand c) (more m 1) refl adds))))
special_is b.Mask n c m adds = right (right (built (counting_it (symbol (Keyword w.Mask) (owing count.Operand c) (more m 1) refl adds))))

-- a sign before an operand
signed_is : {lim : Limits Language} (op : UnaryOperator) (e : Expression) (n : ℕ) (ss : List Symbol) (c : State Language) (m : Counts) (d : State Language) → 0 < n → Adds lim c.due c.counts m → Is lim (n - 1) unary ss (paid m) e d
    → Is lim n unary (bare (Mark (unary_sign op)) ∷ ss) c (Unary 0 op e) d
unfolding unary negated inverted
signed_is u.Minus e n ss c m d deep adds p = left (built (opening_sign_is c m s.Minus deep adds then within n Signed ss (paid m) e d deep p))
signed_is u.Not e n ss c m d deep adds p = right (left (built (opening_sign_is c m s.Not deep adds then within n Signed ss (paid m) e d deep p)))

both_sides : (xs ys : List Piece) (p : Piece) → syms (xs ++ p ∷ ys) ≡ syms xs ++ (bare p.what ∷ syms ys)
both_sides xs ys p = map-append (λ (x : Piece). bare x.what) xs (p ∷ ys)

-- the symbols of each expression spell it
pub expression_is : {lim : Limits Language} (e : Expression) → Spelled lim e
unfolding atom
expression_is {lim} (Number at value) n gap c m adds nests few = left (built (counting_it (symbol (Numeral value) (owing count.Operand c) (more m 1) refl (counts_one lim c m adds few))))
expression_is {lim} (Variable name) n gap c m adds nests few = right (left (built (counting_it (symbol (NamedWhat name.text) (owing count.Operand c) (more m 1) refl (counts_one lim c m adds few)))))
expression_is {lim} (Special at x) n gap c m adds nests few = right (right (left (special_is x n c m (counts_one lim c m adds few))))
expression_is (Unary at op e) n gap c m adds nests few =
    signed_is op (bare_expression e) n (syms (held (sign_bracketed e) (expression_pieces e) [])) c m (paid (more m (operands e))) (omega arith) adds
    (held_is e (expression_is e) 6 (n - 1) [] (paid m) m (sign_bracketed e) (lit≤ tt) (sign_free e) refl (omega arith) few)
expression_is {lim} (Binary op l r) n gap c m adds nests few =
    let i = operands l in
    let all = m.operands + operands (Binary op l r) in
    let most_operands = lim.most count.Operand in
    let p = held_is l (expression_is l) (left_level op) n gap c m (left_bracketed op l) (left_low op) (left_free op l) adds (omega arith) (fewer most_operands (m.operands + i) all (omega arith) few) in
    let q = held_is r (expression_is r) (right_level op) n space (paid (more m i)) (more m i) (right_bracketed op r) (right_low op) (right_free op r) refl (omega arith) (fewer most_operands ((more m i).operands + operands r) all (omega arith) few) in
    let whole = binary_is (more m i) op p q in
    let spelled = spelled_as (sym (both_sides (held (left_bracketed op l) (expression_pieces l) gap) (held (right_bracketed op r) (expression_pieces r) space) (piece space (sign (binary_sign op))))) whole in
    subst (λ k. Is lim n (form_of (operator_level op)) (syms (expression_pieces (Binary op l r) gap)) c (bare_expression (Binary op l r)) (paid k)) (more_more m i (operands r)) spelled
