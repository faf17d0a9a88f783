-- An operand that stands alone is an expression of every level.
use Rattle.std.proofs.Common.{◌≡◌, ℕ, ◌+◌, ◌<◌, Bool, true, false, not, ◌&&◌, ◌||◌, List, [], ◌∷◌, length, Result, Ok, Err, Option, refl, sym, ap, ◌∙◌}
use Rattle.loft_lex.specs.Symbol.{Symbol, What, Named, Keyword, Numeral, Quoted, Mark, Unreadable}
use Rattle.loft_tree.specs.declared.kinds.BinaryOperator.{BinaryOperator}
use Rattle.loft_tree.specs.Source.{Expression, Number, Variable}
use Rattle.loft_form.specs.declared.fault.Fault.{Fault}
use Rattle.loft_form.specs.Form.{many, maybe, made, ◌▹◌, Limits, State, next_begins}
use Rattle.loft_form.specs.Reading.{Place, Read, ◌>>=◌, read, done, paid, leaf_at, tally}
use Rattle.loft_form.specs.Spells.{owing}
use Rattle.loft_form.proofs.Progress.{least, many_done}
use Rattle.loft_grammar.specs.declared.counts.Counts.{Counts}
use Rattle.loft_grammar.specs.declared.counts.Counted.TheVariants as counts
use Rattle.loft_grammar.specs.Alone.{goes_on, stands_alone}
use Rattle.loft_grammar.specs.Language.{Language, kind_of, is_number, is_name}
use Rattle.loft_grammar.specs.Symbols.{Form}
use Rattle.loft_grammar.specs.Expressions.{chain, comparison_of, unary, negated, inverted, atom, factor, term, summand, sum, compared, comparison, conjunct, conjunction}
use Rattle.loft_grammar.specs.Statements.{rules}
use Rattle.loft_grammar.specs.Levels.{operation_at, chain_at}
use Rattle.loft_grammar.specs.declared.operator.Level.{Level}
use Rattle.loft_grammar.specs.declared.operator.Level.TheVariants.{Product, Sum, Conjunction, Disjunction}
use Rattle.loft_productions.proofs.Chains.{least_operation}

neither_left : (p q : Bool) → (p || q) ≡ false → p ≡ false
neither_left true q h = h
neither_left false q h = refl

neither_right : (p q : Bool) → (p || q) ≡ false → q ≡ false
neither_right true q h = cc
neither_right false q h = h

left_of : (p q : Bool) → (p && q) ≡ true → p ≡ true
left_of true q h = refl
left_of false q h = h

right_of : (p q : Bool) → (p && q) ≡ true → q ≡ true
right_of true q h = h
right_of false q h = cc

not_true : (p : Bool) → not p ≡ true → p ≡ false
not_true true h = sym h
not_true false h = refl

-- One symbol was read, which may have been one too many.
abbrev pub one_read : Result Counts Fault → Expression → List Symbol → Read Language Expression
one_read count e rest = count >>= λ after. done e rest (paid after)

-- Reading gives one symbol's expression.
pub record IsOne (found : Read Language Expression) (rest : List Symbol) : Type 0 where
  pub count : Result Counts Fault
  pub value : Expression
  pub is : found ≡ one_read count value rest

made_one : {A : Type 0} (h : A → Expression) (count : Result Counts Fault) (x : A) (rest : List Symbol)
    → ((count >>= λ after. done {L = Language} x rest (paid after)) >>= λ y. Ok (h y.0, y.1)) ≡ one_read count (h x) rest
made_one h (Ok after) x rest = refl
made_one h (Err e) x rest = refl

-- a number and a name are operands
operand_is_one : (lim : Limits Language) (n at : ℕ) (what : What) (rest : List Symbol) (c : State Language) → (is_number (kind_of what) || is_name (kind_of what)) ≡ true
    → IsOne (read rules lim n unary (record { at = at; what = what } ∷ rest) c) rest
unfolding unary negated inverted atom leaf_at
operand_is_one lim n at (Named bytes) rest c is =
    let count = tally lim (length rest + 1) (owing counts.Operand c).due c.counts in
    record { count = count; value = Variable (record { text = bytes; at = at }); is = made_one (λ x. Variable x) count (record { text = bytes; at = at }) rest }
operand_is_one lim n at (Numeral value) rest c is =
    let count = tally lim (length rest + 1) (owing counts.Operand c).due c.counts in
    record { count = count; value = Number at value; is = made_one (λ x. Number x.0 x.1) count (at, value) rest }
operand_is_one lim n at (Keyword word) rest c is = absurd cc
operand_is_one lim n at (Quoted bytes) rest c is = absurd cc
operand_is_one lim n at (Mark sign) rest c is = absurd cc
operand_is_one lim n at Unreadable rest c is = absurd cc

-- no operation goes on with it
chain_is_one : (lim : Limits Language) (n : ℕ) (f : Form Expression) (g : Form (BinaryOperator × Expression)) (ss rest : List Symbol) (c : State Language) (count : Result Counts Fault) (e : Expression)
    → 0 < least g → next_begins g rest ≡ false → read rules lim n f ss c ≡ one_read count e rest
    → read rules lim n (made (λ x. chain x.0 x.1) (f ▹ many g)) ss c ≡ one_read count e rest
chain_is_one lim n f g ss rest c count e some stops one = ap continued one ∙ nothing count
  where
    more : Expression × Place Language → Read Language (Expression × List (BinaryOperator × Expression))
    more x = read rules lim n (many g) x.1.rest x.1.state >>= λ y. Ok ((x.0, y.0), y.1)

    joined : (Expression × List (BinaryOperator × Expression)) × Place Language → Read Language Expression
    joined z = Ok (chain z.0.0 z.0.1, z.1)

    continued : Read Language Expression → Read Language Expression
    continued r = (r >>= more) >>= joined

    with_e : Read Language (List (BinaryOperator × Expression)) → Read Language (Expression × List (BinaryOperator × Expression))
    with_e r = r >>= λ y. Ok ((e, y.0), y.1)

    nothing : (count : Result Counts Fault) → continued (one_read count e rest) ≡ one_read count e rest
    nothing (Ok after) = ap (λ r. with_e r >>= joined) (many_done rules lim n g rest (paid after) some stops)
    nothing (Err x) = refl

-- nothing is compared with it
comparison_is_one : (lim : Limits Language) (n : ℕ) (f : Form Expression) (g : Form (BinaryOperator × Expression)) (ss rest : List Symbol) (c : State Language) (count : Result Counts Fault) (e : Expression)
    → next_begins g rest ≡ false → read rules lim n f ss c ≡ one_read count e rest
    → read rules lim n (made (λ x. comparison_of x.0 x.1) (f ▹ maybe g)) ss c ≡ one_read count e rest
comparison_is_one lim n f g ss rest c count e stops one = ap continued one ∙ nothing count
  where
    more : Expression × Place Language → Read Language (Expression × Option (BinaryOperator × Expression))
    more x = read rules lim n (maybe g) x.1.rest x.1.state >>= λ y. Ok ((x.0, y.0), y.1)

    joined : (Expression × Option (BinaryOperator × Expression)) × Place Language → Read Language Expression
    joined z = Ok (comparison_of z.0.0 z.0.1, z.1)

    continued : Read Language Expression → Read Language Expression
    continued r = (r >>= more) >>= joined

    nothing : (count : Result Counts Fault) → continued (one_read count e rest) ≡ one_read count e rest
    nothing (Ok after) = rw stops refl
    nothing (Err x) = refl

module _ (lim : Limits Language) (n : ℕ) (ss : List Symbol) (y : Symbol) (rest : List Symbol) (c : State Language) (count : Result Counts Fault) (e : Expression) (one : read rules lim n unary ss c ≡ one_read count e (y ∷ rest)) where
  product : goes_on Product (kind_of y.what) ≡ false → read rules lim n (chain_at Product) ss c ≡ one_read count e (y ∷ rest)
  product stops = chain_is_one lim n unary (operation_at Product) ss (y ∷ rest) c count e (least_operation Product) stops one

  sum_is : goes_on Sum (kind_of y.what) ≡ false → read rules lim n (chain_at Sum) ss c ≡ one_read count e (y ∷ rest)
  unfolding term factor
  sum_is stops = chain_is_one lim n term (operation_at Sum) ss (y ∷ rest) c count e (least_operation Sum) (neither_right _ _ stops) (product (neither_left _ _ stops))

  conjunction_is : goes_on Conjunction (kind_of y.what) ≡ false → read rules lim n (chain_at Conjunction) ss c ≡ one_read count e (y ∷ rest)
  unfolding comparison sum summand term factor compared
  conjunction_is stops =
      let before = neither_left _ _ stops in
      chain_is_one lim n comparison (operation_at Conjunction) ss (y ∷ rest) c count e (least_operation Conjunction) (neither_right _ _ stops)
      (comparison_is_one lim n sum compared ss (y ∷ rest) c count e (neither_right _ _ before) (sum_is (neither_left _ _ before)))

  disjunction_is : goes_on Disjunction (kind_of y.what) ≡ false → read rules lim n (chain_at Disjunction) ss c ≡ one_read count e (y ∷ rest)
  unfolding conjunction conjunct
  disjunction_is stops = chain_is_one lim n conjunction (operation_at Disjunction) ss (y ∷ rest) c count e (least_operation Disjunction) (neither_right _ _ stops) (conjunction_is (neither_left _ _ stops))

  level_is : (level : Level) → goes_on level (kind_of y.what) ≡ false → read rules lim n (chain_at level) ss c ≡ one_read count e (y ∷ rest)
  level_is Product stops = product stops
  level_is Sum stops = sum_is stops
  level_is Conjunction stops = conjunction_is stops
  level_is Disjunction stops = disjunction_is stops

pub alone : (lim : Limits Language) (n : ℕ) (level : Level) (ss : List Symbol) (c : State Language) → stands_alone level ss ≡ true
    → read rules lim n (chain_at level) ss c ≡ read rules lim n unary ss c
alone lim n level [] c h = absurd cc
alone lim n level (x ∷ []) c h = absurd cc
alone lim n level (x ∷ y ∷ rest) c h =
    let one = operand_is_one lim n x.at x.what (y ∷ rest) c (left_of _ _ h) in
    level_is lim n (x ∷ y ∷ rest) y rest c one.count one.value one.is level (not_true _ (right_of _ _ h)) ∙ sym one.is
