-- The grammar of expressions (docs/LANGUAGE.md, "Grammar"), one form for each rule.
use Rattle.std.specs.Prelude.{List, [], ◌∷◌, Option, Some, None}
use Rattle.loft_lex.specs.declared.word.Word.{Word}
use Rattle.loft_lex.specs.declared.word.Word.TheVariants as w
use Rattle.loft_lex.specs.declared.sign.Sign.{Sign}
use Rattle.loft_lex.specs.declared.sign.Sign.TheVariants as s
use Rattle.loft_tree.specs.declared.kinds.Builtin.{Builtin}
use Rattle.loft_tree.specs.declared.kinds.Builtin.TheVariants as b
use Rattle.loft_tree.specs.declared.kinds.UnaryOperator.TheVariants as u
use Rattle.loft_tree.specs.declared.kinds.BinaryOperator.{BinaryOperator}
use Rattle.loft_tree.specs.declared.kinds.BinaryOperator.TheVariants as o
use Rattle.loft_tree.specs.Source.{Expression, Number, Variable, Special, Unary, Binary, Argument}
use Rattle.loft_form.specs.Form.{◌▹◌, ◌∣◌, maybe, many, inside, counted, fresh, made}
use Rattle.loft_grammar.specs.declared.counts.Counted.{Counted}
use Rattle.loft_grammar.specs.declared.counts.Counted.TheVariants as count
use Rattle.loft_grammar.specs.Language.{Bracketed, Signed}
use Rattle.loft_grammar.specs.Symbols.{Form, sign, opening_sign, name, numeral, counting, first_word}

-- a chain of operators, which groups to the left
abbrev pub chain : Expression → List (BinaryOperator × Expression) → Expression
chain e [] = e
chain e (x ∷ xs) = chain (Binary x.0 e x.1) xs

abbrev pub operator : Sign → BinaryOperator → Form BinaryOperator
operator v op = made (λ _. op) (sign v)

abbrev pub special : Word → Builtin → Form Expression
special v builtin = made (λ at. Special at builtin) (first_word count.Operand v)

-- "self" | "code" | "mask"
unfoldable pub builtin : Form Expression
builtin = special w.SelfWord b.Itself ∣ special w.Code b.Code ∣ special w.Mask b.Mask

-- "(" expression ")"
unfoldable pub bracketed : Form Expression
bracketed = made (λ x. x.1.0) (opening_sign s.Open ▹ inside Bracketed ▹ sign s.Close)

-- atom = number | name | "self" | "code" | "mask" | "(" expression ")"
unfoldable pub atom : Form Expression
atom =
    made (λ x. Number x.0 x.1) (counting (Some count.Operand) numeral)
    ∣ made (λ x. Variable x) (counting (Some count.Operand) name)
    ∣ builtin
    ∣ bracketed

unfoldable pub negated : Form Expression
negated = made (λ x. Unary x.0 u.Minus x.1) (opening_sign s.Minus ▹ inside Signed)

unfoldable pub inverted : Form Expression
inverted = made (λ x. Unary x.0 u.Not x.1) (opening_sign s.Not ▹ inside Signed)

-- unary = ( "-" | "!" ) unary | atom
unfoldable pub unary : Form Expression
unary = negated ∣ inverted ∣ atom

-- "*" | "/" | "%"
abbrev pub multiplying : Form BinaryOperator
multiplying = operator s.Star o.Times ∣ operator s.Slash o.Divide ∣ operator s.Percent o.Remainder

-- ( "*" | "/" | "%" ) unary
unfoldable pub factor : Form (BinaryOperator × Expression)
factor = multiplying ▹ unary

-- term = unary { ( "*" | "/" | "%" ) unary }
unfoldable pub term : Form Expression
term = made (λ x. chain x.0 x.1) (unary ▹ many factor)

-- "+" | "-"
abbrev pub adding : Form BinaryOperator
adding = operator s.Plus o.Plus ∣ operator s.Minus o.Minus

-- ( "+" | "-" ) term
unfoldable pub summand : Form (BinaryOperator × Expression)
summand = adding ▹ term

-- sum = term { ( "+" | "-" ) term }
unfoldable pub sum : Form Expression
sum = made (λ x. chain x.0 x.1) (term ▹ many summand)

unfoldable pub equality : Form BinaryOperator
equality = operator s.Same o.Equal ∣ operator s.Differs o.Unequal

unfoldable pub ordering : Form BinaryOperator
ordering =
    operator s.Less o.Less ∣ operator s.LessOrSame o.LessOrEqual ∣ operator s.Greater o.Greater ∣ operator s.GreaterOrSame o.GreaterOrEqual

-- ( "==" | "!=" | "<" | "<=" | ">" | ">=" ) sum
unfoldable pub compared : Form (BinaryOperator × Expression)
compared = (equality ∣ ordering) ▹ sum

-- what may follow the first side of a comparison
abbrev pub comparison_of : Expression → Option (BinaryOperator × Expression) → Expression
comparison_of e None = e
comparison_of e (Some x) = Binary x.0 e x.1

-- comparison = sum [ ( "==" | "!=" | "<" | "<=" | ">" | ">=" ) sum ]
unfoldable pub comparison : Form Expression
comparison = made (λ x. comparison_of x.0 x.1) (sum ▹ maybe compared)

-- "&&" comparison
unfoldable pub conjunct : Form (BinaryOperator × Expression)
conjunct = operator s.And o.And ▹ comparison

-- conjunction = comparison { "&&" comparison }
unfoldable pub conjunction : Form Expression
conjunction = made (λ x. chain x.0 x.1) (comparison ▹ many conjunct)

-- "||" conjunction
unfoldable pub disjunct : Form (BinaryOperator × Expression)
disjunct = operator s.Or o.Or ▹ conjunction

-- expression = conjunction { "||" conjunction }
unfoldable pub expression : Form Expression
expression = made (λ x. chain x.0 x.1) (conjunction ▹ many disjunct)

-- an expression that is no part of another: its operands are counted from 0
unfoldable pub whole : Form Expression
whole = fresh count.Operand expression

-- ---- lists

abbrev pub list_of : {A : Type 0} → Option (A × List A) → List A
list_of None = []
list_of (Some x) = x.0 ∷ x.1

-- "," f
abbrev pub further : {A : Type 0} → Form A → Form A
further f = made (λ x. x.1) (sign s.Comma ▹ f)

-- [ f { "," f } ]
abbrev pub listed : {A : Type 0} → Form A → Form (List A)
listed f = made list_of (maybe (f ▹ many (further f)))

-- "(" [ f { "," f } ] ")"
abbrev pub in_brackets : {A : Type 0} → Counted → Form A → Form (List A)
in_brackets what f = made (λ x. x.1.0) (sign s.Open ▹ fresh what (listed f) ▹ sign s.Close)

unfoldable pub argument : Form Expression
argument = counted count.Argument whole

-- "(" [ expression { "," expression } ] ")"
unfoldable pub arguments : Form (List Expression)
arguments = in_brackets count.Argument argument
