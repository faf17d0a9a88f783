-- How strongly operators bind, and where brackets have to stand (docs/LANGUAGE.md, "Canonical text").
use Rattle.std.specs.Prelude.{ℕ, ◌+◌, Bool, true, false, nat_lt, nat_le, ◌==◌, ◌&&◌, ◌||◌, max}
use Rattle.loft_tree.specs.declared.kinds.BinaryOperator.{BinaryOperator}
use Rattle.loft_tree.specs.declared.kinds.BinaryOperator.TheVariants.{Or, And, Equal, Unequal, Less, LessOrEqual, Greater, GreaterOrEqual, Plus, Minus, Times, Divide, Remainder}
use Rattle.loft_tree.specs.Source.{Expression, Number, Variable, Special, Unary, Binary}

abbrev pub operator_level : BinaryOperator → ℕ
operator_level Or = 1
operator_level And = 2
operator_level Equal = 3
operator_level Unequal = 3
operator_level Less = 3
operator_level LessOrEqual = 3
operator_level Greater = 3
operator_level GreaterOrEqual = 3
operator_level Plus = 4
operator_level Minus = 4
operator_level Times = 5
operator_level Divide = 5
operator_level Remainder = 5

-- how the operators of an expression stand in one another, without what stands between them
pub data Shape : Type 0 where
  Operand : Shape
  Signed : (inside : Shape) → Shape
  Joined : (operator : BinaryOperator) (left right : Shape) → Shape

abbrev pub shape_of : Expression → Shape
shape_of (Number at value) = Operand
shape_of (Variable name) = Operand
shape_of (Special at builtin) = Operand
shape_of (Unary at operator operand) = Signed (shape_of operand)
shape_of (Binary operator left right) = Joined operator (shape_of left) (shape_of right)

-- signs are of level 6, what is no operator of level 7
abbrev pub shape_level : Shape → ℕ
shape_level Operand = 7
shape_level (Signed inside) = 6
shape_level (Joined operator left right) = operator_level operator

-- a left operand stands in brackets where its level is lower than the operator's, or both are comparisons
abbrev pub brackets_left : BinaryOperator → Shape → Bool
brackets_left op e = nat_lt (shape_level e) (operator_level op) || (operator_level op == 3 && shape_level e == 3)

-- a right operand stands in brackets where its level isn't higher than the operator's
abbrev pub brackets_right : BinaryOperator → Shape → Bool
brackets_right op e = nat_le (shape_level e) (operator_level op)

-- the operand of a sign stands in brackets where its level is below that of signs
abbrev pub brackets_sign : Shape → Bool
brackets_sign e = nat_lt (shape_level e) 6

-- brackets are one nesting more
abbrev pub in_brackets : Bool → ℕ → ℕ
in_brackets true n = n + 1
in_brackets false n = n

-- how many brackets and signs stand in one another at most
abbrev pub shape_nesting : Shape → ℕ
shape_nesting Operand = 0
shape_nesting (Signed inside) = in_brackets (brackets_sign inside) (shape_nesting inside) + 1
shape_nesting (Joined operator left right) =
    max (in_brackets (brackets_left operator left) (shape_nesting left)) (in_brackets (brackets_right operator right) (shape_nesting right))

-- how many operands there are
abbrev pub shape_operands : Shape → ℕ
shape_operands Operand = 1
shape_operands (Signed inside) = shape_operands inside
shape_operands (Joined operator left right) = shape_operands left + shape_operands right

-- the same of an expression
abbrev pub level : Expression → ℕ
level e = shape_level (shape_of e)

abbrev pub left_bracketed : BinaryOperator → Expression → Bool
left_bracketed op e = brackets_left op (shape_of e)

abbrev pub right_bracketed : BinaryOperator → Expression → Bool
right_bracketed op e = brackets_right op (shape_of e)

abbrev pub sign_bracketed : Expression → Bool
sign_bracketed e = brackets_sign (shape_of e)

abbrev pub nesting : Expression → ℕ
nesting e = shape_nesting (shape_of e)

abbrev pub operands : Expression → ℕ
operands e = shape_operands (shape_of e)
