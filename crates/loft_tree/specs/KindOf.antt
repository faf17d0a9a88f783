-- The kinds of values without a name, and of operators (docs/LANGUAGE.md, "Kinds").
use Rattle.std.specs.Prelude.{Bool, true, false}
use Rattle.loft_tree.specs.declared.kinds.Kind.{Kind}
use Rattle.loft_tree.specs.declared.kinds.Kind.TheVariants.{Int, Thread}
use Rattle.loft_tree.specs.declared.kinds.Builtin.{Builtin}
use Rattle.loft_tree.specs.declared.kinds.Builtin.TheVariants.{Itself, Code, Mask}
use Rattle.loft_tree.specs.declared.kinds.BinaryOperator.{BinaryOperator}
use Rattle.loft_tree.specs.declared.kinds.BinaryOperator.TheVariants.{Or, And, Equal, Unequal, Less, LessOrEqual, Greater, GreaterOrEqual, Plus, Minus, Times, Divide, Remainder}

abbrev pub builtin_kind : Builtin → Kind
builtin_kind Itself = Thread
builtin_kind Code = Int
builtin_kind Mask = Int

-- the operator takes two of one kind
abbrev pub compares : BinaryOperator → Bool
compares Or = false
compares And = false
compares Equal = true
compares Unequal = true
compares Less = false
compares LessOrEqual = false
compares Greater = false
compares GreaterOrEqual = false
compares Plus = false
compares Minus = false
compares Times = false
compares Divide = false
compares Remainder = false
