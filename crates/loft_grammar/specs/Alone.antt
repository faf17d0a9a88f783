-- Operands that stand alone: numbers and names with no operator after them.
use Rattle.std.specs.Prelude.{Bool, false, not, ◌&&◌, ◌||◌, List, [], ◌∷◌}
use Rattle.loft_lex.specs.Symbol.{Symbol}
use Rattle.loft_lex.specs.declared.sign.Sign.TheVariants as s
use Rattle.loft_form.specs.Form.{begins, ◌∣◌}
use Rattle.loft_grammar.specs.declared.operator.Level.{Level}
use Rattle.loft_grammar.specs.declared.operator.Level.TheVariants.{Product, Sum, Conjunction, Disjunction}
use Rattle.loft_grammar.specs.Expressions.{multiplying, adding, equality, ordering}
use Rattle.loft_grammar.specs.Language.{Kind, kind_of, is_sign, is_number, is_name}

-- an operator of a `sum`, or of a part of one
abbrev pub in_sum : Kind → Bool
in_sum k = begins multiplying k || begins adding k

-- an operator of a `conjunction`, or of a part of one
abbrev pub in_conjunction : Kind → Bool
in_conjunction k = in_sum k || begins (equality ∣ ordering) k || is_sign s.And k

-- an operator of the level, or of one that binds more
abbrev pub goes_on : Level → Kind → Bool
goes_on Product k = begins multiplying k
goes_on Sum k = in_sum k
goes_on Conjunction k = in_conjunction k
goes_on Disjunction k = in_conjunction k || is_sign s.Or k

-- a number or a name comes first, and no such operator after it
abbrev pub stands_alone : Level → List Symbol → Bool
stands_alone level [] = false
stands_alone level (x ∷ []) = false
stands_alone level (x ∷ y ∷ ss) = (is_number (kind_of x.what) || is_name (kind_of x.what)) && not (goes_on level (kind_of y.what))
