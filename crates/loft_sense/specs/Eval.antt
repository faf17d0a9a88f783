-- The value of an expression (docs/SEMANTICS.md, "Expressions").
use Rattle.std.specs.Prelude.{ℕ, ℤ, pos, ◌+ℤ◌, ◌-ℤ◌, ◌*ℤ◌, int_lt, int_le, int_div, int_rem, Bool, true, false, not, ◌||◌, ◌&&◌, List, [], ◌∷◌, Option, Some, None, unwrap_or, slice_get, if◌then◌else◌}
use Rattle.std.specs.Option.{option_map, option_and_then}
use Rattle.std.specs.Ordering.{int_eq}
use Rattle.loft_base.specs.Arithmetic.{wrapped}
use Rattle.loft_base.specs.declared.ids.ThreadId.{ThreadId}
use Rattle.loft_base.specs.declared.ids.Value.{Value}
use Rattle.loft_base.specs.declared.ids.Value.TheVariants.{Int, Thread}
use Rattle.loft_tree.specs.declared.kinds.Builtin.{Builtin}
use Rattle.loft_tree.specs.declared.kinds.Builtin.TheVariants.{Itself, Code, Mask}
use Rattle.loft_tree.specs.declared.kinds.UnaryOperator.{UnaryOperator}
use Rattle.loft_tree.specs.declared.kinds.UnaryOperator.TheVariants as unary
use Rattle.loft_tree.specs.declared.kinds.BinaryOperator.{BinaryOperator}
use Rattle.loft_tree.specs.declared.kinds.BinaryOperator.TheVariants as binary
use Rattle.loft_tree.specs.declared.heads.Heads.{Heads}
use Rattle.loft_tree.specs.Resolved.{Exp, Number, Slot, Shared, Special, Unary, Binary}
use Rattle.loft_sense.specs.Heads.{rank}
use Rattle.loft_sense.specs.Around.{Beside}
use Rattle.loft_sense.specs.CanGo.{same_thread}

-- A value as a number. A thread counts as 0: no expression whose kinds agree takes one as a number.
abbrev pub number_of : Value → ℤ
number_of (Int n) = n
number_of (Thread t) = pos 0

-- a value as a thread; a number counts as this one, which no expression whose kinds agree shows
abbrev pub thread_or : ThreadId → Value → ThreadId
thread_or t (Int n) = t
thread_or t (Thread u) = u

abbrev pub same_value : Value → Value → Bool
same_value (Int a) (Int b) = int_eq a b
same_value (Thread t) (Thread u) = same_thread t u
same_value a b = false

-- a number that isn't 0 is true
abbrev pub is_true : ℤ → Bool
is_true n = not (int_eq n (pos 0))

-- an answer as a number: 1 or 0
abbrev pub truth : Bool → Value
truth true = Int (pos 1)
truth false = Int (pos 0)

abbrev pub unary_value : UnaryOperator → ℤ → Value
unary_value unary.Minus n = Int (wrapped (pos 0 -ℤ n))
unary_value unary.Not n = truth (not (is_true n))

-- the answer, where the divisor isn't 0
abbrev pub divided : ℤ → ℤ → Option Value
divided divisor answer = if int_eq divisor (pos 0) then None else Some (Int answer)

-- both operands are evaluated, those of `&&` and `||` too; there is no answer where a divisor is 0
abbrev pub binary_value : BinaryOperator → Value → Value → Option Value
binary_value binary.Or a b = Some (truth (is_true (number_of a) || is_true (number_of b)))
binary_value binary.And a b = Some (truth (is_true (number_of a) && is_true (number_of b)))
binary_value binary.Equal a b = Some (truth (same_value a b))
binary_value binary.Unequal a b = Some (truth (not (same_value a b)))
binary_value binary.Less a b = Some (truth (int_lt (number_of a) (number_of b)))
binary_value binary.LessOrEqual a b = Some (truth (int_le (number_of a) (number_of b)))
binary_value binary.Greater a b = Some (truth (int_lt (number_of b) (number_of a)))
binary_value binary.GreaterOrEqual a b = Some (truth (int_le (number_of b) (number_of a)))
binary_value binary.Plus a b = Some (Int (wrapped (number_of a +ℤ number_of b)))
binary_value binary.Minus a b = Some (Int (wrapped (number_of a -ℤ number_of b)))
binary_value binary.Times a b = Some (Int (wrapped (number_of a *ℤ number_of b)))
binary_value binary.Divide a b = divided (number_of b) (wrapped (int_div (number_of a) (number_of b)))
binary_value binary.Remainder a b = divided (number_of b) (int_rem (number_of a) (number_of b))

-- what a thread has without naming it
abbrev pub special_value : Builtin → Beside → Value
special_value Itself b = Thread b.id
special_value Code b = Int b.code
special_value Mask b = Int b.mask

-- A value of a frame, and one of a shared variable. Where there is none it counts as 0: no program whose numbers are declared asks.
abbrev pub slot_value : List Value → ℕ → Value
slot_value values k = unwrap_or (slice_get values k) (Int (pos 0))

abbrev pub shared_value : List ℤ → ℕ → Value
shared_value shared k = Int (unwrap_or (slice_get shared k) (pos 0))

-- The value of an expression in a frame with these values; none where a divisor is 0. Operands are evaluated from left to
-- right.
abbrev pub eval : Heads → List Value → Beside → Exp → Option Value
eval h values b (Number n) = Some (Int n)
eval h values b (Slot k) = Some (slot_value values k)
eval h values b (Shared x) = Some (shared_value b.around.shared (rank h x))
eval h values b (Special builtin) = Some (special_value builtin b)
eval h values b (Unary operator operand) = option_map (λ a. unary_value operator (number_of a)) (eval h values b operand)
eval h values b (Binary operator left right) = option_and_then (λ a. option_and_then (binary_value operator a) (eval h values b right)) (eval h values b left)

-- the values of expressions in order; none where one of them has none
abbrev pub eval_all : Heads → List Value → Beside → List Exp → Option (List Value)
eval_all h values b [] = Some []
eval_all h values b (e ∷ es) = option_and_then (λ v. option_map (λ vs. v ∷ vs) (eval_all h values b es)) (eval h values b e)

-- the value of an expression that may be missing
abbrev pub eval_if : Heads → List Value → Beside → Option Exp → Option (Option Value)
eval_if h values b None = Some None
eval_if h values b (Some e) = option_map (λ v. Some v) (eval h values b e)

-- the same as a number
abbrev pub number_if : Option Value → Option ℤ
number_if v = option_map number_of v
