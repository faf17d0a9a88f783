-- What stands around and beside a running thread in memory, as plain values.
use Rattle.std.specs.Prelude.{ℕ, ◌-◌, Option, Some, None, Result, Ok, Err}
use Rattle.loft_base.specs.declared.errors.Div.{Div}
use Rattle.loft_base.specs.declared.ids.Value.{Value}
use Rattle.loft_tree.specs.declared.named.NamedExpr.{NamedExpr}
use Rattle.loft_tree.specs.NamedView.{term_of}
use Rattle.loft_tree.specs.Resolved.{exp_of}
use Rattle.loft_sense.specs.Around.{Around, Beside}
use Rattle.loft_sense.specs.Eval.{eval}
use Rattle.loft_effect.specs.declared.around.Around.{Around as AroundInMemory}
use Rattle.loft_effect.specs.declared.scope.Beside.{Beside as BesideInMemory}
use Rattle.loft_effect.specs.declared.sight.Sight.{Sight}

abbrev pub around_of : AroundInMemory → Around
around_of a = record { place = a.place; board = a.board; shared = a.shared; known = a.known; made = a.made; entries = a.entries; acts = a.acts }

abbrev pub beside_of : BesideInMemory → Beside
beside_of b = record { id = b.id; code = b.code; mask = b.mask; around = around_of b.around }

-- how many steps the thread has made in this instant, and how many it may make in it
pub record Pace : Type 0 where
  pub steps : ℕ
  pub bound : ℕ

abbrev pub pace_of : AroundInMemory → Pace
pace_of a = record { steps = a.steps; bound = a.bound }

-- how many steps the thread may still make in this instant
abbrev pub steps_left : AroundInMemory → ℕ
steps_left a = a.bound - a.steps

-- a thread that expressions see so, with these shared values and all else around it as given
abbrev pub beside_in : Sight → Around → Beside
beside_in s around = record { id = s.id; code = s.code; mask = s.mask; around = record around { shared = s.shared.now } }

-- the value of an expression for a thread that sees so, with all else around it as given; none where a divisor is 0
abbrev pub value_in : Sight → Around → NamedExpr → Option Value
value_in s around e = eval s.heads.now s.values.now (beside_in s around) (exp_of (term_of e))

-- an answer, where no divisor is 0
abbrev pub answer_of : {A : Type 0} → Result A Div → Option A
answer_of (Ok x) = Some x
answer_of (Err e) = None
