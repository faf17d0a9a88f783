-- How many steps a statement takes between two sure statements (docs/SEMANTICS.md, "Step bounds").
use Rattle.std.specs.Prelude.{ℕ, ◌+◌, ◌*◌, ℤ, pos, negsuc, Option, Some, None, max}
use Rattle.loft_base.specs.declared.ids.ModuleId.{ModuleId}
use Rattle.loft_budget.specs.declared.steps.Steps.{Steps}
use Rattle.loft_tree.specs.Resolved.{Exp, Number, Slot, Shared, Special, Unary, Binary, Pause, Cooperate, Await, Get, Join, Link, Unlink, Halt, Step, Do, Hold, Call, Choose, Loop, Times, Body, Empty, Then}

-- A number of steps, or none where there is no such way. A sum with none is none.
abbrev pub plus : Option ℕ → Option ℕ → Option ℕ
plus None b = None
plus (Some m) None = None
plus (Some m) (Some n) = Some (m + n)

-- a maximum leaves none out
abbrev pub larger : Option ℕ → Option ℕ → Option ℕ
larger None b = b
larger (Some m) None = Some m
larger (Some m) (Some n) = Some (max m n)

-- work without a sure statement, in so many steps
abbrev pub only_through : ℕ → Steps
only_through n = record { through = Some n; head = None; tail = None; most = None }

-- a sure statement
abbrev pub surely : Steps
surely = record { through = None; head = Some 1; tail = Some 1; most = None }

-- one after which nothing goes on
abbrev pub for_ever : Steps
for_ever = record { through = None; head = Some 1; tail = None; most = None }

-- x, and then y
abbrev pub followed : Steps → Steps → Steps
followed x y = record {
  through = plus x.through y.through;
  head = larger x.head (plus x.through y.head);
  tail = larger y.tail (plus x.tail y.through);
  most = larger (larger x.most y.most) (plus x.tail y.head);
}

-- x or y
abbrev pub either : Steps → Steps → Steps
either x y = record { through = larger x.through y.through; head = larger x.head y.head; tail = larger x.tail y.tail; most = larger x.most y.most }

-- a step before x
abbrev pub one_more : Steps → Steps
one_more x = record { through = plus (Some 1) x.through; head = plus (Some 1) x.head; tail = x.tail; most = x.most }

-- turns of x and the tests between them, where all those without a sure statement take so many steps together
abbrev pub turning : ℕ → Steps → Steps
turning c x = record { through = Some c; head = plus (Some c) x.head; tail = plus x.tail (Some c); most = larger x.most (plus (plus x.tail (Some c)) x.head) }

-- a loop each of whose turns makes a sure statement: its begin, and then a test
abbrev pub loop_steps : Steps → Steps
loop_steps x = one_more (turning 1 x)

-- the turns of a count
abbrev pub turns_of : ℤ → ℕ
turns_of (pos n) = n
turns_of (negsuc n) = 0

-- a bare number
abbrev pub literal : Exp → Option ℕ
literal (Number value) = Some (turns_of value)
literal (Slot slot) = None
literal (Shared shared) = None
literal (Special builtin) = None
literal (Unary operator operand) = None
literal (Binary operator left right) = None

-- so many turns of x, each of which takes so many steps from its start to its end
abbrev pub repeat_steps : Option ℕ → ℕ → Steps → Steps
repeat_steps None t x = loop_steps x
repeat_steps (Some n) t x = turning (n * (t + 1) + 2) x

abbrev pub times_steps : Option ℕ → Option ℕ → Steps → Steps
times_steps count None x = loop_steps x
times_steps count (Some t) x = repeat_steps count t x

abbrev pub pause_steps : Pause → Steps
pause_steps (Cooperate None) = surely
pause_steps (Cooperate (Some e)) = only_through 2
pause_steps (Await events limit) = only_through 2
pause_steps (Get event index target) = only_through 2
pause_steps (Join thread limit) = only_through 2
pause_steps (Link s) = surely
pause_steps Unlink = surely
pause_steps Halt = for_ever

abbrev pub steps_or_none : Option Steps → Steps
steps_or_none None = only_through 0
steps_or_none (Some x) = x

-- with the steps of the modules that have a bound
module _ (of : ModuleId → Option Steps) where
  abbrev mutual
    pub step_steps : Step → Steps
    step_steps (Do action) = only_through 1
    step_steps (Hold k pause) = pause_steps pause
    step_steps (Call k m arguments) = one_more (steps_or_none (of m))
    step_steps (Choose test x y) = one_more (either (body_steps x) (body_steps y))
    step_steps (Loop test x) = loop_steps (body_steps x)
    step_steps (Times count x) = times_steps (literal count) (body_steps x).through (body_steps x)

    pub body_steps : Body → Steps
    body_steps Empty = only_through 0
    body_steps (Then s b) = followed (step_steps s) (body_steps b)
