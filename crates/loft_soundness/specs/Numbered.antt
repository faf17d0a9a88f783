-- Programs whose stops are numbered in text order (docs/LANGUAGE.md, "Numbers of names").
use Rattle.std.specs.Prelude.{◌≡◌, ℕ, ◌+◌}
use Rattle.loft_base.specs.declared.ids.ModuleId.{ModuleId}
use Rattle.loft_tree.specs.Resolved.{Step, Do, Hold, Call, Choose, Loop, Times, Body, Empty, Then, Resolved}
use Rattle.loft_sense.specs.Tree.{body_at}

-- how many stops there are, also those in the bodies of others
abbrev mutual
  pub stops_in : Step → ℕ
  stops_in (Do action) = 0
  stops_in (Hold k pause) = 1
  stops_in (Call k m arguments) = 1
  stops_in (Choose test first second) = body_stops first + body_stops second
  stops_in (Loop test body) = body_stops body
  stops_in (Times count body) = body_stops body

  pub body_stops : Body → ℕ
  body_stops Empty = 0
  body_stops (Then s rest) = stops_in s + body_stops rest

-- the stops of a statement after so many others of its module are numbered on from there, in text order
abbrev mutual
  pub StepNumbered : Step → ℕ → Type 0
  StepNumbered (Do action) n = Unit {0}
  StepNumbered (Hold k pause) n = k ≡ n + 1
  StepNumbered (Call k m arguments) n = k ≡ n + 1
  StepNumbered (Choose test first second) n = BodyNumbered first n × BodyNumbered second (n + body_stops first)
  StepNumbered (Loop test body) n = BodyNumbered body n
  StepNumbered (Times count body) n = BodyNumbered body n

  pub BodyNumbered : Body → ℕ → Type 0
  BodyNumbered Empty n = Unit {0}
  BodyNumbered (Then s rest) n = StepNumbered s n × BodyNumbered rest (n + stops_in s)

-- the stops of each module are numbered from 1
abbrev pub IsNumbered : Resolved → Type 0
IsNumbered p = (m : ModuleId) → BodyNumbered (body_at p m) 0
