-- The stops and the size of a body (docs/LANGUAGE.md, "Numbers of names").
use Rattle.std.specs.Prelude.{◌≡◌, ℕ, ◌+◌}
use Rattle.loft_tree.specs.NamedTree.{NamedStatement, Do, Hold, Run, If, While, Repeat, NamedStatements, Done, Then}

abbrev mutual
  pub stops_in : NamedStatement → ℕ
  stops_in (Do at action) = 0
  stops_in (Hold at stop pause) = 1
  stops_in (Run at stop called m arguments) = 1
  stops_in (If at test first second) = body_stops first + body_stops second
  stops_in (While at test body) = body_stops body
  stops_in (Repeat at count body) = body_stops body

  pub body_stops : NamedStatements → ℕ
  body_stops Done = 0
  body_stops (Then first rest) = stops_in first + body_stops rest

-- the stops of a statement after so many others of its module are numbered on from there, in text order
abbrev mutual
  pub IsNumbered : NamedStatement → ℕ → Type 0
  IsNumbered (Do at action) k = Unit {0}
  IsNumbered (Hold at stop pause) k = stop ≡ k + 1
  IsNumbered (Run at stop called m arguments) k = stop ≡ k + 1
  IsNumbered (If at test first second) k = AreNumbered first k × AreNumbered second (k + body_stops first)
  IsNumbered (While at test body) k = AreNumbered body k
  IsNumbered (Repeat at count body) k = AreNumbered body k

  pub AreNumbered : NamedStatements → ℕ → Type 0
  AreNumbered Done k = Unit {0}
  AreNumbered (Then first rest) k = IsNumbered first k × AreNumbered rest (k + stops_in first)

-- how many statements there are, also those in the bodies of others
abbrev mutual
  pub size_of : NamedStatement → ℕ
  size_of (Do at action) = 1
  size_of (Hold at stop pause) = 1
  size_of (Run at stop called m arguments) = 1
  size_of (If at test first second) = size first + size second + 1
  size_of (While at test body) = size body + 1
  size_of (Repeat at count body) = size body + 1

  pub size : NamedStatements → ℕ
  size Done = 0
  size (Then first rest) = size_of first + size rest
