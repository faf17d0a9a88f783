-- A body has no more stops than statements.
use Rattle.std.proofs.Common.{◌≤◌, arith}
use Rattle.loft_tree.specs.NamedTree.{NamedStatement, Do, Hold, Run, If, While, Repeat, NamedStatements, Done, Then}
use Rattle.loft_tree.specs.Stops.{stops_in, body_stops, size_of, size}

mutual
  stops_in-le : (s : NamedStatement) → stops_in s ≤ size_of s
  stops_in-le (Do at action) = omega arith
  stops_in-le (Hold at stop pause) = omega arith
  stops_in-le (Run at stop called m arguments) = omega arith
  stops_in-le (If at test first second) = omega (arith, body_stops-le first, body_stops-le second)
  stops_in-le (While at test body) = omega (arith, body_stops-le body)
  stops_in-le (Repeat at count body) = omega (arith, body_stops-le body)

  pub body_stops-le : (body : NamedStatements) → body_stops body ≤ size body
  body_stops-le Done = omega arith
  body_stops-le (Then first rest) = omega (arith, stops_in-le first, body_stops-le rest)
