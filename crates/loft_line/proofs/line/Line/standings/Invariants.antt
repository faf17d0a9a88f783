use Rattle.std.proofs.Common.{◌≡◌, take}
use Rattle.loft_line.specs.Line.{runners_in, standings_in}
use Rattle.loft_line.proofs.line.Line.standings.Given as goal

-- the first of them are there
abbrev pub invariant-loop-pos : goal.invariant-loop-pos
invariant-loop-pos l = l.standings ≡ standings_in (take l.pos (runners_in l.self))
