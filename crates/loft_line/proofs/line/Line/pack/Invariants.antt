use Rattle.loft_line.specs.Line.{IsPacked}
use Rattle.loft_line.proofs.line.Line.pack.Given as goal

-- those before the position have moved together
abbrev pub invariant-loop-pos : goal.invariant-loop-pos
invariant-loop-pos l = IsPacked l.next l.pos l.fn.self l.self
