use Rattle.std.proofs.Common.{◌≡◌, ◌++◌, length}
use Rattle.std.specs.List.{flat_map}
use Rattle.loft_line.specs.Line.{runners_in, standings_in, stands_if, leaves_if, IsLine, HasClosed}
use Rattle.loft_line.proofs.EndLemmas.{IfMark, left_from}
use Rattle.loft_line.proofs.line.Line.close_marked.Given as goal

-- whoever is marked from the next mark on is left to close
abbrev pub invariant-marks : goal.invariant-marks
invariant-marks l = record {
  line : IsLine l.self;
  mark : IfMark l.self.ran l.next;
  linked : standings_in (runners_in l.self) ≡ standings_in (runners_in l.fn.self);
  stands : l.stands ++ flat_map stands_if (runners_in l.self) ≡ l.fn.stands ++ flat_map stands_if (runners_in l.fn.self);
  sent : l.sent ++ flat_map leaves_if (runners_in l.self) ≡ l.fn.sent ++ flat_map leaves_if (runners_in l.fn.self);
  keeps : HasClosed l.fn.self l.self;
}

abbrev pub decreases-marks : goal.decreases-marks
decreases-marks l = left_from (length l.self.ran) l.next
