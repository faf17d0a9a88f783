use Rattle.std.proofs.Common.{true, ◌≡◌, ◌+◌, drop, map}
use Rattle.loft_tree.specs.View.{statements_of}
use Rattle.loft_tree.specs.NamedView as view
use Rattle.loft_numbers.specs.Numbers as numbers
use Rattle.loft_numbers.specs.Numbers.{body_stops}
use Rattle.loft_numbers.proofs.Stops.{put_before}
use Rattle.loft_numbers.proofs.statement.+statement.Given as goal

-- those that are left come after
abbrev pub invariant-body-loop-s : goal.invariant-body-loop-s
invariant-body-loop-s l = record {
  whole : l.room.is_whole ≡ true → l.initial.room.is_whole ≡ true;
  stops : l.stops + body_stops (statements_of (drop l.s-index l.statements)) ≡ l.initial.stops + body_stops (statements_of l.statements);
  rest : l.room.is_whole ≡ true → put_before (map view.statement_of l.all.items) (numbers.body_of l.table l.scope (statements_of (drop l.s-index l.statements)) l.stops) ≡ numbers.body_of l.table l.scope (statements_of l.statements) l.initial.stops;
}
