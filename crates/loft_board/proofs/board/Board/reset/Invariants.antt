use Rattle.std.proofs.Common.{◌≡◌, replicate, take, None}
use Rattle.loft_board.proofs.board.Board.reset.Given as goal

abbrev pub invariant-loop-event : goal.invariant-loop-event
invariant-loop-event l = take l.event-index l.event-items ≡ replicate l.event-index None
