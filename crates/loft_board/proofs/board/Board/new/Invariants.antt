use Rattle.std.proofs.Common.{◌≡◌, replicate, None}
use Rattle.loft_board.proofs.board.Board.new.Given as goal

abbrev pub invariant-loop : goal.invariant-loop
invariant-loop l = l.absent.items ≡ replicate l.counter None
