use Rattle.loft_board.proofs.BoardLemmas.{in_order}
use Rattle.loft_board.proofs.laws.values_come_in_order.Goals as goal

pub returns : goal.returns
returns c = λ events e board within. in_order events e board within
