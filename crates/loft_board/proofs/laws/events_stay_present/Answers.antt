use Rattle.loft_board.proofs.BoardLemmas.{stays, prefix}
use Rattle.loft_board.proofs.laws.events_stay_present.Goals as goal

pub returns-clause-present : goal.returns-clause-present
returns-clause-present c = λ events e board present. stays events e board present

pub returns-clause-values : goal.returns-clause-values
returns-clause-values c = λ events e board. prefix events e board
