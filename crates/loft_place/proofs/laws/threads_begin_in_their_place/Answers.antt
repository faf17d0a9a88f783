use Rattle.loft_place.proofs.Declared.{start_fits, create_fits}
use Rattle.loft_place.proofs.laws.threads_begin_in_their_place.Goals as goal

pub returns-clause-starts : goal.returns-clause-starts
returns-clause-starts c = λ n fits placed number t at. start_fits n number t fits placed at

pub returns-clause-creates : goal.returns-clause-creates
returns-clause-creates c = λ n fits placed client x at number s m arguments ordered.
    create_fits n client x number s m arguments fits placed at ordered
