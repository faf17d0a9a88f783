use Rattle.loft_arguments.proofs.Order.{neighbours}
use Rattle.loft_arguments.proofs.laws.arguments_change_places.Goals as goal

pub returns : goal.returns
returns c = λ word before after a b may. neighbours before after a b word may
