use Rattle.std.proofs.Common.{refl}
use Rattle.loft_line.proofs.slots.empty.Goals as goal

pub returns-clause-slots : goal.returns-clause-slots
returns-clause-slots c = record { hole = _; gone = refl; nobody = refl; slots = refl }
