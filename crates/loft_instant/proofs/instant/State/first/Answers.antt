use Rattle.std.proofs.Common.{ap}
use Rattle.loft_passes.specs.View.{standings_of}
use Rattle.loft_instant.proofs.instant.State.first.Goals as goal

pub returns-clause-machine : goal.returns-clause-machine
returns-clause-machine c = cc (ap standings_of c.new-2.ensures.items, c.in_ok-shared.ensures, c.new-4.ensures)
