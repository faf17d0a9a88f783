use Rattle.std.proofs.Common.{ap}
use Rattle.loft_waits.specs.Told.{Told}
use Rattle.loft_line.proofs.IdleLemmas.{told_idle, told_runners}
use Rattle.loft_line.proofs.line.Line.on_ended.Goals as goal

pub returns-clause-idle : goal.returns-clause-idle
returns-clause-idle c = told_idle c.args.self.now c.on_ended.new.self c.requires.idle (ap (λ (t : Told). t.waits) c.in_ok-on_ended.ensures.ok)

pub returns-clause-runners : goal.returns-clause-runners
returns-clause-runners c = told_runners c.args.self.now c.on_ended.new.self (ap (λ (t : Told). t.waits) c.in_ok-on_ended.ensures.ok)
