use Rattle.std.proofs.Common.{ap}
use Rattle.loft_code.specs.declared.op.Op.{Op}
use Rattle.loft_code.specs.Operations.{stop_of}
use Rattle.loft_code.specs.View.{operation_of}
use Rattle.loft_step.proofs.running.Running.step.Goals as goal

pub hold-requires-clause-stop : goal.hold-requires-clause-stop
hold-requires-clause-stop c = c.requires.stop c.in-Hold.stop (ap (λ (o : Op). stop_of (operation_of o)) c.in-Hold.is)

pub call-requires-clause-stop : goal.call-requires-clause-stop
call-requires-clause-stop c = c.requires.stop c.in-Run.stop (ap (λ (o : Op). stop_of (operation_of o)) c.in-Run.is)
