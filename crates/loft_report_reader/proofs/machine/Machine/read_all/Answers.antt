use Rattle.std.proofs.Common.{arith}
use Rattle.loft_report_reader.specs.Machine.{machine_of}
use Rattle.loft_report_reader.proofs.Spelled.{at_end}
use Rattle.loft_report_reader.proofs.machine.Machine.read_all.Goals as goal

pub returns-clause-read : goal.returns-clause-read
returns-clause-read c = λ whole begun. at_end (machine_of c.args.self.now) (machine_of c.loop-at.self) c.args.piece.now c.loop-at.at (c.loop-at.invariant.read whole begun) (omega (arith, c.loop-at-test.false))
