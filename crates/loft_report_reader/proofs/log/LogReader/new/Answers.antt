use Rattle.std.proofs.Common.{[]}
use Rattle.loft_report_reader.proofs.Pieces.{read_nothing}
use Rattle.loft_report_reader.proofs.log.LogReader.new.Goals as goal

pub invariant_of-result : goal.invariant_of-result
invariant_of-result c = record { read = ∣ ([], read_nothing c.in_ok-new.field-0 c.in_ok-new.ensures) ∣₁ }

pub returns-clause-read : goal.returns-clause-read
returns-clause-read c = read_nothing c.in_ok-new.field-0 c.in_ok-new.ensures
