use Rattle.std.specs.List.{find}
use Rattle.std.specs.Str.{bytes_eq}
use Rattle.loft_report_reader.proofs.Saying.{says_block, says_fault}
use Rattle.loft_report_reader.proofs.whole.read_block.Goals as goal

pub returns-in-Ok-clause-report : goal.returns-in-Ok-clause-report
returns-in-Ok-clause-report c = λ r short shape. says_block r _ c.args.s.now c.first_named.result (c.in-Ok.ensures.report r short shape) c.first_named.ensures

pub returns-clause-report : goal.returns-clause-report
returns-clause-report c = λ r short shape. says_fault c.in-Err.e r (find (λ block. bytes_eq block.name c.args.s.now) r.blocks) (c.in-Err.ensures.report r short shape)
