use Rattle.loft_report_reader.proofs.Saying.{says_history, says_fault}
use Rattle.loft_report_reader.proofs.whole.read_history.Goals as goal

pub returns-in-Ok-clause-report : goal.returns-in-Ok-clause-report
returns-in-Ok-clause-report c = λ r short shape. says_history r _ (c.in-Ok.ensures.report r short shape)

pub returns-clause-report : goal.returns-clause-report
returns-clause-report c = λ r short shape. says_fault c.in-Err.e r (r.options, r.choices) (c.in-Err.ensures.report r short shape)
