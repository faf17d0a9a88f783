use Rattle.std.proofs.Common.{Err}
use Rattle.loft_report_reader.proofs.Answering.{verdict_report, verdict_stop, cause_verdict}
use Rattle.loft_report_reader.proofs.whole.read_report.Goals as goal

pub returns-in-Err-clause-report : goal.returns-in-Err-clause-report
returns-in-Err-clause-report c = verdict_report c.args.text.now (Err c.in-Err.e) (cause_verdict c.args.text.now c.in-Err.e (c.in-Err.ensures.cause _ c.in_ok-reader.ensures.read))

pub returns-in-Err-clause-stop : goal.returns-in-Err-clause-stop
returns-in-Err-clause-stop c = verdict_stop c.args.text.now (Err c.in-Err.e) (cause_verdict c.args.text.now c.in-Err.e (c.in-Err.ensures.cause _ c.in_ok-reader.ensures.read))
