use Rattle.std.proofs.Common.{ap, Ok, Err}
use Rattle.std.proofs.Math.Logic.{∥∥₁_map}
use Rattle.loft_report_shape.specs.Told.{Report}
use Rattle.loft_report_draft.specs.Drafts.{report_of}
use Rattle.loft_report_shape.proofs.Verdicts.{one_report, no_both}
use Rattle.loft_report_reader.specs.declared.error.LogError.TheVariants.{Ends}
use Rattle.loft_report_reader.proofs.Answering.{verdict_report, verdict_stop}
use Rattle.loft_report_reader.proofs.Finishing.{finish_some, finish_none, finish_error}
use Rattle.loft_report_reader.proofs.log.LogReader.finish.Goals as goal

pub returns-in-Some-clause-report : goal.returns-in-Some-clause-report
returns-in-Some-clause-report c = λ text read. verdict_report text (Err c.in-Some.e) (finish_error c.args.self c.in-Some.e c.in-Some.is text read)

pub returns-in-Some-clause-stop : goal.returns-in-Some-clause-stop
returns-in-Some-clause-stop c = λ text read. verdict_stop text (Err c.in-Some.e) (finish_error c.args.self c.in-Some.e c.in-Some.is text read)

pub returns-in-Some-finish-clause-verdict : goal.returns-in-Some-finish-clause-verdict
returns-in-Some-finish-clause-verdict c = finish_some c.args.self c.in-Some-finish.draft c.in-None.is c.in-Some-finish.ensures

pub returns-in-Some-finish-clause-report : goal.returns-in-Some-finish-clause-report
returns-in-Some-finish-clause-report c = λ text read r short s.
    ap (λ (t : Report). Ok t) (one_report text r (report_of c.in-Some-finish.draft) s (finish_some c.args.self c.in-Some-finish.draft c.in-None.is c.in-Some-finish.ensures text read).1)

pub returns-in-Some-finish-clause-stop : goal.returns-in-Some-finish-clause-stop
returns-in-Some-finish-clause-stop c = λ text read k short s.
    absurd (no_both text (report_of c.in-Some-finish.draft) k (finish_some c.args.self c.in-Some-finish.draft c.in-None.is c.in-Some-finish.ensures text read).1 s)

pub invariant_of-result : goal.invariant_of-result
invariant_of-result c = record { shaped = ∥∥₁_map c.args.self.read (λ p. (p.0, (finish_some c.args.self c.in-Some-finish.draft c.in-None.is c.in-Some-finish.ensures p.0 p.1).1)) }

pub returns-in-None-finish-clause-verdict : goal.returns-in-None-finish-clause-verdict
returns-in-None-finish-clause-verdict c = finish_none c.args.self c.in-None.is c.in-None-finish.ensures

pub returns-in-None-finish-clause-report : goal.returns-in-None-finish-clause-report
returns-in-None-finish-clause-report c = λ text read. verdict_report text (Err (Ends c.args.self.length)) (finish_none c.args.self c.in-None.is c.in-None-finish.ensures text read)

pub returns-in-None-finish-clause-stop : goal.returns-in-None-finish-clause-stop
returns-in-None-finish-clause-stop c = λ text read. verdict_stop text (Err (Ends c.args.self.length)) (finish_none c.args.self c.in-None.is c.in-None-finish.ensures text read)
