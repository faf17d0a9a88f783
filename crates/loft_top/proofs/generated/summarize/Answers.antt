use Rattle.std.proofs.Common.{[], Some, sym, subst, ◌∙◌}
use Rattle.loft_generated_run.specs.Summary.{IsSummary}
use Rattle.loft_arguments.specs.Command.{GenRun}
use Rattle.loft_top.specs.declared.status.Status.{Status}
use Rattle.loft_top.specs.Answer.{Answers}
use Rattle.loft_top.proofs.TextLemmas.{text_answers, sink_blamed, no_file_blamed, never_fell}
use Rattle.loft_top.proofs.generated.summarize.Goals as goal

pub returns-clause-answers : goal.returns-clause-answers
returns-clause-answers g c = λ before after.
    let k = c.args.number in
    subst (λ (end : Status). Answers (GenRun k) (Some []) end (g.S.Sink.written c.args.sink.now) (g.S.Sink.written c.write_summary.new.sink) before after
    (g.S.Sink.room c.args.sink.now) (g.S.Sink.by_lines c.args.sink.now) (g.S.Sink.by_lines c.write_summary.new.sink)) (sym c.status_of.ensures)
    (text_answers (GenRun k) (IsSummary k) (λ contents text is. is) (λ contents line r. r) (λ contents line r. r) (Some []) c.write_summary.result
    (g.S.Sink.written c.args.sink.now) (g.S.Sink.written c.write_summary.new.sink) (g.S.Sink.faults c.args.sink.now) (g.S.Sink.faults c.write_summary.new.sink) (g.S.Sink.room c.args.sink.now) (g.S.Sink.room c.write_summary.new.sink) before after (g.S.Sink.by_lines c.args.sink.now) (g.S.Sink.by_lines c.write_summary.new.sink) c.write_summary.ensures)

pub returns-clause-no_file : goal.returns-clause-no_file
returns-clause-no_file g c = λ is. no_file_blamed c.write_summary.result (sym c.status_of.ensures ∙ is)

pub returns-clause-sink_fault : goal.returns-clause-sink_fault
returns-clause-sink_fault g c = λ is.
    sink_blamed {P = IsSummary c.args.number} c.write_summary.result (g.S.Sink.written c.args.sink.now) (g.S.Sink.written c.write_summary.new.sink)
    (g.S.Sink.faults c.args.sink.now) (g.S.Sink.faults c.write_summary.new.sink) (g.S.Sink.room c.args.sink.now) (g.S.Sink.room c.write_summary.new.sink) (g.S.Sink.by_lines c.args.sink.now) (g.S.Sink.by_lines c.write_summary.new.sink) c.write_summary.ensures (sym c.status_of.ensures ∙ is)

pub returns-clause-never_falls : goal.returns-clause-never_falls
returns-clause-never_falls g c =
    never_fell {P = IsSummary c.args.number} c.write_summary.result (g.S.Sink.written c.args.sink.now) (g.S.Sink.written c.write_summary.new.sink)
    (g.S.Sink.faults c.args.sink.now) (g.S.Sink.faults c.write_summary.new.sink) (g.S.Sink.room c.args.sink.now) (g.S.Sink.room c.write_summary.new.sink) (g.S.Sink.by_lines c.args.sink.now) (g.S.Sink.by_lines c.write_summary.new.sink) c.write_summary.ensures
