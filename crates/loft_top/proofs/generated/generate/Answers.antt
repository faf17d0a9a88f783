use Rattle.std.proofs.Common.{◌≡◌, ℕ, List, [], Some, sym, subst, ◌∙◌}
use Rattle.loft_gen.specs.Generated.{generated}
use Rattle.loft_arguments.specs.Command.{Gen}
use Rattle.loft_top.specs.declared.status.Status.{Status}
use Rattle.loft_top.specs.Answer.{Answers}
use Rattle.loft_top.proofs.TextLemmas.{text_answers, sink_blamed, no_file_blamed, never_fell}
use Rattle.loft_top.proofs.generated.generate.Goals as goal

pub returns-clause-answers : goal.returns-clause-answers
returns-clause-answers g c = λ before after.
    let k = c.args.number in
    subst (λ (end : Status). Answers (Gen k) (Some []) end (g.S.Sink.written c.args.sink.now) (g.S.Sink.written c.write_source.new.sink) before after
    (g.S.Sink.room c.args.sink.now) (g.S.Sink.by_lines c.args.sink.now) (g.S.Sink.by_lines c.write_source.new.sink)) (sym c.status_of.ensures)
    (text_answers (Gen k) (λ (text : List ℕ). text ≡ generated k) (λ contents text is. is) (λ contents line r. r) (λ contents line r. r) (Some []) c.write_source.result
    (g.S.Sink.written c.args.sink.now) (g.S.Sink.written c.write_source.new.sink) (g.S.Sink.faults c.args.sink.now) (g.S.Sink.faults c.write_source.new.sink) (g.S.Sink.room c.args.sink.now) (g.S.Sink.room c.write_source.new.sink) before after (g.S.Sink.by_lines c.args.sink.now) (g.S.Sink.by_lines c.write_source.new.sink) c.write_source.ensures)

pub returns-clause-no_file : goal.returns-clause-no_file
returns-clause-no_file g c = λ is. no_file_blamed c.write_source.result (sym c.status_of.ensures ∙ is)

pub returns-clause-sink_fault : goal.returns-clause-sink_fault
returns-clause-sink_fault g c = λ is.
    sink_blamed {P = λ (text : List ℕ). text ≡ generated c.args.number} c.write_source.result (g.S.Sink.written c.args.sink.now) (g.S.Sink.written c.write_source.new.sink)
    (g.S.Sink.faults c.args.sink.now) (g.S.Sink.faults c.write_source.new.sink) (g.S.Sink.room c.args.sink.now) (g.S.Sink.room c.write_source.new.sink) (g.S.Sink.by_lines c.args.sink.now) (g.S.Sink.by_lines c.write_source.new.sink) c.write_source.ensures (sym c.status_of.ensures ∙ is)

pub returns-clause-never_falls : goal.returns-clause-never_falls
returns-clause-never_falls g c =
    never_fell {P = λ (text : List ℕ). text ≡ generated c.args.number} c.write_source.result (g.S.Sink.written c.args.sink.now) (g.S.Sink.written c.write_source.new.sink)
    (g.S.Sink.faults c.args.sink.now) (g.S.Sink.faults c.write_source.new.sink) (g.S.Sink.room c.args.sink.now) (g.S.Sink.room c.write_source.new.sink) (g.S.Sink.by_lines c.args.sink.now) (g.S.Sink.by_lines c.write_source.new.sink) c.write_source.ensures
