use Rattle.std.proofs.Common.{ap, sym, subst}
use Rattle.loft_arguments.specs.Command.{Command, files_of}
use Rattle.loft_arguments.specs.CommandView.{command_of}
use Rattle.loft_top.specs.Reads.{contents_of}
use Rattle.loft_top.specs.Answer.{Answers}
use Rattle.loft_top.proofs.top_call.answer.Goals as goal

pub returns-in-OfFile-clause-answers : goal.returns-in-OfFile-clause-answers
returns-in-OfFile-clause-answers g c =
    subst (λ (k : Command). Answers k (contents_of (g.F.Files.contents c.args.files.now) (files_of k)) c.file_answer.result (g.S.Sink.written c.args.sink.now) (g.S.Sink.written c.file_answer.new.sink)
    (g.F.Files.faults c.args.files.now) (g.F.Files.faults c.file_answer.new.files)
    (g.S.Sink.room c.args.sink.now) (g.S.Sink.by_lines c.args.sink.now) (g.S.Sink.by_lines c.file_answer.new.sink)) (sym (ap command_of c.in-OfFile.is)) c.file_answer.ensures.answers

pub returns-in-Replay-clause-answers : goal.returns-in-Replay-clause-answers
returns-in-Replay-clause-answers g c =
    subst (λ (k : Command). Answers k (contents_of (g.F.Files.contents c.args.files.now) (files_of k)) c.check_report.result (g.S.Sink.written c.args.sink.now) (g.S.Sink.written c.check_report.new.sink)
    (g.F.Files.faults c.args.files.now) (g.F.Files.faults c.check_report.new.files)
    (g.S.Sink.room c.args.sink.now) (g.S.Sink.by_lines c.args.sink.now) (g.S.Sink.by_lines c.check_report.new.sink)) (sym (ap command_of c.in-Replay.is)) c.check_report.ensures.answers

pub returns-in-Gen-clause-answers : goal.returns-in-Gen-clause-answers
returns-in-Gen-clause-answers g c =
    let faults = g.F.Files.faults c.args.files.now in
    subst (λ (k : Command). Answers k (contents_of (g.F.Files.contents c.args.files.now) (files_of k)) c.generate.result (g.S.Sink.written c.args.sink.now) (g.S.Sink.written c.generate.new.sink)
    faults faults (g.S.Sink.room c.args.sink.now) (g.S.Sink.by_lines c.args.sink.now) (g.S.Sink.by_lines c.generate.new.sink)) (sym (ap command_of c.in-Gen.is)) (c.generate.ensures.answers faults faults)

pub returns-in-GenRun-clause-answers : goal.returns-in-GenRun-clause-answers
returns-in-GenRun-clause-answers g c =
    let faults = g.F.Files.faults c.args.files.now in
    subst (λ (k : Command). Answers k (contents_of (g.F.Files.contents c.args.files.now) (files_of k)) c.summarize.result (g.S.Sink.written c.args.sink.now) (g.S.Sink.written c.summarize.new.sink)
    faults faults (g.S.Sink.room c.args.sink.now) (g.S.Sink.by_lines c.args.sink.now) (g.S.Sink.by_lines c.summarize.new.sink)) (sym (ap command_of c.in-GenRun.is)) (c.summarize.ensures.answers faults faults)
