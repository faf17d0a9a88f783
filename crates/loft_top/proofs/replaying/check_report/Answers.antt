use Rattle.std.proofs.Common.{◌≡◌, ◌∙◌, ap, subst, Err, Result, inl, inr, refl, arith}
use Rattle.std.specs.Option.{option_copied}
use Rattle.loft_replay_command.specs.declared.refusal.ReplayStop.{ReplayStop}
use Rattle.loft_replay_command.specs.declared.refusal.ReplayStop.TheVariants as stop
use Rattle.loft_replay_command.specs.Command.{Replays}
use Rattle.loft_arguments.specs.Command.{Replay}
use Rattle.loft_top.specs.declared.status.Status.TheVariants as status
use Rattle.loft_top.proofs.AnswerLemmas.{file_answers}
use Rattle.loft_top.proofs.ReplayLemmas.{two, replay_done, replay_broken, source_answers, log_answers}
use Rattle.loft_top.proofs.TellLemmas.{tells_no_file}
use Rattle.loft_top.proofs.replaying.check_report.Goals as goal

pub returns-in-Ok-clause-answers : goal.returns-in-Ok-clause-answers
returns-in-Ok-clause-answers g c =
    let source = g.F.Files.contents c.args.files.now c.args.source.now in
    let report = g.F.Files.contents c.args.files.now c.args.report.now in
    replay_done c.args.source.now c.args.report.now (option_copied c.args.only) source report (g.F.Files.faults c.args.files.now) (g.F.Files.faults c.replay.new.files)
    (subst (λ (r : Result (Unit {0}) ReplayStop). Replays (option_copied c.args.only) source report r (g.S.Sink.written c.args.sink.now) (g.S.Sink.written c.replay.new.sink)
    (g.S.Sink.room c.args.sink.now) (g.S.Sink.room c.replay.new.sink) (g.S.Sink.by_lines c.args.sink.now) (g.S.Sink.by_lines c.replay.new.sink)) c.in-Ok.is c.replay.ensures.replays)

pub returns-in-Err-Source-clause-answers : goal.returns-in-Err-Source-clause-answers
returns-in-Err-Source-clause-answers g c =
    let source = g.F.Files.contents c.args.files.now c.args.source.now in
    let report = g.F.Files.contents c.args.files.now c.args.report.now in
    let is : c.replay.result ≡ Err (stop.Source c.in-Err-Source.refusal) = c.in-Err-Source.is ∙ ap (λ (s : ReplayStop). Err s) c.in-Err-Source.field-0-is in
    source_answers c.args.source.now c.args.report.now (option_copied c.args.only) source report (g.F.Files.faults c.args.files.now) (g.F.Files.faults c.replay.new.files)
    (stop.Source c.in-Err-Source.refusal) c.refuse.result (g.S.Sink.written c.refuse.new.sink) (g.S.Sink.faults c.replay.new.sink) (g.S.Sink.faults c.refuse.new.sink) (g.S.Sink.by_lines c.refuse.new.sink) tt
    (subst (λ (r : Result (Unit {0}) ReplayStop). Replays (option_copied c.args.only) source report r (g.S.Sink.written c.args.sink.now) (g.S.Sink.written c.replay.new.sink)
    (g.S.Sink.room c.args.sink.now) (g.S.Sink.room c.replay.new.sink) (g.S.Sink.by_lines c.args.sink.now) (g.S.Sink.by_lines c.replay.new.sink)) is c.replay.ensures.replays)
    c.refuse.ensures c.refuse.ensures.ends

pub returns-in-Err-UnknownScheduler-clause-answers : goal.returns-in-Err-UnknownScheduler-clause-answers
returns-in-Err-UnknownScheduler-clause-answers g c =
    let source = g.F.Files.contents c.args.files.now c.args.source.now in
    let report = g.F.Files.contents c.args.files.now c.args.report.now in
    let is : c.replay.result ≡ Err stop.UnknownScheduler = c.in-Err-UnknownScheduler.is ∙ ap (λ (s : ReplayStop). Err s) c.in-Err-UnknownScheduler.field-0-is in
    source_answers c.args.source.now c.args.report.now (option_copied c.args.only) source report (g.F.Files.faults c.args.files.now) (g.F.Files.faults c.replay.new.files)
    stop.UnknownScheduler c.tell.result (g.S.Sink.written c.tell.new.sink) (g.S.Sink.faults c.replay.new.sink) (g.S.Sink.faults c.tell.new.sink) (g.S.Sink.by_lines c.tell.new.sink) tt
    (subst (λ (r : Result (Unit {0}) ReplayStop). Replays (option_copied c.args.only) source report r (g.S.Sink.written c.args.sink.now) (g.S.Sink.written c.replay.new.sink)
    (g.S.Sink.room c.args.sink.now) (g.S.Sink.room c.replay.new.sink) (g.S.Sink.by_lines c.args.sink.now) (g.S.Sink.by_lines c.replay.new.sink)) is c.replay.ensures.replays)
    c.tell.ensures.tells c.tell.ensures.tells.ends

pub returns-in-Err-Log-clause-answers : goal.returns-in-Err-Log-clause-answers
returns-in-Err-Log-clause-answers g c =
    let source = g.F.Files.contents c.args.files.now c.args.source.now in
    let report = g.F.Files.contents c.args.files.now c.args.report.now in
    let is : c.replay.result ≡ Err (stop.Log c.in-Err-Log.refusal) = c.in-Err-Log.is ∙ ap (λ (s : ReplayStop). Err s) c.in-Err-Log.field-0-is in
    log_answers c.args.source.now c.args.report.now (option_copied c.args.only) source report (g.F.Files.faults c.args.files.now) (g.F.Files.faults c.replay.new.files)
    c.in-Err-Log.refusal c.refuse_report.result (g.S.Sink.written c.refuse_report.new.sink) (g.S.Sink.faults c.replay.new.sink) (g.S.Sink.faults c.refuse_report.new.sink) (g.S.Sink.by_lines c.refuse_report.new.sink)
    (subst (λ (r : Result (Unit {0}) ReplayStop). Replays (option_copied c.args.only) source report r (g.S.Sink.written c.args.sink.now) (g.S.Sink.written c.replay.new.sink)
    (g.S.Sink.room c.args.sink.now) (g.S.Sink.room c.replay.new.sink) (g.S.Sink.by_lines c.args.sink.now) (g.S.Sink.by_lines c.replay.new.sink)) is c.replay.ensures.replays)
    c.refuse_report.ensures c.refuse_report.ensures.ends

pub returns-in-Err-FileFault-clause-answers : goal.returns-in-Err-FileFault-clause-answers
returns-in-Err-FileFault-clause-answers g c =
    let source = g.F.Files.contents c.args.files.now c.args.source.now in
    let report = g.F.Files.contents c.args.files.now c.args.report.now in
    let is : c.replay.result ≡ Err stop.FileFault = c.in-Err-FileFault.is ∙ ap (λ (s : ReplayStop). Err s) c.in-Err-FileFault.field-0-is in
    file_answers (Replay c.args.source.now c.args.report.now (option_copied c.args.only)) (two source report) c.tell-in-Err-FileFault.result
    (g.S.Sink.written c.args.sink.now) (g.S.Sink.written c.replay.new.sink) (g.S.Sink.written c.tell-in-Err-FileFault.new.sink)
    (g.F.Files.faults c.args.files.now) (g.F.Files.faults c.replay.new.files) (g.S.Sink.faults c.replay.new.sink) (g.S.Sink.faults c.tell-in-Err-FileFault.new.sink)
    (g.S.Sink.room c.args.sink.now) (g.S.Sink.room c.replay.new.sink) (g.S.Sink.by_lines c.args.sink.now) (g.S.Sink.by_lines c.replay.new.sink) (g.S.Sink.by_lines c.tell-in-Err-FileFault.new.sink)
    (c.replay.ensures.replays.silent stop.FileFault is tt) (c.replay.ensures.replays.same_room stop.FileFault is tt) c.replay.ensures.replays.by_lines (c.replay.ensures.file_fault is)
    c.tell-in-Err-FileFault.ensures.tells c.tell-in-Err-FileFault.ensures.told

pub returns-in-Err-SinkFault-clause-answers : goal.returns-in-Err-SinkFault-clause-answers
returns-in-Err-SinkFault-clause-answers g c =
    let source = g.F.Files.contents c.args.files.now c.args.source.now in
    let report = g.F.Files.contents c.args.files.now c.args.report.now in
    let is : c.replay.result ≡ Err stop.SinkFault = c.in-Err-SinkFault.is ∙ ap (λ (s : ReplayStop). Err s) c.in-Err-SinkFault.field-0-is in
    replay_broken c.args.source.now c.args.report.now (option_copied c.args.only) source report (g.F.Files.faults c.args.files.now) (g.F.Files.faults c.replay.new.files)
    status.SinkFault (g.S.Sink.written c.args.sink.now) (g.S.Sink.written c.replay.new.sink) (g.S.Sink.room c.args.sink.now) (g.S.Sink.by_lines c.args.sink.now) (g.S.Sink.by_lines c.replay.new.sink) (inl refl) (λ s r t u. c.replay.ensures.replays.cut s r t u (inl is))
    (λ s r t u e. c.replay.ensures.replays.no_room s r t u is) c.replay.ensures.replays.by_lines

pub returns-in-Err-NoMemory-clause-answers : goal.returns-in-Err-NoMemory-clause-answers
returns-in-Err-NoMemory-clause-answers g c =
    let source = g.F.Files.contents c.args.files.now c.args.source.now in
    let report = g.F.Files.contents c.args.files.now c.args.report.now in
    let is : c.replay.result ≡ Err stop.NoMemory = c.in-Err-NoMemory.is ∙ ap (λ (s : ReplayStop). Err s) c.in-Err-NoMemory.field-0-is in
    replay_broken c.args.source.now c.args.report.now (option_copied c.args.only) source report (g.F.Files.faults c.args.files.now) (g.F.Files.faults c.replay.new.files)
    status.NoMemory (g.S.Sink.written c.args.sink.now) (g.S.Sink.written c.replay.new.sink) (g.S.Sink.room c.args.sink.now) (g.S.Sink.by_lines c.args.sink.now) (g.S.Sink.by_lines c.replay.new.sink) (inr refl) (λ s r t u. c.replay.ensures.replays.cut s r t u (inr is))
    (λ s r t u e. absurd cc) c.replay.ensures.replays.by_lines

pub returns-in-Err-Source-clause-file_fault : goal.returns-in-Err-Source-clause-file_fault
returns-in-Err-Source-clause-file_fault g c = λ e. absurd (tells_no_file (λ same. cc) c.refuse.ensures e)

pub returns-in-Err-Source-clause-sure : goal.returns-in-Err-Source-clause-sure
returns-in-Err-Source-clause-sure g c = λ source report e. tells_no_file (λ same. cc) c.refuse.ensures e

pub returns-in-Err-Log-clause-file_fault : goal.returns-in-Err-Log-clause-file_fault
returns-in-Err-Log-clause-file_fault g c = λ e. absurd (tells_no_file (λ same. cc) c.refuse_report.ensures e)

pub returns-in-Err-Log-clause-sure : goal.returns-in-Err-Log-clause-sure
returns-in-Err-Log-clause-sure g c = λ source report e. tells_no_file (λ same. cc) c.refuse_report.ensures e

pub returns-in-Err-Source-clause-sink_fault : goal.returns-in-Err-Source-clause-sink_fault
returns-in-Err-Source-clause-sink_fault g c = λ e below. omega (arith, c.replay.ensures.sink_never_falls, c.refuse.ensures.cause e below)

pub returns-in-Err-Source-clause-sink_never_falls : goal.returns-in-Err-Source-clause-sink_never_falls
returns-in-Err-Source-clause-sink_never_falls g c = omega (arith, c.replay.ensures.sink_never_falls, c.refuse.ensures.never_falls)

pub returns-in-Err-UnknownScheduler-clause-sink_fault : goal.returns-in-Err-UnknownScheduler-clause-sink_fault
returns-in-Err-UnknownScheduler-clause-sink_fault g c = λ e below. omega (arith, c.replay.ensures.sink_never_falls, c.tell.ensures.tells.cause e below)

pub returns-in-Err-UnknownScheduler-clause-sink_never_falls : goal.returns-in-Err-UnknownScheduler-clause-sink_never_falls
returns-in-Err-UnknownScheduler-clause-sink_never_falls g c = omega (arith, c.replay.ensures.sink_never_falls, c.tell.ensures.tells.never_falls)

pub returns-in-Err-Log-clause-sink_fault : goal.returns-in-Err-Log-clause-sink_fault
returns-in-Err-Log-clause-sink_fault g c = λ e below. omega (arith, c.replay.ensures.sink_never_falls, c.refuse_report.ensures.cause e below)

pub returns-in-Err-Log-clause-sink_never_falls : goal.returns-in-Err-Log-clause-sink_never_falls
returns-in-Err-Log-clause-sink_never_falls g c = omega (arith, c.replay.ensures.sink_never_falls, c.refuse_report.ensures.never_falls)

pub returns-in-Err-FileFault-clause-sink_fault : goal.returns-in-Err-FileFault-clause-sink_fault
returns-in-Err-FileFault-clause-sink_fault g c = λ e below. omega (arith, c.replay.ensures.sink_never_falls, c.tell-in-Err-FileFault.ensures.tells.cause e below)

pub returns-in-Err-FileFault-clause-sink_never_falls : goal.returns-in-Err-FileFault-clause-sink_never_falls
returns-in-Err-FileFault-clause-sink_never_falls g c = omega (arith, c.replay.ensures.sink_never_falls, c.tell-in-Err-FileFault.ensures.tells.never_falls)
