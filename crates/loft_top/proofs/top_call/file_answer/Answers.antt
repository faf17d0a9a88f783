use Rattle.std.proofs.Common.{◌≡◌, ◌∙◌, ap, subst, Ok, Err, Result, inl, inr, refl, arith}
use Rattle.loft_refusal.specs.declared.refusal.Stopped.{Stopped}
use Rattle.loft_refusal.specs.declared.refusal.Stopped.TheVariants as stopped
use Rattle.loft_top.specs.declared.status.Status.TheVariants as status
use Rattle.loft_arguments.specs.Command.{OfFile, file_of}
use Rattle.loft_arguments.specs.CommandView.{file_command_of}
use Rattle.loft_commands.specs.Doing.{Attempts}
use Rattle.loft_top.proofs.Deciding.{never_both}
use Rattle.loft_top.proofs.AnswerLemmas.{one, done_answers, broken_answers, file_answers, refused_answers}
use Rattle.loft_top.proofs.TellLemmas.{tells_no_file}
use Rattle.loft_top.proofs.top_call.file_answer.Goals as goal

pub returns-in-Ok-clause-answers : goal.returns-in-Ok-clause-answers
returns-in-Ok-clause-answers g c =
    let known = g.F.Files.contents c.args.files.now (file_of (file_command_of c.args.command)) in
    done_answers (g.F.Files.faults c.args.files.now) (g.F.Files.faults c.attempt.new.files)
    (record {
      one = c.texts_are_decided.ensures.one;
      texts = c.texts_are_decided.ensures.never_both;
      names = c.names_are_decided.ensures.never_both;
      links = λ n e placed. c.links_are_decided.ensures.placed n placed e;
      codes = c.texts_have_one_answer.ensures.one_code;
      lines = c.texts_have_one_answer.ensures.never_both;
      valid = λ a e valid. c.code_is_decided.ensures.valid a valid e;
      locks = λ text p r stands refused. never_both p r (c.texts_come_to_one_answer.ensures.one text (Ok p) (Err r) stands refused);
    })
    (subst (λ (r : Result (Unit {0}) Stopped). Attempts (file_command_of c.args.command) known r (g.S.Sink.written c.args.sink.now) (g.S.Sink.written c.attempt.new.sink)
    (g.S.Sink.room c.args.sink.now) (g.S.Sink.room c.attempt.new.sink) (g.S.Sink.by_lines c.args.sink.now) (g.S.Sink.by_lines c.attempt.new.sink)) c.in-Ok.is c.attempt.ensures.attempts)

pub returns-in-Err-Refused-clause-answers : goal.returns-in-Err-Refused-clause-answers
returns-in-Err-Refused-clause-answers g c =
    let known = g.F.Files.contents c.args.files.now (file_of (file_command_of c.args.command)) in
    let is : c.attempt.result ≡ Err (stopped.Refused c.in-Err-Refused.refusal) = c.in-Err-Refused.is ∙ ap (λ (s : Stopped). Err s) c.in-Err-Refused.field-0-is in
    refused_answers {known = known} c.refuse.result (g.S.Sink.written c.refuse.new.sink) (g.F.Files.faults c.args.files.now) (g.F.Files.faults c.attempt.new.files)
    (g.S.Sink.faults c.attempt.new.sink) (g.S.Sink.faults c.refuse.new.sink) (g.S.Sink.by_lines c.refuse.new.sink)
    (record {
      one = c.texts_are_decided.ensures.one;
      texts = c.texts_are_decided.ensures.never_both;
      names = c.names_are_decided.ensures.never_both;
      links = λ n e placed. c.links_are_decided.ensures.placed n placed e;
      codes = c.texts_have_one_answer.ensures.one_code;
      lines = c.texts_have_one_answer.ensures.never_both;
      valid = λ a e valid. c.code_is_decided.ensures.valid a valid e;
      locks = λ text p r stands refused. never_both p r (c.texts_come_to_one_answer.ensures.one text (Ok p) (Err r) stands refused);
    })
    (subst (λ (r : Result (Unit {0}) Stopped). Attempts (file_command_of c.args.command) known r (g.S.Sink.written c.args.sink.now) (g.S.Sink.written c.attempt.new.sink)
    (g.S.Sink.room c.args.sink.now) (g.S.Sink.room c.attempt.new.sink) (g.S.Sink.by_lines c.args.sink.now) (g.S.Sink.by_lines c.attempt.new.sink)) is c.attempt.ensures.attempts)
    c.refuse.ensures c.refuse.ensures.ends

pub returns-in-Err-FileFault-clause-answers : goal.returns-in-Err-FileFault-clause-answers
returns-in-Err-FileFault-clause-answers g c =
    let known = g.F.Files.contents c.args.files.now (file_of (file_command_of c.args.command)) in
    let is : c.attempt.result ≡ Err stopped.FileFault = c.in-Err-FileFault.is ∙ ap (λ (s : Stopped). Err s) c.in-Err-FileFault.field-0-is in
    file_answers (OfFile (file_command_of c.args.command)) (one known) c.tell.result (g.S.Sink.written c.args.sink.now) (g.S.Sink.written c.attempt.new.sink) (g.S.Sink.written c.tell.new.sink)
    (g.F.Files.faults c.args.files.now) (g.F.Files.faults c.attempt.new.files) (g.S.Sink.faults c.attempt.new.sink) (g.S.Sink.faults c.tell.new.sink)
    (g.S.Sink.room c.args.sink.now) (g.S.Sink.room c.attempt.new.sink) (g.S.Sink.by_lines c.args.sink.now) (g.S.Sink.by_lines c.attempt.new.sink) (g.S.Sink.by_lines c.tell.new.sink)
    (c.attempt.ensures.attempts.no_file is) (c.attempt.ensures.attempts.file_room is) c.attempt.ensures.attempts.by_lines (c.attempt.ensures.file_fault is)
    c.tell.ensures.tells c.tell.ensures.told

pub returns-in-Err-SinkFault-clause-answers : goal.returns-in-Err-SinkFault-clause-answers
returns-in-Err-SinkFault-clause-answers g c =
    let known = g.F.Files.contents c.args.files.now (file_of (file_command_of c.args.command)) in
    let is : c.attempt.result ≡ Err stopped.SinkFault = c.in-Err-SinkFault.is ∙ ap (λ (s : Stopped). Err s) c.in-Err-SinkFault.field-0-is in
    broken_answers (file_command_of c.args.command) known status.SinkFault (g.S.Sink.written c.args.sink.now) (g.S.Sink.written c.attempt.new.sink)
    (g.F.Files.faults c.args.files.now) (g.F.Files.faults c.attempt.new.files) (g.S.Sink.room c.args.sink.now) (g.S.Sink.by_lines c.args.sink.now) (g.S.Sink.by_lines c.attempt.new.sink) (inl refl) (λ contents k. c.attempt.ensures.attempts.cut contents k (inl is))
    (λ contents k e. c.attempt.ensures.attempts.no_room contents k is) c.attempt.ensures.attempts.by_lines

pub returns-in-Err-NoMemory-clause-answers : goal.returns-in-Err-NoMemory-clause-answers
returns-in-Err-NoMemory-clause-answers g c =
    let known = g.F.Files.contents c.args.files.now (file_of (file_command_of c.args.command)) in
    let is : c.attempt.result ≡ Err stopped.NoMemory = c.in-Err-NoMemory.is ∙ ap (λ (s : Stopped). Err s) c.in-Err-NoMemory.field-0-is in
    broken_answers (file_command_of c.args.command) known status.NoMemory (g.S.Sink.written c.args.sink.now) (g.S.Sink.written c.attempt.new.sink)
    (g.F.Files.faults c.args.files.now) (g.F.Files.faults c.attempt.new.files) (g.S.Sink.room c.args.sink.now) (g.S.Sink.by_lines c.args.sink.now) (g.S.Sink.by_lines c.attempt.new.sink) (inr refl) (λ contents k. c.attempt.ensures.attempts.cut contents k (inr is))
    (λ contents k e. absurd cc) c.attempt.ensures.attempts.by_lines

pub returns-in-Err-Refused-clause-file_fault : goal.returns-in-Err-Refused-clause-file_fault
returns-in-Err-Refused-clause-file_fault g c = λ e. absurd (tells_no_file (λ same. cc) c.refuse.ensures e)

pub returns-in-Err-Refused-clause-sure : goal.returns-in-Err-Refused-clause-sure
returns-in-Err-Refused-clause-sure g c = λ never e. tells_no_file (λ same. cc) c.refuse.ensures e

pub returns-in-Err-Refused-clause-sink_fault : goal.returns-in-Err-Refused-clause-sink_fault
returns-in-Err-Refused-clause-sink_fault g c = λ e below. omega (arith, c.attempt.ensures.never_falls, c.refuse.ensures.cause e below)

pub returns-in-Err-Refused-clause-sink_never_falls : goal.returns-in-Err-Refused-clause-sink_never_falls
returns-in-Err-Refused-clause-sink_never_falls g c = omega (arith, c.attempt.ensures.never_falls, c.refuse.ensures.never_falls)

pub returns-in-Err-FileFault-clause-sink_fault : goal.returns-in-Err-FileFault-clause-sink_fault
returns-in-Err-FileFault-clause-sink_fault g c = λ e below. omega (arith, c.attempt.ensures.never_falls, c.tell.ensures.tells.cause e below)

pub returns-in-Err-FileFault-clause-sink_never_falls : goal.returns-in-Err-FileFault-clause-sink_never_falls
returns-in-Err-FileFault-clause-sink_never_falls g c = omega (arith, c.attempt.ensures.never_falls, c.tell.ensures.tells.never_falls)
