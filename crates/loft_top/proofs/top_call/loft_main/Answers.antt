use Rattle.std.proofs.Common.{◌≡◌, ◌++◌, ◌∷◌, [], inl, refl, sym, List, ℕ, Some}
use Rattle.std.specs.Prelude.{codes}
use Rattle.loft_arguments.specs.Command.{files_of}
use Rattle.loft_arguments.specs.CommandView.{command_of}
use Rattle.loft_commands.specs.Written.{AppendsSome, IsLineOf, IsPrefix, HasNoRoom}
use Rattle.loft_top.specs.declared.status.Status.TheVariants as status
use Rattle.loft_top.specs.Status.{IsRefusedStatus, IsLogRefused}
use Rattle.loft_top.specs.Reads.{contents_of}
use Rattle.loft_top.specs.Answer.{IsAnswer, Refuses, RefusesLog, IsRefusal, IsLogRefusal, ReadsReport, IsText}
use Rattle.loft_commands.proofs.Written.{appends, begun, of_found}
use Rattle.loft_top.proofs.top_call.loft_main.Goals as goal

pub answer-requires-clause-files : goal.answer-requires-clause-files
answer-requires-clause-files g c κs within = λ file has. c.requires (command_of c.in-Some.command) file (sym c.in-Some.ensures.meant) has

pub answer-requires-clause-ranges : goal.answer-requires-clause-ranges
answer-requires-clause-ranges g c κs within = c.in-Some.ensures.in_range (command_of c.in-Some.command) (sym c.in-Some.ensures.meant)

pub returns-in-Some-clause-done : goal.returns-in-Some-clause-done
returns-in-Some-clause-done g c = λ k contents is known done.
    of_found (λ k. contents_of (g.F.Files.contents c.args.files.now) (files_of k) ≡ Some contents
    → AppendsSome (g.S.Sink.written c.args.sink.now) (g.S.Sink.written c.answer.new.sink) (IsAnswer k contents))
    c.in-Some.ensures.meant is (λ t. c.answer.ensures.answers.done contents t done) known

pub returns-in-Some-clause-source : goal.returns-in-Some-clause-source
returns-in-Some-clause-source g c = λ k contents is known source.
    of_found (λ k. contents_of (g.F.Files.contents c.args.files.now) (files_of k) ≡ Some contents
    → AppendsSome (g.S.Sink.written c.args.sink.now) (g.S.Sink.written c.answer.new.sink) (IsRefusal k contents))
    c.in-Some.ensures.meant is (λ t. c.answer.ensures.answers.source contents t source) known

pub returns-in-Some-clause-log : goal.returns-in-Some-clause-log
returns-in-Some-clause-log g c = λ k contents is known log.
    of_found (λ k. contents_of (g.F.Files.contents c.args.files.now) (files_of k) ≡ Some contents
    → AppendsSome (g.S.Sink.written c.args.sink.now) (g.S.Sink.written c.answer.new.sink) (IsLogRefusal k contents))
    c.in-Some.ensures.meant is (λ t. c.answer.ensures.answers.log contents t log) known

pub returns-in-Some-clause-log_refused : goal.returns-in-Some-clause-log_refused
returns-in-Some-clause-log_refused g c = λ k contents line is known refuses.
    of_found (λ k. contents_of (g.F.Files.contents c.args.files.now) (files_of k) ≡ Some contents → RefusesLog k contents line → IsLogRefused c.answer.result)
    c.in-Some.ensures.meant is (λ t r. c.answer.ensures.answers.log_refused contents line t r) known refuses

pub returns-in-Some-clause-log_reads : goal.returns-in-Some-clause-log_reads
returns-in-Some-clause-log_reads g c = λ k is log.
    of_found (λ k. c.answer.result ≡ status.Log → ReadsReport k) c.in-Some.ensures.meant is (λ e. c.answer.ensures.answers.log_reads e) log

pub returns-in-Some-clause-refused : goal.returns-in-Some-clause-refused
returns-in-Some-clause-refused g c = λ k contents line is known refuses.
    of_found (λ k. contents_of (g.F.Files.contents c.args.files.now) (files_of k) ≡ Some contents → Refuses k contents line → IsRefusedStatus c.answer.result)
    c.in-Some.ensures.meant is (λ t r. c.answer.ensures.answers.refused contents line t r) known refuses

pub returns-in-Some-clause-prefix : goal.returns-in-Some-clause-prefix
returns-in-Some-clause-prefix g c = λ k contents is known cut.
    of_found (λ k. contents_of (g.F.Files.contents c.args.files.now) (files_of k) ≡ Some contents
    → AppendsSome (g.S.Sink.written c.args.sink.now) (g.S.Sink.written c.answer.new.sink)
    (IsPrefix (IsText k contents (g.F.Files.faults c.args.files.now) (g.F.Files.faults c.answer.new.files))))
    c.in-Some.ensures.meant is (λ t. c.answer.ensures.answers.prefix contents t cut) known

pub returns-in-None-clause-usage_line : goal.returns-in-None-clause-usage_line
returns-in-None-clause-usage_line g c = λ is_usage.
    let line : List ℕ = codes "loft: usage" in
    appends {P = IsLineOf line} (line ++ 10 ∷ []) (c.tell.ensures.tells.written is_usage) refl

pub returns-in-None-clause-usage_prefix : goal.returns-in-None-clause-usage_prefix
returns-in-None-clause-usage_prefix g c = λ none cut.
    let line : List ℕ = codes "loft: usage" in
    begun (IsLineOf line) (line ++ 10 ∷ []) (c.tell.ensures.tells.cut (inl cut)) refl

pub returns-in-Some-clause-no_room : goal.returns-in-Some-clause-no_room
returns-in-Some-clause-no_room g c = λ k contents is known fault.
    of_found (λ k. contents_of (g.F.Files.contents c.args.files.now) (files_of k) ≡ Some contents
    → HasNoRoom (g.S.Sink.room c.args.sink.now) (IsText k contents (g.F.Files.faults c.args.files.now) (g.F.Files.faults c.answer.new.files)))
    c.in-Some.ensures.meant is (λ t. c.answer.ensures.answers.no_room contents t fault) known

pub returns-in-None-clause-usage_no_room : goal.returns-in-None-clause-usage_no_room
returns-in-None-clause-usage_no_room g c = λ none fault.
    let line : List ℕ = codes "loft: usage" in
    (line ++ 10 ∷ [], refl, c.tell.ensures.tells.no_room fault)

pub returns-in-None-clause-sink_fault : goal.returns-in-None-clause-sink_fault
returns-in-None-clause-sink_fault g c = c.tell.ensures.tells.cause

pub returns-in-None-clause-sink_never_falls : goal.returns-in-None-clause-sink_never_falls
returns-in-None-clause-sink_never_falls g c = c.tell.ensures.tells.never_falls

pub returns-in-None-clause-by_lines : goal.returns-in-None-clause-by_lines
returns-in-None-clause-by_lines g c = c.tell.ensures.tells.by_lines

pub returns-in-Some-clause-by_lines : goal.returns-in-Some-clause-by_lines
returns-in-Some-clause-by_lines g c = c.answer.ensures.answers.by_lines
