use Rattle.std.proofs.Common.{◌∙◌, sym, ap, subst, [], Result, Err}
use Rattle.std.proofs.lemmas.Result.{err_from_is_err_and}
use Rattle.loft_arguments.specs.Command.{FileCommand, Run, Exec, Show, Check, Compile, Bound, Expand, file_of}
use Rattle.loft_arguments.specs.CommandView.{file_command_of}
use Rattle.loft_refusal.specs.declared.refusal.Stopped.{Stopped}
use Rattle.loft_commands.specs.Doing.{AttemptsTo}
use Rattle.loft_commands.proofs.Doing.{does_attempts, unread_attempts, unlisted_attempts, unexpanded_attempts}
use Rattle.loft_commands.proofs.attempt_command.attempt.Goals as goal

pub returns-in_ok-program-in-Run-clause-attempts : goal.returns-in_ok-program-in-Run-clause-attempts
returns-in_ok-program-in-Run-clause-attempts g c =
    subst (λ (k : FileCommand). AttemptsTo g.S.Sink.written g.S.Sink.room g.S.Sink.by_lines c.args.sink.now c.run.new.sink c.run.result k (g.F.Files.contents c.args.files.now (file_of k))) (sym (ap file_command_of c.in-Run.is))
    (does_attempts {c = Run c.in-Run.file.now c.in-Run.options} (λ contents t. c.in_ok-program-in-Run.ensures.program contents t) (c.run.ensures.does c.in-Run.file.now))

pub returns-in_ok-program-in-Run-clause-file_fault : goal.returns-in_ok-program-in-Run-clause-file_fault
returns-in_ok-program-in-Run-clause-file_fault g c = λ is. absurd ((c.run.ensures.does []).no_file is)

pub returns-in_err-program-in-Run-clause-attempts : goal.returns-in_err-program-in-Run-clause-attempts
returns-in_err-program-in-Run-clause-attempts g c =
    let p = err_from_is_err_and c.from_residual.result c.from_residual.ensures.1 in
    let is = p.1 ∙ ap (λ (s : Stopped). Err s) p.2 in
    let sink = c.args.sink.now in
    subst (λ (k : FileCommand). AttemptsTo g.S.Sink.written g.S.Sink.room g.S.Sink.by_lines sink sink c.from_residual.result k (g.F.Files.contents c.args.files.now (file_of k))) (sym (ap file_command_of c.in-Run.is))
    (subst (λ (r : Result (Unit {0}) Stopped). AttemptsTo g.S.Sink.written g.S.Sink.room g.S.Sink.by_lines sink sink r (Run c.in-Run.file.now c.in-Run.options) (g.F.Files.contents c.args.files.now c.in-Run.file.now)) (sym is)
    (unread_attempts (Run c.in-Run.file.now c.in-Run.options) (g.F.Files.contents c.args.files.now c.in-Run.file.now) c.in_err-program-in-Run.field-0.0 (g.S.Sink.written sink) (g.S.Sink.room sink) (g.S.Sink.by_lines sink) tt (λ contents t. c.in_err-program-in-Run.ensures.refused contents t)))

pub returns-in_ok-program-in-Show-clause-attempts : goal.returns-in_ok-program-in-Show-clause-attempts
returns-in_ok-program-in-Show-clause-attempts g c =
    subst (λ (k : FileCommand). AttemptsTo g.S.Sink.written g.S.Sink.room g.S.Sink.by_lines c.args.sink.now c.show_text.new.sink c.show_text.result k (g.F.Files.contents c.args.files.now (file_of k))) (sym (ap file_command_of c.in-Show.is))
    (does_attempts {c = Show c.in-Show.file.now} (λ contents t. c.in_ok-program-in-Show.ensures.program contents t) (c.show_text.ensures.does c.in-Show.file.now))

pub returns-in_ok-program-in-Show-clause-file_fault : goal.returns-in_ok-program-in-Show-clause-file_fault
returns-in_ok-program-in-Show-clause-file_fault g c = λ is. absurd ((c.show_text.ensures.does []).no_file is)

pub returns-in_err-program-in-Show-clause-attempts : goal.returns-in_err-program-in-Show-clause-attempts
returns-in_err-program-in-Show-clause-attempts g c =
    let p = err_from_is_err_and c.from_residual-in_err-program-in-Show.result c.from_residual-in_err-program-in-Show.ensures.1 in
    let is = p.1 ∙ ap (λ (s : Stopped). Err s) p.2 in
    let sink = c.args.sink.now in
    subst (λ (k : FileCommand). AttemptsTo g.S.Sink.written g.S.Sink.room g.S.Sink.by_lines sink sink c.from_residual-in_err-program-in-Show.result k (g.F.Files.contents c.args.files.now (file_of k))) (sym (ap file_command_of c.in-Show.is))
    (subst (λ (r : Result (Unit {0}) Stopped). AttemptsTo g.S.Sink.written g.S.Sink.room g.S.Sink.by_lines sink sink r (Show c.in-Show.file.now) (g.F.Files.contents c.args.files.now c.in-Show.file.now)) (sym is)
    (unread_attempts (Show c.in-Show.file.now) (g.F.Files.contents c.args.files.now c.in-Show.file.now) c.in_err-program-in-Show.field-0.0 (g.S.Sink.written sink) (g.S.Sink.room sink) (g.S.Sink.by_lines sink) tt (λ contents t. c.in_err-program-in-Show.ensures.refused contents t)))

pub returns-in_ok-program-in-Check-clause-attempts : goal.returns-in_ok-program-in-Check-clause-attempts
returns-in_ok-program-in-Check-clause-attempts g c =
    subst (λ (k : FileCommand). AttemptsTo g.S.Sink.written g.S.Sink.room g.S.Sink.by_lines c.args.sink.now c.check.new.sink c.check.result k (g.F.Files.contents c.args.files.now (file_of k))) (sym (ap file_command_of c.in-Check.is))
    (does_attempts {c = Check c.in-Check.file.now} (λ contents t. c.in_ok-program-in-Check.ensures.program contents t) (c.check.ensures.does c.in-Check.file.now))

pub returns-in_ok-program-in-Check-clause-file_fault : goal.returns-in_ok-program-in-Check-clause-file_fault
returns-in_ok-program-in-Check-clause-file_fault g c = λ is. absurd ((c.check.ensures.does []).no_file is)

pub returns-in_err-program-in-Check-clause-attempts : goal.returns-in_err-program-in-Check-clause-attempts
returns-in_err-program-in-Check-clause-attempts g c =
    let p = err_from_is_err_and c.from_residual-in_err-program-in-Check.result c.from_residual-in_err-program-in-Check.ensures.1 in
    let is = p.1 ∙ ap (λ (s : Stopped). Err s) p.2 in
    let sink = c.args.sink.now in
    subst (λ (k : FileCommand). AttemptsTo g.S.Sink.written g.S.Sink.room g.S.Sink.by_lines sink sink c.from_residual-in_err-program-in-Check.result k (g.F.Files.contents c.args.files.now (file_of k))) (sym (ap file_command_of c.in-Check.is))
    (subst (λ (r : Result (Unit {0}) Stopped). AttemptsTo g.S.Sink.written g.S.Sink.room g.S.Sink.by_lines sink sink r (Check c.in-Check.file.now) (g.F.Files.contents c.args.files.now c.in-Check.file.now)) (sym is)
    (unread_attempts (Check c.in-Check.file.now) (g.F.Files.contents c.args.files.now c.in-Check.file.now) c.in_err-program-in-Check.field-0.0 (g.S.Sink.written sink) (g.S.Sink.room sink) (g.S.Sink.by_lines sink) tt (λ contents t. c.in_err-program-in-Check.ensures.refused contents t)))

pub returns-in_ok-program-in-Compile-clause-attempts : goal.returns-in_ok-program-in-Compile-clause-attempts
returns-in_ok-program-in-Compile-clause-attempts g c =
    subst (λ (k : FileCommand). AttemptsTo g.S.Sink.written g.S.Sink.room g.S.Sink.by_lines c.args.sink.now c.list_code.new.sink c.list_code.result k (g.F.Files.contents c.args.files.now (file_of k))) (sym (ap file_command_of c.in-Compile.is))
    (does_attempts {c = Compile c.in-Compile.file.now} (λ contents t. c.in_ok-program-in-Compile.ensures.program contents t) (c.list_code.ensures.does c.in-Compile.file.now))

pub returns-in_ok-program-in-Compile-clause-file_fault : goal.returns-in_ok-program-in-Compile-clause-file_fault
returns-in_ok-program-in-Compile-clause-file_fault g c = λ is. absurd ((c.list_code.ensures.does []).no_file is)

pub returns-in_err-program-in-Compile-clause-attempts : goal.returns-in_err-program-in-Compile-clause-attempts
returns-in_err-program-in-Compile-clause-attempts g c =
    let p = err_from_is_err_and c.from_residual-in_err-program-in-Compile.result c.from_residual-in_err-program-in-Compile.ensures.1 in
    let is = p.1 ∙ ap (λ (s : Stopped). Err s) p.2 in
    let sink = c.args.sink.now in
    subst (λ (k : FileCommand). AttemptsTo g.S.Sink.written g.S.Sink.room g.S.Sink.by_lines sink sink c.from_residual-in_err-program-in-Compile.result k (g.F.Files.contents c.args.files.now (file_of k))) (sym (ap file_command_of c.in-Compile.is))
    (subst (λ (r : Result (Unit {0}) Stopped). AttemptsTo g.S.Sink.written g.S.Sink.room g.S.Sink.by_lines sink sink r (Compile c.in-Compile.file.now) (g.F.Files.contents c.args.files.now c.in-Compile.file.now)) (sym is)
    (unread_attempts (Compile c.in-Compile.file.now) (g.F.Files.contents c.args.files.now c.in-Compile.file.now) c.in_err-program-in-Compile.field-0.0 (g.S.Sink.written sink) (g.S.Sink.room sink) (g.S.Sink.by_lines sink) tt (λ contents t. c.in_err-program-in-Compile.ensures.refused contents t)))

pub returns-in_ok-program-in-Bound-clause-attempts : goal.returns-in_ok-program-in-Bound-clause-attempts
returns-in_ok-program-in-Bound-clause-attempts g c =
    subst (λ (k : FileCommand). AttemptsTo g.S.Sink.written g.S.Sink.room g.S.Sink.by_lines c.args.sink.now c.tell_bounds.new.sink c.tell_bounds.result k (g.F.Files.contents c.args.files.now (file_of k))) (sym (ap file_command_of c.in-Bound.is))
    (does_attempts {c = Bound c.in-Bound.file.now} (λ contents t. c.in_ok-program-in-Bound.ensures.program contents t) (c.tell_bounds.ensures.does c.in-Bound.file.now))

pub returns-in_ok-program-in-Bound-clause-file_fault : goal.returns-in_ok-program-in-Bound-clause-file_fault
returns-in_ok-program-in-Bound-clause-file_fault g c = λ is. absurd ((c.tell_bounds.ensures.does []).no_file is)

pub returns-in_err-program-in-Bound-clause-attempts : goal.returns-in_err-program-in-Bound-clause-attempts
returns-in_err-program-in-Bound-clause-attempts g c =
    let p = err_from_is_err_and c.from_residual-in_err-program-in-Bound.result c.from_residual-in_err-program-in-Bound.ensures.1 in
    let is = p.1 ∙ ap (λ (s : Stopped). Err s) p.2 in
    let sink = c.args.sink.now in
    subst (λ (k : FileCommand). AttemptsTo g.S.Sink.written g.S.Sink.room g.S.Sink.by_lines sink sink c.from_residual-in_err-program-in-Bound.result k (g.F.Files.contents c.args.files.now (file_of k))) (sym (ap file_command_of c.in-Bound.is))
    (subst (λ (r : Result (Unit {0}) Stopped). AttemptsTo g.S.Sink.written g.S.Sink.room g.S.Sink.by_lines sink sink r (Bound c.in-Bound.file.now) (g.F.Files.contents c.args.files.now c.in-Bound.file.now)) (sym is)
    (unread_attempts (Bound c.in-Bound.file.now) (g.F.Files.contents c.args.files.now c.in-Bound.file.now) c.in_err-program-in-Bound.field-0.0 (g.S.Sink.written sink) (g.S.Sink.room sink) (g.S.Sink.by_lines sink) tt (λ contents t. c.in_err-program-in-Bound.ensures.refused contents t)))

pub returns-in_ok-code-in-Exec-clause-attempts : goal.returns-in_ok-code-in-Exec-clause-attempts
returns-in_ok-code-in-Exec-clause-attempts g c =
    subst (λ (k : FileCommand). AttemptsTo g.S.Sink.written g.S.Sink.room g.S.Sink.by_lines c.args.sink.now c.exec.new.sink c.exec.result k (g.F.Files.contents c.args.files.now (file_of k))) (sym (ap file_command_of c.in-Exec.is))
    (does_attempts {c = Exec c.in-Exec.file.now c.in-Exec.options} (λ contents t. c.in_ok-code-in-Exec.ensures.code contents t) (c.exec.ensures.does c.in-Exec.file.now))

pub returns-in_ok-code-in-Exec-clause-file_fault : goal.returns-in_ok-code-in-Exec-clause-file_fault
returns-in_ok-code-in-Exec-clause-file_fault g c = λ is. absurd ((c.exec.ensures.does []).no_file is)

pub returns-in_err-code-in-Exec-clause-attempts : goal.returns-in_err-code-in-Exec-clause-attempts
returns-in_err-code-in-Exec-clause-attempts g c =
    let p = err_from_is_err_and c.from_residual-in_err-code-in-Exec.result c.from_residual-in_err-code-in-Exec.ensures.1 in
    let is = p.1 ∙ ap (λ (s : Stopped). Err s) p.2 in
    let sink = c.args.sink.now in
    subst (λ (k : FileCommand). AttemptsTo g.S.Sink.written g.S.Sink.room g.S.Sink.by_lines sink sink c.from_residual-in_err-code-in-Exec.result k (g.F.Files.contents c.args.files.now (file_of k))) (sym (ap file_command_of c.in-Exec.is))
    (subst (λ (r : Result (Unit {0}) Stopped). AttemptsTo g.S.Sink.written g.S.Sink.room g.S.Sink.by_lines sink sink r (Exec c.in-Exec.file.now c.in-Exec.options) (g.F.Files.contents c.args.files.now c.in-Exec.file.now)) (sym is)
    (unlisted_attempts c.in-Exec.file.now c.in-Exec.options (g.F.Files.contents c.args.files.now c.in-Exec.file.now) c.in_err-code-in-Exec.field-0.0 (g.S.Sink.written sink) (g.S.Sink.room sink) (g.S.Sink.by_lines sink) (λ contents t. c.in_err-code-in-Exec.ensures.refused contents t)))

pub returns-in_ok-program-in-Expand-clause-attempts : goal.returns-in_ok-program-in-Expand-clause-attempts
returns-in_ok-program-in-Expand-clause-attempts g c =
    subst (λ (k : FileCommand). AttemptsTo g.S.Sink.written g.S.Sink.room g.S.Sink.by_lines c.args.sink.now c.show_text-in-Expand.new.sink c.show_text-in-Expand.result k (g.F.Files.contents c.args.files.now (file_of k))) (sym (ap file_command_of c.in-Expand.is))
    (does_attempts {c = Expand c.in-Expand.file.now} (λ contents t. c.in_ok-program-in-Expand.ensures.program contents t) (c.show_text-in-Expand.ensures.expands c.in-Expand.file.now))

pub returns-in_ok-program-in-Expand-clause-file_fault : goal.returns-in_ok-program-in-Expand-clause-file_fault
returns-in_ok-program-in-Expand-clause-file_fault g c = λ is. absurd ((c.show_text-in-Expand.ensures.expands []).no_file is)

pub returns-in_err-program-in-Expand-clause-attempts : goal.returns-in_err-program-in-Expand-clause-attempts
returns-in_err-program-in-Expand-clause-attempts g c =
    let p = err_from_is_err_and c.from_residual-in_err-program-in-Expand.result c.from_residual-in_err-program-in-Expand.ensures.1 in
    let is = p.1 ∙ ap (λ (s : Stopped). Err s) p.2 in
    let sink = c.args.sink.now in
    subst (λ (k : FileCommand). AttemptsTo g.S.Sink.written g.S.Sink.room g.S.Sink.by_lines sink sink c.from_residual-in_err-program-in-Expand.result k (g.F.Files.contents c.args.files.now (file_of k))) (sym (ap file_command_of c.in-Expand.is))
    (subst (λ (r : Result (Unit {0}) Stopped). AttemptsTo g.S.Sink.written g.S.Sink.room g.S.Sink.by_lines sink sink r (Expand c.in-Expand.file.now) (g.F.Files.contents c.args.files.now c.in-Expand.file.now)) (sym is)
    (unexpanded_attempts c.in-Expand.file.now (g.F.Files.contents c.args.files.now c.in-Expand.file.now) c.in_err-program-in-Expand.field-0.0 (g.S.Sink.written sink) (g.S.Sink.room sink) (g.S.Sink.by_lines sink) (λ contents t. c.in_err-program-in-Expand.ensures.refused contents t)))

pub returns-in_ok-program-in-Run-clause-sure : goal.returns-in_ok-program-in-Run-clause-sure
returns-in_ok-program-in-Run-clause-sure g c = λ never is. (c.run.ensures.does []).no_file is

pub returns-in_ok-program-in-Show-clause-sure : goal.returns-in_ok-program-in-Show-clause-sure
returns-in_ok-program-in-Show-clause-sure g c = λ never is. (c.show_text.ensures.does []).no_file is

pub returns-in_ok-program-in-Check-clause-sure : goal.returns-in_ok-program-in-Check-clause-sure
returns-in_ok-program-in-Check-clause-sure g c = λ never is. (c.check.ensures.does []).no_file is

pub returns-in_ok-program-in-Compile-clause-sure : goal.returns-in_ok-program-in-Compile-clause-sure
returns-in_ok-program-in-Compile-clause-sure g c = λ never is. (c.list_code.ensures.does []).no_file is

pub returns-in_ok-program-in-Bound-clause-sure : goal.returns-in_ok-program-in-Bound-clause-sure
returns-in_ok-program-in-Bound-clause-sure g c = λ never is. (c.tell_bounds.ensures.does []).no_file is

pub returns-in_ok-program-in-Expand-clause-sure : goal.returns-in_ok-program-in-Expand-clause-sure
returns-in_ok-program-in-Expand-clause-sure g c = λ never is. (c.show_text-in-Expand.ensures.expands []).no_file is

pub returns-in_ok-code-in-Exec-clause-sure : goal.returns-in_ok-code-in-Exec-clause-sure
returns-in_ok-code-in-Exec-clause-sure g c = λ never is. (c.exec.ensures.does []).no_file is
