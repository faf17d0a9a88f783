use Rattle.std.proofs.Common.{◌≡◌, ◌∙◌, ap, Err}
use Rattle.std.proofs.lemmas.Result.{err_from_is_err_and}
use Rattle.loft_code.specs.View.{automata_of}
use Rattle.loft_sense.specs.Machine.{Code}
use Rattle.loft_refusal.specs.declared.refusal.Stopped.{Stopped}
use Rattle.loft_commands.specs.declared.code_run.RunError.{RunError}
use Rattle.loft_commands.specs.RunStops.{stop_of_run}
use Rattle.loft_arguments.specs.Command.{Exec}
use Rattle.loft_refusal.specs.Input.{AListing}
use Rattle.loft_commands.specs.Promise.{IsReport, IsAnswerFor}
use Rattle.loft_commands.proofs.Doing.{failed_does, run_stops, run_blamed}
use Rattle.loft_commands.proofs.Written.{part_of, room_of}
use Rattle.loft_commands.proofs.command.exec.Goals as goal

pub returns-in_err-run_code-clause-does : goal.returns-in_err-run_code-clause-does
returns-in_err-run_code-clause-does g c = λ file.
    let e = c.in_err-run_code.field-0.0 in
    let p = err_from_is_err_and c.from_residual.result c.from_residual.ensures.1 in
    let is : c.from_residual.result ≡ Err (stop_of_run e) = p.1 ∙ ap (λ (s : Stopped). Err s) p.2 in
    let a = automata_of c.args.code.now in
    let o = c.args.options.now in
    failed_does (run_stops e c.from_residual.result is)
    (part_of (IsReport (Code a) o) (IsAnswerFor (Exec file o) (AListing a))
    (λ text holds. (c.program.ensures.valid, holds))
    c.in_err-run_code.ensures.failed)
    (λ s. room_of (IsReport (Code a) o) (IsAnswerFor (Exec file o) (AListing a)) (λ text holds. (c.program.ensures.valid, holds))
    (c.in_err-run_code.ensures.no_room (ap (λ (d : RunError). Err d) (run_blamed e c.from_residual.result is s))))
    c.in_err-run_code.ensures.by_lines
