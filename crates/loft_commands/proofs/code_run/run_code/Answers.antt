use Rattle.std.proofs.Common.{◌≡◌, ◌∙◌, sym, ap, Err}
use Rattle.std.proofs.lemmas.Result.{err_from_is_err_and}
use Rattle.loft_base.specs.declared.writing.WriteError.{WriteError}
use Rattle.loft_code.specs.declared.raw.CodeProgram.{CodeProgram}
use Rattle.loft_code.specs.View.{automata_of}
use Rattle.loft_sense.specs.Machine.{Code, heads}
use Rattle.loft_commands.specs.declared.code_run.RunError.{RunError}
use Rattle.loft_commands.specs.RunStops.{run_error_of_write}
use Rattle.loft_commands.specs.Promise.{IsReport}
use Rattle.loft_commands.specs.Options.{options_of}
use Rattle.loft_commands.proofs.Reported.{text_of_run, written_report}
use Rattle.loft_commands.proofs.Doing.{report_blamed}
use Rattle.loft_commands.proofs.Written.{appends, begun, err_holds}
use Rattle.loft_commands.proofs.code_run.run_code.Goals as goal

pub write_report-requires : goal.write_report-requires
write_report-requires g c =
    let x = Code (automata_of c.args.c.now) in
    let declared : c.program.result.now.heads ≡ heads x = ap (λ (q : CodeProgram). q.heads) c.program.ensures.program in
    record { heads = c.in_ok-run.ensures.heads ∙ sym declared }

pub returns-clause-report : goal.returns-clause-report
returns-clause-report g c =
    let x = Code (automata_of c.args.c.now) in
    let o = options_of c.args.l c.args.workers in
    let declared : c.program.result.now.heads ≡ heads x = ap (λ (q : CodeProgram). q.heads) c.program.ensures.program in
    appends {P = IsReport x o} (text_of_run c.program.result.now.heads o c.in_ok-run.run') c.in_ok-write_report.ensures.ok
    (written_report x o c.in_ok-run.run' c.program.result.now.heads c.reports_of_worlds_are_of_histories.ensures c.made_histories_are_legal.ensures.legal declared c.in_ok-run.ensures)

pub returns-in_err-write_report-clause-failed : goal.returns-in_err-write_report-clause-failed
returns-in_err-write_report-clause-failed g c =
    let x = Code (automata_of c.args.c.now) in
    let o = options_of c.args.l c.args.workers in
    let declared : c.program.result.now.heads ≡ heads x = ap (λ (q : CodeProgram). q.heads) c.program.ensures.program in
    err_holds c.from_residual-in_err-write_report.result
    (begun (IsReport x o) (text_of_run c.program.result.now.heads o c.in_ok-run.run') c.in_err-write_report.ensures.failed
    (written_report x o c.in_ok-run.run' c.program.result.now.heads c.reports_of_worlds_are_of_histories.ensures c.made_histories_are_legal.ensures.legal declared c.in_ok-run.ensures))

pub returns-in_err-write_report-clause-no_room : goal.returns-in_err-write_report-clause-no_room
returns-in_err-write_report-clause-no_room g c = λ e.
    let x = Code (automata_of c.args.c.now) in
    let o = options_of c.args.l c.args.workers in
    let declared : c.program.result.now.heads ≡ heads x = ap (λ (q : CodeProgram). q.heads) c.program.ensures.program in
    let w = c.in_err-write_report.field-0.0 in
    let p = err_from_is_err_and c.from_residual-in_err-write_report.result c.from_residual-in_err-write_report.ensures.1 in
    let is : c.from_residual-in_err-write_report.result ≡ Err (run_error_of_write w) = p.1 ∙ ap (λ (d : RunError). Err d) p.2 in (
      text_of_run c.program.result.now.heads o c.in_ok-run.run',
      written_report x o c.in_ok-run.run' c.program.result.now.heads c.reports_of_worlds_are_of_histories.ensures c.made_histories_are_legal.ensures.legal declared c.in_ok-run.ensures,
      c.in_err-write_report.ensures.blamed (ap (λ (d : WriteError). Err d) (report_blamed w c.from_residual-in_err-write_report.result is e)),
    )
