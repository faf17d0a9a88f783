use Rattle.std.proofs.Common.{◌≡◌, ◌∙◌, ap, Err}
use Rattle.std.proofs.lemmas.Result.{err_from_is_err_and}
use Rattle.loft_base.specs.Writing.{are_lines}
use Rattle.loft_base.specs.declared.writing.WriteError.{WriteError}
use Rattle.loft_tree.specs.View.{source_of}
use Rattle.loft_refusal.specs.declared.refusal.Stopped.{Stopped}
use Rattle.loft_refusal.specs.Stops.{stop_of_write}
use Rattle.loft_arguments.specs.Command.{Show, Expand}
use Rattle.loft_refusal.specs.Input.{ASource, AnExpansion}
use Rattle.loft_commands.specs.Promise.{IsAnswerFor}
use Rattle.loft_commands.proofs.AnswerLines.{canon_lines}
use Rattle.loft_commands.proofs.Doing.{failed_does, write_stops, write_blamed}
use Rattle.loft_commands.proofs.Written.{begun}
use Rattle.loft_commands.proofs.command.show_text.Goals as goal

pub write_lines-requires : goal.write_lines-requires
write_lines-requires g c = ap are_lines (c.as_slice.ensures.value ∙ c.in_ok-text.ensures) ∙ canon_lines (source_of c.args.program.now)

pub returns-in_err-write_lines-clause-does : goal.returns-in_err-write_lines-clause-does
returns-in_err-write_lines-clause-does g c = λ file.
    let w = c.in_err-write_lines.field-0.0 in
    let p = err_from_is_err_and c.from_residual-in_err-write_lines.result c.from_residual-in_err-write_lines.ensures.1 in
    let is : c.from_residual-in_err-write_lines.result ≡ Err (stop_of_write w) = p.1 ∙ ap (λ (e : Stopped). Err e) p.2 in
    failed_does (write_stops w c.from_residual-in_err-write_lines.result is)
    (begun (IsAnswerFor (Show file) (ASource (source_of c.args.program.now))) c.as_slice.result.now c.in_err-write_lines.ensures.failed (tt, c.as_slice.ensures.value ∙ c.in_ok-text.ensures))
    (λ e. (c.as_slice.result.now, (tt, c.as_slice.ensures.value ∙ c.in_ok-text.ensures), c.in_err-write_lines.ensures.blamed (ap (λ (d : WriteError). Err d) (write_blamed w c.from_residual-in_err-write_lines.result is e))))
    c.in_err-write_lines.ensures.by_lines

pub returns-in_err-write_lines-clause-expands : goal.returns-in_err-write_lines-clause-expands
returns-in_err-write_lines-clause-expands g c = λ file.
    let w = c.in_err-write_lines.field-0.0 in
    let p = err_from_is_err_and c.from_residual-in_err-write_lines.result c.from_residual-in_err-write_lines.ensures.1 in
    let is : c.from_residual-in_err-write_lines.result ≡ Err (stop_of_write w) = p.1 ∙ ap (λ (e : Stopped). Err e) p.2 in
    failed_does (write_stops w c.from_residual-in_err-write_lines.result is)
    (begun (IsAnswerFor (Expand file) (AnExpansion (source_of c.args.program.now))) c.as_slice.result.now c.in_err-write_lines.ensures.failed (tt, c.as_slice.ensures.value ∙ c.in_ok-text.ensures))
    (λ e. (c.as_slice.result.now, (tt, c.as_slice.ensures.value ∙ c.in_ok-text.ensures), c.in_err-write_lines.ensures.blamed (ap (λ (d : WriteError). Err d) (write_blamed w c.from_residual-in_err-write_lines.result is e))))
    c.in_err-write_lines.ensures.by_lines
