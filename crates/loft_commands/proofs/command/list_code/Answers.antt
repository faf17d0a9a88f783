use Rattle.std.proofs.Common.{◌≡◌, ◌∙◌, ap, refl, Err}
use Rattle.std.proofs.lemmas.Result.{err_from_is_err_and}
use Rattle.loft_base.specs.Writing.{are_lines}
use Rattle.loft_base.specs.declared.writing.WriteError.{WriteError}
use Rattle.loft_tree.specs.NamedTree.{NamedProgram}
use Rattle.loft_tree.specs.ProgramView.{program_of}
use Rattle.loft_tree.specs.Resolved.{resolved_of}
use Rattle.loft_tree.specs.View.{source_of}
use Rattle.loft_translation.specs.Compiled.{compiled}
use Rattle.loft_listing.specs.Listing.{listing_text}
use Rattle.loft_refusal.specs.declared.refusal.Stopped.{Stopped}
use Rattle.loft_refusal.specs.Stops.{stop_of_write}
use Rattle.loft_arguments.specs.Command.{Compile}
use Rattle.loft_refusal.specs.Input.{ASource}
use Rattle.loft_commands.specs.Promise.{IsAnswerFor}
use Rattle.loft_commands.proofs.AnswerLines.{listing_lines}
use Rattle.loft_commands.proofs.Doing.{done_does, failed_does, no_memory_does, write_stops, write_blamed}
use Rattle.loft_commands.proofs.Written.{appends, begun}
use Rattle.loft_commands.proofs.command.list_code.Goals as goal

pub write_lines-requires : goal.write_lines-requires
write_lines-requires g c =
    ap are_lines (c.as_slice.ensures.value ∙ c.in_ok-text.ensures) ∙ listing_lines (compiled (resolved_of (program_of c.in_ok-placed.placed)))

pub returns-in_err-text-clause-does : goal.returns-in_err-text-clause-does
returns-in_err-text-clause-does g c = λ file.
    let p = err_from_is_err_and c.from_residual-in_err-text.result c.from_residual-in_err-text.ensures.1 in
    no_memory_does c.from_residual-in_err-text.result (p.1 ∙ ap (λ (e : Stopped). Err e) p.2)

pub returns-in_err-write_lines-clause-does : goal.returns-in_err-write_lines-clause-does
returns-in_err-write_lines-clause-does g c = λ file.
    let w = c.in_err-write_lines.field-0.0 in
    let p = err_from_is_err_and c.from_residual-in_err-write_lines.result c.from_residual-in_err-write_lines.ensures.1 in
    let is : c.from_residual-in_err-write_lines.result ≡ Err (stop_of_write w) = p.1 ∙ ap (λ (e : Stopped). Err e) p.2 in
    let listed = c.as_slice.ensures.value ∙ (c.in_ok-text.ensures ∙ ap (λ (n : NamedProgram). listing_text (compiled (resolved_of n))) c.in_ok-placed.ensures.program) in
    failed_does (write_stops w c.from_residual-in_err-write_lines.result is)
    (begun (IsAnswerFor (Compile file) (ASource (source_of c.args.program))) c.as_slice.result.now c.in_err-write_lines.ensures.failed (c.in_ok-placed.ensures.well, listed))
    (λ e. (c.as_slice.result.now, (c.in_ok-placed.ensures.well, listed), c.in_err-write_lines.ensures.blamed (ap (λ (d : WriteError). Err d) (write_blamed w c.from_residual-in_err-write_lines.result is e))))
    c.in_err-write_lines.ensures.by_lines

pub returns-clause-does : goal.returns-clause-does
returns-clause-does g c = λ file.
    let listed = c.as_slice.ensures.value ∙ (c.in_ok-text.ensures ∙ ap (λ (n : NamedProgram). listing_text (compiled (resolved_of n))) c.in_ok-placed.ensures.program) in
    done_does refl c.in_ok-placed.ensures.well
    (appends c.as_slice.result.now c.in_ok-write_lines.ensures.ok (c.in_ok-placed.ensures.well, listed))
    c.in_ok-write_lines.ensures.by_lines
