use Rattle.std.proofs.Common.{◌≡◌, ◌∙◌, ap, sym, subst, refl, ℕ, List, Err}
use Rattle.std.proofs.lemmas.Result.{err_from_is_err_and}
use Rattle.loft_base.specs.Writing.{are_lines}
use Rattle.loft_base.specs.declared.writing.WriteError.{WriteError}
use Rattle.loft_tree.specs.NamedTree.{NamedProgram}
use Rattle.loft_tree.specs.ProgramView.{program_of}
use Rattle.loft_tree.specs.View.{source_of}
use Rattle.loft_bound.specs.BoundText.{IsBoundText}
use Rattle.loft_refusal.specs.declared.refusal.Stopped.{Stopped}
use Rattle.loft_refusal.specs.Stops.{stop_of_write}
use Rattle.loft_arguments.specs.Command.{Bound}
use Rattle.loft_refusal.specs.Input.{ASource}
use Rattle.loft_commands.specs.Promise.{IsAnswerFor}
use Rattle.loft_commands.proofs.AnswerLines.{bound_lines}
use Rattle.loft_commands.proofs.Doing.{done_does, failed_does, no_memory_does, write_stops, write_blamed}
use Rattle.loft_commands.proofs.Written.{appends, begun}
use Rattle.loft_commands.proofs.command.tell_bounds.Goals as goal

pub write_lines-requires : goal.write_lines-requires
write_lines-requires g c =
    ap are_lines c.as_slice.ensures.value ∙ bound_lines (program_of c.in_ok-placed.placed) _ c.in_ok-text.ensures

pub returns-in_err-text-clause-does : goal.returns-in_err-text-clause-does
returns-in_err-text-clause-does g c = λ file.
    let p = err_from_is_err_and c.from_residual-in_err-text.result c.from_residual-in_err-text.ensures.1 in
    no_memory_does c.from_residual-in_err-text.result (p.1 ∙ ap (λ (e : Stopped). Err e) p.2)

pub returns-in_err-write_lines-clause-does : goal.returns-in_err-write_lines-clause-does
returns-in_err-write_lines-clause-does g c = λ file.
    let w = c.in_err-write_lines.field-0.0 in
    let p = err_from_is_err_and c.from_residual-in_err-write_lines.result c.from_residual-in_err-write_lines.ensures.1 in
    let is : c.from_residual-in_err-write_lines.result ≡ Err (stop_of_write w) = p.1 ∙ ap (λ (e : Stopped). Err e) p.2 in
    let told = subst (λ (n : NamedProgram). IsBoundText n c.as_slice.result.now) c.in_ok-placed.ensures.program (subst (λ (t : List ℕ). IsBoundText (program_of c.in_ok-placed.placed) t) (sym c.as_slice.ensures.value) c.in_ok-text.ensures) in
    failed_does (write_stops w c.from_residual-in_err-write_lines.result is)
    (begun (IsAnswerFor (Bound file) (ASource (source_of c.args.program))) c.as_slice.result.now c.in_err-write_lines.ensures.failed (c.in_ok-placed.ensures.well, told))
    (λ e. (c.as_slice.result.now, (c.in_ok-placed.ensures.well, told), c.in_err-write_lines.ensures.blamed (ap (λ (d : WriteError). Err d) (write_blamed w c.from_residual-in_err-write_lines.result is e))))
    c.in_err-write_lines.ensures.by_lines

pub returns-clause-does : goal.returns-clause-does
returns-clause-does g c = λ file.
    let told = subst (λ (n : NamedProgram). IsBoundText n c.as_slice.result.now) c.in_ok-placed.ensures.program (subst (λ (t : List ℕ). IsBoundText (program_of c.in_ok-placed.placed) t) (sym c.as_slice.ensures.value) c.in_ok-text.ensures) in
    done_does refl c.in_ok-placed.ensures.well
    (appends c.as_slice.result.now c.in_ok-write_lines.ensures.ok (c.in_ok-placed.ensures.well, told))
    c.in_ok-write_lines.ensures.by_lines
