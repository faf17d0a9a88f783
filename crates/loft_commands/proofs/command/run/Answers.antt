use Rattle.std.proofs.Common.{◌≡◌, ◌∙◌, ap, subst, Err}
use Rattle.std.proofs.lemmas.Result.{err_from_is_err_and}
use Rattle.loft_tree.specs.NamedTree.{NamedProgram}
use Rattle.loft_tree.specs.ProgramView.{program_of}
use Rattle.loft_tree.specs.Resolved.{resolved_of}
use Rattle.loft_tree.specs.View.{source_of}
use Rattle.loft_numbers.specs.Numbers.{numbered}
use Rattle.loft_sense.specs.Machine.{Tree}
use Rattle.loft_refusal.specs.declared.refusal.Stopped.{Stopped}
use Rattle.loft_commands.specs.declared.code_run.RunError.{RunError}
use Rattle.loft_commands.specs.RunStops.{stop_of_run}
use Rattle.loft_arguments.specs.Command.{Run}
use Rattle.loft_refusal.specs.Input.{ASource}
use Rattle.loft_commands.specs.Promise.{IsReport, IsAnswerFor}
use Rattle.loft_commands.proofs.Doing.{failed_does, run_stops, run_blamed}
use Rattle.loft_commands.proofs.Written.{part_of, room_of}
use Rattle.loft_commands.proofs.command.run.Goals as goal

pub returns-in_err-run_program-clause-does : goal.returns-in_err-run_program-clause-does
returns-in_err-run_program-clause-does g c = λ file.
    let e = c.in_err-run_program.field-0.0 in
    let p = err_from_is_err_and c.from_residual-in_err-run_program.result c.from_residual-in_err-run_program.ensures.1 in
    let is : c.from_residual-in_err-run_program.result ≡ Err (stop_of_run e) = p.1 ∙ ap (λ (s : Stopped). Err s) p.2 in
    let n = program_of c.in_ok-placed.placed in
    let same : n ≡ numbered (source_of c.args.program) = c.in_ok-placed.ensures.program in
    let o = c.args.options.now in
    failed_does (run_stops e c.from_residual-in_err-run_program.result is)
    (part_of (IsReport (Tree (resolved_of n)) o) (IsAnswerFor (Run file o) (ASource (source_of c.args.program)))
    (λ text holds. (c.in_ok-placed.ensures.well, subst (λ (m : NamedProgram). IsReport (Tree (resolved_of m)) o text) same holds))
    c.in_err-run_program.ensures.failed)
    (λ s. room_of (IsReport (Tree (resolved_of n)) o) (IsAnswerFor (Run file o) (ASource (source_of c.args.program)))
    (λ text holds. (c.in_ok-placed.ensures.well, subst (λ (m : NamedProgram). IsReport (Tree (resolved_of m)) o text) same holds))
    (c.in_err-run_program.ensures.no_room (ap (λ (d : RunError). Err d) (run_blamed e c.from_residual-in_err-run_program.result is s))))
    c.in_err-run_program.ensures.by_lines
