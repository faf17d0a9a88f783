use Rattle.std.proofs.Common.{refl, sym, subst}
use Rattle.loft_tree.specs.ProgramView.{program_of}
use Rattle.loft_tree.specs.Resolved.{resolved_of}
use Rattle.loft_code.specs.Operations.{Automata}
use Rattle.loft_code.specs.View.{automata_of}
use Rattle.loft_sense.specs.Machine.{Tree, Code}
use Rattle.loft_commands.specs.Promise.{IsReport}
use Rattle.loft_commands.proofs.Reported.{ToldAlike, report_told}
use Rattle.loft_commands.proofs.Written.{whole_of, part_of, room_of, on_ok, on_err}
use Rattle.loft_commands.proofs.command.run_program.Goals as goal

pub returns-clause-report : goal.returns-clause-report
returns-clause-report g c =
    let n = program_of c.args.placed.now in
    let o = c.args.options.now in
    let fits = c.program.ensures.fits in
    let placed = c.program.ensures.placed in
    let law = c.compiled_code_has_the_same_histories.ensures in
    let alike : ToldAlike (Tree (resolved_of n)) (Code (automata_of c.in_ok-code.code)) = subst (λ (a : Automata). ToldAlike (Tree (resolved_of n)) (Code a)) (sym c.in_ok-code.ensures)
    (record { declared = refl; histories = law.histories n fits placed; legal = law.legal n fits placed; ended = law.ended n fits placed; reports = law.reports n fits placed }) in
    on_ok c.run_code.result c.run_code.ensures.report
    (whole_of (IsReport (Code (automata_of c.in_ok-code.code)) o) (IsReport (Tree (resolved_of n)) o) (λ text is. report_told (Tree (resolved_of n)) (Code (automata_of c.in_ok-code.code)) o text alike is))

pub returns-clause-failed : goal.returns-clause-failed
returns-clause-failed g c =
    let n = program_of c.args.placed.now in
    let o = c.args.options.now in
    let fits = c.program.ensures.fits in
    let placed = c.program.ensures.placed in
    let law = c.compiled_code_has_the_same_histories.ensures in
    let alike : ToldAlike (Tree (resolved_of n)) (Code (automata_of c.in_ok-code.code)) = subst (λ (a : Automata). ToldAlike (Tree (resolved_of n)) (Code a)) (sym c.in_ok-code.ensures)
    (record { declared = refl; histories = law.histories n fits placed; legal = law.legal n fits placed; ended = law.ended n fits placed; reports = law.reports n fits placed }) in
    on_err c.run_code.result c.run_code.ensures.failed
    (part_of (IsReport (Code (automata_of c.in_ok-code.code)) o) (IsReport (Tree (resolved_of n)) o) (λ text is. report_told (Tree (resolved_of n)) (Code (automata_of c.in_ok-code.code)) o text alike is))

pub returns-clause-no_room : goal.returns-clause-no_room
returns-clause-no_room g c = λ e.
    let n = program_of c.args.placed.now in
    let o = c.args.options.now in
    let fits = c.program.ensures.fits in
    let placed = c.program.ensures.placed in
    let law = c.compiled_code_has_the_same_histories.ensures in
    let alike : ToldAlike (Tree (resolved_of n)) (Code (automata_of c.in_ok-code.code)) = subst (λ (a : Automata). ToldAlike (Tree (resolved_of n)) (Code a)) (sym c.in_ok-code.ensures)
    (record { declared = refl; histories = law.histories n fits placed; legal = law.legal n fits placed; ended = law.ended n fits placed; reports = law.reports n fits placed }) in
    room_of (IsReport (Code (automata_of c.in_ok-code.code)) o) (IsReport (Tree (resolved_of n)) o) (λ text is. report_told (Tree (resolved_of n)) (Code (automata_of c.in_ok-code.code)) o text alike is)
    (c.run_code.ensures.no_room e)
