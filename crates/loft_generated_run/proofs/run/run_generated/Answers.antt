use Rattle.std.proofs.Common.{map, refl, ◌∙◌, subst}
use Rattle.loft_tree.specs.ProgramView.{program_of}
use Rattle.loft_tree.specs.NamedTree.{NamedProgram}
use Rattle.loft_tree.specs.Resolved.{Resolved, resolved_of}
use Rattle.loft_code.specs.Operations.{Automata}
use Rattle.loft_sense.specs.Machine.{Tree, Code}
use Rattle.loft_history.specs.History.{choice_of}
use Rattle.loft_translation.specs.Compiled.{compiled}
use Rattle.loft_soundness.specs.WellFormed.{IsPlacedTree}
use Rattle.loft_course.specs.Running.{IsWholeRun}
use Rattle.loft_world.specs.Replay.{IsReplayOf}
use Rattle.loft_generated_run.specs.Summary.{IsRunBy, run_options}
use Rattle.loft_generated_run.proofs.Runs.{if_ok, replay_told}
use Rattle.loft_generated_run.proofs.run.run_generated.Goals as goal

-- a run of the code is one of the program
pub returns-clause-run : goal.returns-clause-run
returns-clause-run g c =
    let n : NamedProgram = program_of c.in_ok-placed.placed in
    let fits = c.program.ensures.fits in
    let placed = c.program.ensures.placed in
    let law = c.compiled_code_has_the_same_histories.ensures in
    let made = c.made_histories_are_legal.ensures in
    if_ok c.run_whole.result (λ run whole.
    let code : IsWholeRun (Code (compiled (resolved_of n))) run_options run = subst (λ (a : Automata). IsWholeRun (Code a) run_options run) c.in_ok-code.ensures whole in
    let is = law.histories n fits placed run_options (map choice_of run.world.history) ∙ code.history in
    let legal = made.legal (Tree (resolved_of n)) run_options (map choice_of run.world.history) run.world.history is in
    let callers = made.callers (Tree (resolved_of n)) run_options (map choice_of run.world.history) run.world.history is in
    let ended = (law.ended n fits placed run_options run.world.history legal).1 code.ended in
    subst (λ (p : Resolved). IsRunBy (Tree p) run.world.history) c.in_ok-placed.ensures
    (record { callers = callers; legal = legal; ended = ended }))
    c.run_whole.ensures

pub returns-clause-replay : goal.returns-clause-replay
returns-clause-replay g c =
    let n : NamedProgram = program_of c.in_ok-placed.placed in
    let fits = c.program.ensures.fits in
    let placed = c.program.ensures.placed in
    let law = c.compiled_code_has_the_same_histories.ensures in
    let made = c.made_histories_are_legal.ensures in
    let agree = c.programs_that_run_alike_agree.ensures in
    let well : IsPlacedTree (resolved_of n) = record { source = n; names = fits; links = placed; same = refl } in
    let alike = law.alike n fits placed in
    if_ok c.run_whole.result (λ run whole.
    let code : IsWholeRun (Code (compiled (resolved_of n))) run_options run = subst (λ (a : Automata). IsWholeRun (Code a) run_options run) c.in_ok-code.ensures whole in
    let is = law.histories n fits placed run_options (map choice_of run.world.history) ∙ code.history in
    let legal = made.legal (Tree (resolved_of n)) run_options (map choice_of run.world.history) run.world.history is in
    subst (λ (p : Resolved). IsReplayOf (Tree p) run_options.limits run.world.history run.notes.of run.finals.of) c.in_ok-placed.ensures
    (replay_told (Tree (resolved_of n)) (Code (compiled (resolved_of n))) run_options run.world.history run.notes.of run.finals.of refl
    (agree.replays (Tree (resolved_of n)) (Code (compiled (resolved_of n))) well alike run_options run.world.history legal) code.replay))
    c.run_whole.ensures
