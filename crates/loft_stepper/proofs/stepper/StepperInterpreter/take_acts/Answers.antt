use Rattle.std.proofs.Common.{◌≡◌, List, ◌∷◌, ◌++◌, ap, sym, ◌∙◌}
use Rattle.loft_tree.specs.declared.heads.Place.TheVariants.{Unlinked}
use Rattle.loft_code.specs.Operations.{Automata}
use Rattle.loft_code.specs.View.{automata_of}
use Rattle.loft_orders.specs.declared.note.Act.{Act}
use Rattle.loft_sense.specs.Code.{code}
use Rattle.loft_sense.specs.Run.{Outcome}
use Rattle.loft_sense.specs.Instant.{sent_by}
use Rattle.loft_sense.specs.Async.{block_sent}
use Rattle.loft_effect.specs.View.{beside_of, steps_left}
use Rattle.loft_step.specs.declared.midst.Paused.{Paused}
use Rattle.loft_step.specs.Frames.{active, actives}
use Rattle.loft_step.specs.Midst.{acts_of, paused_outcome, outcome_without_acts}
use Rattle.loft_block.proofs.Preceding.{sends_apart}
use Rattle.loft_stepper.proofs.stepper.StepperInterpreter.take_acts.Goals as goal

-- what a run sends is what its acts send, and then what it sends without them
apart : (c : Automata) (run : Paused) → block_sent (paused_outcome c run) ≡ sent_by Unlinked (acts_of run) ++ block_sent (outcome_without_acts c run)
apart c run = sends_apart (code c) (steps_left run.beside.around) (beside_of run.beside) (active run.stack.top ∷ actives c run.stack.outer)

-- the same of acts that were taken out
taken : (c : Automata) (run rest : Paused) (acts : List Act) → acts ≡ acts_of run → paused_outcome c rest ≡ outcome_without_acts c run → block_sent (paused_outcome c run) ≡ sent_by Unlinked acts ++ block_sent (paused_outcome c rest)
taken c run rest acts are_all forgot =
    apart c run
    ∙ ap (λ (o : Outcome). sent_by Unlinked (acts_of run) ++ block_sent o) (sym forgot)
    ∙ ap (λ (l : List Act). sent_by Unlinked l ++ block_sent (paused_outcome c rest)) (sym are_all)

pub returns-clause-sent : goal.returns-clause-sent
returns-clause-sent c =
    let x = automata_of c.args.self.now.code.now in
    taken x c.args.run.now c.take_acts.new.self c.take_acts.result c.take_acts.ensures.acts (c.take_acts.ensures.outcome x)
