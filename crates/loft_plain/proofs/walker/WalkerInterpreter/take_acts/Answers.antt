use Rattle.std.proofs.Common.{◌≡◌, List, ◌++◌, ap, sym, ◌∙◌}
use Rattle.loft_tree.specs.declared.heads.Place.TheVariants.{Unlinked}
use Rattle.loft_tree.specs.ProgramView.{program_of}
use Rattle.loft_tree.specs.Resolved.{Resolved, resolved_of}
use Rattle.loft_orders.specs.declared.note.Act.{Act}
use Rattle.loft_sense.specs.Tree.{tree}
use Rattle.loft_sense.specs.Run.{Outcome}
use Rattle.loft_sense.specs.Instant.{sent_by}
use Rattle.loft_sense.specs.Async.{block_sent}
use Rattle.loft_effect.specs.View.{beside_of, steps_left}
use Rattle.loft_walk.specs.declared.paused.Paused.{Paused}
use Rattle.loft_walk.specs.Frames.{actives}
use Rattle.loft_walk.specs.Midst.{acts_of, paused_outcome, outcome_without_acts}
use Rattle.loft_block.proofs.Preceding.{sends_apart}
use Rattle.loft_plain.proofs.walker.WalkerInterpreter.take_acts.Goals as goal

-- what a run sends is what its acts send, and then what it sends without them
apart : (p : Resolved) (run : Paused) → block_sent (paused_outcome p run) ≡ sent_by Unlinked (acts_of run) ++ block_sent (outcome_without_acts p run)
apart p run = sends_apart (tree p) (steps_left run.beside.around) (beside_of run.beside) (actives run.running.items)

-- the same of acts that were taken out
taken : (p : Resolved) (run rest : Paused) (acts : List Act) → acts ≡ acts_of run → paused_outcome p rest ≡ outcome_without_acts p run → block_sent (paused_outcome p run) ≡ sent_by Unlinked acts ++ block_sent (paused_outcome p rest)
taken p run rest acts are_all forgot =
    apart p run
    ∙ ap (λ (o : Outcome). sent_by Unlinked (acts_of run) ++ block_sent o) (sym forgot)
    ∙ ap (λ (l : List Act). sent_by Unlinked l ++ block_sent (paused_outcome p rest)) (sym are_all)

pub returns-clause-sent : goal.returns-clause-sent
returns-clause-sent c =
    let x = resolved_of (program_of c.args.self.now.placed.now) in
    taken x c.args.run.now c.take_acts.new.self c.take_acts.result c.take_acts.ensures.acts (c.take_acts.ensures.outcome x)
