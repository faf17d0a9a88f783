use Rattle.loft_generated_run.specs.Summary.{IsSummary}
use Rattle.loft_generated_run.proofs.Runs.{if_ok}
use Rattle.loft_generated_run.proofs.run.summary_of.Goals as goal

pub returns : goal.returns
returns g c =
    if_ok c.summary_text.result (λ text is.
    let summary : IsSummary c.args.k text.items = record {
      history = c.in_ok-run.run'.world.history;
      run = c.in_ok-run.ensures.run;
      notes = c.in_ok-run.run'.notes.of;
      finals = c.in_ok-run.run'.finals.of;
      replay = c.in_ok-run.ensures.replay;
      whole = is;
    } in
    summary)
    c.summary_text.ensures
