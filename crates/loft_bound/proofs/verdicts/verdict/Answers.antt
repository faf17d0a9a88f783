use Rattle.std.proofs.Common.{List, Bool, false, None, sym, ap, ◌∙◌}
use Rattle.loft_tree.specs.NamedView.{statements_of}
use Rattle.loft_budget.specs.Verdicts.{runs_in}
use Rattle.loft_body.specs.First.{has_mark, first_marked}
use Rattle.loft_bound.proofs.Answered.{last_found, runs_found, endless_found}
use Rattle.loft_bound.proofs.verdicts.verdict.Goals as goal

pub returns-in-None-first_endless : goal.returns-in-None-first_endless
returns-in-None-first_endless c =
    let b = statements_of c.args.body.now in
    last_found c.args.table.now c.args.reaching.now c.args.m b c.last_verdict.result c.bound_of.result c.body_steps.result (sym c.first_run.ensures ∙ c.in-None.is)
    (sym (c.first_run-in-None.ensures ∙ ap (λ (marks : List Bool). first_marked (has_mark marks false None) (runs_in b)) c.requires.marks) ∙ c.in-None-first_run.is)
    (sym c.first_endless.ensures ∙ c.in-None-first_endless.is) c.body_steps.ensures.steps c.bound_of.ensures c.last_verdict.ensures

pub returns-in-Some-first_run : goal.returns-in-Some-first_run
returns-in-Some-first_run c =
    let b = statements_of c.args.body.now in
    runs_found c.args.table.now c.args.reaching.now c.args.m b c.in-Some-first_run.at (sym c.first_run.ensures ∙ c.in-None.is)
    (sym (c.first_run-in-None.ensures ∙ ap (λ (marks : List Bool). first_marked (has_mark marks false None) (runs_in b)) c.requires.marks) ∙ c.in-Some-first_run.is)

pub returns-in-Some-first_endless : goal.returns-in-Some-first_endless
returns-in-Some-first_endless c =
    let b = statements_of c.args.body.now in
    endless_found c.args.table.now c.args.reaching.now c.args.m b c.in-Some-first_endless.at (sym c.first_run.ensures ∙ c.in-None.is)
    (sym (c.first_run-in-None.ensures ∙ ap (λ (marks : List Bool). first_marked (has_mark marks false None) (runs_in b)) c.requires.marks) ∙ c.in-None-first_run.is)
    (sym c.first_endless.ensures ∙ c.in-Some-first_endless.is)
