use Rattle.std.proofs.Common.{◌≡◌, List, Bool, false, Some, None, sym, ap, ◌∙◌}
use Rattle.loft_tree.specs.NamedView.{statements_of}
use Rattle.loft_body.specs.Capped.{entry}
use Rattle.loft_budget.specs.Verdicts.{runs_in}
use Rattle.loft_body.specs.First.{has_mark, first_marked}
use Rattle.loft_bound.specs.Found.{bounded_marks}
use Rattle.loft_bound.proofs.Rounds.{all_bounded, some_unbounded, none_endless, some_endless, has_steps, runs_unbounded, loops_endless, too_large}
use Rattle.loft_bound.proofs.bounded.bounded.Goals as goal

pub returns-in-Some-clause-steps : goal.returns-in-Some-clause-steps
returns-in-Some-clause-steps c =
    let table = c.args.table.now in
    let b = statements_of c.args.body.now in
    let first : first_marked (has_mark (bounded_marks table) false None) (runs_in b) ≡ Some c.in-Some.field-0 =
    sym (c.first_run.ensures ∙ ap (λ (marks : List Bool). first_marked (has_mark marks false None) (runs_in b)) c.requires.marks) ∙ c.in-Some.is in
    runs_unbounded (entry table) b (some_unbounded table b c.in-Some.field-0 first)

pub returns-in-Some-first_endless-clause-steps : goal.returns-in-Some-first_endless-clause-steps
returns-in-Some-first_endless-clause-steps c =
    let b = statements_of c.args.body.now in
    loops_endless (entry c.args.table.now) b (some_endless (entry c.args.table.now) b c.in-Some-first_endless.field-0 (sym c.first_endless.ensures ∙ c.in-Some-first_endless.is))

pub returns-then-bound_of-le-MOST_BOUND-clause-steps : goal.returns-then-bound_of-le-MOST_BOUND-clause-steps
returns-then-bound_of-le-MOST_BOUND-clause-steps c =
    let table = c.args.table.now in
    let b = statements_of c.args.body.now in
    let none : first_marked (has_mark (bounded_marks table) false None) (runs_in b) ≡ None =
    sym (c.first_run.ensures ∙ ap (λ (marks : List Bool). first_marked (has_mark marks false None) (runs_in b)) c.requires.marks) ∙ c.in-None.is in
    has_steps (entry table) b c.body_steps-steps.result (all_bounded table b none) (none_endless (entry table) b (sym c.first_endless.ensures ∙ c.in-None-first_endless.is)) c.body_steps-steps.ensures.steps
    (rw (← c.bound_of.ensures) c.if-bound_of-le-MOST_BOUND.true)

pub returns-else-bound_of-le-MOST_BOUND-clause-steps : goal.returns-else-bound_of-le-MOST_BOUND-clause-steps
returns-else-bound_of-le-MOST_BOUND-clause-steps c =
    too_large (entry c.args.table.now) (statements_of c.args.body.now) c.body_steps-steps.result c.body_steps-steps.ensures.steps (rw (← c.bound_of.ensures) c.if-bound_of-le-MOST_BOUND.false)
