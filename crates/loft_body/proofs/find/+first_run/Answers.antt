use Rattle.std.proofs.Common.{◌≡◌, ◌+◌, ℕ, List, ◌∷◌, Option, Some, drop, drop-cons, add-one, refl, sym, ap, subst, ◌∙◌}
use Rattle.loft_tree.specs.declared.named.NamedStmt.{NamedStmt}
use Rattle.loft_tree.specs.NamedTree.{NamedStatement, If}
use Rattle.loft_tree.specs.NamedView.{term_of, statement_of, statements_of}
use Rattle.loft_tree.proofs.NamedTrees.{named_if}
use Rattle.loft_budget.specs.Verdicts.{runs_of, runs_in}
use Rattle.loft_body.specs.First.{has_mark, first_marked}
use Rattle.loft_body.proofs.Finds.{found, passed}
use Rattle.loft_body.proofs.find.+first_run.Goals as goal

pub first_run-returns-in-Some : goal.first_run-returns-in-Some
first_run-returns-in-Some t c =
    let hit = has_mark c.args.marks.now c.args.wanted c.args.also in
    let body = c.args.body.now in
    let i = c.loop-statement.statement-index in
    let first = c.statement-item.result in
    let split : drop i body ≡ first ∷ drop (i + 1) body = drop-cons body i first c.loop-statement-test.true ∙ rw (← c.statement-item.is, add-one) refl in
    found hit (runs_of (statement_of first)) (runs_in (statements_of (drop (i + 1) body))) c.first_run_of.result (first_marked hit (runs_in (statements_of body))) c.in-Some.at c.first_run_of.ensures c.in-Some.is
    (sym (ap (λ (l : List NamedStmt). first_marked hit (runs_in (statements_of l))) split) ∙ c.loop-statement.invariant)

pub first_run-loop-statement-preserved : goal.first_run-loop-statement-preserved
first_run-loop-statement-preserved t c =
    let hit = has_mark c.args.marks.now c.args.wanted c.args.also in
    let body = c.args.body.now in
    let i = c.loop-statement.statement-index in
    let first = c.statement-item.result in
    let split : drop i body ≡ first ∷ drop (i + 1) body = drop-cons body i first c.loop-statement-test.true ∙ rw (← c.statement-item.is, add-one) refl in
    passed hit (runs_of (statement_of first)) (runs_in (statements_of (drop (i + 1) body))) c.first_run_of.result (first_marked hit (runs_in (statements_of body))) c.first_run_of.ensures c.in-None.is
    (sym (ap (λ (l : List NamedStmt). first_marked hit (runs_in (statements_of l))) split) ∙ c.loop-statement.invariant)

pub first_run_of-returns-in-Some : goal.first_run_of-returns-in-Some
first_run_of-returns-in-Some t c =
    let hit = has_mark c.args.marks.now c.args.wanted c.args.also in
    let i = c.in-If in
    let is : statement_of c.args.statement.now ≡ If i.at (term_of i.test) (statements_of i.first.items) (statements_of i.second.items) = ap statement_of i.is ∙ named_if i.at i.test i.first i.second in
    subst (λ (s : NamedStatement). ◌≡◌ {A = Option ℕ} (Some c.in-Some.at) (first_marked hit (runs_of s))) (sym is)
    (found hit (runs_in (statements_of i.first.items)) (runs_in (statements_of i.second.items)) c.first_run.result _ c.in-Some.at
    (c.first_run.ensures ∙ ap (λ (l : List NamedStmt). first_marked hit (runs_in (statements_of l))) c.as_slice.ensures.value) c.in-Some.is refl)

pub first_run_of-returns-in-None : goal.first_run_of-returns-in-None
first_run_of-returns-in-None t c =
    let hit = has_mark c.args.marks.now c.args.wanted c.args.also in
    let i = c.in-If in
    let is : statement_of c.args.statement.now ≡ If i.at (term_of i.test) (statements_of i.first.items) (statements_of i.second.items) = ap statement_of i.is ∙ named_if i.at i.test i.first i.second in
    subst (λ (s : NamedStatement). c.first_run-in-None.result ≡ first_marked hit (runs_of s)) (sym is)
    (c.first_run-in-None.ensures ∙ ap (λ (l : List NamedStmt). first_marked hit (runs_in (statements_of l))) c.as_slice-in-None.ensures.value
    ∙ passed hit (runs_in (statements_of i.first.items)) (runs_in (statements_of i.second.items)) c.first_run.result _
    (c.first_run.ensures ∙ ap (λ (l : List NamedStmt). first_marked hit (runs_in (statements_of l))) c.as_slice.ensures.value) c.in-None.is refl)
