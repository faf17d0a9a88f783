use Rattle.std.proofs.Common.{◌≡◌, ◌+◌, List, ◌∷◌, drop, drop-cons, add-one, refl, sym, ap, subst, ◌∙◌}
use Rattle.loft_tree.specs.declared.named.NamedStmt.{NamedStmt}
use Rattle.loft_tree.specs.NamedTree.{NamedStatement, If, While, Repeat}
use Rattle.loft_tree.specs.NamedView.{term_of, statement_of, statements_of}
use Rattle.loft_tree.specs.Resolved.{exp_of, step_of, body_of}
use Rattle.loft_tree.proofs.NamedTrees.{named_if, named_while, named_repeat}
use Rattle.loft_budget.specs.declared.steps.Steps.{Steps}
use Rattle.loft_budget.specs.Steps.{literal, followed, step_steps, body_steps}
use Rattle.loft_body.specs.Capped.{capped_steps, entry}
use Rattle.loft_body.proofs.Caps.{counted_on, if_counted, while_counted, repeat_counted}
use Rattle.loft_body.proofs.walk.+steps.Goals as goal

pub body_steps-loop-statement-preserved : goal.body_steps-loop-statement-preserved
body_steps-loop-statement-preserved t c =
    let of = entry c.args.table.now in
    let body = c.args.body.now in
    let i = c.loop-statement.statement-index in
    let first = c.statement-item.result in
    let split : drop i body ≡ first ∷ drop (i + 1) body = drop-cons body i first c.loop-statement-test.true ∙ rw (← c.statement-item.is, add-one) refl in
    let done = c.loop-statement.steps in
    let whole = body_steps of (body_of (statements_of body)) in
    let left : capped_steps (followed done (body_steps of (body_of (statements_of (first ∷ drop (i + 1) body))))) ≡ capped_steps whole =
    subst (λ (l : List NamedStmt). capped_steps (followed done (body_steps of (body_of (statements_of l)))) ≡ capped_steps whole) split c.loop-statement.invariant.1 in (
      c.followed-steps.ensures.small,
      counted_on whole done c.followed-steps.result (step_steps of (step_of (statement_of first))) (body_steps of (body_of (statements_of (drop (i + 1) body)))) left
          (c.followed-steps.ensures.steps ∙ ap (λ (u : Steps). capped_steps (followed done u)) c.statement_steps.ensures.steps),
    )

pub statement_steps-returns-in-If-clause-steps : goal.statement_steps-returns-in-If-clause-steps
statement_steps-returns-in-If-clause-steps t c =
    let of = entry c.args.table.now in
    let i = c.in-If in
    let is : statement_of c.args.statement.now ≡ If i.at (term_of i.test) (statements_of i.first.items) (statements_of i.second.items) = ap statement_of i.is ∙ named_if i.at i.test i.first i.second in
    let x = body_steps of (body_of (statements_of i.first.items)) in
    let y = body_steps of (body_of (statements_of i.second.items)) in
    subst (λ (s : NamedStatement). c.one_more-in-If.result ≡ capped_steps (step_steps of (step_of s))) (sym is)
    (if_counted x y c.body_steps-yes.result c.body_steps-no.result c.one_more-in-If.result
    (c.body_steps-yes.ensures.steps ∙ ap (λ (l : List NamedStmt). capped_steps (body_steps of (body_of (statements_of l)))) c.as_slice.ensures.value)
    (c.body_steps-no.ensures.steps ∙ ap (λ (l : List NamedStmt). capped_steps (body_steps of (body_of (statements_of l)))) c.as_slice-in-If.ensures.value)
    c.either.result c.either.ensures.steps c.one_more-in-If.ensures.steps)

pub statement_steps-returns-in-While-clause-steps : goal.statement_steps-returns-in-While-clause-steps
statement_steps-returns-in-While-clause-steps t c =
    let of = entry c.args.table.now in
    let i = c.in-While in
    let is : statement_of c.args.statement.now ≡ While i.at (term_of i.test) (statements_of i.body.items) = ap statement_of i.is ∙ named_while i.at i.test i.body in
    subst (λ (s : NamedStatement). c.loop_counted.result ≡ capped_steps (step_steps of (step_of s))) (sym is)
    (while_counted (body_steps of (body_of (statements_of i.body.items))) c.body_steps.result c.loop_counted.result
    (c.body_steps.ensures.steps ∙ ap (λ (l : List NamedStmt). capped_steps (body_steps of (body_of (statements_of l)))) c.as_slice-in-While.ensures.value) c.loop_counted.ensures.steps)

pub statement_steps-returns-in-Repeat-clause-steps : goal.statement_steps-returns-in-Repeat-clause-steps
statement_steps-returns-in-Repeat-clause-steps t c =
    let of = entry c.args.table.now in
    let i = c.in-Repeat in
    let is : statement_of c.args.statement.now ≡ Repeat i.at (term_of i.count) (statements_of i.body.items) = ap statement_of i.is ∙ named_repeat i.at i.count i.body in
    subst (λ (s : NamedStatement). c.times_counted.result ≡ capped_steps (step_steps of (step_of s))) (sym is)
    (repeat_counted (literal (exp_of (term_of i.count))) c.bare_number.result (body_steps of (body_of (statements_of i.body.items))) c.body_steps-in-Repeat.result c.times_counted.result c.bare_number.ensures.number
    (c.body_steps-in-Repeat.ensures.steps ∙ ap (λ (l : List NamedStmt). capped_steps (body_steps of (body_of (statements_of l)))) c.as_slice-in-Repeat.ensures.value) c.times_counted.ensures.steps)
