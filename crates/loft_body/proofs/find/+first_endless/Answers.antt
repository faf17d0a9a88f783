use Rattle.std.specs.Prelude.{is_none, ◌||◌, is_some}
use Rattle.std.proofs.Common.{◌≡◌, ◌+◌, ℕ, Bool, List, ◌∷◌, Option, Some, drop, drop-cons, add-one, refl, sym, ap, subst, ◌∙◌}
use Rattle.loft_tree.specs.declared.named.NamedStmt.{NamedStmt}
use Rattle.loft_tree.specs.NamedTree.{NamedStatement, If, While, Repeat}
use Rattle.loft_tree.specs.NamedView.{term_of, statement_of, statements_of}
use Rattle.loft_tree.specs.Resolved.{exp_of, body_of}
use Rattle.loft_tree.proofs.NamedTrees.{named_if, named_while, named_repeat}
use Rattle.loft_budget.specs.Steps.{literal, body_steps}
use Rattle.loft_body.specs.Capped.{entry}
use Rattle.loft_budget.specs.Verdicts.{endless_if, endless_of, endless_in}
use Rattle.loft_body.specs.First.{first_of}
use Rattle.loft_body.proofs.Finds.{found_word, passed_words}
use Rattle.loft_body.proofs.find.+first_endless.Goals as goal

pub first_endless-returns-in-Some : goal.first_endless-returns-in-Some
first_endless-returns-in-Some t c =
    let of = entry c.args.table.now in
    let body = c.args.body.now in
    let i = c.loop-statement.statement-index in
    let first = c.statement-item.result in
    let split : drop i body ≡ first ∷ drop (i + 1) body = drop-cons body i first c.loop-statement-test.true ∙ rw (← c.statement-item.is, add-one) refl in
    found_word (endless_of of (statement_of first)) (endless_in of (statements_of (drop (i + 1) body))) c.first_endless_of.result (first_of (endless_in of (statements_of body))) c.in-Some.at c.first_endless_of.ensures c.in-Some.is
    (sym (ap (λ (l : List NamedStmt). first_of (endless_in of (statements_of l))) split) ∙ c.loop-statement.invariant)

pub first_endless-loop-statement-preserved : goal.first_endless-loop-statement-preserved
first_endless-loop-statement-preserved t c =
    let of = entry c.args.table.now in
    let body = c.args.body.now in
    let i = c.loop-statement.statement-index in
    let first = c.statement-item.result in
    let split : drop i body ≡ first ∷ drop (i + 1) body = drop-cons body i first c.loop-statement-test.true ∙ rw (← c.statement-item.is, add-one) refl in
    passed_words (endless_of of (statement_of first)) (endless_in of (statements_of (drop (i + 1) body))) c.first_endless_of.result (first_of (endless_in of (statements_of body))) c.first_endless_of.ensures c.in-None.is
    (sym (ap (λ (l : List NamedStmt). first_of (endless_in of (statements_of l))) split) ∙ c.loop-statement.invariant)

pub first_endless_of-returns-in-Some : goal.first_endless_of-returns-in-Some
first_endless_of-returns-in-Some t c =
    let of = entry c.args.table.now in
    let i = c.in-If in
    let is : statement_of c.args.statement.now ≡ If i.at (term_of i.test) (statements_of i.first.items) (statements_of i.second.items) = ap statement_of i.is ∙ named_if i.at i.test i.first i.second in
    subst (λ (s : NamedStatement). ◌≡◌ {A = Option ℕ} (Some c.in-Some.at) (first_of (endless_of of s))) (sym is)
    (found_word (endless_in of (statements_of i.first.items)) (endless_in of (statements_of i.second.items)) c.first_endless.result _ c.in-Some.at
    (c.first_endless.ensures ∙ ap (λ (l : List NamedStmt). first_of (endless_in of (statements_of l))) c.as_slice.ensures.value) c.in-Some.is refl)

pub first_endless_of-returns-in-None : goal.first_endless_of-returns-in-None
first_endless_of-returns-in-None t c =
    let of = entry c.args.table.now in
    let i = c.in-If in
    let is : statement_of c.args.statement.now ≡ If i.at (term_of i.test) (statements_of i.first.items) (statements_of i.second.items) = ap statement_of i.is ∙ named_if i.at i.test i.first i.second in
    subst (λ (s : NamedStatement). c.first_endless-in-None.result ≡ first_of (endless_of of s)) (sym is)
    (c.first_endless-in-None.ensures ∙ ap (λ (l : List NamedStmt). first_of (endless_in of (statements_of l))) c.as_slice-in-None.ensures.value
    ∙ passed_words (endless_in of (statements_of i.first.items)) (endless_in of (statements_of i.second.items)) c.first_endless.result _
    (c.first_endless.ensures ∙ ap (λ (l : List NamedStmt). first_of (endless_in of (statements_of l))) c.as_slice.ensures.value) c.in-None.is refl)

pub first_endless_of-returns-in-Some-first_endless : goal.first_endless_of-returns-in-Some-first_endless
first_endless_of-returns-in-Some-first_endless t c =
    let of = entry c.args.table.now in
    let i = c.in-While in
    let body = statements_of i.body.items in
    let is : statement_of c.args.statement.now ≡ While i.at (term_of i.test) body = ap statement_of i.is ∙ named_while i.at i.test i.body in
    subst (λ (s : NamedStatement). ◌≡◌ {A = Option ℕ} (Some c.in-Some-first_endless.inner) (first_of (endless_of of s))) (sym is)
    (found_word (endless_in of body) (endless_if (is_none (body_steps of (body_of body)).through) i.at) c.first_endless-in-While.result _ c.in-Some-first_endless.inner
    (c.first_endless-in-While.ensures ∙ ap (λ (l : List NamedStmt). first_of (endless_in of (statements_of l))) c.as_slice-in-While.ensures.value) c.in-Some-first_endless.is refl)

pub first_endless_of-returns-in-None-first_endless : goal.first_endless_of-returns-in-None-first_endless
first_endless_of-returns-in-None-first_endless t c =
    let of = entry c.args.table.now in
    let i = c.in-While in
    let body = statements_of i.body.items in
    let is : statement_of c.args.statement.now ≡ While i.at (term_of i.test) body = ap statement_of i.is ∙ named_while i.at i.test i.body in
    let ends : c.is_sure.result ≡ is_none (body_steps of (body_of body)).through =
    c.is_sure.ensures ∙ ap (λ (l : List NamedStmt). is_none (body_steps of (body_of (statements_of l))).through) c.as_slice-in-None-first_endless.ensures.value in
    subst (λ (s : NamedStatement). c.endless_at.result ≡ first_of (endless_of of s)) (sym is)
    (c.endless_at.ensures ∙ ap (λ (b : Bool). first_of (endless_if b i.at)) ends
    ∙ passed_words (endless_in of body) (endless_if (is_none (body_steps of (body_of body)).through) i.at) c.first_endless-in-While.result _
    (c.first_endless-in-While.ensures ∙ ap (λ (l : List NamedStmt). first_of (endless_in of (statements_of l))) c.as_slice-in-While.ensures.value) c.in-None-first_endless.is refl)

pub first_endless_of-returns-in-Some-first_endless-2 : goal.first_endless_of-returns-in-Some-first_endless-2
first_endless_of-returns-in-Some-first_endless-2 t c =
    let of = entry c.args.table.now in
    let i = c.in-Repeat in
    let body = statements_of i.body.items in
    let is : statement_of c.args.statement.now ≡ Repeat i.at (term_of i.count) body = ap statement_of i.is ∙ named_repeat i.at i.count i.body in
    subst (λ (s : NamedStatement). ◌≡◌ {A = Option ℕ} (Some c.in-Some-first_endless-2.inner) (first_of (endless_of of s))) (sym is)
    (found_word (endless_in of body) (endless_if (is_none (body_steps of (body_of body)).through || is_some (literal (exp_of (term_of i.count)))) i.at) c.first_endless-in-Repeat.result _ c.in-Some-first_endless-2.inner
    (c.first_endless-in-Repeat.ensures ∙ ap (λ (l : List NamedStmt). first_of (endless_in of (statements_of l))) c.as_slice-in-Repeat.ensures.value) c.in-Some-first_endless-2.is refl)

pub first_endless_of-returns-in-None-first_endless-2 : goal.first_endless_of-returns-in-None-first_endless-2
first_endless_of-returns-in-None-first_endless-2 t c =
    let of = entry c.args.table.now in
    let i = c.in-Repeat in
    let body = statements_of i.body.items in
    let bare = is_some (literal (exp_of (term_of i.count))) in
    let is : statement_of c.args.statement.now ≡ Repeat i.at (term_of i.count) body = ap statement_of i.is ∙ named_repeat i.at i.count i.body in
    let ends : c.repeat_ends.result ≡ (is_none (body_steps of (body_of body)).through || bare) =
    c.repeat_ends.ensures ∙ ap (λ (l : List NamedStmt). is_none (body_steps of (body_of (statements_of l))).through || bare) c.as_slice-in-None-first_endless-2.ensures.value in
    subst (λ (s : NamedStatement). c.endless_at-in-None-first_endless-2.result ≡ first_of (endless_of of s)) (sym is)
    (c.endless_at-in-None-first_endless-2.ensures ∙ ap (λ (b : Bool). first_of (endless_if b i.at)) ends
    ∙ passed_words (endless_in of body) (endless_if (is_none (body_steps of (body_of body)).through || bare) i.at) c.first_endless-in-Repeat.result _
    (c.first_endless-in-Repeat.ensures ∙ ap (λ (l : List NamedStmt). first_of (endless_in of (statements_of l))) c.as_slice-in-Repeat.ensures.value) c.in-None-first_endless-2.is refl)
