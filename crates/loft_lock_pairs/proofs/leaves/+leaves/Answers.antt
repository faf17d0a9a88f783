use Rattle.std.proofs.Common.{◌≡◌, ◌+◌, [], List, drop, sym, ap, subst, ◌∙◌}
use Rattle.std.proofs.lemmas.List.{drop_all}
use Rattle.loft_tree.specs.declared.named.NamedStmt.{NamedStmt}
use Rattle.loft_tree.specs.NamedView.{statements_of}
use Rattle.loft_lock_forms.specs.Seen.{marks_seen, names_seen}
use Rattle.loft_locks.specs.Outline.{outline, leave_fault}
use Rattle.loft_lock_pairs.specs.Leaving.{marked_in}
use Rattle.loft_lock_pairs.proofs.FaultLemmas.{item_first, go_on, stop_at}
use Rattle.loft_lock_pairs.proofs.leaves.+leaves.Goals as goal

pub left_in-returns-then-is_some-clause-before : goal.left_in-returns-then-is_some-clause-before
left_in-returns-then-is_some-clause-before t c w = c.loop-statement.invariant.before (c.left_at-fault.ensures.before w)

pub left_in-returns-then-is_some-clause-fault : goal.left_in-returns-then-is_some-clause-fault
left_in-returns-then-is_some-clause-fault t c w =
    let ms = marks_seen c.args.marks.now in
    let away = marked_in c.args.away.now in
    let rest = drop (c.loop-statement.statement-index + 1) c.args.body.now in
    let split = item_first c.args.body.now c.loop-statement.statement-index c.statement-item.result c.loop-statement-test.true c.statement-item.is in
    stop_at c.left_at-fault.result _ _ _ (sym c.is_some.ensures ∙ c.if-is_some.true) (c.left_at-fault.ensures.fault w (outline ms away (statements_of rest)))
    (ap (λ (ss : List NamedStmt). leave_fault (names_seen c.args.outer.now) (names_seen c.loop-statement.own.items) (outline ms away (statements_of ss))) (sym split)
    ∙ c.loop-statement.invariant.fault (c.left_at-fault.ensures.before w))

pub left_in-loop-statement-preserved : goal.left_in-loop-statement-preserved
left_in-loop-statement-preserved t c =
    let ms = marks_seen c.args.marks.now in
    let away = marked_in c.args.away.now in
    let rest = drop (c.loop-statement.statement-index + 1) c.args.body.now in
    let split = item_first c.args.body.now c.loop-statement.statement-index c.statement-item.result c.loop-statement-test.true c.statement-item.is in
    record {
      before = λ w. c.loop-statement.invariant.before (c.left_at-fault.ensures.before w);
      fault = λ w. go_on c.left_at-fault.result _ _ _ (sym c.is_some.ensures ∙ c.if-is_some.false) (c.left_at-fault.ensures.fault w (outline ms away (statements_of rest)))
          (ap (λ (ss : List NamedStmt). leave_fault (names_seen c.args.outer.now) (names_seen c.loop-statement.own.items) (outline ms away (statements_of ss))) (sym split)
          ∙ c.loop-statement.invariant.fault (c.left_at-fault.ensures.before w));
    }

pub left_in-returns-clause-fault : goal.left_in-returns-clause-fault
left_in-returns-clause-fault t c w =
    subst (λ (ss : List NamedStmt). leave_fault (names_seen c.args.outer.now) (names_seen c.loop-statement.own.items) (outline (marks_seen c.args.marks.now) (marked_in c.args.away.now) (statements_of ss))
    ≡ leave_fault (names_seen c.args.outer.now) [] (outline (marks_seen c.args.marks.now) (marked_in c.args.away.now) (statements_of c.args.body.now)))
    (drop_all c.loop-statement.statement-index c.args.body.now c.loop-statement-test.false) (c.loop-statement.invariant.fault w)
