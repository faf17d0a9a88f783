use Rattle.std.proofs.Common.{◌≡◌, false, [], List, sym, ap, subst, ◌∙◌}
use Rattle.std.proofs.lemmas.List.{drop_all}
use Rattle.loft_tree.specs.declared.named.NamedStmt.{NamedStmt}
use Rattle.loft_tree.specs.NamedView.{statement_of, statements_of}
use Rattle.loft_sense.specs.Tree.{first_some}
use Rattle.loft_lock_forms.specs.Seen.{marks_seen, names_seen}
use Rattle.loft_locks.specs.Outline.{outline, part, pair_fault}
use Rattle.loft_lock_pairs.specs.Seen.{lock_seen}
use Rattle.loft_lock_pairs.proofs.FaultLemmas.{item_first, some_left, next_left, go_on, stop_at}
use Rattle.loft_lock_pairs.proofs.pairs.+pairs.Goals as goal

pub fault_in-split_at-requires : goal.fault_in-split_at-requires
fault_in-split_at-requires t c = some_left c.args.body.now c.loop-statement.rest.now c.loop-statement.statement-index c.loop-statement.invariant.left c.loop-statement-test.true

pub fault_in-returns-then-is_some-clause-before : goal.fault_in-returns-then-is_some-clause-before
fault_in-returns-then-is_some-clause-before t c w = c.loop-statement.invariant.before (c.fault_at-fault.ensures.before w)

pub fault_in-returns-then-is_some-clause-fault : goal.fault_in-returns-then-is_some-clause-fault
fault_in-returns-then-is_some-clause-fault t c w =
    let ms = marks_seen c.args.marks.now in
    let outer = names_seen c.args.outer.now in
    let own = names_seen c.loop-statement.own.items in
    let s = c.statement-item.result in
    let i = c.loop-statement.statement-index in
    let split = item_first c.args.body.now c.loop-statement.statement-index c.statement-item.result c.loop-statement-test.true c.statement-item.is in
    let after = next_left c.args.body.now c.loop-statement.rest.now c.split_at.result.1.now c.loop-statement.statement-index c.loop-statement.invariant.left c.split_at.ensures.back in
    stop_at c.fault_at-fault.result _ _ _ (sym c.is_some.ensures ∙ c.if-is_some.true)
    (subst (λ (ls : List NamedStmt). first_some (lock_seen c.fault_at-fault.result) (pair_fault outer (names_seen c.fault_at-fault.new.own.items) (outline ms (λ i. false) (statements_of ls)))
    ≡ pair_fault outer own (part ms (λ i. false) (statement_of s) (outline ms (λ i. false) (statements_of ls)))) after (c.fault_at-fault.ensures.fault w))
    (ap (λ (ss : List NamedStmt). pair_fault outer own (outline ms (λ i. false) (statements_of ss))) (sym split) ∙ c.loop-statement.invariant.fault (c.fault_at-fault.ensures.before w))

pub fault_in-loop-statement-preserved : goal.fault_in-loop-statement-preserved
fault_in-loop-statement-preserved t c =
    let ms = marks_seen c.args.marks.now in
    let outer = names_seen c.args.outer.now in
    let own = names_seen c.loop-statement.own.items in
    let s = c.statement-item.result in
    let i = c.loop-statement.statement-index in
    let split = item_first c.args.body.now c.loop-statement.statement-index c.statement-item.result c.loop-statement-test.true c.statement-item.is in
    let after = next_left c.args.body.now c.loop-statement.rest.now c.split_at.result.1.now c.loop-statement.statement-index c.loop-statement.invariant.left c.split_at.ensures.back in
    record {
      left = after;
      before = λ w. c.loop-statement.invariant.before (c.fault_at-fault.ensures.before w);
      fault = λ w. go_on c.fault_at-fault.result _ _ _ (sym c.is_some.ensures ∙ c.if-is_some.false)
          (subst (λ (ls : List NamedStmt). first_some (lock_seen c.fault_at-fault.result) (pair_fault outer (names_seen c.fault_at-fault.new.own.items) (outline ms (λ i. false) (statements_of ls)))
          ≡ pair_fault outer own (part ms (λ i. false) (statement_of s) (outline ms (λ i. false) (statements_of ls)))) after (c.fault_at-fault.ensures.fault w))
          (ap (λ (ss : List NamedStmt). pair_fault outer own (outline ms (λ i. false) (statements_of ss))) (sym split) ∙ c.loop-statement.invariant.fault (c.fault_at-fault.ensures.before w));
    }

pub fault_in-returns-clause-fault : goal.fault_in-returns-clause-fault
fault_in-returns-clause-fault t c w =
    subst (λ (ss : List NamedStmt). pair_fault (names_seen c.args.outer.now) (names_seen c.loop-statement.own.items) (outline (marks_seen c.args.marks.now) (λ i. false) (statements_of ss))
    ≡ pair_fault (names_seen c.args.outer.now) [] (outline (marks_seen c.args.marks.now) (λ i. false) (statements_of c.args.body.now)))
    (drop_all c.loop-statement.statement-index c.args.body.now c.loop-statement-test.false) (c.loop-statement.invariant.fault w)
