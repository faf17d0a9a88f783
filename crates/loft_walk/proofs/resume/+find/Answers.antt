use Rattle.std.proofs.Common.{◌∙◌, rules}
use Rattle.loft_sense.specs.Tree.{stop_at, after_step, after_body, stop_at_step}
use Rattle.loft_tree.proofs.NamedTrees.{named_while, named_repeat}
use Rattle.std.specs.Int.{w64}
use Rattle.std.specs.Prelude.{FitsSigned}
use Rattle.std.proofs.lemmas.Int.{to_z-of_z}
use Rattle.loft_walk.specs.Pieces.{body_from, step_from, work_of}
use Rattle.loft_walk.proofs.Find.{found_pushed, none_pushed, stop_here, work_here, stop_later, work_later}
use Rattle.loft_walk.proofs.resume.+find.Goals as goal

pub find_in_statement-returns-in_default-2 : goal.find_in_statement-returns-in_default-2
find_in_statement-returns-in_default-2 t c =
    rw (c.in-While.is, named_while, ← c.as_slice-body.ensures.value) (none_pushed (stop_at (body_from c.as_slice-body.result.now) c.args.k) (λ w. after_body (body_from c.as_slice-body.result.now) c.args.k c.args.counts.now w) _ _ _ _ c.in_ok-push-in-While.ensures.items _ c.in_default-2.is c.in_ok-found-in-While.ensures _ _ c.find_in_body-in-While.new.work.ok.0 c.pop.ensures.rest)

pub find_in_statement-returns-in_default-3 : goal.find_in_statement-returns-in_default-3
find_in_statement-returns-in_default-3 t c =
    let fits : FitsSigned w64 c.first_count.result = search rules in
    rw (c.in-Repeat.is, named_repeat, ← c.as_slice-body-in-Repeat.ensures.value, ← (to_z-of_z w64 c.first_count.result fits ∙ c.first_count.ensures), ← c.inner_counts.ensures) (none_pushed (stop_at (body_from c.as_slice-body-in-Repeat.result.now) c.args.k) (λ w. after_body (body_from c.as_slice-body-in-Repeat.result.now) c.args.k c.inner_counts.result.now w) _ _ _ _ c.in_ok-push-in-Repeat.ensures.items _ c.in_default-3.is c.in_ok-found-in-Repeat.ensures _ _ c.find_in_body-in-Repeat.new.work.ok.0 c.pop-in-Repeat.ensures.rest)

pub find_in_body-returns-in-Some : goal.find_in_body-returns-in-Some
find_in_body-returns-in-Some t c =
    let found = found_pushed (stop_at_step (step_from c.index-body-i.result) c.args.k) (λ w. after_step (step_from c.index-body-i.result) c.args.k c.args.counts.now w) _ _ _ _ c.in_ok-push.ensures.items _ _ c.in-Some.is c.in_ok-found.ensures in (
      c.loop-i.invariant.stops ∙ (stop_here c.args.body.now c.loop-i.i c.index-body-i.result c.loop-i-test.true c.index-body-i.is c.args.k c.args.counts.now (work_of c.args.work.now.items) (step_from c.in-Some.found.now) found.0),
      c.loop-i.invariant.same ∙ work_here c.args.body.now c.loop-i.i c.index-body-i.result c.loop-i-test.true c.index-body-i.is c.args.k c.args.counts.now (work_of c.args.work.now.items) _ (rw (← c.loop-i.invariant.kept) found.1),
    )

pub find_in_body-loop-i-preserved : goal.find_in_body-loop-i-preserved
find_in_body-loop-i-preserved t c =
    let none = none_pushed (stop_at_step (step_from c.index-body-i.result) c.args.k) (λ w. after_step (step_from c.index-body-i.result) c.args.k c.args.counts.now w) _ _ _ _ c.in_ok-push.ensures.items _ c.in_default.is c.in_ok-found.ensures _ _ c.find_in_statement.new.work.ok.0 c.pop.ensures.rest in
    record {
      kept = none.2 ∙ c.loop-i.invariant.kept;
      stops = c.loop-i.invariant.stops ∙ stop_later c.args.body.now c.loop-i.i c.index-body-i.result c.loop-i-test.true c.index-body-i.is c.args.k c.args.counts.now (work_of c.args.work.now.items) none.0;
      same = c.loop-i.invariant.same ∙ work_later c.args.body.now c.loop-i.i c.index-body-i.result c.loop-i-test.true c.index-body-i.is c.args.k c.args.counts.now (work_of c.args.work.now.items) (rw (← c.loop-i.invariant.kept) none.1);
    }
