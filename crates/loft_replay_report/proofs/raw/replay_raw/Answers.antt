use Rattle.std.proofs.Common.{ℕ, Option, Some, None, Ok, Err, subst}
use Rattle.std.proofs.Math.Bridge.{le_prop}
use Rattle.std.proofs.Math.Logic.{∥∥₁_elim}
use Rattle.loft_tree.specs.ProgramView.{program_of}
use Rattle.loft_tree.specs.Resolved.{resolved_of}
use Rattle.loft_sense.specs.Machine.{Tree}
use Rattle.loft_world.specs.declared.results.Finished.{Finished}
use Rattle.loft_report_shape.specs.Text.{text_of}
use Rattle.loft_report_reader.specs.Answer.{report_in}
use Rattle.loft_replay_error.specs.Difference.{IsDifference}
use Rattle.loft_replay_error.specs.declared.error.ReplayError.TheVariants.{Differs}
use Rattle.loft_replay_report.specs.Replays.{IsReportOf, IsRefusal}
use Rattle.loft_replay_report.proofs.Judging.{judged_accepted, judged_differs}
use Rattle.loft_replay_report.proofs.Replaying.{written, same_report, other_report}
use Rattle.loft_replay_report.proofs.raw.replay_raw.Goals as goal

pub follow_whole-requires-clause-range : goal.follow_whole-requires-clause-range
follow_whole-requires-clause-range c =
    let r = report_in c.args.r.now in
    let law = c.options_of_reports_are_in_range.ensures in
    let told = c.args.r.now.shaped in
    record {
      instants = (∥∥₁_elim told le_prop (λ p. (law p.0 r p.1).limits.instants.0), ∥∥₁_elim told le_prop (λ p. (law p.0 r p.1).limits.instants.1));
      budget = (∥∥₁_elim told le_prop (λ p. (law p.0 r p.1).limits.budget.0), ∥∥₁_elim told le_prop (λ p. (law p.0 r p.1).limits.budget.1));
      block = (∥∥₁_elim told le_prop (λ p. (law p.0 r p.1).limits.block.0), ∥∥₁_elim told le_prop (λ p. (law p.0 r p.1).limits.block.1));
    }

pub follow_whole-requires-clause-workers : goal.follow_whole-requires-clause-workers
follow_whole-requires-clause-workers c =
    let r = report_in c.args.r.now in
    let law = c.options_of_reports_are_in_range.ensures in
    let told = c.args.r.now.shaped in
    (∥∥₁_elim told le_prop (λ p. (law p.0 r p.1).workers.0), ∥∥₁_elim told le_prop (λ p. (law p.0 r p.1).workers.1))

pub returns-in-Ok-None-clause-same : goal.returns-in-Ok-None-clause-same
returns-in-Ok-None-clause-same c =
    let x = Tree (resolved_of (program_of c.args.p.now)) in
    let r = report_in c.args.r.now in
    let run = c.in-Ok.run' in
    let h = c.heads.result.now in
    let found : IsDifference (text_of r) (written h r.options run) None = subst (λ (d : Option ℕ). IsDifference (text_of r) (written h r.options run) d) c.in-Ok-None.field-0-is c.in-Ok-None.ensures in
    let same : IsReportOf x (text_of r) r run.world.history = same_report x r run h c.reports_of_worlds_are_of_histories.ensures c.heads.ensures c.in-Ok.ensures.followed c.in-Ok.ensures.ended found in
    same

pub returns-in-Ok-None-clause-differs : goal.returns-in-Ok-None-clause-differs
returns-in-Ok-None-clause-differs c = λ g k whole d.
    let x = Tree (resolved_of (program_of c.args.p.now)) in
    let r = report_in c.args.r.now in
    let run = c.in-Ok.run' in
    let h = c.heads.result.now in
    let found : IsDifference (text_of r) (written h r.options run) None = subst (λ (d : Option ℕ). IsDifference (text_of r) (written h r.options run) d) c.in-Ok-None.field-0-is c.in-Ok-None.ensures in
    let same : IsReportOf x (text_of r) r run.world.history = same_report x r run h c.reports_of_worlds_are_of_histories.ensures c.heads.ensures c.in-Ok.ensures.followed c.in-Ok.ensures.ended found in
    judged_differs {A = Finished} x (text_of r) r (Ok run) (run.world.history, same) g k whole d

pub returns-in-Ok-Some-clause-refusal : goal.returns-in-Ok-Some-clause-refusal
returns-in-Ok-Some-clause-refusal c =
    let x = Tree (resolved_of (program_of c.args.p.now)) in
    let r = report_in c.args.r.now in
    let run = c.in-Ok.run' in
    let h = c.heads.result.now in
    let k = c.in-Ok-Some.byte in
    let found : IsDifference (text_of r) (written h r.options run) (Some k) = subst (λ (d : Option ℕ). IsDifference (text_of r) (written h r.options run) d) c.in-Ok-Some.field-0-is c.in-Ok-Some.ensures in
    let other : IsRefusal x (text_of r) r (Differs k) = other_report x r run h k c.reports_of_worlds_are_of_histories.ensures c.heads.ensures c.in-Ok.ensures.followed c.in-Ok.ensures.ended found in
    other

pub returns-in-Ok-Some-clause-accepted : goal.returns-in-Ok-Some-clause-accepted
returns-in-Ok-Some-clause-accepted c = λ g is.
    let x = Tree (resolved_of (program_of c.args.p.now)) in
    let r = report_in c.args.r.now in
    let run = c.in-Ok.run' in
    let h = c.heads.result.now in
    let k = c.in-Ok-Some.byte in
    let found : IsDifference (text_of r) (written h r.options run) (Some k) = subst (λ (d : Option ℕ). IsDifference (text_of r) (written h r.options run) d) c.in-Ok-Some.field-0-is c.in-Ok-Some.ensures in
    let other : IsRefusal x (text_of r) r (Differs k) = other_report x r run h k c.reports_of_worlds_are_of_histories.ensures c.heads.ensures c.in-Ok.ensures.followed c.in-Ok.ensures.ended found in
    judged_accepted {A = Finished} x (text_of r) r (Err (Differs k)) other g is

pub returns-in-Ok-Some-clause-differs : goal.returns-in-Ok-Some-clause-differs
returns-in-Ok-Some-clause-differs c = λ g j whole d.
    let x = Tree (resolved_of (program_of c.args.p.now)) in
    let r = report_in c.args.r.now in
    let run = c.in-Ok.run' in
    let h = c.heads.result.now in
    let k = c.in-Ok-Some.byte in
    let found : IsDifference (text_of r) (written h r.options run) (Some k) = subst (λ (d : Option ℕ). IsDifference (text_of r) (written h r.options run) d) c.in-Ok-Some.field-0-is c.in-Ok-Some.ensures in
    let other : IsRefusal x (text_of r) r (Differs k) = other_report x r run h k c.reports_of_worlds_are_of_histories.ensures c.heads.ensures c.in-Ok.ensures.followed c.in-Ok.ensures.ended found in
    judged_differs {A = Finished} x (text_of r) r (Err (Differs k)) other g j whole d
