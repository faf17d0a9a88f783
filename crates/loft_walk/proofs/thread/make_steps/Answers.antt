use Rattle.std.proofs.Common.{◌∙◌, ap, List, arith}
use Rattle.loft_tree.specs.ProgramView.{program_of}
use Rattle.loft_tree.specs.Resolved.{resolved_of}
use Rattle.loft_sense.specs.Run.{no_step}
use Rattle.loft_walk.specs.declared.running.Running.{Running}
use Rattle.loft_walk.specs.Frames.{actives}
use Rattle.loft_walk.proofs.Going.{no_left, nothing_left, step_made}
use Rattle.loft_walk.proofs.thread.make_steps.Goals as goal

pub going-preserved : goal.going-preserved
going-preserved c =
    record {
      same = step_made c.args.program.now.heads (resolved_of (program_of c.args.program.now)).bodies c.going.running.items c.next_task.new.running.items c.make_step.new.running.items c.in-Some.task c.next_task.result c.in_ok-stopped.field-0 _ c.going.left c.going.beside c.make_step.new.beside c.if-left-eq0.false c.in-Some.is (c.next_task.ensures.live (resolved_of (program_of c.args.program.now))) c.in_ok-stopped.ensures.steps c.in_default-2.is ∙ c.going.invariant.same;
      less = omega (arith, c.going.invariant.less, c.if-left-eq0.false);
      bound = c.in_ok-stopped.ensures.bound ∙ c.going.invariant.bound;
    }

pub returns-then-left-eq0-clause-steps : goal.returns-then-left-eq0-clause-steps
returns-then-left-eq0-clause-steps c =
    no_left c.args.program.now.heads (resolved_of (program_of c.args.program.now)).bodies c.going.running.items c.next_task.new.running.items c.in-Some.task c.next_task.result c.over.result c.going.left c.going.beside c.if-left-eq0.true c.in-Some.is (c.next_task.ensures.live (resolved_of (program_of c.args.program.now)))
    (λ b. c.over.ensures b ∙ ap (λ (rs : List Running). no_step b (actives rs)) c.as_slice.ensures.value)
    ∙ c.going.invariant.same

pub returns-in-Some-2-clause-steps : goal.returns-in-Some-2-clause-steps
returns-in-Some-2-clause-steps c = step_made c.args.program.now.heads (resolved_of (program_of c.args.program.now)).bodies c.going.running.items c.next_task.new.running.items c.make_step.new.running.items c.in-Some.task c.next_task.result c.in_ok-stopped.field-0 _ c.going.left c.going.beside c.make_step.new.beside c.if-left-eq0.false c.in-Some.is (c.next_task.ensures.live (resolved_of (program_of c.args.program.now))) c.in_ok-stopped.ensures.steps c.in-Some-2.is ∙ c.going.invariant.same

pub returns-then-not-is_empty-clause-steps : goal.returns-then-not-is_empty-clause-steps
returns-then-not-is_empty-clause-steps c = step_made c.args.program.now.heads (resolved_of (program_of c.args.program.now)).bodies c.going.running.items c.next_task.new.running.items c.make_step.new.running.items c.in-Some.task c.next_task.result c.in_ok-stopped.field-0 _ c.going.left c.going.beside c.make_step.new.beside c.if-left-eq0.false c.in-Some.is (c.next_task.ensures.live (resolved_of (program_of c.args.program.now))) c.in_ok-stopped.ensures.steps c.in_default-2.is ∙ c.going.invariant.same

pub returns-clause-steps : goal.returns-clause-steps
returns-clause-steps c = nothing_left c.args.program.now.heads (resolved_of (program_of c.args.program.now)).bodies c.going.running.items c.next_task.new.running.items c.next_task.result c.going.left c.going.beside c.in_default.is (c.next_task.ensures.live (resolved_of (program_of c.args.program.now))) ∙ c.going.invariant.same
