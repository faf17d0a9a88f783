use Rattle.std.proofs.Common.{◌-◌, arith}
use Rattle.loft_effect.specs.View.{around_of, steps_left}
use Rattle.loft_passes.proofs.RunnerLemmas.{no_more, fewer}
use Rattle.loft_counted_run.proofs.counted.run_counted.Goals as goal

pub overflow_add-runner : goal.overflow_add-runner
overflow_add-runner g c =
    let old = c.args.runner.now in
    let less = fewer (g.I.Interpreter.program c.args.interpreter.now) old.thread c.run_counted.new.thread (around_of c.args.around.now) (around_of c.run_counted.new.around)
    (old.bound - old.steps) (steps_left c.run_counted.new.around) c.in_ok-runner.field-0 c.in_ok-runner.ensures.outcome c.in-Holds.is in
    omega (arith, less, old.few, old.within, c.in_ok-runner.ensures.bound, c.run_counted.new.around.within)

pub invariant_of-runner-in-Holds : goal.invariant_of-runner-in-Holds
invariant_of-runner-in-Holds g c =
    let old = c.args.runner.now in
    let less = fewer (g.I.Interpreter.program c.args.interpreter.now) old.thread c.run_counted.new.thread (around_of c.args.around.now) (around_of c.run_counted.new.around)
    (old.bound - old.steps) (steps_left c.run_counted.new.around) c.in_ok-runner.field-0 c.in_ok-runner.ensures.outcome c.in-Holds.is in
    record {
      few = omega (arith, less, old.few, old.within, c.in_ok-runner.ensures.bound, c.run_counted.new.around.within);
      within = omega (arith, c.in_ok-runner.ensures.bound, c.run_counted.new.around.within);
    }

pub invariant_of-runner-in-Ends : goal.invariant_of-runner-in-Ends
invariant_of-runner-in-Ends g c =
    let old = c.args.runner.now in
    let less = no_more (g.I.Interpreter.program c.args.interpreter.now) old.thread c.run_counted.new.thread (around_of c.args.around.now) (around_of c.run_counted.new.around)
    (old.bound - old.steps) (steps_left c.run_counted.new.around) c.in_ok-runner.field-0 c.in_ok-runner.ensures.outcome in
    record {
      few = omega (arith, less, old.few, old.within, c.in_ok-runner.ensures.bound, c.run_counted.new.around.within);
      within = omega (arith, c.in_ok-runner.ensures.bound, c.run_counted.new.around.within);
    }
