use Rattle.std.proofs.Common.{◌-◌, arith}
use Rattle.loft_effect.specs.View.{around_of, steps_left}
use Rattle.loft_passes.proofs.RunnerLemmas.{no_more, fewer}
use Rattle.loft_passes.proofs.runner.Runner.run.Goals as goal

pub overflow_add-self : goal.overflow_add-self
overflow_add-self g c =
    let old = c.args.self.now in
    let less = fewer (g.I.Interpreter.program c.args.interpreter.now) old.thread c.run.new.thread (around_of c.args.around.now) (around_of c.run.new.around)
    (old.bound - old.steps) (steps_left c.run.new.around) c.in_ok-self.field-0 c.in_ok-self.ensures.outcome c.in-Holds.is in
    omega (arith, less, old.few, old.within, c.in_ok-self.ensures.bound, c.run.new.around.within)

pub invariant_of-self-in-Holds : goal.invariant_of-self-in-Holds
invariant_of-self-in-Holds g c =
    let old = c.args.self.now in
    let less = fewer (g.I.Interpreter.program c.args.interpreter.now) old.thread c.run.new.thread (around_of c.args.around.now) (around_of c.run.new.around)
    (old.bound - old.steps) (steps_left c.run.new.around) c.in_ok-self.field-0 c.in_ok-self.ensures.outcome c.in-Holds.is in
    record {
      few = omega (arith, less, old.few, old.within, c.in_ok-self.ensures.bound, c.run.new.around.within);
      within = omega (arith, c.in_ok-self.ensures.bound, c.run.new.around.within);
    }

pub invariant_of-self-in-Ends : goal.invariant_of-self-in-Ends
invariant_of-self-in-Ends g c =
    let old = c.args.self.now in
    let less = no_more (g.I.Interpreter.program c.args.interpreter.now) old.thread c.run.new.thread (around_of c.args.around.now) (around_of c.run.new.around)
    (old.bound - old.steps) (steps_left c.run.new.around) c.in_ok-self.field-0 c.in_ok-self.ensures.outcome in
    record {
      few = omega (arith, less, old.few, old.within, c.in_ok-self.ensures.bound, c.run.new.around.within);
      within = omega (arith, c.in_ok-self.ensures.bound, c.run.new.around.within);
    }
