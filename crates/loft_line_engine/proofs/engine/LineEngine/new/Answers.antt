use Rattle.std.proofs.Common.{◌∙◌, arith, ap, sym, subst, ℕ, length}
use Rattle.loft_tree.specs.declared.heads.Heads.{Heads}
use Rattle.loft_sense.specs.Heads.{shared_from}
use Rattle.loft_sense.specs.Machine.{Mach}
use Rattle.loft_instant.specs.States.{first_machine}
use Rattle.loft_instant.proofs.EngineLemmas.{some_same}
use Rattle.loft_line_engine.specs.States.{IsReady, IsClosed}
use Rattle.loft_line_engine.proofs.engine.LineEngine.new.Goals as goal

pub invariant_of-setting : goal.invariant_of-setting
invariant_of-setting g c =
    let is = c.heads-heads.ensures.heads in
    record {
      own_ones = c.in_ok-own.ensures ∙ ap (shared_from 0 c.args.scheduler) (c.as_slice.ensures ∙ ap (λ (h : Heads). h.shared) is);
      all_events = c.len-events.ensures ∙ ap (λ (h : Heads). length h.events) is;
    }

pub invariant_of-result : goal.invariant_of-result
invariant_of-result g c =
    let made = ap (λ (m : Mach). m.made) c.in_ok-state.ensures.machine in
    let number = ap (λ (m : Mach). m.tally.number) c.in_ok-state.ensures.machine in
    record {
      few_instants = c.requires.range.instants.1;
      ready = λ new same.
          some_same (IsReady c.len-events.result c.args.limits) _ new same
          (record {
            closed = subst (λ (n : ℕ). IsClosed c.len-events.result c.args.limits.budget n c.in_ok-state.state) (sym number) c.in_ok-state.ensures.closed;
            few_made = omega (arith, made, number);
            few_instants = omega (arith, number);
          });
    }

pub returns-clause-machine : goal.returns-clause-machine
returns-clause-machine g c =
    c.in_ok-state.ensures.machine ∙ ap (λ (h : Heads). first_machine h c.args.scheduler) c.heads-heads.ensures.heads
