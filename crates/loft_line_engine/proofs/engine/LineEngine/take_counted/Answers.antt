use Rattle.std.proofs.Common.{◌≡◌, sym, ap, Option, Some}
use Rattle.std.specs.Prelude.{is_none}
use Rattle.loft_instant.proofs.EngineLemmas.{some_same}
use Rattle.loft_line_engine.specs.declared.state.State.{State}
use Rattle.loft_line_engine.specs.States.{IsReady}
use Rattle.loft_line_engine.proofs.CountLemmas.{most_there, least_there}
use Rattle.loft_line_engine.proofs.StateLemmas.{unspent_there, stays_ready}
use Rattle.loft_line_engine.proofs.engine.LineEngine.take_counted.Goals as goal

pub invariant_of-self-2 : goal.invariant_of-self-2
invariant_of-self-2 g c =
    let e = c.args.self.now in
    let x = g.I.Interpreter.program e.setting.interpreter in
    let there : e.state ≡ Some c.in-Some.state = sym c.in-Some.ensures.value in
    let unspent = c.requires.unspent (ap (λ (o : Option State). is_none o) there) in
    record {
      few_instants = e.few_instants;
      ready = λ new same.
          some_same (IsReady e.setting.events e.setting.limits) c.in_ok-state.state new same
          (stays_ready x e.setting.limits e.setting.events e.setting.scheduler c.in-Some.state c.in_ok-state.state c.args.batch.now (e.ready c.in-Some.state there)
          (unspent_there x e.setting.limits e.setting.scheduler e.state c.in-Some.state there unspent) c.in_ok-state.ensures.machine c.in_ok-state.ensures.closed);
    }

pub returns-clause-counted : goal.returns-clause-counted
returns-clause-counted g c =
    let e = c.args.self.now in
    let x = g.I.Interpreter.program e.setting.interpreter in
    most_there x e.setting.limits e.setting.scheduler e.state c.in-Some.state (sym c.in-Some.ensures.value) c.args.batch.now c.args.steps.now c.instant.new.steps c.instant.ensures.counted

pub returns-clause-least : goal.returns-clause-least
returns-clause-least g c =
    let e = c.args.self.now in
    let x = g.I.Interpreter.program e.setting.interpreter in
    least_there x e.setting.limits e.setting.scheduler e.state c.in-Some.state (sym c.in-Some.ensures.value) c.args.batch.now c.args.steps.now c.instant.new.steps c.in_ok-state.ensures.least

pub returns-in_err-state-clause-counted : goal.returns-in_err-state-clause-counted
returns-in_err-state-clause-counted g c =
    let e = c.args.self.now in
    let x = g.I.Interpreter.program e.setting.interpreter in
    most_there x e.setting.limits e.setting.scheduler e.state c.in-Some.state (sym c.in-Some.ensures.value) c.args.batch.now c.args.steps.now c.instant.new.steps c.instant.ensures.counted
