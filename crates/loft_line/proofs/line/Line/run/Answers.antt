use Rattle.std.proofs.Common.{rules, ◌≡◌, ℕ, ◌+◌, ◌*◌, ◌≤◌, ◌<◌, suc, refl, sym, ◌∙◌, ap, subst, arith, true, List, Option, Some, length}
use Rattle.std.proofs.lemmas.Option.{slice_get_within}
use Rattle.loft_sense.specs.Passes.{Runner as Linked, passes, steps_left}
use Rattle.loft_effect.specs.View.{around_of}
use Rattle.loft_passes.specs.declared.runner.Runner.{Runner}
use Rattle.loft_passes.specs.View.{runners_of, can_run}
use Rattle.loft_ready.specs.Entered.{IsEntered}
use Rattle.loft_ready.proofs.PositionLemmas.{at, IsOn, Onward, runs_at, ready_runs, next_first, next_behind, length_set}
use Rattle.loft_ready.proofs.RunLemmas.{fewer_steps}
use Rattle.loft_line.specs.Line.{runners_in, standings_in}
use Rattle.loft_line.specs.Counts.{runs_and_steps}
use Rattle.loft_line.proofs.CountLemmas.{begun_most, begun_least}
use Rattle.loft_line.proofs.ListLemmas.{length_with}
use Rattle.loft_line.proofs.RunLemmas.{IfNext, if_next, idle_rests, over_is}
use Rattle.loft_line.proofs.line.Line.run.Goals as goal

pub runs-init : goal.runs-init
runs-init g c =
    let x = g.I.Interpreter.program c.args.interpreter.now in
    let l = c.args.self.now in
    let rs = runners_in l in
    let around = around_of c.args.around.now in
    let long = length_with l.slots.items l.waits.waits in
    let most : length l.slots.items ≤ 18446744073709551615 = search rules in
    let few : length rs ≤ 18446744073709551615 = omega (arith, long, most) in
    let entered : IsEntered rs around l.waits = record { waits = c.requires.idle.line.waits; counts = c.requires.told.counts; ended = c.requires.told.ended } in
    record {
      line = c.requires.idle.line;
      entered = entered;
      next = if_next l.waits 18446744073709551615 c.next_after-next.result c.next_after-next.ensures;
      onward = next_first x rs around l.waits 18446744073709551615 c.next_after-next.result entered few c.next_after-next.ensures;
      keeps = record { budget = refl; closes = refl };
      counted = omega arith;
      least = λ budget. omega arith;
    }

pub runs-preserved : goal.runs-preserved
runs-preserved g c =
    let x = g.I.Interpreter.program c.args.interpreter.now in
    let whole = passes x (runners_of (runners_in c.args.self.now)) (around_of c.args.around.now) in
    let rs = runners_in c.runs.self in
    let around = around_of c.runs.around in
    let later = runners_in c.run_at.new.self in
    let after = around_of c.run_at.new.around in
    let p = c.in-Some.pos in
    let did = c.in_ok-run_at.ensures.run in
    let entered = c.in_ok-run_at.ensures.entered in
    let on : IsOn x whole rs around p = subst (λ (o : Option ℕ). Onward x whole rs around o) c.in-Some.is c.runs.invariant.onward in
    let ready : IfNext c.runs.self.waits (Some p) = subst (IfNext c.runs.self.waits) c.in-Some.is c.runs.invariant.next in
    let able : can_run did.before around ≡ true = sym (ready_runs rs around c.runs.self.waits p did.before c.runs.invariant.entered did.there) ∙ ready.1 in
    let same : whole ≡ at x true later (suc p) after = on.same ∙ runs_at x on.ran rs later p around after did able in
    let long : length later ≡ length rs = ap (λ (l : List Runner). length l) did.later_is ∙ length_set rs p did.now in
    let one : suc p ≡ p + 1 = omega arith in
    let inside : p < length rs = slice_get_within rs p did.before did.there in
    record {
      line = c.in_ok-run_at.ensures.line;
      entered = entered;
      next = if_next c.run_at.new.self.waits p c.next_after-next-in-Some.result c.next_after-next-in-Some.ensures;
      onward = next_behind x whole later after c.run_at.new.self.waits p c.next_after-next-in-Some.result entered (omega (arith, long, inside)) c.next_after-next-in-Some.ensures (same ∙ ap (λ (q : ℕ). at x true later q after) one);
      keeps = record {
        budget = c.in_ok-run_at.ensures.keeps.budget ∙ c.runs.invariant.keeps.budget;
        closes = c.in_ok-run_at.ensures.keeps.closes ∙ c.runs.invariant.keeps.closes;
      };
      counted = omega (arith, c.runs.invariant.counted, c.in_ok-run_at.ensures.counted);
      least = λ budget.
          let before = c.runs.invariant.least budget in
          let one = c.in_ok-run_at.ensures.least budget in
          omega (arith, before, one);
    }

pub runs-smaller : goal.runs-smaller
runs-smaller g c =
    let x = g.I.Interpreter.program c.args.interpreter.now in
    let rs = runners_in c.runs.self in
    let around = around_of c.runs.around in
    let did = c.in_ok-run_at.ensures.run in
    let p = c.in-Some.pos in
    let ready : IfNext c.runs.self.waits (Some p) = subst (IfNext c.runs.self.waits) c.in-Some.is c.runs.invariant.next in
    fewer_steps x p rs (runners_in c.run_at.new.self) around (around_of c.run_at.new.around) did
    (sym (ready_runs rs around c.runs.self.waits p did.before c.runs.invariant.entered did.there) ∙ ready.1)

pub returns-clause-passes : goal.returns-clause-passes
returns-clause-passes g c =
    let x = g.I.Interpreter.program c.args.interpreter.now in
    let l = c.args.self.now in
    let a = around_of c.args.around.now in
    sym (over_is x (passes x (runners_of (runners_in l)) a) (runners_in c.runs.self) (around_of c.runs.around) c.runs.next c.in_default.is c.runs.invariant.onward)
    ∙ ap (λ (q : List Linked). passes x q a) (idle_rests l c.requires.idle)

pub returns-clause-counted : goal.returns-clause-counted
returns-clause-counted g c =
    let l = c.args.self.now in
    let begun = ap (λ (q : List Linked). 2 * steps_left q) (idle_rests l c.requires.idle) ∙ begun_most l.budget (standings_in (runners_in l)) in
    omega (arith, begun, c.runs.invariant.counted)

pub returns-clause-least : goal.returns-clause-least
returns-clause-least g c =
    let l = c.args.self.now in
    let begun = ap (λ (q : List Linked). runs_and_steps l.budget q) (idle_rests l c.requires.idle) ∙ begun_least l.budget (standings_in (runners_in l)) in
    let least = c.runs.invariant.least l.budget in
    omega (arith, begun, least)

pub returns-in_err-run_at-clause-counted : goal.returns-in_err-run_at-clause-counted
returns-in_err-run_at-clause-counted g c =
    let l = c.args.self.now in
    let begun = ap (λ (q : List Linked). 2 * steps_left q) (idle_rests l c.requires.idle) ∙ begun_most l.budget (standings_in (runners_in l)) in
    omega (arith, begun, c.runs.invariant.counted, c.run_at.ensures.within)
