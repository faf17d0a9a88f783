use Rattle.std.proofs.Common.{◌≡◌, suc, ap, sym, ◌∙◌, arith, Bool}
use Rattle.std.specs.Prelude.{map}
use Rattle.loft_code.specs.View.{automata_of, line_of}
use Rattle.loft_orders.specs.declared.order.End.TheVariants.{Over}
use Rattle.loft_sense.specs.Around.{Around}
use Rattle.loft_sense.specs.Code.{lines_at}
use Rattle.loft_effect.specs.View.{Pace, beside_of, steps_left}
use Rattle.loft_step.specs.declared.step.Move.TheVariants as move
use Rattle.loft_step.specs.Frames.{move_unless}
use Rattle.loft_step.specs.Lines.{line_in}
use Rattle.loft_step.proofs.Going.{walk_ends, walk_over, walk_stuck, walk_on, walk_moves, walks_on, enters, beside_with}
use Rattle.loft_step.proofs.running.Running.walk.Goals as goal

pub returns-then-ends_at-clause-walks : goal.returns-then-ends_at-clause-walks
returns-then-ends_at-clause-walks g c =
    let a = automata_of c.args.code.now in
    walks_on a c.args.self.now c.stepping.self c.stepping.self c.args.beside.now c.stepping.beside c.stepping.beside move.Return c.stepping.invariant.goes
    (walk_ends a c.stepping.self c.stepping.beside (map line_of c.lines_of-lines.result.now) c.landing-number.result.0 (line_in c.landing-number.result.1)
    (c.lines_of-lines.ensures.lines ∙ ap (lines_at a) (sym c.stepping.invariant.module)) c.landing-number.ensures.number c.landing-number.ensures.line
    (sym c.ends_at.ensures ∙ c.if-ends_at.true))

pub returns-then-beside-clause-walks : goal.returns-then-beside-clause-walks
returns-then-beside-clause-walks g c =
    let a = automata_of c.args.code.now in
    walks_on a c.args.self.now c.stepping.self c.stepping.self c.args.beside.now c.stepping.beside c.stepping.beside (move.End (Over c.stepping.self.scope.at)) c.stepping.invariant.goes
    (walk_over a c.stepping.self c.stepping.beside (map line_of c.lines_of-lines.result.now) c.landing-number.result.0 (line_in c.landing-number.result.1)
    (c.lines_of-lines.ensures.lines ∙ ap (lines_at a) (sym c.stepping.invariant.module)) c.landing-number.ensures.number c.landing-number.ensures.line
    (sym c.ends_at.ensures ∙ c.if-ends_at.false) c.if-beside.true)

pub returns-in_default-clause-walks : goal.returns-in_default-clause-walks
returns-in_default-clause-walks g c =
    let a = automata_of c.args.code.now in
    let b' = beside_with c.stepping.beside c.count.new.around in
    let less : steps_left c.stepping.beside.around ≡ suc (steps_left c.count.new.around) = omega (arith, c.count.ensures.made, c.count.ensures.bound, c.if-beside.false, c.stepping.beside.around.within) in
    walks_on a c.args.self.now c.stepping.self c.stepping.self c.args.beside.now c.stepping.beside b' move.Return c.stepping.invariant.goes
    (walk_stuck a c.stepping.self c.stepping.beside (map line_of c.lines_of-lines.result.now) c.landing-number.result.0 (line_in c.landing-number.result.1)
    (c.lines_of-lines.ensures.lines ∙ ap (lines_at a) (sym c.stepping.invariant.module)) c.landing-number.ensures.number c.landing-number.ensures.line
    b' (sym c.ends_at.ensures ∙ c.if-ends_at.false) less (ap (λ (x : Around). record (beside_of c.stepping.beside) { around = x }) c.count.ensures.same) (ap line_in c.in_default.is))

pub step-requires-clause-stop : goal.step-requires-clause-stop
step-requires-clause-stop g c = λ k is.
    let found = c.lines_of-lines.ensures.numbered c.landing-number.result.0 k (line_of c.in-Some.line.now) (sym (ap line_in (sym c.in-Some.is) ∙ c.landing-number.ensures.line)) is in
    omega (arith, found.small)

pub returns-then-not-branch-clause-walks : goal.returns-then-not-branch-clause-walks
returns-then-not-branch-clause-walks g c =
    let a = automata_of c.args.code.now in
    let b' = beside_with c.stepping.beside c.count.new.around in
    let less : steps_left c.stepping.beside.around ≡ suc (steps_left c.count.new.around) = omega (arith, c.count.ensures.made, c.count.ensures.bound, c.if-beside.false, c.stepping.beside.around.within) in
    walks_on a c.args.self.now c.stepping.self c.step.new.self c.args.beside.now c.stepping.beside c.step.new.beside c.step.new.other c.stepping.invariant.goes
    (walk_moves a c.stepping.self c.stepping.beside (map line_of c.lines_of-lines.result.now) c.landing-number.result.0 (line_in c.landing-number.result.1)
    (c.lines_of-lines.ensures.lines ∙ ap (lines_at a) (sym c.stepping.invariant.module)) c.landing-number.ensures.number c.landing-number.ensures.line
    b' (sym c.ends_at.ensures ∙ c.if-ends_at.false) less (ap (λ (x : Around). record (beside_of c.stepping.beside) { around = x }) c.count.ensures.same)
    c.heads-heads.result.now (line_of c.in-Some.line.now) (move_unless c.in_ok-step.field-0 c.step.new.other) c.step.new.self c.step.new.beside c.heads-heads.ensures (ap line_in c.in-Some.is) c.in_ok-step.ensures c.step.new.other (ap (λ (goes : Bool). move_unless goes c.step.new.other) c.if-not-branch.true))

pub returns-then-not-branch-clause-enters : goal.returns-then-not-branch-clause-enters
returns-then-not-branch-clause-enters g c =
    let a = automata_of c.args.code.now in
    let pace : c.step.new.beside.around.steps ≡ c.count.new.around.steps = ap (λ (p : Pace). p.steps) c.in_ok-step.ensures.pace in
    enters a (map line_of c.lines_of-lines.result.now) c.landing-number.result.0 (line_of c.in-Some.line.now) c.step.new.self c.args.beside.now c.step.new.beside (move_unless c.in_ok-step.field-0 c.step.new.other) c.step.new.other (ap (λ (goes : Bool). move_unless goes c.step.new.other) c.if-not-branch.true)
    (c.lines_of-lines.ensures.lines ∙ ap (lines_at a) (sym (c.in_ok-step.ensures.module ∙ c.stepping.invariant.module))) c.lines_of-lines.ensures.numbered
    (ap line_in (sym c.in-Some.is) ∙ c.landing-number.ensures.line) c.in_ok-step.ensures.caller
    (omega (arith, pace, c.count.ensures.made, c.stepping.invariant.grows))

pub returns-then-not-is_empty-clause-walks : goal.returns-then-not-is_empty-clause-walks
returns-then-not-is_empty-clause-walks g c =
    let a = automata_of c.args.code.now in
    let b' = beside_with c.stepping.beside c.count.new.around in
    let less : steps_left c.stepping.beside.around ≡ suc (steps_left c.count.new.around) = omega (arith, c.count.ensures.made, c.count.ensures.bound, c.if-beside.false, c.stepping.beside.around.within) in
    λ rs. c.stepping.invariant.goes rs
    ∙ walk_on a c.stepping.self c.stepping.beside (map line_of c.lines_of-lines.result.now) c.landing-number.result.0 (line_in c.landing-number.result.1)
    (c.lines_of-lines.ensures.lines ∙ ap (lines_at a) (sym c.stepping.invariant.module)) c.landing-number.ensures.number c.landing-number.ensures.line
    b' (sym c.ends_at.ensures ∙ c.if-ends_at.false) less (ap (λ (x : Around). record (beside_of c.stepping.beside) { around = x }) c.count.ensures.same)
    c.heads-heads.result.now (line_of c.in-Some.line.now) (move_unless c.in_ok-step.field-0 c.step.new.other) c.step.new.self c.step.new.beside c.heads-heads.ensures (ap line_in c.in-Some.is) c.in_ok-step.ensures (ap (λ (goes : Bool). move_unless goes c.step.new.other) c.if-not-branch.false) rs

pub stepping-preserved : goal.stepping-preserved
stepping-preserved g c =
    let a = automata_of c.args.code.now in
    let b' = beside_with c.stepping.beside c.count.new.around in
    let less : steps_left c.stepping.beside.around ≡ suc (steps_left c.count.new.around) = omega (arith, c.count.ensures.made, c.count.ensures.bound, c.if-beside.false, c.stepping.beside.around.within) in
    let steps : c.step.new.beside.around.steps ≡ c.count.new.around.steps = ap (λ (p : Pace). p.steps) c.in_ok-step.ensures.pace in
    let bound : c.step.new.beside.around.bound ≡ c.count.new.around.bound = ap (λ (p : Pace). p.bound) c.in_ok-step.ensures.pace in
    record {
      goes = λ rs. c.stepping.invariant.goes rs
          ∙ walk_on a c.stepping.self c.stepping.beside (map line_of c.lines_of-lines.result.now) c.landing-number.result.0 (line_in c.landing-number.result.1)
          (c.lines_of-lines.ensures.lines ∙ ap (lines_at a) (sym c.stepping.invariant.module)) c.landing-number.ensures.number c.landing-number.ensures.line
          b' (sym c.ends_at.ensures ∙ c.if-ends_at.false) less (ap (λ (x : Around). record (beside_of c.stepping.beside) { around = x }) c.count.ensures.same)
          c.heads-heads.result.now (line_of c.in-Some.line.now) (move_unless c.in_ok-step.field-0 c.step.new.other) c.step.new.self c.step.new.beside c.heads-heads.ensures (ap line_in c.in-Some.is) c.in_ok-step.ensures (ap (λ (goes : Bool). move_unless goes c.step.new.other) c.if-not-branch.false) rs;
      «module» = c.in_ok-step.ensures.module ∙ c.stepping.invariant.module;
      bound = bound ∙ c.count.ensures.bound ∙ c.stepping.invariant.bound;
      grows = omega (arith, steps, c.count.ensures.made, c.stepping.invariant.grows);
      counted = omega (arith, steps, c.count.ensures.made, c.count.ensures.counted, c.stepping.invariant.counted);
    }
