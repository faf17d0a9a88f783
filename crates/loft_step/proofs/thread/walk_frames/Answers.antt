use Rattle.std.proofs.Common.{◌+◌, ◌<◌, subst, refl, ◌∙◌, length, arith}
use Rattle.loft_code.specs.View.{automata_of}
use Rattle.loft_sense.specs.declared.limits.TheConstants.{MAX_FRAMES}
use Rattle.loft_effect.specs.View.{beside_of}
use Rattle.loft_step.specs.declared.step.Move.{Move}
use Rattle.loft_step.specs.Frames.{IfEnters}
use Rattle.loft_step.proofs.Going.{run_pauses, run_done, run_returns, run_calls}
use Rattle.loft_step.proofs.thread.walk_frames.Goals as goal

pub going-preserved-else-pauses : goal.going-preserved-else-pauses
going-preserved-else-pauses g c =
    let a = automata_of c.args.code.now in
    record {
      goes = run_pauses a c.going.top c.walk.new.self c.going.beside c.walk.new.beside c.going.outer c.in_ok-walk.field-0 c.in_ok-walk.ensures.walks c.in-Pause.is ∙ c.going.invariant.goes;
      kept = c.going.invariant.kept;
      bound = c.in_ok-walk.ensures.bound ∙ c.going.invariant.bound;
      grows = omega (arith, c.in_ok-walk.ensures.grows, c.going.invariant.grows);
      counted = omega (arith, c.in_ok-walk.ensures.counted, c.going.invariant.counted);
    }

pub returns-then-not-go_back-clause-goes : goal.returns-then-not-go_back-clause-goes
returns-then-not-go_back-clause-goes g c =
    let a = automata_of c.args.code.now in
    run_done a c.going.top c.walk.new.self c.going.beside c.walk.new.beside c.going.outer c.in_ok-walk.field-0 c.in_ok-walk.ensures.walks c.in-Return.is (c.go_back.ensures.alone c.if-not-go_back.true) ∙ c.going.invariant.goes

pub going-preserved-else-not-go_back : goal.going-preserved-else-not-go_back
going-preserved-else-not-go_back g c =
    let a = automata_of c.args.code.now in
    record {
      goes = run_returns a c.going.top c.walk.new.self c.going.beside c.walk.new.beside c.going.outer c.in_ok-walk.field-0 c.in_ok-walk.ensures.walks c.go_back.new.outer c.go_back.new.top c.in-Return.is (c.go_back.ensures.back c.if-not-go_back.false) ∙ c.going.invariant.goes;
      kept = c.go_back.ensures.kept;
      bound = c.in_ok-walk.ensures.bound ∙ c.going.invariant.bound;
      grows = omega (arith, c.in_ok-walk.ensures.grows, c.going.invariant.grows);
      counted = omega (arith, c.in_ok-walk.ensures.counted, c.going.invariant.counted);
    }

pub enter-requires-clause-stands : goal.enter-requires-clause-stands
enter-requires-clause-stands g c =
    (subst (λ (m : Move). IfEnters m (automata_of c.args.code.now) c.walk.new.self c.going.beside c.walk.new.beside) c.in-Enter.is c.in_ok-walk.ensures.enters).0

pub going-preserved : goal.going-preserved
going-preserved g c =
    let a = automata_of c.args.code.now in
    let few : length c.going.outer + 1 < MAX_FRAMES = omega (arith, c.if-len.false, c.len.ensures) in
    record {
      goes = run_calls a c.going.top c.walk.new.self c.going.beside c.walk.new.beside c.going.outer c.in_ok-walk.field-0 c.in_ok-walk.ensures.walks c.in-Enter.module c.in-Enter.arguments c.in-Enter.is
          c.enter.new.top c.enter.new.outer few (c.in_ok-enter-in-Enter.ensures.begins (beside_of c.walk.new.beside) refl) c.in_ok-enter-in-Enter.ensures.over ∙ c.going.invariant.goes;
      kept = c.in_ok-enter-in-Enter.ensures.kept;
      bound = c.in_ok-walk.ensures.bound ∙ c.going.invariant.bound;
      grows = omega (arith, c.in_ok-walk.ensures.grows, c.going.invariant.grows);
      counted = omega (arith, c.in_ok-walk.ensures.counted, c.going.invariant.counted);
    }
