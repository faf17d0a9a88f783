use Rattle.std.proofs.Common.{ℕ, ◌+◌, ◌∙◌, ◌++◌, ap, map, refl, false, List, ℤ, arith, length}
use Rattle.loft_tree.specs.declared.heads.Place.TheVariants.{Sched}
use Rattle.loft_sense.specs.Machine.{heads}
use Rattle.loft_sense.specs.Heads.{shared_of}
use Rattle.loft_sense.specs.Instant.{around_of, runner_of, sent_by, changes}
use Rattle.loft_sense.specs.Passes.{Walk, passes}
use Rattle.loft_passes.specs.View.{walk_of}
use Rattle.loft_instant.specs.States.{machine_before, walk_from}
use Rattle.loft_instant.proofs.InstantLemmas.{machine_so, note_so}
use Rattle.loft_instant.proofs.EngineLemmas.{board_stays}
use Rattle.loft_line.specs.Counts.{runs_and_steps}
use Rattle.loft_line.specs.Line.{runners_in, standings_in}
use Rattle.loft_waits.specs.Told.{Told}
use Rattle.loft_line_engine.specs.Batches.{applied_of}
use Rattle.loft_line_engine.proofs.CountLemmas.{with_budget}
use Rattle.loft_line_engine.proofs.StateLemmas.{told_closed}
use Rattle.loft_line_engine.proofs.step.after_batch.Goals as goal

pub returns-clause-machine : goal.returns-clause-machine
returns-clause-machine g c =
    let x = g.I.Interpreter.program c.args.setting.now.interpreter in
    let m = machine_before c.args.setting.now.scheduler c.args.shared c.args.made c.args.tally in
    let a = applied_of c.args.batch in
    machine_so x m a (walk_of (runners_in c.run.new.line) c.in_ok-around.around false) (walk_from x c.args.setting.now.limits.budget m a)
    (c.in_ok-around.ensures.passes ∙ ap (λ (b : ℕ). passes x (map (runner_of b) a.linked) (around_of m a)) c.requires.budget)
    (standings_in (runners_in c.close.new.line)) c.in_ok-stands.ensures.linked

pub returns-clause-note : goal.returns-clause-note
returns-clause-note g c =
    let x = g.I.Interpreter.program c.args.setting.now.interpreter in
    let s = c.args.setting.now.scheduler in
    let m = machine_before s c.args.shared c.args.made c.args.tally in
    let a = applied_of c.args.batch in
    rw (c.fitted-acts.ensures, c.fitted-sent.ensures, c.fitted-stands.ensures) (note_so x m a (walk_of (runners_in c.run.new.line) c.in_ok-around.around false) (walk_from x c.args.setting.now.limits.budget m a)
    (c.in_ok-around.ensures.passes ∙ ap (λ (b : ℕ). passes x (map (runner_of b) a.linked) (around_of m a)) c.requires.budget)
    c.close.new.sent (a.sent ++ sent_by (Sched s) c.in_ok-around.around.acts) c.in_ok-stands.stands c.in_ok-stands.changed
    refl
    c.in_ok-stands.ensures.sent c.in_ok-stands.ensures.stands
    (c.in_ok-stands.ensures.changed
    ∙ ap (λ (l : List ℤ). changes (shared_of (heads x) s) l c.in_ok-around.around.shared) (c.as_slice.ensures ∙ c.requires.before)))

pub returns-clause-closed : goal.returns-clause-closed
returns-clause-closed g c =
    let x = g.I.Interpreter.program c.args.setting.now.interpreter in
    let m = machine_before c.args.setting.now.scheduler c.args.shared c.args.made c.args.tally in
    let a = applied_of c.args.batch in
    let rs = map (runner_of c.args.batch.line.budget) a.linked in
    let w = walk_of (runners_in c.run.new.line) c.in_ok-around.around false in
    let told = c.in_ok-stands.ensures.told in
    record {
      idle = c.in_ok-stands.ensures.idle;
      quiet = c.in_ok-stands.ensures.quiet;
      counts = told_closed x rs (around_of m a) w c.args.setting.now.events c.run.new.line.waits c.close.new.line.waits c.in_ok-around.ensures.passes c.requires.board c.in_ok-around.ensures.told.counts told;
      ended = ap (λ (t : Told). t.ended) told ∙ c.in_ok-around.ensures.told.ended;
      closes_are = ap (λ (t : Told). t.closes) told ∙ ap (λ (n : ℕ). n + 1) (c.in_ok-around.ensures.keeps.closes ∙ c.requires.closes);
      budget_is = c.in_ok-stands.ensures.budget ∙ (c.in_ok-around.ensures.keeps.budget ∙ c.requires.budget);
      no_event = board_stays x rs (around_of m a) w c.args.setting.now.events c.reset.new.self c.in_ok-around.ensures.passes c.requires.board c.reset.ensures;
    }

pub returns-clause-counted : goal.returns-clause-counted
returns-clause-counted g c =
    with_budget (length (applied_of c.args.batch).linked) c.args.batch.line.budget c.args.setting.now.limits.budget c.args.steps.now c.run.new.steps c.requires.budget c.run.ensures.counted

pub returns-clause-least : goal.returns-clause-least
returns-clause-least g c =
    let x = g.I.Interpreter.program c.args.setting.now.interpreter in
    let m = machine_before c.args.setting.now.scheduler c.args.shared c.args.made c.args.tally in
    let a = applied_of c.args.batch in
    let budget = c.args.setting.now.limits.budget in
    let ran = ap (λ (w : Walk). w.runners) (c.in_ok-around.ensures.passes ∙ ap (λ (b : ℕ). passes x (map (runner_of b) a.linked) (around_of m a)) c.requires.budget) in
    let same = ap (runs_and_steps c.args.batch.line.budget) ran ∙ ap (λ (b : ℕ). runs_and_steps b (walk_from x budget m a).runners) c.requires.budget in
    omega (arith, same, c.in_ok-around.ensures.least)

pub returns-in_err-around-clause-counted : goal.returns-in_err-around-clause-counted
returns-in_err-around-clause-counted g c =
    with_budget (length (applied_of c.args.batch).linked) c.args.batch.line.budget c.args.setting.now.limits.budget c.args.steps.now c.run.new.steps c.requires.budget c.run.ensures.counted

pub returns-in_err-stands-clause-counted : goal.returns-in_err-stands-clause-counted
returns-in_err-stands-clause-counted g c =
    with_budget (length (applied_of c.args.batch).linked) c.args.batch.line.budget c.args.setting.now.limits.budget c.args.steps.now c.run.new.steps c.requires.budget c.run.ensures.counted
