use Rattle.std.proofs.Common.{◌∙◌, ◌++◌, ap, map, refl, false, List, ℤ}
use Rattle.loft_tree.specs.declared.heads.Place.TheVariants.{Sched}
use Rattle.loft_sense.specs.Machine.{heads}
use Rattle.loft_sense.specs.Heads.{shared_of}
use Rattle.loft_sense.specs.Instant.{around_of, runner_of, sent_by, changes}
use Rattle.loft_passes.specs.View.{standings_of, walk_of}
use Rattle.loft_instant.specs.Batches.{applied_of}
use Rattle.loft_instant.specs.States.{machine_before, walk_from}
use Rattle.loft_instant.proofs.InstantLemmas.{machine_so, note_so}
use Rattle.loft_instant.proofs.EngineLemmas.{board_stays}
use Rattle.loft_instant.proofs.instant.Setting.after_batch.Goals as goal

pub returns-clause-machine : goal.returns-clause-machine
returns-clause-machine g c =
    let x = g.I.Interpreter.program c.args.self.now.interpreter in
    let m = machine_before c.args.self.now.scheduler c.args.shared c.args.made c.args.tally in
    let a = applied_of c.args.batch in
    machine_so x m a (walk_of c.run.new.linked.items c.in_ok-around.around false) (walk_from x c.args.self.now.limits.budget m a) c.in_ok-around.ensures
    (standings_of c.close.new.linked.items) c.in_ok-stands.ensures.linked

pub returns-clause-note : goal.returns-clause-note
returns-clause-note g c =
    let x = g.I.Interpreter.program c.args.self.now.interpreter in
    let s = c.args.self.now.scheduler in
    let m = machine_before s c.args.shared c.args.made c.args.tally in
    let a = applied_of c.args.batch in
    rw (c.fitted-acts.ensures, c.fitted-sent.ensures) (note_so x m a (walk_of c.run.new.linked.items c.in_ok-around.around false) (walk_from x c.args.self.now.limits.budget m a) c.in_ok-around.ensures
    c.close.new.sent (a.sent ++ sent_by (Sched s) c.in_ok-around.around.acts) c.in_ok-stands.stands c.in_ok-stands.changed
    refl
    c.in_ok-stands.ensures.sent c.in_ok-stands.ensures.stands
    (c.in_ok-stands.ensures.changed
    ∙ ap (λ (l : List ℤ). changes (shared_of (heads x) s) l c.in_ok-around.around.shared) (c.as_slice.ensures ∙ c.requires.before)))

pub returns-clause-board : goal.returns-clause-board
returns-clause-board g c =
    let x = g.I.Interpreter.program c.args.self.now.interpreter in
    let m = machine_before c.args.self.now.scheduler c.args.shared c.args.made c.args.tally in
    let a = applied_of c.args.batch in
    board_stays x (map (runner_of c.args.self.now.limits.budget) a.linked) (around_of m a) (walk_of c.run.new.linked.items c.in_ok-around.around false) c.args.self.now.events c.reset.new.self
    c.in_ok-around.ensures c.requires.board c.reset.ensures
