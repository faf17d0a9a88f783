use Rattle.std.proofs.Common.{◌≡◌, ◌<◌, ◌-◌, ◌++◌, ◌∙◌, ap, sym, refl, subst, arith, ℕ, List, drop, length, length-set, set}
use Rattle.loft_base.specs.declared.ids.ThreadId.{ThreadId}
use Rattle.loft_sense.specs.LawWords.{ended_in}
use Rattle.loft_sense.specs.Passes.{steps_left}
use Rattle.loft_effect.specs.View.{around_of}
use Rattle.loft_passes.specs.declared.runner.Runner.{Runner}
use Rattle.loft_passes.specs.View.{runners_of}
use Rattle.loft_ready.proofs.PositionLemmas.{ready_runs}
use Rattle.loft_ready.proofs.RunLemmas.{told_run, since, fewer_steps}
use Rattle.loft_line.specs.Line.{runners_in, with_waits, AreMarked, AreNamed, count_present}
use Rattle.loft_line.proofs.ListLemmas.{length_with, length_left}
use Rattle.loft_line.proofs.LineLemmas.{marked_run, present_run}
use Rattle.loft_line.proofs.NameLemmas.{named_run}
use Rattle.loft_line.proofs.RunLemmas.{HasRunSo, later_is, taken_there, entered_now, has_run, closes_same, long3, ready_held}
use Rattle.loft_line.proofs.CountLemmas.{counted_most, counted_least, counted_within}
use Rattle.loft_line.proofs.line.Line.run_at.Given as given
use Rattle.loft_line.proofs.line.Line.run_at.Goals as goal

pub leave-requires-clause-within : goal.leave-requires-clause-within
leave-requires-clause-within g c =
    let l = c.args.self.now in
    let same = length_with l.slots.items l.waits.waits in
    let within = c.requires.within in
    omega (arith, same, within)

pub set-requires : goal.set-requires
set-requires g c =
    let l = c.args.self.now in
    let same = length_with l.slots.items l.waits.waits in
    let many = c.requires.line.many in
    let within = c.requires.within in
    omega (arith, same, many, within)

pub index_mut-runner-requires : goal.index_mut-runner-requires
index_mut-runner-requires g c =
    let l = c.args.self.now in
    let same = length_with l.slots.items l.waits.waits in
    let within = c.requires.within in
    let left = length_left l.slots.items c.leave.new.slots.items l.waits.waits c.args.pos (omega (arith, same, within)) c.leave.ensures.slots in
    omega (arith, same, left, within)

pub enter-requires-clause-within : goal.enter-requires-clause-within
enter-requires-clause-within g c =
    let l = c.args.self.now in
    let same = length_with l.slots.items l.waits.waits in
    let within = c.requires.within in
    let left = length_left l.slots.items c.leave.new.slots.items l.waits.waits c.args.pos (omega (arith, same, within)) c.leave.ensures.slots in
    let long = length-set c.leave.new.slots.items c.args.pos c.run_counted.new.runner in
    omega (arith, same, left, long, within)

did : (g : given.Over) (c : goal.In_ok-enter g)
    → HasRunSo (g.I.Interpreter.program c.args.interpreter.now) c.args.pos c.args.self.now.slots.items c.enter.new.slots.items c.args.self.now.waits c.enter.new.waits (around_of c.args.around.now) (around_of c.run_counted.new.around)
did g c =
    let x = g.I.Interpreter.program c.args.interpreter.now in
    let l = c.args.self.now in
    let s0 = l.slots.items in
    let s1 = c.leave.new.slots.items in
    let r = c.index_mut-runner.result.now in
    let n = c.run_counted.new.runner in
    let p = c.args.pos in
    let a = around_of c.args.around.now in
    let b = around_of c.run_counted.new.around in
    let same = length_with s0 l.waits.waits in
    let has = c.requires.within in
    let within : p < length s0 = omega (arith, same, has) in
    let t = told_run x r a b (c.acts_tell_what_was_done.ensures.run x r.thread a (r.bound - r.steps)) c.in_ok-run_counted.ensures.around in
    let ends = since a.known (ended_in t.more) b.known c.from-2.result.now c.len-known.result c.len-known.ensures t.known (c.from-2.ensures ∙ ap (λ (k : List ThreadId). drop c.len-known.result k) c.as_slice-2.ensures) in
    let known = t.known ∙ ap (λ (k : List ThreadId). a.known ++ k) (sym ends) in
    let there = taken_there s0 s1 l.waits.waits p r within c.leave.ensures.slots c.index_mut-runner.ensures.value in
    record {
      run = has_run x s0 s1 c.enter.new.slots.items l.waits c.leave.new.waits c.tell_acts.new.waits c.tell_ends.new.waits c.enter.new.waits p r n a b c.from-2.result.now within c.requires.entered c.leave.ensures.slots c.leave.ensures.told c.tell_acts.ensures c.in_ok-tell_ends.ensures c.in_ok-enter.ensures.told c.in_ok-enter.ensures.slots there c.in_ok-run_counted.ensures.linked c.in_ok-run_counted.ensures.around;
      entered = entered_now x s0 s1 c.enter.new.slots.items l.waits c.leave.new.waits c.tell_acts.new.waits c.tell_ends.new.waits c.enter.new.waits p r n a b c.from-2.result.now within c.requires.entered c.leave.ensures.slots c.leave.ensures.told c.tell_acts.ensures c.in_ok-tell_ends.ensures c.in_ok-enter.ensures.told c.in_ok-enter.ensures.slots known;
      before = r;
      there = there;
      held = ready_held (runners_in l) a l.waits p r c.requires.entered there c.requires.ready;
      closes = closes_same x s0 s1 c.enter.new.slots.items l.waits c.leave.new.waits c.tell_acts.new.waits c.tell_ends.new.waits c.enter.new.waits p r n a b c.from-2.result.now within c.requires.entered c.leave.ensures.slots c.leave.ensures.told c.tell_acts.ensures c.in_ok-tell_ends.ensures c.in_ok-enter.ensures.told c.in_ok-enter.ensures.slots;
      long = long3 x s0 s1 c.enter.new.slots.items l.waits c.leave.new.waits c.tell_acts.new.waits c.tell_ends.new.waits c.enter.new.waits p r n a b c.from-2.result.now within c.requires.entered c.leave.ensures.slots c.leave.ensures.told c.tell_acts.ensures c.in_ok-tell_ends.ensures c.in_ok-enter.ensures.told c.in_ok-enter.ensures.slots;
    }

pub returns-clause-run : goal.returns-clause-run
returns-clause-run g c = (did g c).run

pub returns-clause-entered : goal.returns-clause-entered
returns-clause-entered g c = (did g c).entered

pub returns-clause-line : goal.returns-clause-line
returns-clause-line g c =
    let l = c.args.self.now in
    let rs = runners_in l in
    let p = c.args.pos in
    let d = did g c in
    let a = around_of c.args.around.now in
    let same = c.requires.line.many ∙ sym (length_with l.slots.items l.waits.waits) in
    let within : p < length l.ran = let has = c.requires.within in omega (arith, same, has) in
    let now = with_waits c.enter.new.slots.items c.enter.new.waits.waits in
    let ran = c.set.ensures in
    record {
      waits = d.entered.waits;
      many = ap (λ (b : List ℕ). length b) ran ∙ length-set l.ran p 1 ∙ c.requires.line.many ∙ sym d.long;
      marked = subst (λ (b : List ℕ). AreMarked l.budget now b) (sym ran) (subst (λ (q : List Runner). AreMarked l.budget q (set l.ran p 1)) (sym d.run.later_is) (marked_run l.budget rs l.ran p d.run.now within c.requires.line.marked));
      held = c.requires.line.held ∙ sym (ap (count_present now) ran ∙ ap (λ (q : List Runner). count_present q (set l.ran p 1)) d.run.later_is ∙ present_run rs l.ran p d.before d.run.now same d.there d.held);
      named = subst (AreNamed l.finder) (sym d.run.later_is)
          (named_run (g.I.Interpreter.program c.args.interpreter.now) l.finder rs p d.run.before d.run.now a (d.run.before.bound - d.run.before.steps) d.run.there
          (ready_held rs a l.waits p d.run.before c.requires.entered d.run.there c.requires.ready) d.run.linked c.requires.line.named);
    }

pub returns-clause-keeps : goal.returns-clause-keeps
returns-clause-keeps g c = record { budget = refl; closes = (did g c).closes }

fewer : (g : given.Over) (c : goal.In_ok-enter g)
    → steps_left (runners_of (with_waits c.enter.new.slots.items c.enter.new.waits.waits)) < steps_left (runners_of (runners_in c.args.self.now))
fewer g c =
    let l = c.args.self.now in
    let a = around_of c.args.around.now in
    let d = did g c in
    fewer_steps (g.I.Interpreter.program c.args.interpreter.now) c.args.pos (runners_in l) (with_waits c.enter.new.slots.items c.enter.new.waits.waits) a (around_of c.run_counted.new.around) d.run
    (sym (ready_runs (runners_in l) a l.waits c.args.pos d.run.before c.requires.entered d.run.there) ∙ c.requires.ready)

later : (g : given.Over) (c : goal.In_ok-enter g)
    → with_waits c.enter.new.slots.items c.enter.new.waits.waits ≡ set (runners_in c.args.self.now) c.args.pos c.run_counted.new.runner
later g c =
    let x = g.I.Interpreter.program c.args.interpreter.now in
    let l = c.args.self.now in
    let s0 = l.slots.items in
    let same = length_with s0 l.waits.waits in
    let has = c.requires.within in
    let within : c.args.pos < length s0 = omega (arith, same, has) in
    later_is x s0 c.leave.new.slots.items c.enter.new.slots.items l.waits c.leave.new.waits c.tell_acts.new.waits c.tell_ends.new.waits c.enter.new.waits c.args.pos c.index_mut-runner.result.now c.run_counted.new.runner (around_of c.args.around.now) (around_of c.run_counted.new.around) c.from-2.result.now within c.requires.entered c.leave.ensures.slots c.leave.ensures.told c.tell_acts.ensures c.in_ok-tell_ends.ensures c.in_ok-enter.ensures.told c.in_ok-enter.ensures.slots

pub returns-clause-counted : goal.returns-clause-counted
unfolding did
returns-clause-counted g c =
    let d = did g c in
    counted_most (runners_in c.args.self.now) _ c.args.pos c.index_mut-runner.result.now c.run_counted.new.runner d.there (later g c) d.held (fewer g c) c.in_ok-run_counted.ensures.bound c.in_ok-run_counted.ensures.runs c.args.steps.now c.run_counted.new.steps c.in_ok-run_counted.ensures.counted

pub returns-clause-least : goal.returns-clause-least
unfolding did
returns-clause-least g c = λ budget.
    let d = did g c in
    counted_least (runners_in c.args.self.now) _ c.args.pos c.index_mut-runner.result.now c.run_counted.new.runner d.there (later g c) d.held (fewer g c) c.in_ok-run_counted.ensures.bound c.in_ok-run_counted.ensures.runs c.args.steps.now c.run_counted.new.steps c.in_ok-run_counted.ensures.counted budget

pub returns-clause-within : goal.returns-clause-within
returns-clause-within g c = counted_within c.args.self.now c.leave.new.slots.items c.args.pos c.index_mut-runner.result.now (around_of c.args.around.now) c.args.steps.now c.run_counted.new.steps c.requires.within c.leave.ensures.slots c.index_mut-runner.ensures.value c.requires.entered c.requires.ready c.run_counted.ensures.within

pub returns-in_err-run_counted-clause-within : goal.returns-in_err-run_counted-clause-within
returns-in_err-run_counted-clause-within g c = counted_within c.args.self.now c.leave.new.slots.items c.args.pos c.index_mut-runner.result.now (around_of c.args.around.now) c.args.steps.now c.run_counted.new.steps c.requires.within c.leave.ensures.slots c.index_mut-runner.ensures.value c.requires.entered c.requires.ready c.run_counted.ensures.within

pub returns-in_err-tell_ends-clause-within : goal.returns-in_err-tell_ends-clause-within
returns-in_err-tell_ends-clause-within g c = counted_within c.args.self.now c.leave.new.slots.items c.args.pos c.index_mut-runner.result.now (around_of c.args.around.now) c.args.steps.now c.run_counted.new.steps c.requires.within c.leave.ensures.slots c.index_mut-runner.ensures.value c.requires.entered c.requires.ready c.run_counted.ensures.within

pub returns-in_err-enter-clause-within : goal.returns-in_err-enter-clause-within
returns-in_err-enter-clause-within g c = counted_within c.args.self.now c.leave.new.slots.items c.args.pos c.index_mut-runner.result.now (around_of c.args.around.now) c.args.steps.now c.run_counted.new.steps c.requires.within c.leave.ensures.slots c.index_mut-runner.ensures.value c.requires.entered c.requires.ready c.run_counted.ensures.within
