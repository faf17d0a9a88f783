use Rattle.std.proofs.Common.{◌≡◌, ◌∙◌, ℕ, Option, sym, ap, subst, refl, true}
use Rattle.std.specs.Prelude.{MatchOption}
use Rattle.loft_orders.specs.declared.entry.Entry.TheVariants.{Pick}
use Rattle.loft_orders.specs.declared.thread.Thread.{Thread}
use Rattle.loft_sense.specs.Machine.{Prog}
use Rattle.loft_sense.specs.Async.{async}
use Rattle.loft_world.specs.State.{State, with_entry}
use Rattle.loft_course.specs.Course.{hand_after}
use Rattle.loft_course.proofs.RunsOn.{same_hand}
use Rattle.loft_course.proofs.WorkersRun.{picked_hand}
use Rattle.loft_course.proofs.worker.Worker.pick.Goals as goal

pub returns-clause-hand : goal.returns-clause-hand
returns-clause-hand g c =
    let e = g.B.BlockEngine in
    let x = g.X.Setting.program in
    let o = g.X.Setting.options in
    let engine = c.self.inside.engine in
    let w = c.args.w in
    let t = c.in-Some.thread in
    let old = c.args.world.now in
    let grown : c.pick.new.self ≡ with_entry old (Pick w t) =
    subst (λ (q : Option Thread). MatchOption q (c.pick.new.self ≡ old) (λ (u : Thread). c.pick.new.self ≡ with_entry old (Pick w u))) c.in-Some.is c.in_ok-thread.ensures.ok in
    let left : e.left c.begin.new.self ≡ async x t o.limits.block =
    c.begin.ensures.left
    ∙ (ap (λ (p : Prog). async p t (e.bound engine)) c.self.invariant.0
    ∙ ap (λ (n : ℕ). async x t n) c.self.invariant.1) in
    same_hand (record { left = e.left c.begin.new.self; busy = true }) (record { left = async x t o.limits.block; busy = true }) left refl
    ∙ (sym (picked_hand x o old.history w t) ∙ ap (λ (s : State). hand_after x o s.history w) (sym grown))
