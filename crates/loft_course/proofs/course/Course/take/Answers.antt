use Rattle.std.proofs.Common.{◌∙◌, ℕ, ◌<◌, ◌≤◌, sym, ap, subst, refl, length}
use Rattle.loft_tree.specs.declared.heads.Heads.{Heads}
use Rattle.loft_history.specs.History.{TakeBy}
use Rattle.loft_course.specs.Course.{IsRun}
use Rattle.loft_course.proofs.RunsOn.{turned, takes_none, so_many, stands_there, not_below, all_ok}
use Rattle.loft_course.proofs.course.Course.take.Goals as goal

pub returns-then-at-len-clause-moves : goal.returns-then-at-len-clause-moves
returns-then-at-len-clause-moves g c =
    let x = g.X.Setting.program in
    let o = g.X.Setting.options in
    let run : IsRun x o (record { world = c.self.inside.world; stations = c.self.inside.stations.items; workers = c.self.inside.workers.items; given = c.self.inside.given.items }) = subst (IsRun x o) (sym c.self.view_is) c.requires.run in
    let beyond : length c.self.inside.stations.items ≤ c.args.s.0 = subst (λ (n : ℕ). n ≤ c.args.s.0) (c.len.ensures ∙ c.self.inside.stations.ok.0) c.if-at-len.true in
    takes_none x o c.args.self.now.world.history c.args.s (not_below c.args.s.0 _ (subst (λ (n : ℕ). n ≤ c.args.s.0) (so_many x o _ run) beyond))

pub take-requires-clause-declared : goal.take-requires-clause-declared
take-requires-clause-declared g c =
    let x = g.X.Setting.program in
    let o = g.X.Setting.options in
    let run : IsRun x o (record { world = c.self.inside.world; stations = c.self.inside.stations.items; workers = c.self.inside.workers.items; given = c.self.inside.given.items }) = subst (IsRun x o) (sym c.self.view_is) c.requires.run in
    let there : c.args.s.0 < length c.self.inside.stations.items = subst (λ (n : ℕ). c.args.s.0 < n) (c.len.ensures ∙ c.self.inside.stations.ok.0) c.if-at-len.false in
    subst (λ (n : ℕ). c.args.s.0 < n) (so_many x o _ run ∙ ap (λ (h : Heads). length h.schedulers) (sym run.heads)) there

pub take-requires-clause-fits : goal.take-requires-clause-fits
take-requires-clause-fits g c =
    let x = g.X.Setting.program in
    let o = g.X.Setting.options in
    let run : IsRun x o (record { world = c.self.inside.world; stations = c.self.inside.stations.items; workers = c.self.inside.workers.items; given = c.self.inside.given.items }) = subst (IsRun x o) (sym c.self.view_is) c.requires.run in
    let there : c.args.s.0 < length c.self.inside.stations.items = subst (λ (n : ℕ). c.args.s.0 < n) (c.len.ensures ∙ c.self.inside.stations.ok.0) c.if-at-len.false in
    c.requires.can.waiting _ _ run.made c.args.s (subst (λ (n : ℕ). c.args.s.0 < n) (so_many x o _ run) there)

pub take-requires-clause-stands : goal.take-requires-clause-stands
take-requires-clause-stands g c =
    let x = g.X.Setting.program in
    let o = g.X.Setting.options in
    let run : IsRun x o (record { world = c.self.inside.world; stations = c.self.inside.stations.items; workers = c.self.inside.workers.items; given = c.self.inside.given.items }) = subst (IsRun x o) (sym c.self.view_is) c.requires.run in
    let there : c.args.s.0 < length c.self.inside.stations.items = subst (λ (n : ℕ). c.args.s.0 < n) (c.len.ensures ∙ c.self.inside.stations.ok.0) c.if-at-len.false in
    c.index_mut.ensures.value ∙ stands_there x o _ c.args.s.0 c.index_mut.result.now run (subst (λ (n : ℕ). c.args.s.0 < n) (so_many x o _ run) there)

pub returns-clause-run : goal.returns-clause-run
returns-clause-run g c =
    let x = g.X.Setting.program in
    let o = g.X.Setting.options in
    let run : IsRun x o (record { world = c.self.inside.world; stations = c.self.inside.stations.items; workers = c.self.inside.workers.items; given = c.self.inside.given.items }) = subst (IsRun x o) (sym c.self.view_is) c.requires.run in
    all_ok c.take.result c.take.ensures.stands c.take.ensures.moves c.take.ensures.heads
    (λ moved stands moves same. turned x o _ c.take.new.world c.args.s c.take.new.self (TakeBy c.args.s) moved run refl moves same stands)
