use Rattle.std.proofs.Common.{◌∙◌, ℕ, ◌<◌, ◌≤◌, sym, subst, refl, length}
use Rattle.loft_history.specs.History.{PickBy}
use Rattle.loft_course.specs.Course.{IsRun}
use Rattle.loft_course.proofs.RunsOn.{not_below, all_ok}
use Rattle.loft_course.proofs.WorkersRun.{worked, pick_beyond, so_many_workers, hand_there}
use Rattle.loft_course.proofs.course.Course.pick.Goals as goal

pub returns-then-at-len-clause-moves : goal.returns-then-at-len-clause-moves
returns-then-at-len-clause-moves g c =
    let x = g.X.Setting.program in
    let o = g.X.Setting.options in
    let run : IsRun x o (record { world = c.self.inside.world; stations = c.self.inside.stations.items; workers = c.self.inside.workers.items; given = c.self.inside.given.items }) = subst (IsRun x o) (sym c.self.view_is) c.requires.run in
    let beyond : length c.self.inside.workers.items ≤ c.args.w = subst (λ (n : ℕ). n ≤ c.args.w) (c.len.ensures ∙ c.self.inside.workers.ok.0) c.if-at-len.true in
    pick_beyond x o c.args.self.now.world.history c.args.w (not_below c.args.w _ (subst (λ (n : ℕ). n ≤ c.args.w) (so_many_workers x o _ run) beyond))

pub pick-requires-clause-declared : goal.pick-requires-clause-declared
pick-requires-clause-declared g c =
    let x = g.X.Setting.program in
    let o = g.X.Setting.options in
    let run : IsRun x o (record { world = c.self.inside.world; stations = c.self.inside.stations.items; workers = c.self.inside.workers.items; given = c.self.inside.given.items }) = subst (IsRun x o) (sym c.self.view_is) c.requires.run in
    let there : c.args.w < length c.self.inside.workers.items = subst (λ (n : ℕ). c.args.w < n) (c.len.ensures ∙ c.self.inside.workers.ok.0) c.if-at-len.false in
    subst (λ (n : ℕ). c.args.w < n) (so_many_workers x o _ run) there

pub pick-requires-clause-hand : goal.pick-requires-clause-hand
pick-requires-clause-hand g c =
    let x = g.X.Setting.program in
    let o = g.X.Setting.options in
    let run : IsRun x o (record { world = c.self.inside.world; stations = c.self.inside.stations.items; workers = c.self.inside.workers.items; given = c.self.inside.given.items }) = subst (IsRun x o) (sym c.self.view_is) c.requires.run in
    let there : c.args.w < length c.self.inside.workers.items = subst (λ (n : ℕ). c.args.w < n) (c.len.ensures ∙ c.self.inside.workers.ok.0) c.if-at-len.false in
    c.index_mut.ensures.value ∙ hand_there x o _ c.args.w c.index_mut.result.now run (subst (λ (n : ℕ). c.args.w < n) (so_many_workers x o _ run) there)

pub returns-clause-run : goal.returns-clause-run
returns-clause-run g c =
    let x = g.X.Setting.program in
    let o = g.X.Setting.options in
    let run : IsRun x o (record { world = c.self.inside.world; stations = c.self.inside.stations.items; workers = c.self.inside.workers.items; given = c.self.inside.given.items }) = subst (IsRun x o) (sym c.self.view_is) c.requires.run in
    all_ok c.pick.result c.pick.ensures.hand c.pick.ensures.moves c.pick.ensures.heads
    (λ moved hand moves same. worked x o _ c.pick.new.world c.args.w c.pick.new.self (PickBy c.args.w) moved run c.requires.can refl moves same hand)
