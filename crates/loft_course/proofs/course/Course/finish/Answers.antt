use Rattle.std.proofs.Common.{sym, subst}
use Rattle.loft_world.specs.Replay.{IsReplayOf}
use Rattle.loft_course.specs.Course.{Course, IsRun}
use Rattle.loft_course.proofs.LastLemmas.{lasts}
use Rattle.loft_course.proofs.course.Course.finish.Goals as goal

pub returns-in-Ok-clause-replay : goal.returns-in-Ok-clause-replay
returns-in-Ok-clause-replay g c =
    let x = g.X.Setting.program in
    let o = g.X.Setting.options in
    subst (λ (q : Course). IsReplayOf x o.limits q.world.history c.in-Ok.notes c.in-Ok.finals) c.self.view_is
    (lasts x o _ c.in-Ok.notes c.in-Ok.finals (subst (IsRun x o) (sym c.self.view_is) c.requires.run) c.in-Ok.ensures.notes c.in-Ok.ensures.finals)
