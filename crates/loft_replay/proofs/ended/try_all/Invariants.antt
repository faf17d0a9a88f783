use Rattle.std.specs.Prelude.{false}
use Rattle.loft_course.specs.Course.{IsRun}
use Rattle.loft_replay.specs.Whole.{choice_at, HasTried}
use Rattle.loft_replay.proofs.ended.try_all.Given as goal

-- none of the choices so far was allowed
abbrev pub invariant-choices : goal.invariant-choices
invariant-choices g l =
    let x = g.X.Setting.program in
    let o = g.X.Setting.options in
    record {
      run : IsRun x o l.course;
      tried : HasTried x o l.fn.course.world.history (choice_at l.fn.kind) l.k false l.course.world.history;
    }
