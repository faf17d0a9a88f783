use Rattle.std.specs.Prelude.{take}
use Rattle.loft_course.specs.Course.{IsRun}
use Rattle.loft_replay.proofs.FollowLemmas.{HasFollowed}
use Rattle.loft_replay.proofs.replay.choose_all.Given as goal

-- the run of the choices so far
abbrev pub invariant-loop-index : goal.invariant-loop-index
invariant-loop-index g l =
    let x = g.X.Setting.program in
    let o = g.X.Setting.options in
    record {
      run : IsRun x o l.course;
      followed : HasFollowed x o (take l.index l.fn.c) l.index l.course.world.history;
    }
