use Rattle.std.proofs.Common.{◌≡◌, map}
use Rattle.loft_world.specs.Replay.{stand_of}
use Rattle.loft_course.specs.Course.{Stand}
use Rattle.loft_course.proofs.station.finish_all.Given as goal

-- what the schedulers so far leave
abbrev pub invariant-loop-station : goal.invariant-loop-station
invariant-loop-station g l = record {
  told : l.notes ≡ map (λ (s : Stand). s.notes) l.yielded;
  stands : l.finals ≡ map (λ (s : Stand). stand_of s.machine) l.yielded;
}
