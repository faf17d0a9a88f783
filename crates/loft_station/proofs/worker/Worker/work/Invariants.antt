use Rattle.std.proofs.Common.{length}
use Rattle.loft_code.specs.View.{automata_of}
use Rattle.loft_job.specs.Job.{left_of_job}
use Rattle.loft_station.specs.Workers.{IsSame, HasToPost, PostedBut}
use Rattle.loft_station.proofs.worker.Worker.work.Given as goal

abbrev pub invariant-posts : goal.invariant-posts
invariant-posts g l = record {
  same' : IsSame l.initial.self l.self;
  left : HasToPost l.b l.c (left_of_job (automata_of l.c) l.job) l.self;
  posted : PostedBut (left_of_job (automata_of l.c) l.initial.job) (left_of_job (automata_of l.c) l.job) l.initial.self l.self;
}

abbrev pub decreases-posts : goal.decreases-posts
decreases-posts g l = length (left_of_job (automata_of l.c) l.job)
