use Rattle.std.proofs.Common.{◌≡◌, drop}
use Rattle.loft_sense.specs.Tree.{stop_at, after_body}
use Rattle.loft_walk.specs.Pieces.{body_from, work_of}
use Rattle.loft_walk.proofs.resume.+find.Given as goal

-- the work is as it was, and the stop is looked for in the rest
abbrev pub invariant-find_in_body-loop-i : goal.invariant-find_in_body-loop-i
invariant-find_in_body-loop-i l = record {
  kept : l.work.items ≡ l.initial.work.items;
  stops : stop_at (body_from l.body) l.k ≡ stop_at (body_from (drop l.i l.body)) l.k;
  same : after_body (body_from l.body) l.k l.counts (work_of l.initial.work.items) ≡ after_body (body_from (drop l.i l.body)) l.k l.counts (work_of l.initial.work.items);
}
