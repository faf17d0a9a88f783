use Rattle.std.proofs.Common.{◌≡◌, ◌++◌, ◌≤◌, drop, take, length}
use Rattle.loft_history.specs.History.{jobs_sent}
use Rattle.loft_world.proofs.orders.add_jobs.Given as goal

-- the threads so far and those of the rest are all of them, and those that were there come first
abbrev pub invariant-loop-sent : goal.invariant-loop-sent
invariant-loop-sent l =
    (l.jobs.items ++ jobs_sent (drop l.sent-index l.sents) ≡ l.fn.jobs.items ++ jobs_sent l.sents)
    × (length l.fn.jobs.items ≤ length l.jobs.items)
    × (take (length l.fn.jobs.items) l.jobs.items ≡ l.fn.jobs.items)
