-- What a job has still to send (docs/SEMANTICS.md, "Unlinked blocks").
use Rattle.std.specs.Prelude.{Bool, List}
use Rattle.loft_tree.specs.ProgramView.{program_of}
use Rattle.loft_tree.specs.Resolved.{Resolved, resolved_of}
use Rattle.loft_orders.specs.declared.order.Sent.{Sent}
use Rattle.loft_sense.specs.Machine.{Tree}
use Rattle.loft_walk.specs.Midst.{paused_outcome}
use Rattle.loft_block.specs.Blocks as block
use Rattle.loft_plain.specs.declared.job.PlainJob.{PlainJob}

-- the program of a job
abbrev pub tree_of_job : PlainJob → Resolved
tree_of_job j = resolved_of (program_of j.walker.placed.now)

-- what the job still sends; nothing is said of one that has failed
abbrev pub left_of_job : PlainJob → List Sent
left_of_job j = block.left_of (Tree (tree_of_job j)) (paused_outcome (tree_of_job j)) j.block

-- it ran out of memory
abbrev pub has_failed_job : PlainJob → Bool
has_failed_job j = block.has_failed j.block
