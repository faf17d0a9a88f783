-- What the blocks of a worker show (docs/SEMANTICS.md, "Unlinked blocks").
use Rattle.std.specs.Prelude.{ℕ, List, [], Option, Some, None}
use Rattle.loft_tree.specs.ProgramView.{program_of}
use Rattle.loft_tree.specs.Resolved.{resolved_of}
use Rattle.loft_orders.specs.declared.order.Sent.{Sent}
use Rattle.loft_sense.specs.Machine.{Prog, Tree}
use Rattle.loft_plain.specs.declared.job.PlainJob.{PlainJob}
use Rattle.loft_plain.specs.PlainJob.{left_of_job}
use Rattle.loft_replay.specs.declared.plain_blocks.PlainBlocks.{PlainBlocks}

abbrev pub tree_of : PlainBlocks → Prog
tree_of b = Tree (resolved_of (program_of b.placed.now))

abbrev pub bound_of : PlainBlocks → ℕ
bound_of b = b.bound

-- what a job still sends, where there is one
abbrev pub left_in : Option PlainJob → List Sent
left_in None = []
left_in (Some job) = left_of_job job

abbrev pub left_of : PlainBlocks → List Sent
left_of b = left_in b.job
