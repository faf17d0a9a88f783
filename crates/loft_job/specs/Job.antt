-- What a job has still to send (docs/SEMANTICS.md, "Unlinked blocks").
use Rattle.std.specs.Prelude.{Bool, List, Option, Some, None}
use Rattle.loft_code.specs.Operations.{Automata}
use Rattle.loft_orders.specs.declared.order.Sent.{Sent}
use Rattle.loft_sense.specs.Machine.{Code}
use Rattle.loft_step.specs.Midst.{paused_outcome}
use Rattle.loft_block.specs.Blocks as block
use Rattle.loft_job.specs.declared.job.Job.{Job}
use Rattle.loft_job.specs.declared.job.JobStep.{JobStep}
use Rattle.loft_job.specs.declared.job.JobStep.TheVariants as job

-- what the job still sends by this code; nothing is said of one that has failed
abbrev pub left_of_job : Automata → Job → List Sent
left_of_job c j = block.left_of (Code c) (paused_outcome c) j.block

-- it ran out of memory
abbrev pub has_failed : Job → Bool
has_failed j = block.has_failed j.block

-- the order that a step gives
abbrev pub order_in : JobStep → Option Sent
order_in (job.Sent m) = Some m
order_in job.Over = None
