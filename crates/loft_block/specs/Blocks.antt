-- What a block of an unlinked thread has still to send (docs/SEMANTICS.md, "Unlinked blocks").
use Rattle.std.specs.Prelude.{Bool, true, false, List, [], ◌++◌, Option, Some, None}
use Rattle.loft_orders.specs.declared.order.Sent.{Sent}
use Rattle.loft_sense.specs.Machine.{Prog}
use Rattle.loft_sense.specs.Run.{Outcome}
use Rattle.loft_sense.specs.Async.{async, block_sent}
use Rattle.loft_block.specs.declared.block.Block.{Block}
use Rattle.loft_block.specs.declared.block.Block.TheVariants.{Begins, Goes, Failed}

-- what a run in its midst still sends, where there is one
abbrev pub sent_if : {R : Type 0} → (R → Outcome) → Option R → List Sent
sent_if outcome None = []
sent_if outcome (Some run) = block_sent (outcome run)

-- what a block of a program still sends, where a run in its midst comes to this; nothing is said of one that has failed
abbrev pub left_of : {R : Type 0} → Prog → (R → Outcome) → Block R → List Sent
left_of x outcome (Begins t block) = async x t block
left_of x outcome (Goes orders run) = orders ++ sent_if outcome run
left_of x outcome Failed = []

abbrev pub has_failed : {R : Type 0} → Block R → Bool
has_failed (Begins t block) = false
has_failed (Goes orders run) = false
has_failed Failed = true
