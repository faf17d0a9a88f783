-- The block that a replay answers is whole lines.
use Rattle.std.proofs.Common.{◌≡◌, ℕ, List, true, Ok, Err, ap, ◌∙◌}
use Rattle.loft_base.specs.Writing.{are_lines}
use Rattle.loft_base.specs.declared.ids.SchedId.{SchedId}
use Rattle.loft_sense.specs.Machine.{Prog, heads}
use Rattle.loft_sense.specs.Instant.{replay}
use Rattle.loft_history.specs.Report.{block_lines}
use Rattle.loft_report_shape.specs.Told.{Report}
use Rattle.loft_replay_error.specs.declared.error.ReplayError.TheVariants as error
use Rattle.loft_block_replay.specs.Answer.{HasCause, Gives}
use Rattle.loft_commands.proofs.AnswerLines.{text_lines}

same_bytes : (a b : List ℕ) → Gives (Ok a) (Ok b) → a ≡ b
same_bytes a b same = cc

pub whole_block : (x : Prog) (r : Report) (s : SchedId) (bytes : List ℕ) → HasCause x r s (Ok bytes) → are_lines bytes ≡ true
whole_block x r s bytes (Ok other, is, same) =
    ap are_lines (same_bytes bytes other same ∙ (is.same ∙ is.right)) ∙ text_lines (block_lines (heads x) s is.batches (replay x r.options.limits s is.batches))
whole_block x r s bytes (Err (error.NotAllowed n), is, same) = absurd cc
whole_block x r s bytes (Err (error.Differs byte), is, same) = absurd cc
whole_block x r s bytes (Err error.NoMemory, is, same) = absurd is
whole_block x r s bytes (Err (error.Log e), is, same) = absurd is
