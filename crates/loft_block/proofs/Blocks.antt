-- Blocks, and the runs that they have in their midst.
use Rattle.std.proofs.Common.{ℕ, suc, Option, Some, None}

-- one more than the steps that a run has left, and 0 where it has stopped
abbrev pub left_if : {R : Type 0} → (R → ℕ) → Option R → ℕ
left_if left None = 0
left_if left (Some run) = suc (left run)
