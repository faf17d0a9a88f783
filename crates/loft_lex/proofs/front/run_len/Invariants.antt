use Rattle.std.proofs.Common.{length, drop, ◌-◌, ◌+◌, ◌≡◌, ◌≤◌}
use Rattle.std.specs.List.{prefix_len}
use Rattle.loft_lex.specs.Scan.{belongs}
use Rattle.loft_lex.proofs.front.run_len.Given as goal

abbrev pub invariant-loop-n : goal.invariant-loop-n
invariant-loop-n l = (l.n ≤ length l.bytes) × (l.n + prefix_len (belongs l.class) (drop l.n l.bytes) ≡ prefix_len (belongs l.class) l.bytes)

abbrev pub decreases-loop-n : goal.decreases-loop-n
decreases-loop-n l = length l.bytes - l.n
