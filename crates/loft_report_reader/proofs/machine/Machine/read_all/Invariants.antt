use Rattle.std.proofs.Common.{◌≡◌, ◌+◌, ◌-◌, ◌≤◌, min, true, length, drop}
use Rattle.loft_report_reader.specs.Machine.{machine_of, read_from, later_by, IsBegun}
use Rattle.loft_report_reader.proofs.machine.Machine.read_all.Given as goal

abbrev pub invariant-loop-at : goal.invariant-loop-at
invariant-loop-at l = record {
  within : l.at ≤ length l.piece;
  before : l.room.is_whole ≡ true → l.fn.room.is_whole ≡ true;
  begun : l.room.is_whole ≡ true → IsBegun (machine_of l.fn.self) → IsBegun (machine_of l.self);
  read : l.room.is_whole ≡ true → IsBegun (machine_of l.fn.self) → read_from (machine_of l.fn.self) l.piece ≡ later_by l.at (read_from (machine_of l.self) (drop l.at l.piece));
}

abbrev pub decreases-loop-at : goal.decreases-loop-at
decreases-loop-at l = (length l.piece - l.at) + min 1 (length l.self.word)
