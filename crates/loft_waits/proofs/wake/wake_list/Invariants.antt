use Rattle.std.proofs.Common.{◌≡◌, length, take}
use Rattle.loft_waits.specs.Places.{SetsSome}
use Rattle.loft_waits.proofs.RangeLemmas.{SetsThese}
use Rattle.loft_waits.proofs.wake.wake_list.Given as goal

-- the flags of the first ones are set anew
abbrev pub invariant-loop-pos : goal.invariant-loop-pos
invariant-loop-pos l = record {
  many : length l.ready ≡ length l.fn.ready;
  some : SetsSome l.plain l.fn.ready l.ready;
  these : SetsThese l.plain (take l.pos-index l.list) l.ready;
}
