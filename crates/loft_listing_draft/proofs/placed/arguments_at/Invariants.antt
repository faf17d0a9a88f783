use Rattle.std.proofs.Common.{true, ◌≡◌, map, take}
use Rattle.loft_tree.specs.View.{argument_of}
use Rattle.loft_listing_draft.specs.Lined.{argument_at}
use Rattle.loft_listing_draft.proofs.placed.arguments_at.Given as goal

abbrev pub invariant-loop-argument : goal.invariant-loop-argument
invariant-loop-argument l = record {
  whole : l.room.is_whole ≡ true → l.initial.room.is_whole ≡ true;
  copy : l.room.is_whole ≡ true → map argument_of l.copy.items ≡ map (argument_at l.at) (map argument_of (take l.argument-index l.arguments));
}
