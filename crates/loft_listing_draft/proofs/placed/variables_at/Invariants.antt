use Rattle.std.proofs.Common.{true, ◌≡◌, map, take}
use Rattle.loft_tree.specs.View.{named_of}
use Rattle.loft_listing_draft.specs.Lined.{variable_at}
use Rattle.loft_listing_draft.proofs.placed.variables_at.Given as goal

abbrev pub invariant-loop-variable : goal.invariant-loop-variable
invariant-loop-variable l = record {
  whole : l.room.is_whole ≡ true → l.initial.room.is_whole ≡ true;
  copy : l.room.is_whole ≡ true → map named_of l.copy.items ≡ map (variable_at l.at) (map named_of (take l.variable-index l.variables));
}
