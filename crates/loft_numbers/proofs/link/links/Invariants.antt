use Rattle.std.proofs.Common.{◌≡◌, ◌++◌, ◌-◌, drop, length}
use Rattle.loft_tree.specs.View.{source_of}
use Rattle.loft_numbers.specs.Numbers.{links_in}
use Rattle.loft_scopes.specs.Counts.{HasRoom}
use Rattle.loft_scopes.specs.Scopes.{none_yet}
use Rattle.loft_numbers.proofs.link.links.Given as goal

-- those that are left come after, and can be numbered
abbrev pub invariant-loop-item : goal.invariant-loop-item
invariant-loop-item l = record {
  room : HasRoom l.sofar (length l.items - l.item-index);
  rest : l.all.items ++ links_in l.sofar (source_of (drop l.item-index l.items)) ≡ links_in none_yet (source_of l.items);
}
