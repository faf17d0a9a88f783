use Rattle.std.proofs.Common.{◌≡◌, true, length, List}
use Rattle.std.specs.Prelude.{[], ◌∷◌}
use Rattle.loft_tree.specs.Fits.{Each}
use Rattle.loft_orders.specs.Text.{separated_by}
use Rattle.loft_order_lines.proofs.ListLemmas.{Left}
use Rattle.loft_order_lines.proofs.list.read_list.Given as goal

-- the items so far were read, and what is left are the texts of the others
abbrev pub invariant-parts : goal.invariant-parts
invariant-parts g l = record {
  whole : l.room.is_whole ≡ true → l.initial.room.is_whole ≡ true;
  text : l.room.is_whole ≡ true → Each (g.T.Item.has_text l.heads) l.items;
  rest : l.room.is_whole ≡ true → (xs : List _) → Each (g.T.Item.has_text l.heads) xs → l.bytes ≡ separated_by (l.between ∷ []) (g.T.Item.text l.heads) xs
      → Left l.between (g.T.Item.text l.heads) (g.T.Item.has_text l.heads) xs l.items l.left;
}

abbrev pub decreases-parts : goal.decreases-parts
decreases-parts g l = length l.left
