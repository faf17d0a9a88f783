use Rattle.std.proofs.Common.{true, ◌≡◌, ◌++◌, drop}
use Rattle.loft_show.specs.Canon.{further_pieces, pieces_text}
use Rattle.loft_show.proofs.list.put_further.Given as goal

-- those that are left come after
abbrev pub invariant-loop-item : goal.invariant-loop-item
invariant-loop-item g l = record { whole : l.out.is_whole ≡ true → l.initial.out.is_whole ≡ true; text : l.out.is_whole ≡ true → l.out.text.items ++ pieces_text (further_pieces g.T.Listed.pieces (drop l.item-index l.items)) ≡ l.initial.out.text.items ++ pieces_text (further_pieces g.T.Listed.pieces l.items) }
