use Rattle.std.proofs.Common.{◌++◌, take}
use Rattle.std.specs.List.{flat_map}
use Rattle.loft_value_text.specs.Appending.{Appends}
use Rattle.loft_value_text.proofs.text.push_separated_by.Given as goal

-- the first item stands there, and those so far, each after the text between them
abbrev pub invariant-loop-item : goal.invariant-loop-item
invariant-loop-item g l =
    Appends g.W.TextWriter.is_whole g.W.TextWriter.kept g.W.TextWriter.extended l.initial.line l.line (flat_map (λ item. l.between ++ g.T.Item.text l.heads item) (take l.item-index l.rest))
