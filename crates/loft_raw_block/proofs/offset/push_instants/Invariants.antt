use Rattle.std.proofs.Common.{take}
use Rattle.std.specs.List.{flat_map}
use Rattle.loft_value_text.specs.Appending.{Appends}
use Rattle.loft_raw_block.proofs.offset.push_instants.Given as goal

-- the texts of those so far
abbrev pub invariant-loop-instant : goal.invariant-loop-instant
invariant-loop-instant g l =
    Appends g.W.TextWriter.is_whole g.W.TextWriter.kept g.W.TextWriter.extended l.initial.text l.text (flat_map (λ instant. instant) (take l.instant-index l.instants))
