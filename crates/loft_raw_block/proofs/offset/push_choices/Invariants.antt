use Rattle.std.proofs.Common.{take}
use Rattle.std.specs.List.{flat_map}
use Rattle.loft_report_shape.specs.Text.{choice_text}
use Rattle.loft_value_text.specs.Appending.{Appends}
use Rattle.loft_raw_block.proofs.offset.push_choices.Given as goal

-- the texts of those so far
abbrev pub invariant-loop-choice : goal.invariant-loop-choice
invariant-loop-choice g l =
    Appends g.W.TextWriter.is_whole g.W.TextWriter.kept g.W.TextWriter.extended l.initial.text l.text (flat_map choice_text (take l.choice-index l.choices))
