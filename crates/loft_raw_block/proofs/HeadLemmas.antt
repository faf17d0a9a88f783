-- The parts of a report's text.
use Rattle.std.proofs.Common.{◌≡◌, ℕ, List, [], ◌∷◌, ◌++◌, length, codes, refl}
use Rattle.std.specs.Fmt.{decimal}
use Rattle.std.specs.List.{flat_map}
use Rattle.loft_report_shape.specs.Told.{Report}
use Rattle.loft_report_shape.specs.Text.{choice_text, block_text, head_text}
use Rattle.loft_report_shape.specs.declared.raw.RawBlock.{RawBlock}

-- a line of a word and a number, as it is written
abbrev pub line : List ℕ → List ℕ → List ℕ
line word bytes = word ++ (bytes ++ 10 ∷ [])

-- the options and the choices, line by line
pub head_parts : (r : Report) → head_text r ≡ codes "loft-report 1\n" ++ (line (codes "instants ") (decimal r.options.limits.instants) ++ (line (codes "budget ") (decimal r.options.limits.budget)
    ++ (line (codes "block ") (decimal r.options.limits.block) ++ (line (codes "workers ") (decimal r.options.workers) ++ (line (codes "history ") (decimal (length r.choices)) ++ flat_map choice_text r.choices)))))
head_parts r = refl

-- a block, part by part
pub block_parts : (b : RawBlock) → block_text b ≡ (codes "scheduler " ++ (b.name ++ 10 ∷ [])) ++ (flat_map (λ instant. instant) b.instants ++ b.last)
block_parts b = refl
