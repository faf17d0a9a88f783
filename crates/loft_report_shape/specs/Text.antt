-- The text of a report (docs/REPORT.md, "The report").
use Rattle.std.specs.Prelude.{ℕ, List, [], ◌∷◌, ◌++◌, length}
use Rattle.std.specs.List.{flat_map}
use Rattle.std.specs.Fmt.{decimal}
use Rattle.loft_report_shape.specs.Word.{spelling}
use Rattle.loft_report_shape.specs.Told.{Report}
use Rattle.loft_report_shape.specs.declared.word.Word.{Word}
use Rattle.loft_report_shape.specs.declared.word.Word.TheVariants as word
use Rattle.loft_report_shape.specs.declared.raw.Choice.{Choice}
use Rattle.loft_report_shape.specs.declared.raw.Choice.TheVariants as choice
use Rattle.loft_report_shape.specs.declared.raw.RawBlock.{RawBlock}

-- a word, a blank, a text, and the line's end
abbrev pub line_of : Word → List ℕ → List ℕ
line_of w bytes = spelling w ++ 32 ∷ (bytes ++ 10 ∷ [])

abbrev pub choice_text : Choice → List ℕ
choice_text (choice.Take name) = line_of word.Take name
choice_text (choice.Give name) = line_of word.Give name
choice_text (choice.Pick n) = line_of word.Pick (decimal n)
choice_text (choice.Post n) = line_of word.Post (decimal n)
choice_text (choice.Client name) = line_of word.Client name

-- the options, how many choices there are, and the choices
abbrev pub head_text : Report → List ℕ
head_text r =
    (spelling word.Report ++ 10 ∷ []) ++ (line_of word.Instants (decimal r.options.limits.instants) ++ (line_of word.Budget (decimal r.options.limits.budget)
    ++ (line_of word.Block (decimal r.options.limits.block) ++ (line_of word.Workers (decimal r.options.workers)
    ++ (line_of word.History (decimal (length r.choices)) ++ flat_map choice_text r.choices)))))

abbrev pub block_text : RawBlock → List ℕ
block_text b = line_of word.Scheduler b.name ++ (flat_map (λ instant. instant) b.instants ++ b.last)

abbrev pub body_text : Report → List ℕ
body_text r = flat_map block_text r.blocks ++ r.left

abbrev pub text_of : Report → List ℕ
text_of r = head_text r ++ (body_text r ++ (spelling word.End ++ 10 ∷ []))
