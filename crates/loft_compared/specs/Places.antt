-- What is still to come of the text of a report (docs/REPORT.md, "The report").
use Rattle.std.specs.Prelude.{◌≡◌, ◌≢◌, ℕ, List, [], ◌∷◌, ◌++◌, Option, Some, None}
use Rattle.std.specs.List.{flat_map}
use Rattle.std.specs.Fmt.{decimal}
use Rattle.loft_base.specs.declared.options.RunOptions.{RunOptions}
use Rattle.loft_report_shape.specs.Word.{spelling}
use Rattle.loft_report_shape.specs.Text.{line_of, choice_text, block_text}
use Rattle.loft_report_shape.specs.declared.word.Word.TheVariants as word
use Rattle.loft_compared.specs.declared.place.Head.{Head}
use Rattle.loft_compared.specs.declared.place.Piece.{Piece}
use Rattle.loft_compared.specs.declared.place.Piece.TheVariants as piece
use Rattle.loft_compared.specs.declared.place.Place.{Place}

-- the lines of the options, and that of how many choices there are
abbrev pub options_text : RunOptions → ℕ → List ℕ
options_text o n =
    (spelling word.Report ++ 10 ∷ []) ++ (line_of word.Instants (decimal o.limits.instants) ++ (line_of word.Budget (decimal o.limits.budget)
    ++ (line_of word.Block (decimal o.limits.block) ++ (line_of word.Workers (decimal o.workers) ++ line_of word.History (decimal n)))))

abbrev pub head_text : Option Head → List ℕ
head_text None = []
head_text (Some h) = options_text h.options h.choices

-- all lines, one after another
abbrev pub joined : List (List ℕ) → List ℕ
joined texts = flat_map (λ text. text) texts

abbrev pub piece_text : Piece → List ℕ
piece_text (piece.Options h) = options_text h.options h.choices
piece_text (piece.Choice c) = choice_text c.now
piece_text (piece.Block name) = line_of word.Scheduler name.now
piece_text (piece.Kept bytes) = bytes.now

-- what is still to come from a place on
abbrev pub text_at : Place → List ℕ
text_at p =
    head_text p.head ++ (flat_map choice_text p.choices.now ++ (joined p.instants.now ++ (p.last.now
    ++ (flat_map block_text p.blocks.now ++ (p.left.now ++ p.end.now)))))

-- the first of the texts, if there is one, isn't empty
abbrev pub BeginsFilled : List (List ℕ) → Type 0
BeginsFilled [] = Unit {0}
BeginsFilled (text ∷ texts) = text ≢ []

-- neither options nor choices are still to come
abbrev pub IsPastHead : Place → Type 0
IsPastHead p = (p.head ≡ None) × (p.choices.now ≡ [])

-- nor is anything of a block
abbrev pub IsPastBlocks : Place → Type 0
IsPastBlocks p = IsPastHead p × (p.instants.now ≡ []) × (p.last.now ≡ []) × (p.blocks.now ≡ [])
