-- What comes last brings what comes last, up to the last line's end.
use Rattle.std.proofs.Common.{◌≡◌, ℕ, ◌-◌, Bool, true, false, ◌==◌, List, [], ◌∷◌, ◌++◌, Some, ◌⊎◌, inl, inr, refl, if◌then◌else◌}
use Rattle.loft_spelling.specs.Parts.{parts_over}
use Rattle.loft_report_shape.specs.Word.{word_of}
use Rattle.loft_report_shape.specs.Sets.{set_of, menu, block_words, choice_words, final_words, thread_words, batch_words, line_words}
use Rattle.loft_report_shape.specs.Grammar.{after, after_blocks, after_final, after_choice, after_line, blank, thread}
use Rattle.loft_report_shape.specs.Report.{grammar}
use Rattle.loft_report_shape.specs.declared.part.Part.{Part}
use Rattle.loft_report_shape.specs.declared.part.Part.TheVariants as part
use Rattle.loft_report_shape.specs.declared.part.NumberKind.TheVariants as number
use Rattle.loft_report_shape.specs.declared.part.Stage.{Stage}
use Rattle.loft_report_shape.specs.declared.part.Stage.TheVariants as stage
use Rattle.loft_report_shape.proofs.WordLemmas.{AllOf, by_word}
use Rattle.loft_report_reader.specs.Machine.{is_bottom, bottomed}

-- something comes, and what comes last is such a part
abbrev pub Brings : List Part → Type 0
Brings ps = (parts_over grammar ps ≡ false) × (bottomed ps ≡ true)

blocks_bring : AllOf (λ x. Brings (after_blocks (Some x))) block_words
unfolding bottomed
blocks_bring = ((refl, refl), ((refl, refl), tt))

finals_bring : AllOf (λ x. Brings (after_final (Some x))) final_words
unfolding bottomed
finals_bring = ((refl, refl), ((refl, refl), ((refl, refl), tt)))

choices_bring : (n : ℕ) → AllOf (λ x. Brings (after_choice (Some x) n)) choice_words
unfolding bottomed
choices_bring n = ((refl, refl), ((refl, refl), ((refl, refl), ((refl, refl), ((refl, refl), tt)))))

batch_brings : (s : Stage) → AllOf (λ x. Brings (after_line s (Some x))) batch_words
unfolding bottomed
batch_brings s = ((refl, refl), ((refl, refl), ((refl, refl), ((refl, refl), ((refl, refl), ((refl, refl), ((refl, refl), ((refl, refl), ((refl, refl), ((refl, refl), ((refl, refl), ((refl, refl), tt))))))))))))

lines_bring : (s : Stage) → AllOf (λ x. Brings (after_line s (Some x))) (line_words s)
lines_bring stage.Fresh = (batch_brings stage.Fresh).1.1.1.1.1.1.1.1.1.1
lines_bring stage.Batch = batch_brings stage.Batch
lines_bring stage.Ordered = batch_brings stage.Ordered
lines_bring stage.Acts = (batch_brings stage.Acts).1.1.1
lines_bring stage.Leaving = (batch_brings stage.Leaving).1.1.1.1.1.1.1
lines_bring stage.Standing = (batch_brings stage.Standing).1.1.1.1.1.1.1.1
lines_bring stage.Changed = (batch_brings stage.Changed).1.1.1.1.1.1.1.1.1

pub brings : (p : Part) (w : List ℕ) → is_bottom p ≡ true → (set_of p).whole w ≡ true → (p ≡ part.Close) ⊎ Brings (after p w)
unfolding bottomed
brings (part.Number number.History) w b e = inr (refl, refl)
brings (part.Number number.States) w b e = inr (refl, refl)
brings (part.Number number.Left) w b e = inr (refl, refl)
brings (part.Choices n) w b e = inr (go (n == 0) e)
  where
    go : (c : Bool) → (menu (if c then block_words else choice_words)).whole w ≡ true → Brings (if c then after_blocks (word_of w) else after_choice (word_of w) (n - 1))
    go true f = by_word Brings after_blocks block_words blocks_bring w f
    go false f = by_word Brings (λ o. after_choice o (n - 1)) choice_words (choices_bring (n - 1)) w f
brings (part.Lines s) w b e = inr (by_word Brings (after_line s) (line_words s) (lines_bring s) w e)
brings (part.States n) w b e = inr (go (n == 0) e)
  where
    go : (c : Bool) → (menu (if c then final_words else thread_words)).whole w ≡ true → Brings (if c then after_final (word_of w) else (blank ∷ thread ++ part.States (n - 1) ∷ []))
    go true f = by_word Brings after_final final_words finals_bring w f
    go false f = (refl, refl)
brings (part.Left n) w b e = inr (go (n == 0))
  where
    go : (c : Bool) → Brings (if c then part.Close ∷ [] else (blank ∷ part.Order ∷ part.Left (n - 1) ∷ []))
    go true = (refl, refl)
    go false = (refl, refl)
brings part.Close w b e = inl refl
brings p w b e = absurd cc
