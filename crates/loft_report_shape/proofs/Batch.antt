-- The words of each stage of a block are among those of its first.
use Rattle.std.proofs.Common.{◌≡◌, ℕ, true, List, [], ◌∷◌}
use Rattle.std.specs.Str.{bytes_eq}
use Rattle.loft_spelling.proofs.Sets.{or_right}
use Rattle.loft_report_shape.specs.Word.{spelling}
use Rattle.loft_report_shape.specs.Sets.{menu, changed_words, standing_words, leaving_words, act_words, batch_words, line_words}
use Rattle.loft_report_shape.specs.declared.word.Word.{Word}
use Rattle.loft_report_shape.specs.declared.word.Word.TheVariants as word
use Rattle.loft_report_shape.specs.declared.part.Stage.{Stage}
use Rattle.loft_report_shape.specs.declared.part.Stage.TheVariants as stage

pub to_batch : (s : Stage) (w : List ℕ) → (menu (line_words s)).whole w ≡ true → (menu batch_words).whole w ≡ true
to_batch s w = go s
  where
    one : (x : Word) (ws : List Word) → (menu ws).whole w ≡ true → (menu (x ∷ ws)).whole w ≡ true
    one x ws e = or_right (bytes_eq (spelling x) w) ((menu ws).whole w) e

    from_acts : (menu act_words).whole w ≡ true → (menu batch_words).whole w ≡ true
    from_acts e = one word.In (word.Void ∷ word.Full ∷ act_words) (one word.Void (word.Full ∷ act_words) (one word.Full act_words e))

    from_leaving : (menu leaving_words).whole w ≡ true → (menu batch_words).whole w ≡ true
    from_leaving e = from_acts (one word.Print (word.Gen ∷ word.Out ∷ word.End ∷ leaving_words) (one word.Gen (word.Out ∷ word.End ∷ leaving_words) (one word.Out (word.End ∷ leaving_words) (one word.End leaving_words e))))

    from_standing : (menu standing_words).whole w ≡ true → (menu batch_words).whole w ≡ true
    from_standing e = from_leaving (one word.Leave standing_words e)

    from_changed : (menu changed_words).whole w ≡ true → (menu batch_words).whole w ≡ true
    from_changed e = from_standing (one word.At changed_words e)

    go : (s : Stage) → (menu (line_words s)).whole w ≡ true → (menu batch_words).whole w ≡ true
    go stage.Fresh e = from_changed (one word.Shared (word.Instant ∷ word.State ∷ []) e)
    go stage.Batch e = e
    go stage.Ordered e = e
    go stage.Acts e = from_acts e
    go stage.Leaving e = from_leaving e
    go stage.Standing e = from_standing e
    go stage.Changed e = from_changed e
