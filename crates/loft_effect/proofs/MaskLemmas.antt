-- The mask of a `select`, one event after the other.
use Rattle.std.proofs.Common.{◌≡◌, ℕ, ◌+◌, ◌*◌, ◌^◌, ℤ, pos, ◌+ℤ◌, List, ◌∷◌, sym, ap, refl, ◌∙◌, Bool, true, false, to_z, of_z, arith}
use Rattle.std.specs.Prelude.{◌*ℤ◌, if◌then◌else◌}
use Rattle.std.specs.Int.{w64}
use Rattle.std.proofs.lemmas.Int.{ints, SFits-int_wrap, to_z-of_z}
use Rattle.loft_base.specs.Arithmetic.{wrapped}
use Rattle.loft_base.specs.declared.ids.EventId.{EventId}
use Rattle.loft_board.specs.Board.{Board, has}
use Rattle.loft_sense.specs.Statements.{mask_of}
use Rattle.loft_base.proofs.Wrapping.{wrapped-congruent, only-wrapped}

combined : (r v w : ℤ) (b m i j k p q s : ℕ) → w +ℤ pos (i * 2 ^ 64) ≡ pos m +ℤ pos (j * 2 ^ 64) → v +ℤ pos (k * 2 ^ 64) ≡ pos 2 *ℤ w +ℤ pos (p * 2 ^ 64) → r +ℤ pos (q * 2 ^ 64) ≡ (pos b +ℤ v) +ℤ pos (s * 2 ^ 64)
    → r +ℤ pos ((q + k + 2 * i) * 2 ^ 64) ≡ pos (b + 2 * m) +ℤ pos ((s + p + 2 * j) * 2 ^ 64)
combined r v w b m i j k p q s one two three = omega (arith, ints)

-- wrapping each step is wrapping the whole
pub mask_step : (b m : ℕ) → wrapped (pos b +ℤ wrapped (pos 2 *ℤ wrapped (pos m))) ≡ wrapped (pos (b + 2 * m))
mask_step b m =
    let one = wrapped-congruent (pos m) in
    let two = wrapped-congruent (pos 2 *ℤ wrapped (pos m)) in
    let three = wrapped-congruent (pos b +ℤ wrapped (pos 2 *ℤ wrapped (pos m))) in
    only-wrapped (pos (b + 2 * m)) (wrapped (pos b +ℤ wrapped (pos 2 *ℤ wrapped (pos m)))) (SFits-int_wrap w64 (pos b +ℤ wrapped (pos 2 *ℤ wrapped (pos m))))
    (three.0 + two.0 + 2 * one.0, (three.1.0 + two.1.0 + 2 * one.1.0, combined _ _ _ b m _ _ _ _ _ _ one.1.1 two.1.1 three.1.1))

-- a signed number as its bits are read
abbrev read : ℤ → ℤ
read n = to_z w64 (of_z w64 n)

read_wrapped : (z n : ℤ) → n ≡ wrapped z → read n ≡ wrapped z
read_wrapped z n e = ap read e ∙ to_z-of_z w64 (wrapped z) (SFits-int_wrap w64 z)

read_bit : (b : Bool) → read (pos (if b then 1 else 0)) ≡ pos (if b then 1 else 0)
read_bit true = refl
read_bit false = refl

-- one event more
pub mask_more : (es rest : List EventId) (e : EventId) (board : Board) (added first v m : ℤ) → es ≡ e ∷ rest
    → added ≡ wrapped (read first +ℤ read v) → first ≡ pos (if has e board then 1 else 0) → v ≡ wrapped (pos 2 *ℤ read m) → m ≡ wrapped (pos (mask_of rest board))
    → read added ≡ wrapped (pos (mask_of es board))
mask_more es rest e board added first v m es_is added_is first_is v_is m_is =
    let bit = if has e board then 1 else 0 in
    let m_read = read_wrapped (pos (mask_of rest board)) m m_is in
    let v_read = read_wrapped (pos 2 *ℤ wrapped (pos (mask_of rest board))) v (v_is ∙ ap (λ (n : ℤ). wrapped (pos 2 *ℤ n)) m_read) in
    read_wrapped (pos (bit + 2 * mask_of rest board)) added
    (added_is ∙ (ap (λ (n : ℤ). wrapped (n +ℤ read v)) (ap read first_is ∙ read_bit (has e board))
    ∙ (ap (λ (n : ℤ). wrapped (pos bit +ℤ n)) v_read ∙ mask_step bit (mask_of rest board))))
    ∙ ap (λ (l : List EventId). wrapped (pos (mask_of l board))) (sym es_is)
