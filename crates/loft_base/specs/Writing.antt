-- Lines of a text, and what a call that writes a text may leave in a sink.
use Rattle.std.specs.Prelude.{◌≡◌, ℕ, ◌+◌, ◌<◌, ◌≤◌, ◌==◌, Bool, true, List, [], ◌∷◌, ◌++◌, length, Option, Result, OnOk, OnErr, IsErrOf, IsTrue}
use Rattle.std.proofs.Common.{refl}
use Rattle.std.specs.Io.BufRead.{take_through}
use Rattle.loft_base.specs.Outside.{appended, GrowsByPrefix, Rose}
use Rattle.loft_base.specs.declared.writing.WriteError.{WriteError}
use Rattle.loft_base.specs.declared.writing.WriteError.TheVariants.{Sink}

-- the first line of a text, with its line feed where it has one
abbrev pub leading_line : List ℕ → List ℕ
leading_line text = take_through 10 text

-- a text of whole lines: it is empty, or its last byte is a line feed
abbrev pub are_lines : List ℕ → Bool
are_lines [] = true
are_lines (x ∷ []) = x == 10
are_lines (x ∷ y ∷ rest) = are_lines (y ∷ rest)

-- a line feed ends the last of them
abbrev pub are_lines-end : (text : List ℕ) → are_lines (text ++ 10 ∷ []) ≡ true
are_lines-end [] = refl
are_lines-end (x ∷ []) = refl
are_lines-end (x ∷ y ∷ rest) = are_lines-end (y ∷ rest)

-- A call has this result. Of the bytes written, `old` is known before it and `new` after it; the counts of faults are `before` and `after`;
-- the sink is known to take `room` more bytes before it, and `left` after it; whether each piece that it took was a line is known as `lines`
-- before it, and as `still` after it.
-- All of the text is written where the result is Ok, else a prefix of it; the sink is blamed only where its count rose and the text has more
-- bytes than it was known to take. Each piece that goes out is a line.
pub record Writes (result : Result (Unit {0}) WriteError) (old new : Option (List ℕ)) (before after room left : ℕ) (lines still : Bool) (text : List ℕ) : Type 0 where
  pub ok : OnOk result (new ≡ appended old text)
  pub failed : OnErr result (GrowsByPrefix old new text)
  pub cause : IsErrOf result Sink → Rose before after
  pub never_falls : before ≤ after
  pub blamed : IsErrOf result Sink → room < length text
  pub no_fault : length text ≤ room → after ≡ before
  pub room_left : OnOk result (room ≤ left + length text)
  pub by_lines : IsTrue lines → IsTrue still

-- The same of a call that was handed a sink: `written`, `faults`, `room` and `by_lines` are what the sink's type means by these words.
abbrev pub WritesTo : {S : Type 0} → (S → Option (List ℕ)) → (S → ℕ) → (S → ℕ) → (S → Bool) → S → S → Result (Unit {0}) WriteError → List ℕ → Type 0
WritesTo written faults room by_lines old new result text = Writes result (written old) (written new) (faults old) (faults new) (room old) (room new) (by_lines old) (by_lines new) text
