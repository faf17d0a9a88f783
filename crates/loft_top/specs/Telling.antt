-- What a line that is written in place of an answer leaves in a sink.
use Rattle.std.specs.Prelude.{◌≡◌, ℕ, ◌<◌, ◌≤◌, ◌⊎◌, Bool, List, length, Option, IsTrue}
use Rattle.loft_base.specs.Outside.{appended, GrowsByPrefix, Rose}
use Rattle.loft_top.specs.declared.status.Status.{Status}
use Rattle.loft_top.specs.declared.status.Status.TheVariants as status

-- The program was to write this text and to end with the status `whole`, and it ends with `end`. Of the bytes written, `old` is known before it
-- and `new` after it; the sink's counts of faults are `before` and `after`; the sink was known to take `room` more bytes; whether each piece
-- that it took was a line is known as `lines` before it, and as `still` after it.
pub record Tells (whole end : Status) (old new : Option (List ℕ)) (before after room : ℕ) (lines still : Bool) (text : List ℕ) : Type 0 where
  pub ends : end ≡ whole ⊎ (end ≡ status.SinkFault ⊎ end ≡ status.NoMemory)
  pub written : end ≡ whole → new ≡ appended old text
  pub cut : end ≡ status.SinkFault ⊎ end ≡ status.NoMemory → GrowsByPrefix old new text
  pub cause : end ≡ status.SinkFault → Rose before after
  pub never_falls : before ≤ after
  pub no_room : end ≡ status.SinkFault → room < length text
  pub by_lines : IsTrue lines → IsTrue still

-- The same of a call that was handed a sink: `written`, `faults`, `room` and `by_lines` are what the sink's type means by these words.
abbrev pub TellsTo : {S : Type 0} → (S → Option (List ℕ)) → (S → ℕ) → (S → ℕ) → (S → Bool) → S → S → (whole end : Status) → List ℕ → Type 0
TellsTo written faults room by_lines old new whole end text = Tells whole end (written old) (written new) (faults old) (faults new) (room old) (by_lines old) (by_lines new) text
