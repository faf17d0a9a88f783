-- What a command that writes a text of its own may leave in a sink.
use Rattle.std.specs.Prelude.{◌≡◌, ℕ, ◌⊎◌, Bool, List, Option, Result, Err}
use Rattle.loft_base.specs.Writing.{Writes}
use Rattle.loft_base.specs.declared.writing.WriteError.{WriteError}
use Rattle.loft_base.specs.declared.writing.WriteError.TheVariants.{NoMemory}

-- A call has this result. Of the bytes written, `old` is known before it and `new` after it; the counts of faults are `before` and `after`;
-- the sink is known to take `room` more bytes before it, and `left` after it; whether each piece that it took was a line is known as `lines`
-- before it, and as `still` after it.
-- A text of which P holds was written, or a prefix of it where the call failed; or it was out of memory before there was such a text.
abbrev pub WritesOneOf : (List ℕ → Type 0) → (result : Result (Unit {0}) WriteError) (old new : Option (List ℕ)) (before after room left : ℕ) (lines still : Bool) → Type 0
WritesOneOf P result old new before after room left lines still =
    ((text : List ℕ) × P text × Writes result old new before after room left lines still text) ⊎ ((result ≡ Err NoMemory) × (new ≡ old) × (after ≡ before) × (still ≡ lines))
