-- What stands in a line in the making, as long as memory is enough.
use Rattle.std.specs.Prelude.{◌≡◌, ◌++◌, true, ℕ, List}
use Rattle.loft_value_text.specs.declared.line.LineBuffer.{LineBuffer}

-- the line is this text, if memory was enough for it
abbrev pub Holds : LineBuffer → List ℕ → Type 0
Holds line text = line.is_whole ≡ true → line.text.items ≡ text

-- these bytes are appended; the line is whole only if it was whole before and memory was enough for them
abbrev pub Adds : LineBuffer → LineBuffer → List ℕ → Type 0
Adds old new bytes = new.is_whole ≡ true → (old.is_whole ≡ true) × (new.text.items ≡ old.text.items ++ bytes)
