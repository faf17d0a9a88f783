-- How far a text was walked over.
use Rattle.std.specs.Prelude.{ℕ, List, ◌++◌, drop}
use Rattle.loft_compared.specs.Places.{text_at}
use Rattle.loft_compared.specs.declared.walk.Walk.{Walk}

-- what is still to come of the piece at which a walk is
abbrev pub here : Walk → List ℕ
here w = drop w.at w.line.text.items ++ w.bytes.now

-- what is still to come of the text
abbrev pub left_of : Walk → List ℕ
left_of w = here w ++ text_at w.rest
