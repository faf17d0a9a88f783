-- Which arguments may change places (docs/COMMANDS.md, "Words").
use Rattle.std.specs.Prelude.{◌≡◌, ◌⊎◌, ℕ, List, None, false, codes}
use Rattle.std.specs.Str.{bytes_eq}
use Rattle.loft_arguments.specs.Arguments.{Argument, plain_word}

-- One of two arguments is an option, or the command doesn't tell its files apart by their order.
abbrev pub MayChange : List ℕ → Argument → Argument → Type 0
MayChange word a b = (plain_word a ≡ None) ⊎ ((plain_word b ≡ None) ⊎ (bytes_eq word (codes "replay") ≡ false))
