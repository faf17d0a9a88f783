-- What waits are told of a board whose events were generated (docs/SEMANTICS.md, "Waiting lists").
use Rattle.std.specs.Prelude.{ℤ, List, [], ◌∷◌, length, Option, Some, slice_set}
use Rattle.loft_base.specs.declared.ids.EventId.{EventId}
use Rattle.loft_board.specs.Board.{Board, values}
use Rattle.loft_waits.specs.Told.{Counts}

-- of each event that was generated, how many values this board has
abbrev pub told : Board → List (EventId × Option ℤ) → Counts → Counts
told board [] counts = counts
told board (g ∷ gs) counts = told board gs (slice_set counts g.0.0 (Some (length (values g.0 board))))
