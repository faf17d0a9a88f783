-- The events of an instant (docs/SEMANTICS.md, "Board").
use Rattle.std.specs.Prelude.{ℕ, ℤ, Bool, ◌==◌, List, [], ◌∷◌, ◌++◌, fold, Option, Some, None, is_some, unwrap_or, replicate, slice_index_or, slice_set, if◌then◌else◌}
use Rattle.std.specs.List.{flat_map}
use Rattle.loft_base.specs.declared.ids.EventId.{EventId}

-- by the number of the event: where it is present, the values that came with it, in order
abbrev pub Board : Type 0
Board = List (Option (List ℤ))

-- so many events, none of them present
abbrev pub no_events : ℕ → Board
no_events n = replicate n None

-- the values of the event, where it is present
abbrev pub find : EventId → Board → Option (List ℤ)
find e board = slice_index_or board e.0 None

-- whether the event is present
abbrev pub has : EventId → Board → Bool
has e board = is_some (find e board)

-- the values of the event so far: none where it isn't present
abbrev pub values : EventId → Board → List ℤ
values e board = unwrap_or (find e board) []

-- a value, where there is one
abbrev pub value_list : Option ℤ → List ℤ
value_list None = []
value_list (Some v) = v ∷ []

-- the event is present from now on, with one more value where there is one; an event that the board doesn't have changes nothing
abbrev pub generate : EventId → Option ℤ → Board → Board
generate e v board = slice_set board e.0 (Some (values e board ++ value_list v))

-- events are generated one after the other, each with its value where there is one
abbrev pub generate_all : List (EventId × Option ℤ) → Board → Board
generate_all events board = fold (λ b g. generate g.0 g.1 b) board events

-- the values that are generated with an event, in order
abbrev pub values_for : EventId → List (EventId × Option ℤ) → List ℤ
values_for e events = flat_map (λ g. if g.0.0 == e.0 then value_list g.1 else []) events
