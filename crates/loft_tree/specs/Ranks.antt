-- Shared variables by their schedulers (docs/SEMANTICS.md, "Machine").
use Rattle.std.specs.Prelude.{ℕ, ◌==◌, Bool, List, length, take, filter, slice_get}
use Rattle.std.specs.Option.{option_map_or}
use Rattle.loft_base.specs.declared.ids.SchedId.{SchedId}
use Rattle.loft_tree.specs.declared.heads.SharedHead.{SharedHead}

-- the variable is one of this scheduler
abbrev pub is_at : SchedId → SharedHead → Bool
is_at s x = s.0 == x.scheduler.0

-- the index of the variable with this number among those of its scheduler: how many of them are declared before it
abbrev pub rank_in : List SharedHead → ℕ → ℕ
rank_in xs k = option_map_or (λ v. length (filter (is_at v.scheduler) (take k xs))) (slice_get xs k) 0
