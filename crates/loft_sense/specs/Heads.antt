-- What a running program asks of its declarations (docs/SEMANTICS.md, "Machine").
use Rattle.std.specs.Prelude.{ℕ, ◌+◌, ◌==◌, ℤ, pos, Bool, List, [], ◌∷◌, ◌++◌, map, filter, if◌then◌else◌, slice_get}
use Rattle.std.specs.Option.{option_map_or}
use Rattle.loft_base.specs.declared.ids.SchedId.{SchedId}
use Rattle.loft_base.specs.declared.ids.EventId.{EventId}
use Rattle.loft_base.specs.declared.ids.SharedId.{SharedId}
use Rattle.loft_base.specs.declared.ids.ModuleId.{ModuleId}
use Rattle.loft_base.specs.declared.ids.ThreadId.{ThreadId}
use Rattle.loft_base.specs.declared.ids.Value.{Value}
use Rattle.loft_base.specs.declared.ids.Value.TheVariants as value
use Rattle.loft_tree.specs.declared.kinds.Kind.{Kind}
use Rattle.loft_tree.specs.declared.kinds.Kind.TheVariants.{Int, Thread}
use Rattle.loft_tree.specs.declared.heads.SharedHead.{SharedHead}
use Rattle.loft_tree.specs.declared.heads.SlotHead.{SlotHead}
use Rattle.loft_tree.specs.declared.heads.Heads.{Heads}
use Rattle.loft_tree.specs.Ranks.{is_at, rank_in}

-- the scheduler of this index
abbrev pub scheduler : ℕ → SchedId
scheduler k = record { 0 = k }

abbrev pub same_scheduler : SchedId → SchedId → Bool
same_scheduler a b = a.0 == b.0

-- the scheduler on whose board the event stands; that of an event without a declaration, which no program names, is the first
abbrev pub home : Heads → EventId → SchedId
home h e = option_map_or (λ x. x.scheduler) (slice_get h.events e.0) (scheduler 0)

-- the values of a scheduler's shared variables before its first instant, in the order of their declarations
abbrev pub shared_values : Heads → SchedId → List ℤ
shared_values h s = map (λ x. x.value) (filter (is_at s) h.shared)

-- the shared variables of a scheduler, where the first of these has number k
abbrev pub shared_from : ℕ → SchedId → List SharedHead → List SharedId
shared_from k s [] = []
shared_from k s (x ∷ xs) = if is_at s x then record { 0 = k } ∷ shared_from (k + 1) s xs else shared_from (k + 1) s xs

abbrev pub shared_of : Heads → SchedId → List SharedId
shared_of h s = shared_from 0 s h.shared

-- the index of a shared variable among those of its scheduler
abbrev pub rank : Heads → SharedId → ℕ
rank h x = rank_in h.shared x.0

-- the local variables of a module, none if there is no such module
abbrev pub locals_of : Heads → ModuleId → List SlotHead
locals_of h m = option_map_or (λ s. s.locals) (slice_get h.modules m.0) []

-- what a local variable of a thread's frame begins as: 0, or the thread itself
abbrev pub first_value : ThreadId → Kind → Value
first_value t Int = value.Int (pos 0)
first_value t Thread = value.Thread t

-- the values of a module's new frame: the arguments, then the local variables
abbrev pub first_values : Heads → ThreadId → ModuleId → List Value → List Value
first_values h t m arguments = arguments ++ map (λ x. first_value t x.kind) (locals_of h m)
