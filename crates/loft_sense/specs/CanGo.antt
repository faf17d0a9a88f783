-- A thread that can go (docs/SEMANTICS.md, "CanGo").
use Rattle.std.specs.Prelude.{ℕ, ◌==◌, nat_lt, ℤ, pos, negsuc, Bool, true, false, not, ◌||◌, ◌&&◌, List, [], ◌∷◌, length, Option, Some, None, is_some, option_map, unwrap_or}
use Rattle.loft_base.specs.declared.ids.EventId.{EventId}
use Rattle.loft_base.specs.declared.ids.Maker.{Maker}
use Rattle.loft_base.specs.declared.ids.Maker.TheVariants.{Source, Sched, Client}
use Rattle.loft_base.specs.declared.ids.ThreadId.{ThreadId}
use Rattle.loft_orders.specs.declared.thread.Wait.{Wait}
use Rattle.loft_orders.specs.declared.thread.Wait.TheVariants.{New, Coop, Events, Index, Next, Join, Halt}
use Rattle.loft_board.specs.Board.{Board, find}

abbrev pub same_maker : Maker → Maker → Bool
same_maker Source Source = true
same_maker (Sched m) (Sched n) = m == n
same_maker (Client m) (Client n) = m == n
same_maker a b = false

abbrev pub same_thread : ThreadId → ThreadId → Bool
same_thread a b = same_maker a.maker b.maker && a.seq == b.seq

abbrev pub is_known : ThreadId → List ThreadId → Bool
is_known t [] = false
is_known t (k ∷ ks) = same_thread t k || is_known t ks

abbrev pub is_zero : ℤ → Bool
is_zero (pos n) = n == 0
is_zero (negsuc n) = false

-- a number is left, and it is 0
abbrev pub ran_out : Option ℤ → Bool
ran_out None = false
ran_out (Some n) = is_zero n

-- how many values each event of a board has so far, where it is present
abbrev pub count_of : Board → EventId → Option ℕ
count_of board e = option_map length (find e board)

-- one of the events is present, by these counts of their values
abbrev pub is_any_counted : List EventId → (EventId → Option ℕ) → Bool
is_any_counted [] count = false
is_any_counted (e ∷ es) count = is_some (count e) || is_any_counted es count

-- one of the events is present
abbrev pub has_any : List EventId → Board → Bool
has_any es board = is_any_counted es (count_of board)

-- an index of one of so many values
abbrev pub is_index : ℤ → ℕ → Bool
is_index (pos n) count = nat_lt n count
is_index (negsuc n) count = false

-- What it waits for is there, where each present event has so many values and these threads are known as ended.
abbrev pub is_over : Wait → (EventId → Option ℕ) → List ThreadId → Bool
is_over New count known = true
is_over (Coop left) count known = is_zero left
is_over (Events events left) count known = ran_out left || is_any_counted events count
is_over (Index event at) count known = is_index at (unwrap_or (count event) 0)
is_over Next count known = true
is_over (Join thread left) count known = ran_out left || is_known thread known
is_over Halt count known = false

-- it isn't suspended, and what it waits for is there
abbrev pub can_go : Wait → Bool → Board → List ThreadId → Bool
can_go wait suspended board known = not suspended && is_over wait (count_of board) known
