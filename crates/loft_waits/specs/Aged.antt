-- Waits as they are some closes after they were entered.
use Rattle.std.specs.Prelude.{◌≡◌, ℕ, ◌+◌, ◌-◌, ◌≤◌, ◌==◌, Bool, true, false, ℤ, pos, negsuc, List, [], ◌∷◌, map, Option, Some, None, option_map, if◌then◌else◌}
use Rattle.std.specs.List.{All}
use Rattle.loft_orders.specs.declared.thread.Wait.{Wait}
use Rattle.loft_orders.specs.declared.thread.Wait.TheVariants.{Coop, Events, Index, Next, Join}
use Rattle.loft_waits.specs.declared.entry.Entry.{Entry}
use Rattle.loft_waits.specs.Told.{is_alone}

-- a number left, so many closes later
abbrev pub lowered_by : ℕ → ℤ → ℤ
lowered_by age (pos n) = pos (n - age)
lowered_by age (negsuc n) = negsuc n

-- a wait, so many closes later; one without a number or a value stays
abbrev pub aged : ℕ → Wait → Wait
aged age (Coop left) = Coop (lowered_by age left)
aged age (Events events left) = Events events (option_map (lowered_by age) left)
aged age (Index event at) = if age == 0 then Index event at else Next
aged age (Join thread left) = Join thread (option_map (lowered_by age) left)
aged age w = w

-- the wait of an entry as it is now
abbrev pub wait_now : ℕ → Entry → Wait
wait_now clock e = aged (clock - e.since) e.wait

abbrev pub waits_of : ℕ → List (Option Entry) → List (Option Wait)
waits_of clock slots = map (option_map (wait_now clock)) slots

abbrev pub IsEntryBefore : ℕ → Option Entry → Type 0
IsEntryBefore clock None = Unit {0}
IsEntryBefore clock (Some e) = e.since ≤ clock

-- no entry is from later
abbrev pub IsBefore : ℕ → List (Option Entry) → Type 0
IsBefore clock slots = All (IsEntryBefore clock) slots

abbrev pub one_if : Bool → ℕ
one_if true = 1
one_if false = 0

-- how many waits end by themselves
abbrev pub count_alone : List (Option Wait) → ℕ
count_alone [] = 0
count_alone (w ∷ ws) = one_if (is_alone w) + count_alone ws

-- no entry is from later, and so many of the waits end by themselves
pub record IsPlain (clock : ℕ) (slots : List (Option Entry)) (alone : ℕ) : Type 0 where
  pub before : IsBefore clock slots
  pub alone_is : alone ≡ count_alone (waits_of clock slots)
