-- What the sink in memory holds, what it still takes, and which of its puts are planned to fail.
use Rattle.std.specs.Prelude.{ℕ, Bool, ◌+◌, ◌-◌, ◌==◌, min, List, ◌++◌, length, drop, replicate, Option, Some, None, slice_get, slice_set, unwrap_or, if◌then◌else◌, vec_len}
use Rattle.loft_base.specs.Outside.{last_count}
use Rattle.loft_base.specs.declared.in_memory.MemSink.{MemSink}

-- the bytes written so far
abbrev pub bytes_of : MemSink → List ℕ
bytes_of sink = sink.bytes.items

-- how many more bytes fit
abbrev pub room_of : MemSink → ℕ
room_of sink = sink.capacity - vec_len sink.bytes

-- how many faults there were
abbrev pub faults_of : MemSink → ℕ
faults_of sink = sink.faults

-- how many puts there were
abbrev pub puts_of : MemSink → ℕ
puts_of sink = sink.puts

-- whether each piece that it took whole was a line
abbrev pub by_lines_of : MemSink → Bool
by_lines_of sink = sink.by_lines

-- the number of the next put, counted from 1; a count stays at its last value
abbrev pub next_put : MemSink → ℕ
next_put sink = min (puts_of sink + 1) last_count

-- the plan of the coming puts, the next one first: how many bytes of its piece a put keeps, where it is planned to fail
abbrev pub plan_of : MemSink → List (Option ℕ)
plan_of sink = drop sink.puts sink.plan.items

-- a plan that reaches this far at least
abbrev pub reaching : List (Option ℕ) → ℕ → List (Option ℕ)
reaching plan count = plan ++ replicate (count - length plan) None

-- a plan in which the put with this index keeps so many bytes
abbrev pub planned_at : List (Option ℕ) → ℕ → ℕ → List (Option ℕ)
planned_at plan index keep = slice_set (reaching plan (index + 1)) index (Some keep)

-- how many bytes of its piece the next put keeps, where it is planned to fail
abbrev pub planned_keep : MemSink → Option ℕ
planned_keep sink = unwrap_or (slice_get (plan_of sink) 0) None

-- how many more bytes the sink is known to take: none while a fault is planned
abbrev pub known_room : MemSink → ℕ
known_room sink = if length (plan_of sink) == 0 then room_of sink else 0
