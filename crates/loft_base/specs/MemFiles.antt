-- What the files in memory hold, and which of their parts are planned to fail.
use Rattle.std.specs.Prelude.{ℕ, ◌+◌, ◌==◌, min, List, Option, Bool, not, ◌&&◌, length, is_some, is_none}
use Rattle.std.specs.Option.{option_map}
use Rattle.std.specs.List.{list_any}
use Rattle.std.specs.HashMap.{get_by_text}
use Rattle.loft_base.specs.Outside.{last_count}
use Rattle.loft_base.specs.declared.in_memory.MemFiles.{MemFiles}

-- the bytes of the file of a name, where there is one
abbrev pub contents_of : MemFiles → List ℕ → Option (List ℕ)
contents_of files name = option_map (λ file. file.items) (get_by_text files.files name)

-- how many faults there were
abbrev pub faults_of : MemFiles → ℕ
faults_of files = files.faults

-- the offset at which the last part ended
abbrev pub place_of : MemFiles → ℕ
place_of files = files.place

-- how many parts were asked for
abbrev pub parts_of : MemFiles → ℕ
parts_of files = files.parts

-- the number of the next part, counted from 1; a count stays at its last value
abbrev pub next_part : MemFiles → ℕ
next_part files = min (parts_of files + 1) last_count

-- the numbers of the parts that were planned to fail, as they were planned
abbrev pub plan_of : MemFiles → List ℕ
plan_of files = files.plan.items

-- whether the part of this number is planned to fail
abbrev pub fails_at : MemFiles → ℕ → Bool
fails_at files number = list_any (λ call. call == number) (plan_of files)

-- whether a part was ever planned to fail, also where that part is read already
abbrev pub is_planned : MemFiles → Bool
is_planned files = not (length (plan_of files) == 0)

-- whether a part of this name is known never to fail
abbrev pub never_fails : MemFiles → List ℕ → Bool
never_fails files name = not (is_planned files) && is_some (contents_of files name)

-- whether a part of this name is known to fail
abbrev pub always_fails : MemFiles → List ℕ → Bool
always_fails files name = is_none (contents_of files name)
