-- Places in a text.
use Rattle.std.specs.Prelude.{ℕ, ◌-◌, ◌^◌}

-- the largest place that can be told
abbrev pub last_place : ℕ
last_place = 2 ^ 64 - 1
