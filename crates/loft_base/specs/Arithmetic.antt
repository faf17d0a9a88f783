-- 64-bit arithmetic over whole numbers: a signed number is a ℤ, and the i64 range is `FitsSigned w64`.
use Rattle.std.specs.Prelude.{◌≡◌, ℕ, ◌-◌, ◌*◌, ◌^◌, ℤ, pos, negsuc, ◌+ℤ◌}
use Rattle.std.specs.Int.{w64, int_wrap}

-- the number of the i64 range that is equal to z modulo 2 ^ 64
abbrev pub wrapped : ℤ → ℤ
wrapped z = int_wrap w64 z

-- x and z are equal modulo 2 ^ 64: they are equal after some steps of 2 ^ 64 on each side
abbrev pub AreCongruent : ℤ → ℤ → Type 0
AreCongruent x z = (j : ℕ) × ((k : ℕ) × (x +ℤ pos (j * 2 ^ 64) ≡ z +ℤ pos (k * 2 ^ 64)))

-- the least number of the i64 range
abbrev pub least : ℤ
least = negsuc (2 ^ 63 - 1)
