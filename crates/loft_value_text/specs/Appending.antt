-- What it means that a text is appended, whatever is kept of it: the bytes of a line, or their number alone.
use Rattle.std.specs.Prelude.{◌≡◌, ℕ, ◌+◌, ◌-◌, ◌^◌, min, List, length, Bool, true}

-- A writer keeps this of what was appended so far, and would keep that with further bytes: these bytes are appended.
-- The writer is whole only if it was whole before and memory was enough for them.
abbrev pub Appends : {W K : Type 0} → (W → Bool) → (W → K) → (K → List ℕ → K) → W → W → List ℕ → Type 0
Appends is_whole kept extended old new bytes = is_whole new ≡ true → (is_whole old ≡ true) × (kept new ≡ extended (kept old) bytes)

-- the largest length that is told
abbrev pub longest : ℕ
longest = 2 ^ 64 - 1

-- the length with further bytes, which stops at the largest
abbrev pub lengthened : ℕ → List ℕ → ℕ
lengthened n bytes = min longest (n + length bytes)
