-- What a comparison has found, and what it shows.
use Rattle.std.specs.Prelude.{◌≡◌, ℕ, ◌≤◌, ◌⊎◌, Bool, true, false, List, [], ◌∷◌, ◌++◌, length, take, drop}
use Rattle.loft_base.specs.Outside.{last_count}
use Rattle.loft_report_shape.specs.Grammar.{head_is}
use Rattle.loft_compared.specs.declared.found.Found.{Found}
use Rattle.loft_compared.specs.declared.found.Found.TheVariants as found

-- what was put so far, and whether it has stopped
pub record Compared : Type 0 where
  pub written : List ℕ
  pub stopped : Bool

-- the byte that differs
abbrev pub other_byte : Found → List ℕ
other_byte found.Equal = []
other_byte (found.Other b) = b ∷ []
other_byte found.NoMemory = []

abbrev pub is_stop : Found → Bool
is_stop found.Equal = false
is_stop f = true

-- so many bytes of the text were put, and then perhaps one that differs
abbrev pub compared : List ℕ → ℕ → Found → Compared
compared text equal f = record { written = take equal text ++ other_byte f; stopped = is_stop f }

-- the others are left, or the next of them is another one
abbrev pub IsAfter : List ℕ → ℕ → List ℕ → Found → Type 0
IsAfter text equal left found.Equal = left ≡ drop equal text
IsAfter text equal left (found.Other b) = head_is b (drop equal text) ≡ false
IsAfter text equal left found.NoMemory = Unit {0}

pub record IsComparison (text : List ℕ) (equal : ℕ) (left : List ℕ) (f : Found) : Type 0 where
  pub within : equal ≤ length text
  pub after : IsAfter text equal left f

-- the count of faults: none, or the last value once it has stopped
abbrev pub faults_of : Bool → ℕ
faults_of false = 0
faults_of true = last_count

-- all of the text t was put, or a prefix of it with which the comparison has stopped
abbrev pub WasPut : List ℕ → Compared → Type 0
WasPut t c = (c.written ≡ t) ⊎ ((c.stopped ≡ true) × (n : ℕ) × (c.written ≡ take n t))

-- the byte is put after those that were, unless the comparison has stopped before it
abbrev pub IsOneMore : List ℕ → ℕ → Compared → Type 0
IsOneMore before b c = (c.written ≡ before ++ b ∷ []) ⊎ ((c.stopped ≡ true) × (c.written ≡ before))

-- a prefix of these bytes is put after those that were, and all of them unless the comparison has stopped
pub record Follows (before bytes : List ℕ) (c : Compared) : Type 0 where
  pub count : ℕ
  pub written : c.written ≡ before ++ take count bytes
  pub all : c.stopped ≡ false → c.written ≡ before ++ bytes
