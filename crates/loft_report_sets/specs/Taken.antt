-- How many bytes of a text a set of spellings takes.
use Rattle.std.specs.Prelude.{◌≡◌, ℕ, ◌+◌, ◌<◌, ◌≤◌, Bool, true, false, List, length, take, get_or}
use Rattle.std.specs.List.{list_all}
use Rattle.loft_spelling.specs.Sets.{Set}

-- The first n bytes are a prefix of a spelling, and with the next byte they are none.
pub record Taken (s : Set) (bytes : List ℕ) (n : ℕ) : Type 0 where
  pub within : n ≤ length bytes
  pub begun : s.begun (take n bytes) ≡ true
  pub last : n < length bytes → s.begun (take (n + 1) bytes) ≡ false

-- So many first bytes are of a class, at most these, and the next one isn't.
pub record Run (class : ℕ → Bool) (most : ℕ) (bytes : List ℕ) (n : ℕ) : Type 0 where
  pub within : n ≤ length bytes
  pub few : n ≤ most
  pub all : list_all class (take n bytes) ≡ true
  pub last : n < length bytes → n < most → class (get_or bytes n 0) ≡ false
