-- What a walk over a file gave so far (docs/OUTSIDE.md).
use Rattle.std.specs.Prelude.{◌≡◌, ℕ, ◌≤◌, List, ◌++◌, length, take}
use Rattle.loft_base.specs.declared.walk.FileWalk.{FileWalk}

-- how many bytes it gave so far
abbrev pub count_of : FileWalk → ℕ
count_of walk = walk.at

-- the bytes of the last part
abbrev pub part_of : FileWalk → List ℕ
part_of walk = take walk.count walk.buffer.items

-- how many bytes a part has at most
abbrev pub room_of : FileWalk → ℕ
room_of walk = length walk.buffer.items

-- what it gave so far of a file: its first bytes
abbrev pub given : FileWalk → List ℕ → List ℕ
given walk file = take (count_of walk) file

-- it gave no more than the file has
abbrev pub IsWithin : FileWalk → List ℕ → Type 0
IsWithin walk file = count_of walk ≤ length file

-- The last part are the bytes of the file that come after what was given before.
pub record Grows (file : List ℕ) (old new : FileWalk) : Type 0 where
  pub bytes : given new file ≡ given old file ++ part_of new
  pub within : IsWithin new file
