-- When a call over files and a sink in memory meets no fault (docs/OUTSIDE.md, "The outside").
use Rattle.std.specs.Prelude.{◌≡◌, ℕ, ◌≤◌, Bool, List, ◌∷◌, [], ◌++◌, length, codes, Option, Some, None, IsTrue}
use Rattle.std.specs.List.{Contains}
use Rattle.loft_arguments.specs.Command.{Command, files_of}
use Rattle.loft_top.specs.declared.status.Status.{Status}
use Rattle.loft_top.specs.declared.status.Status.TheVariants as status
use Rattle.loft_top.specs.Reads.{contents_of}
use Rattle.loft_top.specs.Answer.{IsText}

-- whatever the command may write of these contents has at most so many bytes
abbrev pub FitsIn : ℕ → Command → List (List ℕ) → Type 0
FitsIn room c contents = (text : List ℕ) (before after : ℕ) → IsText c contents before after text → length text ≤ room

-- No part of the command's files can fail, and the sink has room for all that may be written: of the command, where there is one, else the line
-- of the usage. `sure` says of a name whether its parts never fail, and `told` what its file has.
pub record MeetsNoFault (asked : Option Command) (sure : List ℕ → Bool) (told : List ℕ → Option (List ℕ)) (room : ℕ) : Type 0 where
  pub parts : (c : Command) (file : List ℕ) → asked ≡ Some c → Contains (files_of c) file → IsTrue (sure file)
  pub fits : (c : Command) (contents : List (List ℕ)) → asked ≡ Some c → contents_of told (files_of c) ≡ Some contents → FitsIn room c contents
  pub usage_fits : asked ≡ None → length (codes "loft: usage" ++ 10 ∷ []) ≤ room

-- the end of a call without a fault of a file or of the sink
abbrev pub EndsWell : Status → Type 0
EndsWell status.Done = Unit {0}
EndsWell status.Usage = Unit {0}
EndsWell status.Source = Unit {0}
EndsWell status.Log = Unit {0}
EndsWell status.FileFault = ⊥
EndsWell status.SinkFault = ⊥
EndsWell status.NoMemory = Unit {0}
