-- What stands around a running thread (docs/SEMANTICS.md, "Run").
use Rattle.std.specs.Prelude.{ℕ, ◌+◌, ℤ, List, [], ◌∷◌, ◌++◌}
use Rattle.loft_base.specs.declared.ids.ThreadId.{ThreadId}
use Rattle.loft_tree.specs.declared.heads.Place.{Place}
use Rattle.loft_board.specs.Board.{Board}
use Rattle.loft_orders.specs.declared.note.Act.{Act}

-- what a running thread sees, and changes for the threads after it in this instant
pub record Around : Type 0 where
  -- where it is linked
  pub place : Place
  pub board : Board
  -- the values of the shared variables of its place, in the order of their declarations
  pub shared : List ℤ
  -- the threads known as ended; the order means nothing
  pub known : List ThreadId
  -- the creates that its place has sent
  pub made : ℕ
  -- how many entries this instant has so far
  pub entries : ℕ
  -- what was done in this instant so far
  pub acts : List Act

-- what stands beside the frames of a running thread
pub record Beside : Type 0 where
  pub id : ThreadId
  pub code : ℤ
  pub mask : ℤ
  pub around : Around

-- this was done
abbrev pub with_act : Act → Around → Around
with_act act around = record around { acts = around.acts ++ act ∷ [] }

-- this was done, and is an entry of the instant
abbrev pub entered : Act → Around → Around
entered act around = record around { entries = around.entries + 1; acts = around.acts ++ act ∷ [] }
