-- Programs, and one scheduler between two instants (docs/SEMANTICS.md, "Machine").
use Rattle.std.specs.Prelude.{ℕ, ℤ, List, []}
use Rattle.loft_base.specs.declared.ids.SchedId.{SchedId}
use Rattle.loft_base.specs.declared.ids.ThreadId.{ThreadId}
use Rattle.loft_tree.specs.declared.heads.Heads.{Heads}
use Rattle.loft_tree.specs.Resolved.{Resolved}
use Rattle.loft_code.specs.Operations.{Automata}
use Rattle.loft_orders.specs.declared.note.Standing.{Standing}
use Rattle.loft_sense.specs.declared.tally.Tally.{Tally}
use Rattle.loft_sense.specs.Heads.{shared_values}
use Rattle.loft_sense.specs.Tally.{first_tally}

-- a program: a source tree, or code
pub data Prog : Type 0 where
  Tree : (p : Resolved) → Prog
  Code : (c : Automata) → Prog

abbrev pub heads : Prog → Heads
heads (Tree p) = p.heads
heads (Code c) = c.heads

-- a scheduler between two instants
pub record Mach : Type 0 where
  pub s : SchedId
  -- in the order in which they were linked
  pub linked : List Standing
  -- the values of its shared variables, in the order of their declarations
  pub shared : List ℤ
  -- the threads that it knows as ended; the order means nothing
  pub known : List ThreadId
  -- the creates that it has sent
  pub made : ℕ
  -- what it has used of its bounds: instants, bytes of its block, threads that left by `unlink`
  pub tally : Tally

-- a scheduler that has made no instant
abbrev pub empty : Prog → SchedId → Mach
empty x s = record { s = s; linked = []; shared = shared_values (heads x) s; known = []; made = 0; tally = first_tally (heads x) s }
