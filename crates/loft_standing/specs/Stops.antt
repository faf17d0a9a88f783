-- Stops of a program in memory.
use Rattle.std.specs.Prelude.{◌≡◌, List, Option, Some, None}
use Rattle.loft_tree.specs.declared.named.NamedStmt.{NamedStmt}
use Rattle.loft_tree.specs.declared.named.NamedProgram.{NamedProgram}
use Rattle.loft_tree.specs.declared.heads.Place.{Place}
use Rattle.loft_tree.specs.declared.action.Pause.{Pause}
use Rattle.loft_tree.specs.NamedView as named
use Rattle.loft_tree.specs.NamedView.{statement_of, statements_of}
use Rattle.loft_tree.specs.ProgramView.{program_of}
use Rattle.loft_tree.specs.Resolved as resolved
use Rattle.loft_tree.specs.Resolved.{Step, Body, step_of, body_of, resolved_of}
use Rattle.loft_orders.specs.declared.thread.Frame.{Frame}
use Rattle.loft_sense.specs.Machine.{Prog, Tree}
use Rattle.loft_sense.specs.Stands.{StopKind, Begins, Pauses, Calls, StopAt, FrameStands}
use Rattle.loft_standing.specs.declared.stop.Kind.{Kind}
use Rattle.loft_standing.specs.declared.stop.Kind.TheVariants as kind
use Rattle.loft_standing.specs.declared.stop.Stop.{Stop}
use Rattle.loft_standing.specs.declared.stop.Search.{Search}
use Rattle.loft_standing.specs.declared.stop.Search.TheVariants as search

-- statements, a statement and a pause in memory, without names and offsets
abbrev pub body_from : List NamedStmt → Body
body_from ss = body_of (statements_of ss)

abbrev pub step_from : NamedStmt → Step
step_from s = step_of (statement_of s)

abbrev pub pause_from : Pause → resolved.Pause
pause_from p = resolved.pause_of (named.pause_of p)

-- a program in memory as one that runs
abbrev pub tree_of : NamedProgram → Prog
tree_of n = Tree (resolved_of (program_of n))

-- a stop in memory
abbrev pub kind_from : Kind → StopKind
kind_from kind.Begin = Begins
kind_from (kind.Pause p) = Pauses (pause_from p.now)
kind_from (kind.Run m) = Calls m

abbrev pub stop_from : Stop → StopAt
stop_from s = record { kind = kind_from s.kind; depth = s.depth; after = s.after }

-- a search ended at the stop, or past all statements, at the place to which they lead
abbrev pub IsFound : Search → Option StopAt → Place → Type 0
IsFound (search.At s) stop end = stop ≡ Some (stop_from s)
IsFound (search.Past place) stop end = (stop ≡ None) × (end ≡ place)

-- the frame stands at the stop, or at none
abbrev pub IsStanding : Prog → Frame → Option Stop → Type 0
IsStanding x f None = (at : StopAt) → ¬ FrameStands x f at
IsStanding x f (Some s) = FrameStands x f (stop_from s)
