-- Programs whose threads find all that they ask for, and where those go on (docs/SEMANTICS.md, "Stands").
use Rattle.std.specs.Prelude.{◌≡◌, List}
use Rattle.loft_tree.specs.NamedTree.{NamedProgram}
use Rattle.loft_tree.specs.NamedFits.{NamedFits}
use Rattle.loft_tree.specs.Resolved.{Resolved, resolved_of}
use Rattle.loft_place.specs.Links.{IsPlaced}
use Rattle.loft_code.specs.Operations.{Automata}
use Rattle.loft_code.specs.Fits.{RawFits}
use Rattle.loft_code.specs.Valid.{Valid}
use Rattle.loft_sense.specs.Machine.{Prog, Tree, Code}
use Rattle.loft_sense.specs.Run.{Control}
use Rattle.loft_sense.specs.Tree.{Work, tree}
use Rattle.loft_sense.specs.Code.{Point, code}

-- the tree of a source whose names and links are correct
pub record IsPlacedTree (p : Resolved) : Type 0 where
  pub source : NamedProgram
  pub names : NamedFits source
  pub links : IsPlaced source
  pub same : resolved_of source ≡ p

-- code that keeps the limits of a listing, and is valid
pub record IsValidCode (c : Automata) : Type 0 where
  pub limits : RawFits c
  pub valid : Valid c

abbrev pub IsWellFormed : Prog → Type 0
IsWellFormed (Tree p) = IsPlacedTree p
IsWellFormed (Code c) = IsValidCode c

-- ---- where threads go on

-- a point of a module: the work that is left, or the number of an operation with the counts there
abbrev pub PointOf : Prog → Type 0
PointOf (Tree p) = List Work
PointOf (Code c) = Point

abbrev pub control : (x : Prog) → Control (PointOf x)
control (Tree p) = tree p
control (Code c) = code c
