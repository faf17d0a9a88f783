-- What the rules of pairs see of a body, and which statement breaks a rule or leaves a pair first (docs/LOCKS.md, "Pairs").
use Rattle.std.specs.Prelude.{ℕ, ◌+◌, ◌-◌, ◌==◌, Bool, true, false, ◌||◌, not, List, [], ◌∷◌, ◌++◌, drop, Option, Some, None, if◌then◌else◌}
use Rattle.std.specs.Str.{bytes_eq}
use Rattle.loft_base.specs.declared.ids.ModuleId.{ModuleId}
use Rattle.loft_tree.specs.NamedTree.{NamedStatement, NamedStatements, Do, Hold, Run, If, While, Repeat, Done, Then}
use Rattle.loft_tree.specs.Resolved.{pause_of}
use Rattle.loft_sense.specs.Tree.{first_some}
use Rattle.loft_lock_forms.specs.Marks.{Use, TakeOf, GiveOf, Mark, use_at}
use Rattle.loft_locks.specs.Locks.{is_away}

-- ---- outlines

-- the statements of a body that count, in order
pub data Outline : Type 0 where
  Nothing : Outline
  Takes : (lock : List ℕ) (rest : Outline) → Outline
  Gives : (lock : List ℕ) (rest : Outline) → Outline
  -- a `link`, an `unlink`, or a `run` of a module that leaves
  Goes : (rest : Outline) → Outline
  -- the two bodies of an `if`, or that of a loop and an empty one
  Within : (first second rest : Outline) → Outline

abbrev pub goes_if : Bool → Outline → Outline
goes_if true rest = Goes rest
goes_if false rest = rest

-- a `run`: those that stand in place of a form stand outside its pair
abbrev pub run_part : Bool → Option Use → Outline → Outline
run_part leaves None rest = goes_if leaves rest
run_part leaves (Some (TakeOf l)) rest = goes_if leaves (Takes l rest)
run_part leaves (Some (GiveOf l)) rest = Gives l (goes_if leaves rest)

-- what stands in place of forms, and which modules leave
module _ (marks : List Mark) (away : ModuleId → Bool) where
  abbrev mutual
    pub part : NamedStatement → Outline → Outline
    part (Do at action) rest = rest
    part (Hold at stop pause) rest = goes_if (is_away (pause_of pause)) rest
    part (Run at stop called m arguments) rest = run_part (away m) (use_at marks called) rest
    part (If at test first second) rest = Within (outline first) (outline second) rest
    part (While at test body) rest = Within (outline body) Nothing rest
    part (Repeat at count body) rest = Within (outline body) Nothing rest

    pub outline : NamedStatements → Outline
    outline Done = Nothing
    outline (Then first rest) = part first (outline rest)

-- ---- the rules

abbrev pub has : List ℕ → List (List ℕ) → Bool
has l [] = false
has l (k ∷ ks) = bytes_eq l k || has l ks

abbrev pub is_first : List ℕ → List (List ℕ) → Bool
is_first l [] = false
is_first l (k ∷ ks) = bytes_eq l k

-- A lock that was taken is given back among these statements themselves, where so many pairs of it that began later are open:
-- each `lock` of it opens one more, and each `unlock` closes the last one that is open.
abbrev pub closes_at : ℕ → List ℕ → Outline → Bool
closes_at later l Nothing = false
closes_at later l (Takes k rest) = closes_at (if bytes_eq l k then later + 1 else later) l rest
closes_at later l (Gives k rest) = if bytes_eq l k then later == 0 || closes_at (later - 1) l rest else closes_at later l rest
closes_at later l (Goes rest) = closes_at later l rest
closes_at later l (Within first second rest) = closes_at later l rest

-- the lock that was taken just before these statements is given back among them
abbrev pub closes : List ℕ → Outline → Bool
closes l o = closes_at 0 l o

-- The lock of the first statement that breaks a rule, in a body that stands in the pairs of `outer` and has begun those of `own`,
-- innermost first. A lock is taken only where no pair of it has begun and the same body gives it back; it is given back where
-- its pair is the one that this body began last.
abbrev pub pair_fault : List (List ℕ) → List (List ℕ) → Outline → Option (List ℕ)
pair_fault outer own Nothing = None
pair_fault outer own (Takes l rest) = if has l (own ++ outer) || not (closes l rest) then Some l else pair_fault outer (l ∷ own) rest
pair_fault outer own (Gives l rest) = if is_first l own then pair_fault outer (drop 1 own) rest else Some l
pair_fault outer own (Goes rest) = pair_fault outer own rest
pair_fault outer own (Within first second rest) =
    first_some (pair_fault (own ++ outer) [] first) (first_some (pair_fault (own ++ outer) [] second) (pair_fault outer own rest))

-- the outermost pair, where there is one
abbrev pub outermost : List (List ℕ) → Option (List ℕ)
outermost [] = None
outermost (l ∷ []) = Some l
outermost (l ∷ k ∷ ks) = outermost (k ∷ ks)

-- the lock of the outermost pair around the first statement that leaves one
abbrev pub leave_fault : List (List ℕ) → List (List ℕ) → Outline → Option (List ℕ)
leave_fault outer own Nothing = None
leave_fault outer own (Takes l rest) = leave_fault outer (l ∷ own) rest
leave_fault outer own (Gives l rest) = leave_fault outer (drop 1 own) rest
leave_fault outer own (Goes rest) = first_some (outermost (own ++ outer)) (leave_fault outer own rest)
leave_fault outer own (Within first second rest) =
    first_some (leave_fault (own ++ outer) [] first) (first_some (leave_fault (own ++ outer) [] second) (leave_fault outer own rest))
