-- Bodies that keep away from a lock, and bodies whose `run`s of its modules are told by the forms (docs/LOCKS.md, "Pairs").
use Rattle.std.specs.Prelude.{◌≡◌, ◌≢◌, ℕ, List, Option, Some}
use Rattle.loft_tree.specs.NamedTree as named
use Rattle.loft_tree.specs.Resolved.{Step, Do, Hold, Call, Choose, Loop, Times, Body, Empty, Then}
use Rattle.loft_locks.specs.Locks.{Lock, LockCall, Takes, Gives, Other, call_of, ActionKeeps, PauseKeeps}
use Rattle.loft_lock_forms.specs.Marks.{Use, TakeOf, GiveOf, Mark, use_at}

-- no statement names what is the lock's but by a `run`
module _ (l : Lock) where
  abbrev mutual
    pub StepKeeps : Step → Type 0
    StepKeeps (Do action) = ActionKeeps l action
    StepKeeps (Hold k pause) = PauseKeeps l pause
    StepKeeps (Call k m arguments) = Unit {0}
    StepKeeps (Choose test first second) = BodyKeeps first × BodyKeeps second
    StepKeeps (Loop test body) = BodyKeeps body
    StepKeeps (Times count body) = BodyKeeps body

    pub BodyKeeps : Body → Type 0
    BodyKeeps Empty = Unit {0}
    BodyKeeps (Then s rest) = StepKeeps s × BodyKeeps rest

-- a `run` of a module of the lock with this name stands in place of a form of it, and no other does
abbrev pub UseAgrees : List ℕ → LockCall → Option Use → Type 0
UseAgrees name Takes u = u ≡ Some (TakeOf name)
UseAgrees name Gives u = u ≡ Some (GiveOf name)
UseAgrees name Other u = (u ≢ Some (TakeOf name)) × (u ≢ Some (GiveOf name))

module _ (l : Lock) (name : List ℕ) (marks : List Mark) where
  abbrev mutual
    pub StatementMarked : named.NamedStatement → Type 0
    StatementMarked (named.Do at action) = Unit {0}
    StatementMarked (named.Hold at stop pause) = Unit {0}
    StatementMarked (named.Run at stop called m arguments) = UseAgrees name (call_of l m) (use_at marks called)
    StatementMarked (named.If at test first second) = BodyMarked first × BodyMarked second
    StatementMarked (named.While at test body) = BodyMarked body
    StatementMarked (named.Repeat at count body) = BodyMarked body

    pub BodyMarked : named.NamedStatements → Type 0
    BodyMarked named.Done = Unit {0}
    BodyMarked (named.Then first rest) = StatementMarked first × BodyMarked rest
