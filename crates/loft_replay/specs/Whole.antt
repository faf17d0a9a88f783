-- Whole histories: those after which no choice is allowed (docs/SEMANTICS.md, "Choices by name").
use Rattle.std.specs.Prelude.{◌≡◌, ℕ, ◌+◌, ◌<◌, ◌⊎◌, Bool, true, false, List, length, None, Ok, Err}
use Rattle.loft_orders.specs.declared.entry.Entry.{Entry}
use Rattle.loft_base.specs.declared.options.RunOptions.{RunOptions}
use Rattle.loft_sense.specs.Heads.{scheduler}
use Rattle.loft_sense.specs.Machine.{Prog}
use Rattle.loft_history.specs.History.{Choice, TakeBy, GiveBy, PickBy, PostBy, ClientBy, entry_of, HasEnded}
use Rattle.loft_report_shape.specs.declared.raw.Choice.{Choice as ByName}
use Rattle.loft_replay.specs.Named.{follows}
use Rattle.loft_replay.specs.declared.ended.Kind.{Kind}
use Rattle.loft_replay.specs.declared.ended.Kind.TheVariants as kind
use Rattle.loft_replay.specs.declared.replay.FollowError.{FollowError}
use Rattle.loft_replay.specs.declared.replay.FollowError.TheVariants.{NotAllowed, NoMemory}

-- these choices make this history, and it has ended
pub record IsWhole (x : Prog) (o : RunOptions) (choices : List ByName) (h : List Entry) : Type 0 where
  pub made : follows x o choices ≡ Ok h
  pub ended : HasEnded x o h

-- they make a history that hasn't ended
abbrev pub IsUnfinished : Prog → RunOptions → List ByName → Type 0
IsUnfinished x o choices = (h : List Entry) × (follows x o choices ≡ Ok h) × (HasEnded x o h → ⊥)

-- The first entry that isn't allowed, counted from 1: that of the first choice that no step allows, or the one after the last of a
-- history that hasn't ended.
abbrev pub IsNotAllowed : Prog → RunOptions → List ByName → ℕ → Type 0
IsNotAllowed x o choices entry = (follows x o choices ≡ Err entry) ⊎ (IsUnfinished x o choices × (entry ≡ length choices + 1))

-- nothing is said where it is out of memory
abbrev pub IsNotWhole : Prog → RunOptions → List ByName → FollowError → Type 0
IsNotWhole x o choices (NotAllowed entry) = IsNotAllowed x o choices entry
IsNotWhole x o choices NoMemory = Unit {0}

-- ---- whether a history goes on

-- the choice of this kind with this number
abbrev pub choice_at : Kind → ℕ → Choice
choice_at kind.Take k = TakeBy (scheduler k)
choice_at kind.Give k = GiveBy (scheduler k)
choice_at kind.Pick k = PickBy k
choice_at kind.Post k = PostBy k
choice_at kind.Client k = ClientBy k

-- One of some choices is allowed; or none of the first so many of these is, and the history is as before.
abbrev pub HasTried : Prog → RunOptions → List Entry → (ℕ → Choice) → ℕ → Bool → List Entry → Type 0
HasTried x o before choice count true after = HasEnded x o before → ⊥
HasTried x o before choice count false after = (after ≡ before) × ((k : ℕ) → k < count → entry_of x o before (choice k) ≡ None)

-- the history goes on, or it has ended and is as before
abbrev pub GoesOnOrEnded : Prog → RunOptions → List Entry → Bool → List Entry → Type 0
GoesOnOrEnded x o before true after = HasEnded x o before → ⊥
GoesOnOrEnded x o before false after = (after ≡ before) × HasEnded x o before
