-- What a call leaves, and what its receipt promises (docs/EMBEDDING.md, "Receipts").
use Rattle.std.specs.Prelude.{◌≡◌, ◌⊎◌, ℕ, ◌-◌, ◌<◌, ◌≤◌, List, [], ◌∷◌, ◌++◌, map, length, Some, slice_get}
use Rattle.std.specs.List.{All, AllPairs, Contains}
use mathlib.Core.List.{IsPrefix}
use Rattle.loft_orders.specs.declared.entry.Actor.TheVariants.{Client}
use Rattle.loft_orders.specs.declared.entry.Entry.{Entry}
use Rattle.loft_history.specs.Legal.{of}
use Rattle.loft_baton.specs.declared.knows.Knows.{Knows}
use Rattle.loft_baton.specs.Knowing.{own_of}
use Rattle.loft_baton.specs.PassValue.{PassValue}
use Rattle.loft_ft.specs.Calls.{caller_of, entries_of}

-- the entry is at this position of the history, counted from 1: the promise of a receipt
abbrev pub StandsAt : ℕ → Entry → List Entry → Type 0
StandsAt stamp e h = (1 ≤ stamp) × (slice_get h (stamp - 1) ≡ Some e)

-- ---- one call

-- the pass has seen these entries besides
abbrev pub seeing : List Entry → Knows → Knows
seeing more v = record v { seen = v.seen ++ more }

-- the caller has this entry more, as its last
abbrev pub adding : Entry → Knows → Knows
adding e v = record v { own = own_of (Client (caller_of v)) (entries_of v ++ e ∷ []) ∷ [] }

-- what the pass has seen of its caller is all that the caller did
abbrev pub HasSeenOwn : Knows → Type 0
HasSeenOwn v = (entries_of v ≡ []) ⊎ (of (Client (caller_of v)) v.seen ≡ entries_of v)

-- The call was accepted: the caller has this entry more. Its pass has seen what others added since it looked last, and then the entry,
-- which is at the stamp. All else that the pass knows is as it was.
pub record Accepted (e : Entry) (stamp : ℕ) (old new : PassValue) : Type 0 where
  pub others : List Entry
  pub pass : new ≡ record old { knows = adding e (seeing (others ++ e ∷ []) old.knows) }
  pub stands : StandsAt stamp e new.knows.seen
  pub later : length old.knows.seen < stamp
  pub theirs : HasSeenOwn old.knows → of (Client (caller_of old.knows)) others ≡ []
  pub current : HasSeenOwn new.knows

-- The call was refused: the pass is as it was, but for what it has seen of others since.
pub record Refused (old new : PassValue) : Type 0 where
  pub others : List Entry
  pub pass : new ≡ record old { knows = seeing others old.knows }
  pub theirs : HasSeenOwn old.knows → of (Client (caller_of old.knows)) others ≡ []
  pub current : HasSeenOwn new.knows

-- ---- all calls of a caller

-- an entry with the stamp of its receipt
abbrev pub Stamped : Type 0
Stamped = ℕ × Entry

-- These are the caller's accepted calls, in its order: its entries are theirs, each is at its stamp in what the pass has seen, and the
-- stamps rise.
pub record HasGiven (calls : List Stamped) (v : Knows) : Type 0 where
  pub own : entries_of v ≡ map (λ r. r.1) calls
  pub stand : All (λ r. StandsAt r.0 r.1 v.seen) calls
  pub rise : AllPairs (λ q r. q.0 < r.0) calls

-- what is a prefix of each history of which the pass has seen a prefix
abbrev pub Remembers : Knows → List Entry → Type 0
Remembers u s = (h : List Entry) → IsPrefix u.seen h → All (λ t. IsPrefix t h) u.olds → IsPrefix s h

-- the pass u knows all that v knew of its actors, and has seen all that v had seen: v was joined into it
pub record Keeps (u v : Knows) : Type 0 where
  pub seen : Remembers u v.seen
  pub olds : All (Remembers u) v.olds
  pub own : All (Contains u.own) v.own
