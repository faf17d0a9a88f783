-- What one run of a thread adds to what was done in its instant (docs/SEMANTICS.md, "What is sent").
use Rattle.std.specs.Prelude.{◌≡◌, ◌≢◌, ℕ, ◌≤◌, List, [], ◌∷◌, ◌++◌}
use Rattle.loft_base.specs.declared.ids.ThreadId.{ThreadId}
use Rattle.loft_tree.specs.declared.heads.Heads.{Heads}
use Rattle.loft_tree.specs.declared.heads.Place.{Place}
use Rattle.loft_tree.specs.declared.heads.Place.TheVariants.{Sched, Unlinked}
use Rattle.loft_tree.specs.Fits.{Each}
use Rattle.loft_tree.specs.NamedFits.{IsScheduler}
use Rattle.loft_orders.specs.declared.note.Act.{Act}
use Rattle.loft_orders.specs.declared.note.Act.TheVariants as act
use Rattle.loft_orders.specs.declared.order.End.{End}
use Rattle.loft_orders.specs.declared.order.Order.{Order}
use Rattle.loft_orders.specs.declared.order.Order.TheVariants as order
use Rattle.loft_orders.specs.declared.order.To.{To}
use Rattle.loft_orders.specs.declared.order.To.TheVariants as to
use Rattle.loft_orders.specs.declared.thread.Wait.TheVariants.{New}
use Rattle.loft_sense.specs.Around.{Around}
use Rattle.loft_sense.specs.Instant.{sent_by}
use Rattle.loft_sense.specs.Run.{Outcome, Held, Left, Ended}
use Rattle.loft_sense.specs.Statements.{maker_at}
use Rattle.loft_conservation.specs.Counts.{made_in, among_made}

-- an order that carries and ends no thread
abbrev pub IsPlain : Order → Type 0
IsPlain (order.Arrive t) = ⊥
IsPlain (order.Ended t end) = ⊥
IsPlain order = Unit {0}

-- what a statement does: it sends such an order or none, and ends no thread
abbrev pub IsPlainAct : Act → Type 0
IsPlainAct (act.Out t sent) = IsPlain sent.order
IsPlainAct (act.End t end) = ⊥
IsPlainAct act = Unit {0}

-- What some statements add: acts of statements, whose creates make each the thread that its place makes next.
pub record Adds (a b : Around) : Type 0 where
  pub place : b.place ≡ a.place
  pub more : List Act
  pub is : b.acts ≡ a.acts ++ more
  pub plain : Each IsPlainAct more
  pub up : a.made ≤ b.made
  pub fresh : (t : ThreadId) → made_in t (sent_by a.place more) ≡ among_made t (maker_at a.place) a.made b.made

-- The same, and then this end of this thread.
pub record AddsEnd (t : ThreadId) (end : End) (a b : Around) : Type 0 where
  pub last : Around
  pub adds : Adds a last
  pub is : b.acts ≡ last.acts ++ act.End t end ∷ []
  pub made : b.made ≡ last.made
  pub place : b.place ≡ last.place

-- what a run of the thread with this id adds to what it found; the thread stays itself
abbrev pub RunAdds : ThreadId → Around → Outcome → Type 0
RunAdds t a (Held u b left) = (u.id ≡ t) × (u.wait ≢ New) × Adds a b
RunAdds t a (Left u to b left) = (u.id ≡ t) × Adds a b
RunAdds t a (Ended end b left) = AddsEnd t end a b

-- ---- where a thread goes

-- from this place: to a declared scheduler, or from a scheduler to the workers
abbrev pub IsWay : Heads → Place → To → Type 0
IsWay h place (to.Sched s) = IsScheduler h s
IsWay h place (to.Others s) = ⊥
IsWay h place to.All = ⊥
IsWay h place to.Workers = place ≢ Unlinked

-- a thread that was linked at this place, where a run lets it leave
abbrev pub LeavesBy : Heads → Place → Outcome → Type 0
LeavesBy h place (Held t around left) = Unit {0}
LeavesBy h place (Left t to around left) = IsWay h place to
LeavesBy h place (Ended end around left) = Unit {0}

-- where it isn't linked, as many have been made as before
abbrev pub MakesAt : Place → ℕ → ℕ → Type 0
MakesAt (Sched s) a b = Unit {0}
MakesAt Unlinked a b = b ≡ a
