-- The orders of a thread that isn't linked (docs/SEMANTICS.md, "Unlinked blocks").
use Rattle.std.specs.Prelude.{◌≡◌, true, false, List, [], ◌∷◌}
use Rattle.loft_base.specs.declared.ids.ThreadId.{ThreadId}
use Rattle.loft_tree.specs.declared.heads.Heads.{Heads}
use Rattle.loft_tree.specs.NamedFits.{IsScheduler}
use Rattle.loft_orders.specs.declared.order.Order.{Order}
use Rattle.loft_orders.specs.declared.order.Order.TheVariants as order
use Rattle.loft_orders.specs.declared.order.To.{To}
use Rattle.loft_orders.specs.declared.order.To.TheVariants as to
use Rattle.loft_orders.specs.declared.order.Sent.{Sent}
use Rattle.loft_history.specs.History.{ends_block}

-- the last of these orders, and no other, ends a block: its thread is linked again or has ended
abbrev pub EndsAtLast : List Sent → Type 0
EndsAtLast [] = ⊥
EndsAtLast (m ∷ []) = ends_block m.order ≡ true
EndsAtLast (m ∷ n ∷ ms) = (ends_block m.order ≡ false) × EndsAtLast (n ∷ ms)

-- the thread arrives at one declared scheduler, or each scheduler is told of its end
abbrev pub IsExit : Heads → ThreadId → Order → To → Type 0
IsExit h t (order.Arrive u) (to.Sched s) = IsScheduler h s × (u.id ≡ t)
IsExit h t (order.Ended u end) to.All = u ≡ t
IsExit h t order there = ⊥

-- the order makes, carries and ends nobody
abbrev pub IsQuiet : Order → Type 0
IsQuiet (order.Create t m args) = ⊥
IsQuiet (order.Arrive t) = ⊥
IsQuiet (order.Ended t end) = ⊥
IsQuiet order = Unit {0}

-- the orders of a thread that isn't linked: with the last it is linked again or ends, and every other one makes, carries and ends nobody
abbrev pub IsBlock : Heads → ThreadId → List Sent → Type 0
IsBlock h t [] = ⊥
IsBlock h t (m ∷ []) = IsExit h t m.order m.to
IsBlock h t (m ∷ n ∷ ms) = IsQuiet m.order × IsBlock h t (n ∷ ms)
