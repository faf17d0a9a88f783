-- How often orders make, carry and end a thread (docs/SEMANTICS.md, "What is sent").
use Rattle.std.specs.Prelude.{ℕ, ◌+◌, nat_le, nat_lt, Bool, true, false, ◌&&◌, List, [], ◌∷◌}
use Rattle.loft_base.specs.declared.ids.Maker.{Maker}
use Rattle.loft_base.specs.declared.ids.ThreadId.{ThreadId}
use Rattle.loft_orders.specs.declared.order.Order.{Order}
use Rattle.loft_orders.specs.declared.order.Order.TheVariants.{Create, Arrive, Ended}
use Rattle.loft_orders.specs.declared.order.Sent.{Sent}
use Rattle.loft_orders.specs.declared.note.Standing.{Standing}
use Rattle.loft_orders.specs.declared.thread.Thread.{Thread}
use Rattle.loft_sense.specs.CanGo.{same_maker, same_thread}

abbrev pub one : Bool → ℕ
one true = 1
one false = 0

-- the order makes the thread
abbrev pub makes : ThreadId → Order → ℕ
makes t (Create u m args) = one (same_thread t u)
makes t order = 0

-- the order carries the thread to where it is linked next
abbrev pub carries : ThreadId → Order → ℕ
carries t (Arrive u) = one (same_thread t u.id)
carries t order = 0

-- the order tells that the thread has ended
abbrev pub tells_end_of : ThreadId → Order → ℕ
tells_end_of t (Ended u end) = one (same_thread t u)
tells_end_of t order = 0

-- how often what is sent makes the thread, carries it, and tells of its end
abbrev pub made_in : ThreadId → List Sent → ℕ
made_in t [] = 0
made_in t (m ∷ ms) = makes t m.order + made_in t ms

abbrev pub carried_in : ThreadId → List Sent → ℕ
carried_in t [] = 0
carried_in t (m ∷ ms) = carries t m.order + carried_in t ms

abbrev pub ended_in : ThreadId → List Sent → ℕ
ended_in t [] = 0
ended_in t (m ∷ ms) = tells_end_of t m.order + ended_in t ms

-- the order brings the thread to a scheduler, which it makes or carries
abbrev pub brings : ThreadId → Order → ℕ
brings t (Create u m args) = one (same_thread t u)
brings t (Arrive u) = one (same_thread t u.id)
brings t order = 0

abbrev pub brought_in : ThreadId → List Order → ℕ
brought_in t [] = 0
brought_in t (o ∷ os) = brings t o + brought_in t os

-- how often the thread is among these, and among those that are linked
abbrev pub threads_in : ThreadId → List Thread → ℕ
threads_in t [] = 0
threads_in t (u ∷ us) = one (same_thread t u.id) + threads_in t us

abbrev pub linked_in : ThreadId → List Standing → ℕ
linked_in t [] = 0
linked_in t (s ∷ ss) = one (same_thread t s.thread.id) + linked_in t ss

-- how often the thread is among those that a maker makes from number a to number b: once where it is one of them
abbrev pub among_made : ThreadId → Maker → ℕ → ℕ → ℕ
among_made t m a b = one (same_maker t.maker m && nat_le a t.seq && nat_lt t.seq b)
