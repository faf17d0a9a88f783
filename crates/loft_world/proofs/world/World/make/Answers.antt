use Rattle.std.proofs.Common.{rules, ◌≡◌, ℕ, List, [], ◌∷◌, ◌++◌, length, refl}
use Rattle.loft_tree.specs.declared.heads.Heads.{Heads}
use Rattle.loft_orders.specs.declared.entry.Entry.{Entry}
use Rattle.loft_orders.specs.declared.order.Order.{Order}
use Rattle.loft_orders.specs.declared.thread.Thread.{Thread}
use Rattle.loft_history.specs.History.{starts_of}
use Rattle.loft_history.specs.Legal.{TakesDue}
use Rattle.loft_sense.specs.Heads.{scheduler}
use Rattle.loft_world.specs.State.{AreEach, IsWorld, count_in}
use Rattle.loft_world.proofs.world.World.make.Goals as goal

due_in_none : (h : Heads) (before : List Entry) (e : Entry) (after : List Entry) → [] ≡ before ++ e ∷ after → TakesDue h before e
due_in_none h [] e after is = absurd cc
due_in_none h (b ∷ before) e after is = absurd cc

-- what lies beside a history without entries
none_yet : (h k : Heads) (es : List Entry) (waits : List (List Order)) (threads : List Thread) (count : ℕ → ℕ) → k ≡ h → es ≡ [] → threads ≡ []
    → AreEach (λ i. starts_of h (scheduler i)) (length h.schedulers) waits → ((c : ℕ) → count c ≡ 0) → IsWorld k es waits threads count
none_yet h k es waits threads count same none no_threads starts counts =
    rw (same, none, no_threads) (record { routed = due_in_none h; orders = starts; unlinked = refl; clients = counts })

pub invariant_of-result : goal.invariant_of-result
invariant_of-result c =
    none_yet c.args.heads.now c.in_ok-try_clone.field-0 c.new.result.items c.in_ok-waits.waits.items c.new-2.result.items (count_in c.new-3.result)
    c.in_ok-try_clone.ensures c.new.ensures.items c.new-2.ensures.items c.in_ok-waits.ensures (λ d. search rules)
