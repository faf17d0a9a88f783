-- A program with a lock, and the same with a lock that doesn't wait.
use Rattle.std.specs.Prelude.{ℕ, zero, suc, ℤ, pos, List, [], ◌∷◌, map, None, Result, Ok, Err}
use Rattle.loft_base.specs.declared.ids.SchedId.{SchedId}
use Rattle.loft_base.specs.declared.ids.ModuleId.{ModuleId}
use Rattle.loft_base.specs.declared.ids.Value.TheVariants as value
use Rattle.loft_tree.specs.declared.kinds.Kind.TheVariants.{Int}
use Rattle.loft_tree.specs.declared.heads.Place.TheVariants.{Sched}
use Rattle.loft_tree.specs.declared.heads.SlotHead.{SlotHead}
use Rattle.loft_tree.specs.declared.heads.Signature.{Signature}
use Rattle.loft_tree.specs.declared.heads.Start.{Start}
use Rattle.loft_tree.specs.declared.heads.Heads.{Heads}
use Rattle.loft_tree.specs.Resolved.{Number, Slot, ToShared, Assign, PrintValue, Cooperate, Do, Hold, Call, Body, Empty, Then, Resolved}
use Rattle.loft_base.specs.declared.options.RunOptions.{RunOptions}
use Rattle.loft_orders.specs.declared.entry.Entry.{Entry}
use Rattle.loft_sense.specs.Machine.{Tree}
use Rattle.loft_history.specs.History.{TakeBy, GiveBy, Choice, hist}
use Rattle.loft_locks.specs.Locks.{Lock, lock_body, unlock_body}
use Rattle.loft_locks.specs.LocksHold.{insiders, after_instants}

abbrev a : SchedId
a = record { 0 = 0 }

abbrev pub lock : Lock
lock = record { at = a; held = record { 0 = 0 }; free = record { 0 = 0 }; takes = record { 0 = 0 }; gives = record { 0 = 1 } }

abbrev user : ModuleId
user = record { 0 = 2 }

abbrev signature : List SlotHead → Signature
signature parameters = record { name = []; parameters = parameters; locals = []; begin = Sched a; end = Sched a }

abbrev start : ℤ → Start
start n = record { scheduler = a; «module» = user; arguments = value.Int n ∷ []; name = None }

abbrev declared : Heads
declared = record {
  schedulers = [] ∷ [];
  events = record { name = []; scheduler = a } ∷ [];
  shared = record { name = []; scheduler = a; value = pos 0 } ∷ [];
  modules = signature [] ∷ signature [] ∷ signature (record { kind = Int; name = [] } ∷ []) ∷ [];
  starts = start (pos 1) ∷ start (pos 2) ∷ [];
  clients = [];
  items = [];
}

-- `lock l; print k; cooperate; print k; unlock l;`
abbrev user_body : Body
user_body =
    Then (Call 1 lock.takes []) (Then (Do (PrintValue (Slot 0))) (Then (Hold 2 (Cooperate None)) (Then (Do (PrintValue (Slot 0))) (Then (Call 3 lock.gives []) Empty))))

abbrev pub example : Resolved
example = record { heads = declared; bodies = lock_body lock ∷ unlock_body lock ∷ user_body ∷ [] }

-- the same where the lock is taken without a wait
abbrev pub broken : Resolved
broken = record { heads = declared; bodies = Then (Do (Assign (ToShared lock.held) (Number (pos 1)))) Empty ∷ unlock_body lock ∷ user_body ∷ [] }

abbrev pub options : RunOptions
options = record { limits = record { instants = 5; budget = 50; block = 50 }; workers = 1 }

abbrev or_none : Result (List Entry) ℕ → List Entry
or_none (Ok h) = h
or_none (Err n) = []

-- so many instants of the one scheduler
abbrev turns : ℕ → List Choice
turns zero = []
turns (suc n) = TakeBy a ∷ GiveBy a ∷ turns n

abbrev pub history : Resolved → ℕ → List Entry
history p k = or_none (hist (Tree p) options (turns k))

-- who is inside after them
abbrev pub inside_after_instants : Resolved → ℕ → ℕ
inside_after_instants p k = insiders p lock (map (λ q. q.thread) (after_instants p options a (history p k) k).linked)

abbrev pub shared_after : Resolved → ℕ → List ℤ
shared_after p k = (after_instants p options a (history p k) k).shared
