-- Bounds that threads keep in every history (docs/SEMANTICS.md, "Step bounds").
use Rattle.std.specs.Prelude.{◌≡◌, ℕ, ◌≤◌, List, Some, slice_get, All}
use Rattle.loft_base.specs.declared.ids.ModuleId.{ModuleId}
use Rattle.loft_base.specs.declared.ids.SchedId.{SchedId}
use Rattle.loft_base.specs.declared.ids.ThreadId.{ThreadId}
use Rattle.loft_tree.specs.Resolved.{Resolved}
use Rattle.loft_orders.specs.declared.entry.Entry.{Entry}
use Rattle.loft_base.specs.declared.options.RunOptions.{RunOptions}
use Rattle.loft_orders.specs.declared.order.Order.{Order}
use Rattle.loft_orders.specs.declared.order.Order.TheVariants as order
use Rattle.loft_sense.specs.Machine.{Tree}
use Rattle.loft_history.specs.History.{starts_of, replayed}
use Rattle.loft_history.specs.Legal.{IsLegal}
use Rattle.loft_history.specs.History.{sent_in}
use Rattle.loft_budget.specs.Bounds.{OrderSpares, ActSpares}
use Rattle.loft_budget.specs.declared.verdict.Verdict.{Verdict}
use Rattle.loft_budget.specs.declared.verdict.Verdict.TheVariants.{Bound}

-- where the order makes the thread, it is with this module
abbrev pub MakesWith : ModuleId → ThreadId → Order → Type 0
MakesWith m t (order.Create u q args) = u ≡ t → q ≡ m
MakesWith m t o = Unit {0}

-- In each legal history whose budgets allow b, no thread that is made with this module ends with Over: no entry tells of
-- that, and no note has it.
abbrev pub KeepsBound : Resolved → ModuleId → ℕ → Type 0
KeepsBound p m b =
    (o : RunOptions) (es : List Entry) → IsLegal (Tree p) o es → b ≤ o.limits.budget → b ≤ o.limits.block
    → (t : ThreadId) → ((s : SchedId) → All (MakesWith m t) (starts_of p.heads s)) → All (λ sent. MakesWith m t sent.order) (sent_in es)
    → All (λ sent. OrderSpares t sent.order) (sent_in es) × ((s : SchedId) → All (λ note. All (ActSpares t) note.acts) (replayed (Tree p) o.limits s es).notes)

-- so it is with each bound among these verdicts
abbrev pub KeepBounds : Resolved → List Verdict → Type 0
KeepBounds p vs = (m : ModuleId) (b : ℕ) → slice_get vs m.0 ≡ Some (Bound b) → KeepsBound p m b
