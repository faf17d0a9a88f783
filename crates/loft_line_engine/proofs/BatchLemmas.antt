-- Orders that nobody hears, and events of which the waits are told.
use Rattle.std.proofs.Common.{◌≡◌, ℕ, ◌<◌, Bool, true, false, List, [], ◌∷◌, refl, sym, ap, ◌∙◌, length, set, Option, Some, Result, Ok, Err}
use Rattle.std.specs.Prelude.{ℤ, ◌||◌, if◌then◌else◌, OnOk}
use Rattle.loft_base.specs.declared.ids.EventId.{EventId}
use Rattle.loft_base.specs.declared.ids.SchedId.{SchedId}
use Rattle.loft_base.specs.declared.ids.ThreadId.{ThreadId}
use Rattle.loft_board.specs.Board.{Board, values, generate}
use Rattle.loft_orders.specs.declared.note.Standing.{Standing}
use Rattle.loft_orders.specs.declared.order.End.TheVariants.{Stopped}
use Rattle.loft_orders.specs.declared.order.Mark.TheVariants as mark
use Rattle.loft_orders.specs.declared.order.Order.TheVariants as order
use Rattle.loft_sense.specs.Apply.{Applied, marked, ended_by, apply_order, is_linked, without_first, suspend}
use Rattle.loft_sense.specs.CanGo.{same_thread}
use Rattle.loft_tree.specs.declared.heads.Heads.{Heads}
use Rattle.loft_waits.specs.Told.{Told, Counts, counts_of}
use Rattle.loft_line_engine.specs.Batches.{suspended_by}

not_first : (a b : Bool) → a || b ≡ false → a ≡ false
not_first true b h = h
not_first false b h = refl

not_rest : (a b : Bool) → a || b ≡ false → b ≡ false
not_rest true b h = cc
not_rest false b h = h

-- nobody with an id that isn't there
pub without_nobody : (t : ThreadId) (ss : List Standing) → is_linked t ss ≡ false → without_first t ss ≡ ss
without_nobody t [] none = refl
without_nobody t (s ∷ ss) none =
    ap (λ (b : Bool). if b then ss else s ∷ without_first t ss) (not_first (same_thread t s.thread.id) (is_linked t ss) none)
    ∙ ap (λ (l : List Standing). s ∷ l) (without_nobody t ss (not_rest (same_thread t s.thread.id) (is_linked t ss) none))

pub suspend_nobody : (t : ThreadId) (c : Bool) (ss : List Standing) → is_linked t ss ≡ false → suspend t c ss ≡ ss
suspend_nobody t c [] none = refl
suspend_nobody t c (s ∷ ss) none =
    ap (λ (b : Bool). if b then record s { suspended = c } ∷ ss else s ∷ suspend t c ss) (not_first (same_thread t s.thread.id) (is_linked t ss) none)
    ∙ ap (λ (l : List Standing). s ∷ l) (suspend_nobody t c ss (not_rest (same_thread t s.thread.id) (is_linked t ss) none))

-- an order that nobody hears
pub not_stopped : (h : Heads) (s : SchedId) (t : ThreadId) (a : Applied) (linked : List Standing) → is_linked t a.linked ≡ false → linked ≡ without_first t a.linked → marked mark.Void (record a { linked = linked }) ≡ apply_order h s a (order.Stop t)
not_stopped h s t a linked none is =
    ap (λ (l : List Standing). marked mark.Void (record a { linked = l })) (is ∙ without_nobody t a.linked none)
    ∙ sym (ap (λ (b : Bool). if b then ended_by s t Stopped mark.Done (record a { linked = without_first t a.linked }) else marked mark.Void a) none)

pub not_suspended : (t : ThreadId) (c : Bool) (a : Applied) (linked : List Standing) → is_linked t a.linked ≡ false → linked ≡ suspend t c a.linked → marked mark.Void (record a { linked = linked }) ≡ suspended_by t c a
not_suspended t c a linked none is =
    ap (λ (l : List Standing). marked mark.Void (record a { linked = l })) (is ∙ suspend_nobody t c a.linked none)
    ∙ sym (ap (λ (b : Bool). if b then marked mark.Done (record a { linked = suspend t c a.linked }) else marked mark.Void a) none)

-- the waits are told of an event that the board has
pub event_told : (e : EventId) (v : Option ℤ) (old now : Board) (count : ℕ) (t u : Told) → ((e.0 < length old) → counts_of (generate e v old) ≡ set (counts_of old) e.0 (Some (length (values e (generate e v old))))) → e.0 < length old
    → now ≡ generate e v old → count ≡ length (values e now) → t.counts ≡ counts_of old → u ≡ record t { counts = set t.counts e.0 (Some count) } → u.counts ≡ counts_of now
event_told e v old now count t u law within is count_is told_so told_now =
    ap (λ (w : Told). w.counts) told_now
    ∙ ap (λ (c : Counts). set c e.0 (Some count)) told_so
    ∙ ap (λ (n : ℕ). set (counts_of old) e.0 (Some n)) (count_is ∙ ap (λ (b : Board). length (values e b)) is)
    ∙ sym (law within)
    ∙ ap counts_of (sym is)

-- where one follows from another for each answer that isn't an error
pub on_ok : {A E P Q : Type 0} (r : Result A E) → OnOk r P → (P → Q) → OnOk r Q
on_ok (Ok a) p follows = follows p
on_ok (Err e) p follows = tt
