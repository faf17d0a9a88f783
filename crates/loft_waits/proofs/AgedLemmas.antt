-- What entries are as waits.
use Rattle.std.proofs.Common.{take, length, get_or, ◌≡◌, ℕ, zero, suc, ◌+◌, ◌-◌, ◌<◌, ◌≤◌, ◌==◌, Bool, true, false, List, [], ◌∷◌, map, set, refl, sym, ◌∙◌, ap, subst, arith, Option, Some, None, option_map, ne_eqb}
use Rattle.std.specs.Prelude.{if◌then◌else◌, ℤ, pos, negsuc}
use Rattle.std.specs.List.{AllByRecursion, take-map}
use Rattle.std.proofs.lemmas.List.{map-set, length-map}
use Rattle.std.proofs.lemmas.List.Elements.{recursion_from_All}
use Rattle.loft_base.specs.declared.ids.EventId.{EventId}
use Rattle.loft_orders.specs.declared.thread.Wait.{Wait}
use Rattle.loft_orders.specs.declared.thread.Wait.TheVariants.{New, Coop, Events, Index, Next, Join, Halt}
use Rattle.loft_sense.specs.Instant.{lowered, closed_wait}
use Rattle.loft_waits.specs.declared.entry.Entry.{Entry}
use Rattle.loft_waits.specs.Aged.{lowered_by, aged, wait_now, waits_of, IsBefore, IsEntryBefore}

number_none : (left : ℤ) → lowered_by 0 left ≡ left
number_none (pos n) = ap (λ (m : ℕ). pos m) (omega arith)
number_none (negsuc n) = refl

left_none : (left : Option ℤ) → option_map (lowered_by 0) left ≡ left
left_none None = refl
left_none (Some n) = ap (λ (m : ℤ). Some m) (number_none n)

aged_none : (w : Wait) → aged 0 w ≡ w
aged_none New = refl
aged_none (Coop left) = ap (λ (m : ℤ). Coop m) (number_none left)
aged_none (Events events left) = ap (λ (m : Option ℤ). Events events m) (left_none left)
aged_none (Index event at) = refl
aged_none Next = refl
aged_none (Join thread left) = ap (λ (m : Option ℤ). Join thread m) (left_none left)
aged_none Halt = refl

lowered_is : (n : ℕ) → lowered (pos n) ≡ pos (n - 1)
lowered_is zero = refl
lowered_is (suc n) = ap (λ (m : ℕ). pos m) (omega arith)

number_more : (age : ℕ) (left : ℤ) → lowered (lowered_by age left) ≡ lowered_by (suc age) left
number_more age (pos n) = lowered_is (n - age) ∙ ap (λ (m : ℕ). pos m) (omega arith)
number_more age (negsuc n) = refl

left_more : (age : ℕ) (left : Option ℤ) → option_map lowered (option_map (lowered_by age) left) ≡ option_map (lowered_by (suc age)) left
left_more age None = refl
left_more age (Some n) = ap (λ (m : ℤ). Some m) (number_more age n)

closed_index : (fresh : Bool) (event : EventId) (at : ℤ) → closed_wait (if fresh then Index event at else Next) ≡ Next
closed_index true event at = refl
closed_index false event at = refl

old_index : (age : ℕ) (event : EventId) (at : ℤ) → aged (suc age) (Index event at) ≡ Next
old_index age event at = ap (λ (fresh : Bool). if fresh then Index event at else Next) (ne_eqb (suc age) 0 (λ e. absurd (omega (arith, e))))

-- one more close
closed_aged : (age : ℕ) (w : Wait) → closed_wait (aged age w) ≡ aged (suc age) w
closed_aged age New = refl
closed_aged age (Coop left) = ap (λ (m : ℤ). Coop m) (number_more age left)
closed_aged age (Events events left) = ap (λ (m : Option ℤ). Events events m) (left_more age left)
closed_aged age (Index event at) = closed_index (age == 0) event at ∙ sym (old_index age event at)
closed_aged age Next = refl
closed_aged age (Join thread left) = ap (λ (m : Option ℤ). Join thread m) (left_more age left)
closed_aged age Halt = refl

later : (clock since : ℕ) → since ≤ clock → suc (clock - since) ≡ (clock + 1) - since
later clock since h = omega arith

later_one : (clock : ℕ) (e : Option Entry) → IsEntryBefore clock e → option_map (wait_now (clock + 1)) e ≡ option_map closed_wait (option_map (wait_now clock) e)
later_one clock None h = refl
later_one clock (Some e) h = ap (λ (w : Wait). Some w) (sym (closed_aged (clock - e.since) e.wait ∙ ap (λ (age : ℕ). aged age e.wait) (later clock e.since h)))

later_all : (clock : ℕ) (slots : List (Option Entry)) → AllByRecursion (IsEntryBefore clock) slots → waits_of (clock + 1) slots ≡ map (option_map closed_wait) (waits_of clock slots)
later_all clock [] h = refl
later_all clock (e ∷ slots) h =
    ap (λ (w : Option Wait). w ∷ waits_of (clock + 1) slots) (later_one clock e h.0)
    ∙ ap (λ (ws : List (Option Wait)). option_map closed_wait (option_map (wait_now clock) e) ∷ ws) (later_all clock slots h.1)

pub waits_later : (clock : ℕ) (slots : List (Option Entry)) → IsBefore clock slots → waits_of (clock + 1) slots ≡ map (option_map closed_wait) (waits_of clock slots)
waits_later clock slots h = later_all clock slots (recursion_from_All (IsEntryBefore clock) slots h)

waits_set : (clock : ℕ) (slots : List (Option Entry)) (p : ℕ) (e : Option Entry) → waits_of clock (set slots p e) ≡ set (waits_of clock slots) p (option_map (wait_now clock) e)
waits_set clock slots p e = map-set (option_map (wait_now clock)) slots p e

-- a wait that is entered now
pub waits_enter : (clock : ℕ) (slots : List (Option Entry)) (p : ℕ) (w : Wait) → waits_of clock (set slots p (Some (record { wait = w; since = clock }))) ≡ set (waits_of clock slots) p (Some w)
waits_enter clock slots p w =
    waits_set clock slots p (Some (record { wait = w; since = clock }))
    ∙ ap (λ (v : Wait). set (waits_of clock slots) p (Some v)) (ap (λ (age : ℕ). aged age w) (omega arith) ∙ aged_none w)

pub waits_leave : (clock : ℕ) (slots : List (Option Entry)) (p : ℕ) → waits_of clock (set slots p None) ≡ set (waits_of clock slots) p None
waits_leave clock slots p = waits_set clock slots p None

pub waits_take : (clock n : ℕ) (slots : List (Option Entry)) → waits_of clock (take n slots) ≡ take n (waits_of clock slots)
waits_take clock n slots = sym (take-map (option_map (wait_now clock)) n slots)

pub length_waits : (clock : ℕ) (slots : List (Option Entry)) → length (waits_of clock slots) ≡ length slots
length_waits clock slots = length-map slots (option_map (wait_now clock))

-- the wait of the entry at a position
there_is : (clock : ℕ) (slots : List (Option Entry)) (p : ℕ) (e d : Option Entry) → p < length slots → e ≡ get_or slots p d → option_map (wait_now clock) e ≡ get_or (waits_of clock slots) p None
there_is clock [] p e d h is = absurd (omega arith)
there_is clock (x ∷ slots) zero e d h is = ap (option_map (wait_now clock)) is
there_is clock (x ∷ slots) (suc p) e d h is = there_is clock slots p e d (omega arith) is

pub wait_there : (clock : ℕ) (slots : List (Option Entry)) (p : ℕ) (e was : Option Entry) → p < length slots → e ≡ was → was ≡ get_or slots p was → option_map (wait_now clock) e ≡ get_or (waits_of clock slots) p None
wait_there clock slots p e was h same is = there_is clock slots p e was h (same ∙ is)

before_at : (clock : ℕ) (slots : List (Option Entry)) (p : ℕ) (d : Option Entry) → AllByRecursion (IsEntryBefore clock) slots → p < length slots → IsEntryBefore clock (get_or slots p d)
before_at clock [] p d all h = absurd (omega arith)
before_at clock (x ∷ slots) zero d all h = all.0
before_at clock (x ∷ slots) (suc p) d all h = before_at clock slots p d all.1 (omega arith)

pub before_there : (clock : ℕ) (slots : List (Option Entry)) (p : ℕ) (e was : Option Entry) → IsBefore clock slots → p < length slots → e ≡ was → was ≡ get_or slots p was → IsEntryBefore clock e
before_there clock slots p e was all h same is =
    subst (IsEntryBefore clock) (sym (same ∙ is)) (before_at clock slots p was (recursion_from_All (IsEntryBefore clock) slots all) h)
