-- How many waits end by themselves.
use Rattle.std.proofs.Common.{◌≡◌, ℕ, zero, suc, ◌+◌, ◌-◌, ◌<◌, ◌≤◌, ◌==◌, Bool, true, false, List, [], ◌∷◌, ◌++◌, map, set, take, refl, sym, ◌∙◌, ap, arith, Option, Some, None, option_map, length, get_or, ne_eqb, eq-eqb}
use Rattle.std.specs.Prelude.{not, ◌||◌, if◌then◌else◌}
use Rattle.std.specs.List.{list_any}
use Rattle.loft_base.specs.declared.ids.EventId.{EventId}
use Rattle.loft_orders.specs.declared.thread.Wait.{Wait}
use Rattle.loft_orders.specs.declared.thread.Wait.TheVariants.{New, Coop, Events, Index, Next, Join, Halt}
use Rattle.loft_sense.specs.Instant.{closed_wait}
use Rattle.loft_waits.specs.declared.entry.Entry.{Entry}
use Rattle.loft_waits.specs.Told.{ends_alone, is_alone}
use Rattle.loft_waits.specs.Aged.{aged, wait_now, waits_of, IsBefore, one_if, count_alone}
use Rattle.loft_waits.proofs.AgedLemmas.{waits_later}

pub count_set : (ws : List (Option Wait)) (p : ℕ) (w : Option Wait) → p < length ws → count_alone (set ws p w) + one_if (is_alone (get_or ws p None)) ≡ count_alone ws + one_if (is_alone w)
count_set [] p w h = absurd (omega arith)
count_set (x ∷ ws) zero w h = let a = one_if (is_alone w) in let b = one_if (is_alone x) in let c = count_alone ws in let e : a + c + b ≡ b + c + a = omega arith in e
count_set (x ∷ ws) (suc p) w h = let e = count_set ws p w (omega arith) in omega (arith, e)

some_of : (w : Option Wait) → one_if (is_alone w) ≤ 1
some_of None = omega arith
some_of (Some w) = one (ends_alone w)
  where
    one : (b : Bool) → one_if b ≤ 1
    one true = omega arith
    one false = omega arith

count_few : (ws : List (Option Wait)) → count_alone ws ≤ length ws
count_few [] = omega arith
count_few (w ∷ ws) = let a = some_of w in let b = count_few ws in omega (arith, a, b)

-- where nobody waits at a position, fewer wait than there are positions
pub free_fewer : (ws : List (Option Wait)) (p : ℕ) → p < length ws → get_or ws p None ≡ None → count_alone ws < length ws
free_fewer [] p h free = absurd (omega arith)
free_fewer (w ∷ ws) zero h free = let a : one_if (is_alone w) ≡ 0 = ap (λ (o : Option Wait). one_if (is_alone o)) free in let b = count_few ws in omega (arith, a, b)
free_fewer (w ∷ ws) (suc p) h free = let a = some_of w in let b = free_fewer ws p (omega arith) free in omega (arith, a, b)

-- whoever waits at a position is among them
pub count_here : (ws : List (Option Wait)) (p : ℕ) → p < length ws → one_if (is_alone (get_or ws p None)) ≤ count_alone ws
count_here [] p h = absurd (omega arith)
count_here (w ∷ ws) zero h = omega arith
count_here (w ∷ ws) (suc p) h = let e = count_here ws p (omega arith) in omega (arith, e)

index_alone : (fresh : Bool) (event : EventId) (at : _) → ends_alone (if fresh then Index event at else Next) ≡ true
index_alone true event at = refl
index_alone false event at = refl

some_mapped : {A : Type 0} (f : A → A) (o : Option A) → Rattle.std.specs.Prelude.is_some (option_map f o) ≡ Rattle.std.specs.Prelude.is_some o
some_mapped f None = refl
some_mapped f (Some x) = refl

alone_aged : (age : ℕ) (w : Wait) → ends_alone (aged age w) ≡ ends_alone w
alone_aged age New = refl
alone_aged age (Coop left) = refl
alone_aged age (Events events left) = some_mapped _ left
alone_aged age (Index event at) = index_alone (age == 0) event at
alone_aged age Next = refl
alone_aged age (Join thread left) = some_mapped _ left
alone_aged age Halt = refl

pub alone_now : (clock : ℕ) (e : Option Entry) → is_alone (option_map (wait_now clock) e) ≡ is_alone (option_map (λ x. x.wait) e)
alone_now clock None = refl
alone_now clock (Some e) = alone_aged (clock - e.since) e.wait

alone_closed : (w : Wait) → ends_alone (closed_wait w) ≡ ends_alone w
alone_closed New = refl
alone_closed (Coop left) = refl
alone_closed (Events events left) = some_mapped _ left
alone_closed (Index event at) = refl
alone_closed Next = refl
alone_closed (Join thread left) = some_mapped _ left
alone_closed Halt = refl

one_closed : (w : Option Wait) → is_alone (option_map closed_wait w) ≡ is_alone w
one_closed None = refl
one_closed (Some w) = alone_closed w

count_closed : (ws : List (Option Wait)) → count_alone (map (option_map closed_wait) ws) ≡ count_alone ws
count_closed [] = refl
count_closed (w ∷ ws) = let a = ap one_if (one_closed w) in let b = count_closed ws in omega (arith, a, b)

pub count_later : (clock : ℕ) (slots : List (Option Entry)) → IsBefore clock slots → count_alone (waits_of (clock + 1) slots) ≡ count_alone (waits_of clock slots)
count_later clock slots before = ap count_alone (waits_later clock slots before) ∙ count_closed (waits_of clock slots)

count_free : (ws : List (Option Wait)) → ((i : ℕ) → get_or ws i None ≡ None) → count_alone ws ≡ 0
count_free [] free = refl
count_free (w ∷ ws) free =
    let a : one_if (is_alone w) ≡ 0 = ap (λ (o : Option Wait). one_if (is_alone o)) (free 0) in
    let b = count_free ws (λ i. free (suc i)) in omega (arith, a, b)

pub count_take : (ws : List (Option Wait)) (n : ℕ) → ((i : ℕ) → n ≤ i → get_or ws i None ≡ None) → count_alone (take n ws) ≡ count_alone ws
count_take [] zero free = refl
count_take [] (suc n) free = refl
count_take (w ∷ ws) zero free = sym (count_free (w ∷ ws) (λ i. free i (omega arith)))
count_take (w ∷ ws) (suc n) free = let e = count_take ws n (λ i h. free (suc i) (omega (arith, h))) in omega (arith, e)

pub count_more : (ws : List (Option Wait)) → count_alone (ws ++ None ∷ []) ≡ count_alone ws
count_more [] = refl
count_more (w ∷ ws) = let e = count_more ws in omega (arith, e)

pub any_counted : (ws : List (Option Wait)) → not (count_alone ws == 0) ≡ list_any is_alone ws
any_counted [] = ap not (eq-eqb 0 0 refl)
any_counted (w ∷ ws) = one (is_alone w) (any_counted ws)
  where
    one : (b : Bool) → not (count_alone ws == 0) ≡ list_any is_alone ws → not (one_if b + count_alone ws == 0) ≡ (b || list_any is_alone ws)
    one true rest = ap not (ne_eqb (1 + count_alone ws) 0 (λ e. absurd (omega (arith, e))))
    one false rest = ap (λ (n : ℕ). not (n == 0)) (let e : 0 + count_alone ws ≡ count_alone ws = omega arith in e) ∙ rest
