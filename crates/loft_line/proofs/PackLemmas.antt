-- Threads that move together, where places before them are empty.
use Rattle.std.proofs.Common.{◌≡◌, ℕ, zero, suc, ◌+◌, ◌≤◌, true, false, List, [], ◌∷◌, ◌++◌, refl, sym, ◌∙◌, ap, arith, Option, Some, None, length, get_or, set, map, take}
use Rattle.std.specs.Prelude.{slice_get}
use Rattle.std.proofs.lemmas.List.{length-append}
use Rattle.std.proofs.lemmas.List.Concat.{flat_map-cons}
use mathlib.Core.Logic.{dite}
use native.Mathlib.Decide.{ℕ_discrete}
use Rattle.loft_orders.specs.declared.note.Standing.{Standing}
use Rattle.loft_orders.specs.declared.thread.Wait.{Wait}
use Rattle.loft_passes.specs.declared.runner.Runner.{Runner}
use Rattle.loft_passes.specs.View.{is_held}
use Rattle.loft_ready.specs.Entered.{wait_of}
use Rattle.loft_line.specs.Line.{with_waits, standing_if, standings_in, is_marked, AreMarked, AreEmpty, AreFull}
use Rattle.loft_line.proofs.LineLemmas.{get_same, get_other}
use Rattle.loft_line.proofs.BatchLemmas.{held_standing, hole_standing, hole_waits}

-- ---- a thread goes to an empty place before it

skip : (x : Runner) → standing_if x ≡ [] → (rs : List Runner) → standings_in (x ∷ rs) ≡ standings_in rs
skip x none rs = flat_map-cons standing_if x rs ∙ ap (λ (l : List Standing). l ++ standings_in rs) none

to_front : (rs : List Runner) (p : ℕ) (h r : Runner) → slice_get rs p ≡ Some r → is_held h.stop ≡ false → AreEmpty 0 p rs → standing_if r ++ standings_in (set rs p h) ≡ standings_in rs
to_front [] p h r at gone empty = absurd cc
to_front (x ∷ rs) zero h r at gone empty =
    let is : x ≡ r = cc at in
    ap (λ (l : List Standing). standing_if r ++ l) (skip h (hole_standing h gone) rs)
    ∙ ap (λ (q : Runner). standing_if q ++ standings_in rs) (sym is)
    ∙ sym (flat_map-cons standing_if x rs)
to_front (x ∷ rs) (suc p) h r at gone empty =
    let none : standing_if x ≡ [] = hole_standing x (empty 0 x (omega arith) (omega arith) refl) in
    ap (λ (l : List Standing). standing_if r ++ l) (skip x none (set rs p h))
    ∙ to_front rs p h r at gone (λ i q a b e. empty (suc i) q (omega (arith, a)) (omega (arith, b)) e)
    ∙ sym (skip x none rs)

pub moved_standings : (rs : List Runner) (to pos : ℕ) (h r : Runner) → to ≤ pos → slice_get rs to ≡ Some h → slice_get rs pos ≡ Some r → AreEmpty to pos rs → standings_in (set (set rs pos h) to r) ≡ standings_in rs
moved_standings [] to pos h r order there at empty = absurd cc
moved_standings (x ∷ rs) zero zero h r order there at empty = let is : x ≡ r = cc at in ap (λ (q : Runner). standings_in (q ∷ rs)) (sym is)
moved_standings (x ∷ rs) zero (suc p) h r order there at empty =
    let is : x ≡ h = cc there in
    let gone : is_held x.stop ≡ false = empty 0 x (omega arith) (omega arith) refl in
    flat_map-cons standing_if r (set rs p h)
    ∙ to_front rs p h r at (ap (λ (q : Runner). is_held q.stop) (sym is) ∙ gone) (λ i q a b e. empty (suc i) q (omega (arith, a)) (omega (arith, b)) e)
    ∙ sym (skip x (hole_standing x gone) rs)
moved_standings (x ∷ rs) (suc t) zero h r order there at empty = absurd (omega (arith, order))
moved_standings (x ∷ rs) (suc t) (suc p) h r order there at empty =
    flat_map-cons standing_if x (set (set rs p h) t r)
    ∙ ap (λ (l : List Standing). standing_if x ++ l) (moved_standings rs t p h r (omega (arith, order)) there at (λ i q a b e. empty (suc i) q (omega (arith, a)) (omega (arith, b)) e))
    ∙ sym (flat_map-cons standing_if x rs)

pub moved_full : (rs : List Runner) (to pos : ℕ) (h r : Runner) → to ≤ pos → is_held r.stop ≡ true → AreFull to rs → AreFull (to + 1) (set (set rs pos h) to r)
moved_full rs to pos h r order held full = λ i q below at.
    dite (ℕ_discrete i to)
    (λ same. let is : r ≡ q = get_same (set rs pos h) to r q (ap (slice_get (set (set rs pos h) to r)) (sym same) ∙ at) in ap (λ (y : Runner). is_held y.stop) (sym is) ∙ held)
    (λ apart.
    full i q (omega (arith, below, apart)) (sym (get_other rs pos i h (λ e. omega (arith, e, below, apart, order))) ∙ sym (get_other (set rs pos h) to i r apart) ∙ at))

pub moved_empty : (rs : List Runner) (to pos : ℕ) (h r : Runner) → slice_get rs to ≡ Some h → AreEmpty to pos rs → AreEmpty (to + 1) (pos + 1) (set (set rs pos h) to r)
moved_empty rs to pos h r there empty = λ i q from below at.
    let apart : i ≡ to → ⊥ = λ e. omega (arith, e, from) in
    let was : slice_get (set rs pos h) i ≡ Some q = sym (get_other (set rs pos h) to i r apart) ∙ at in
    dite (ℕ_discrete i pos)
    (λ same.
    let is : h ≡ q = get_same rs pos h q (ap (slice_get (set rs pos h)) (sym same) ∙ was) in
    ap (λ (y : Runner). is_held y.stop) (sym is) ∙ empty to h (omega arith) (omega (arith, same, from)) there)
    (λ other. empty i q (omega (arith, from)) (omega (arith, below, other)) (sym (get_other rs pos i h other) ∙ was))

-- ---- one that stays

pub same_full : (rs : List Runner) (n : ℕ) (r : Runner) → slice_get rs n ≡ Some r → is_held r.stop ≡ true → AreFull n rs → AreFull (n + 1) rs
same_full rs n r there held full = λ i q below at.
    dite (ℕ_discrete i n)
    (λ same. let both : Some r ≡ Some q = sym there ∙ ap (slice_get rs) (sym same) ∙ at in let is : r ≡ q = cc both in ap (λ (y : Runner). is_held y.stop) (sym is) ∙ held)
    (λ apart. full i q (omega (arith, below, apart)) at)

pub more_empty : (rs : List Runner) (a b : ℕ) (r : Runner) → slice_get rs b ≡ Some r → is_held r.stop ≡ false → AreEmpty a b rs → AreEmpty a (b + 1) rs
more_empty rs a b r there gone empty = λ i q from below at.
    dite (ℕ_discrete i b)
    (λ same. let both : Some r ≡ Some q = sym there ∙ ap (slice_get rs) (sym same) ∙ at in let is : r ≡ q = cc both in ap (λ (y : Runner). is_held y.stop) (sym is) ∙ gone)
    (λ apart. empty i q from (omega (arith, below, apart)) at)

-- ---- the first places are left

pub with_take : (n : ℕ) (rs : List Runner) (ws : List (Option Wait)) → with_waits (take n rs) (take n ws) ≡ take n (with_waits rs ws)
with_take zero rs ws = refl
with_take (suc n) [] ws = refl
with_take (suc n) (r ∷ rs) [] = refl
with_take (suc n) (r ∷ rs) (w ∷ ws) = ap (λ (l : List Runner). Rattle.loft_line.specs.Line.with_wait w r ∷ l) (with_take n rs ws)

pub both_take : (n : ℕ) (ran : List ℕ) (rs : List Runner) → length ran ≡ length rs → length (take n ran) ≡ length (take n rs)
both_take zero ran rs same = refl
both_take (suc n) [] [] same = refl
both_take (suc n) [] (r ∷ rs) same = absurd (omega (arith, same))
both_take (suc n) (b ∷ ran) [] same = absurd (omega (arith, same))
both_take (suc n) (b ∷ ran) (r ∷ rs) same = ap suc (both_take n ran rs (omega (arith, same)))

pub long_take : (n : ℕ) (rs : List Runner) → n ≤ length rs → length (take n rs) ≡ n
long_take zero rs few = refl
long_take (suc n) [] few = absurd (omega (arith, few))
long_take (suc n) (r ∷ rs) few = ap suc (long_take n rs (omega (arith, few)))

pub get_taken : (n : ℕ) (rs : List Runner) (i : ℕ) (r : Runner) → slice_get (take n rs) i ≡ Some r → slice_get rs i ≡ Some r
get_taken zero rs i r at = absurd cc
get_taken (suc n) [] i r at = absurd cc
get_taken (suc n) (x ∷ rs) zero r at = at
get_taken (suc n) (x ∷ rs) (suc i) r at = get_taken n rs i r at

pub marked_taken : (budget n : ℕ) (rs : List Runner) (ran : List ℕ) → ((i : ℕ) → is_marked ran i ≡ false) → AreMarked budget rs ran → AreMarked budget (take n rs) (take n ran)
marked_taken budget n rs ran unmarked marked = λ i r at none. marked i r (get_taken n rs i r at) (unmarked i)

pub unmarked_taken : (n : ℕ) (ran : List ℕ) → ((i : ℕ) → is_marked ran i ≡ false) → (i : ℕ) → is_marked (take n ran) i ≡ false
unmarked_taken zero ran unmarked i = refl
unmarked_taken (suc n) [] unmarked i = refl
unmarked_taken (suc n) (b ∷ ran) unmarked zero = unmarked 0
unmarked_taken (suc n) (b ∷ ran) unmarked (suc i) = unmarked_taken n ran (λ j. unmarked (suc j)) i

pub cut_standings : (n : ℕ) (rs : List Runner) → AreEmpty n (length rs) rs → standings_in (take n rs) ≡ standings_in rs
cut_standings zero [] empty = refl
cut_standings zero (x ∷ rs) empty =
    cut_standings zero rs (λ i q a b e. empty (suc i) q (omega arith) (omega (arith, b)) e)
    ∙ sym (skip x (hole_standing x (empty 0 x (omega arith) (omega arith) refl)) rs)
cut_standings (suc n) [] empty = refl
cut_standings (suc n) (x ∷ rs) empty =
    flat_map-cons standing_if x (take n rs)
    ∙ ap (λ (l : List Standing). standing_if x ++ l) (cut_standings n rs (λ i q a b e. empty (suc i) q (omega (arith, a)) (omega (arith, b)) e))
    ∙ sym (flat_map-cons standing_if x rs)

-- nobody waits at an empty place
pub nobody_at : (rs : List Runner) (i : ℕ) → ((r : Runner) → slice_get rs i ≡ Some r → is_held r.stop ≡ false) → get_or (map wait_of rs) i None ≡ None
nobody_at [] i gone = refl
nobody_at (x ∷ rs) zero gone = hole_waits x (gone x refl)
nobody_at (x ∷ rs) (suc i) gone = nobody_at rs i gone

-- where no place is empty, there are as many as linked threads
pub full_length : (rs : List Runner) → AreFull (length rs) rs → length (standings_in rs) ≡ length rs
full_length [] full = refl
full_length (x ∷ rs) full =
    let one : length (standing_if x) ≡ 1 = ap (λ (l : List Standing). length l) (held_standing x (full 0 x (omega arith) refl)) in
    let rest = full_length rs (λ i q b e. full (suc i) q (omega (arith, b)) e) in
    let sum : length (standings_in (x ∷ rs)) ≡ length (standing_if x) + length (standings_in rs) = ap (λ (l : List Standing). length l) (flat_map-cons standing_if x rs) ∙ length-append (standing_if x) (standings_in rs) in
    omega (arith, one, rest, sum)
