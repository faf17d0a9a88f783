-- Marks of threads that have run, and how many are held.
use Rattle.std.proofs.Common.{◌≡◌, ◌≢◌, ℕ, zero, suc, ◌+◌, ◌<◌, ◌≤◌, ◌==◌, Bool, true, false, List, [], ◌∷◌, ◌++◌, refl, sym, ◌∙◌, ap, subst, arith, Option, Some, None, length, set, map, get_or-set_same, get_or-set_other}
use Rattle.std.specs.Prelude.{◌||◌, if◌then◌else◌, slice_get, slice_set}
use Rattle.std.proofs.lemmas.List.{map-append, map-set, set-set, length-append}
use Rattle.std.proofs.lemmas.List.Concat.{flat_map-cons}
use mathlib.Core.Logic.{dite}
use native.Mathlib.Decide.{ℕ_discrete}
use Rattle.loft_orders.specs.declared.note.Standing.{Standing}
use Rattle.loft_orders.specs.declared.thread.Wait.{Wait}
use Rattle.loft_sense.specs.Instant.{runner_of}
use Rattle.loft_sense.specs.Passes.{Runner as Linked}
use Rattle.loft_passes.specs.declared.runner.Runner.{Runner}
use Rattle.loft_passes.specs.View.{linked_of, runners_of, standing_of, is_held}
use Rattle.loft_ready.specs.Entered.{wait_of}
use Rattle.loft_line.specs.Line.{standing_if, standings_in, Rests, is_marked, one_if, count_present, AreMarked}

-- ---- nobody has run

pub all_rest : (budget : ℕ) (rs : List Runner) → ((i : ℕ) (r : Runner) → slice_get rs i ≡ Some r → Rests budget r) → runners_of rs ≡ map (runner_of budget) (standings_in rs)
all_rest budget [] rests = refl
all_rest budget (r ∷ rs) rests =
    flat_map-cons linked_of r rs
    ∙ ap (λ (l : List Linked). l ++ runners_of rs) (rests 0 r refl)
    ∙ ap (λ (l : List Linked). map (runner_of budget) (standing_if r) ++ l) (all_rest budget rs (λ i q h. rests (suc i) q h))
    ∙ sym (map-append (runner_of budget) (standing_if r) (standings_in rs))
    ∙ ap (map (runner_of budget)) (sym (flat_map-cons standing_if r rs))

length_if : (held : Bool) (r : Runner) → one_if held ≡ length (if held then standing_of r ∷ [] else [])
length_if true r = refl
length_if false r = refl

count_one : (held marked : Bool) (r : Runner) → marked ≡ false → one_if (held || marked) ≡ length (if held then standing_of r ∷ [] else [])
count_one true marked r h = refl
count_one false marked r h = ap one_if h

pub all_present : (rs : List Runner) (ran : List ℕ) → length ran ≡ length rs → ((i : ℕ) → is_marked ran i ≡ false) → count_present rs ran ≡ length (standings_in rs)
all_present [] ran same unmarked = refl
all_present (r ∷ rs) [] same unmarked = absurd (omega (arith, same))
all_present (r ∷ rs) (b ∷ ran) same unmarked =
    let one = count_one (is_held r.stop) (b == 1) r (unmarked 0) in
    let rest = all_present rs ran (omega (arith, same)) (λ i. unmarked (suc i)) in
    let sum : length (standings_in (r ∷ rs)) ≡ length (standing_if r) + length (standings_in rs) = ap (λ (l : List Standing). length l) (flat_map-cons standing_if r rs) ∙ length-append (standing_if r) (standings_in rs) in
    omega (arith, one, rest, sum)

-- ---- one position changes

pub get_other : (rs : List Runner) (p i : ℕ) (now : Runner) → i ≢ p → slice_get (set rs p now) i ≡ slice_get rs i
get_other [] p i now apart = refl
get_other (x ∷ rs) zero zero now apart = absurd (apart refl)
get_other (x ∷ rs) zero (suc i) now apart = refl
get_other (x ∷ rs) (suc p) zero now apart = refl
get_other (x ∷ rs) (suc p) (suc i) now apart = get_other rs p i now (λ e. apart (ap suc e))

pub get_same : (rs : List Runner) (p : ℕ) (now r : Runner) → slice_get (set rs p now) p ≡ Some r → now ≡ r
get_same [] p now r h = absurd cc
get_same (x ∷ rs) zero now r h = cc h
get_same (x ∷ rs) (suc p) now r h = get_same rs p now r h

refuse : (b : Bool) → b ≡ true → b ≡ false → ⊥
refuse true t f = cc
refuse false t f = cc

pub now_marked : (ran : List ℕ) (p : ℕ) → p < length ran → is_marked (set ran p 1) p ≡ true
now_marked ran p within = ap (λ (n : ℕ). n == 1) (get_or-set_same ran p 1 0 within)

-- the thread at a position has run, and is marked
pub marked_run : (budget : ℕ) (rs : List Runner) (ran : List ℕ) (p : ℕ) (now : Runner) → p < length ran → AreMarked budget rs ran → AreMarked budget (set rs p now) (set ran p 1)
marked_run budget rs ran p now within marked = λ i r h unmarked.
    dite (ℕ_discrete i p)
    (λ same. absurd (refuse (is_marked (set ran p 1) i) (ap (is_marked (set ran p 1)) same ∙ now_marked ran p within) unmarked))
    (λ apart. marked i r (sym (get_other rs p i now apart) ∙ h) (sym (ap (λ (n : ℕ). n == 1) (get_or-set_other ran p i 1 0 apart)) ∙ unmarked))

-- one that hasn't run stands at a position
pub marked_now : (budget : ℕ) (rs : List Runner) (ran : List ℕ) (p : ℕ) (now : Runner) → Rests budget now → AreMarked budget rs ran → AreMarked budget (set rs p now) ran
marked_now budget rs ran p now rests marked = λ i r h unmarked.
    dite (ℕ_discrete i p)
    (λ same. subst (Rests budget) (get_same rs p now r (ap (slice_get (set rs p now)) (sym same) ∙ h)) rests)
    (λ apart. marked i r (sym (get_other rs p i now apart) ∙ h) unmarked)

or_left : (a b : Bool) → a ≡ true → (a || b) ≡ true
or_left true b h = refl
or_left false b h = absurd cc

or_right : (a b : Bool) → b ≡ true → (a || b) ≡ true
or_right true b h = refl
or_right false b h = h

pub present_run : (rs : List Runner) (ran : List ℕ) (p : ℕ) (r now : Runner) → length ran ≡ length rs → slice_get rs p ≡ Some r → is_held r.stop ≡ true → count_present (set rs p now) (set ran p 1) ≡ count_present rs ran
present_run [] ran p r now same h held = refl
present_run (x ∷ rs) [] p r now same h held = absurd (omega (arith, same))
present_run (x ∷ rs) (b ∷ ran) zero r now same h held =
    let is : x ≡ r = cc h in
    let was : (is_held x.stop || b == 1) ≡ true = or_left (is_held x.stop) (b == 1) (ap (λ (y : Runner). is_held y.stop) is ∙ held) in
    let new : (is_held now.stop || 1 == 1) ≡ true = or_right (is_held now.stop) (1 == 1) refl in
    ap (λ (c : Bool). one_if c + count_present rs ran) (new ∙ sym was)
present_run (x ∷ rs) (b ∷ ran) (suc p) r now same h held = ap (λ (n : ℕ). one_if (is_held x.stop || b == 1) + n) (present_run rs ran p r now (omega (arith, same)) h held)

or_none : (a b : Bool) → b ≡ false → (a || b) ≡ a
or_none true b h = refl
or_none false b h = h

-- where it hasn't run, only whether it is held counts
pub present_now : (rs : List Runner) (ran : List ℕ) (p : ℕ) (r now : Runner) → length ran ≡ length rs → slice_get rs p ≡ Some r → is_marked ran p ≡ false
    → count_present (set rs p now) ran + one_if (is_held r.stop) ≡ count_present rs ran + one_if (is_held now.stop)
present_now [] ran p r now same h unmarked = absurd cc
present_now (x ∷ rs) [] p r now same h unmarked = absurd (omega (arith, same))
present_now (x ∷ rs) (b ∷ ran) zero r now same h unmarked =
    let is : x ≡ r = cc h in
    let was : one_if (is_held x.stop || b == 1) ≡ one_if (is_held r.stop) = ap one_if (or_none (is_held x.stop) (b == 1) unmarked) ∙ ap (λ (y : Runner). one_if (is_held y.stop)) is in
    let new : one_if (is_held now.stop || b == 1) ≡ one_if (is_held now.stop) = ap one_if (or_none (is_held now.stop) (b == 1) unmarked) in
    omega (arith, was, new)
present_now (x ∷ rs) (b ∷ ran) (suc p) r now same h unmarked = let e = present_now rs ran p r now (omega (arith, same)) h unmarked in omega (arith, e)

-- ---- one more

pub marked_more : (budget : ℕ) (rs : List Runner) (ran : List ℕ) (now : Runner) → length ran ≡ length rs → Rests budget now → AreMarked budget rs ran → AreMarked budget (rs ++ now ∷ []) (ran ++ 0 ∷ [])
marked_more budget [] [] now same rests marked zero r h unmarked = let is : now ≡ r = cc h in subst (Rests budget) is rests
marked_more budget [] [] now same rests marked (suc i) r h unmarked = absurd cc
marked_more budget [] (b ∷ ran) now same rests marked i r h unmarked = absurd (omega (arith, same))
marked_more budget (x ∷ rs) [] now same rests marked i r h unmarked = absurd (omega (arith, same))
marked_more budget (x ∷ rs) (b ∷ ran) now same rests marked zero r h unmarked = marked 0 r h unmarked
marked_more budget (x ∷ rs) (b ∷ ran) now same rests marked (suc i) r h unmarked = marked_more budget rs ran now (omega (arith, same)) rests (λ j q k u. marked (suc j) q k u) i r h unmarked

pub present_more : (rs : List Runner) (ran : List ℕ) (now : Runner) → length ran ≡ length rs → is_held now.stop ≡ true → count_present (rs ++ now ∷ []) (ran ++ 0 ∷ []) ≡ count_present rs ran + 1
present_more [] [] now same held = ap (λ (b : Bool). one_if (b || 0 == 1) + 0) held
present_more [] (b ∷ ran) now same held = absurd (omega (arith, same))
present_more (x ∷ rs) [] now same held = absurd (omega (arith, same))
present_more (x ∷ rs) (b ∷ ran) now same held = let e = present_more rs ran now (omega (arith, same)) held in omega (arith, e)

pub unmarked_more : (ran : List ℕ) → ((i : ℕ) → is_marked ran i ≡ false) → (i : ℕ) → is_marked (ran ++ 0 ∷ []) i ≡ false
unmarked_more [] unmarked zero = refl
unmarked_more [] unmarked (suc i) = unmarked i
unmarked_more (b ∷ ran) unmarked zero = unmarked 0
unmarked_more (b ∷ ran) unmarked (suc i) = unmarked_more ran (λ j. unmarked (suc j)) i

-- the waits stay those of the threads
pub waits_at : (rs later : List Runner) (w0 w1 w3 : List (Option Wait)) (p : ℕ) (now : Runner) → w0 ≡ map wait_of rs → w1 ≡ slice_set w0 p None → w3 ≡ slice_set w1 p (wait_of now) → later ≡ slice_set rs p now → w3 ≡ map wait_of later
waits_at rs later w0 w1 w3 p now e0 e1 e3 is =
    e3
    ∙ ap (λ (l : List (Option Wait)). set l p (wait_of now)) (e1 ∙ ap (λ (l : List (Option Wait)). set l p None) e0)
    ∙ set-set (map wait_of rs) p None (wait_of now)
    ∙ sym (map-set wait_of rs p now)
    ∙ ap (map wait_of) (sym is)

pub some_present : (rs : List Runner) (ran : List ℕ) (p : ℕ) (r : Runner) → length ran ≡ length rs → slice_get rs p ≡ Some r → is_held r.stop ≡ true → 1 ≤ count_present rs ran
some_present [] ran p r same h held = absurd cc
some_present (x ∷ rs) [] p r same h held = absurd (omega (arith, same))
some_present (x ∷ rs) (b ∷ ran) zero r same h held =
    let is : x ≡ r = cc h in
    let one : one_if (is_held x.stop || b == 1) ≡ 1 = ap one_if (or_left (is_held x.stop) (b == 1) (ap (λ (y : Runner). is_held y.stop) is ∙ held)) in
    omega (arith, one)
some_present (x ∷ rs) (b ∷ ran) (suc p) r same h held = let rest = some_present rs ran p r (omega (arith, same)) h held in omega (arith, rest)
