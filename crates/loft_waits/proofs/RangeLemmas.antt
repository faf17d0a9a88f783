-- Ranges of places, and the flags that a walk over one sets.
use Rattle.std.proofs.Common.{◌≡◌, ℕ, zero, suc, ◌+◌, ◌<◌, ◌≤◌, ◌==◌, ne_eqb, add-one, take, Bool, true, false, List, [], ◌∷◌, ◌++◌, set, refl, sym, ◌∙◌, ap, arith, length, get_or, get_or-set_same, get_or-set_other, ◌⊎◌, inl, inr}
use Rattle.std.specs.Prelude.{◌≢◌, ◌||◌, ◌&&◌, not, nat_lt}
use Rattle.std.specs.List.{list_any}
use Rattle.std.specs.declared.cmp.Ordering.{Ordering}
use Rattle.std.specs.declared.cmp.Ordering.TheVariants.{Less, Equal, Greater}
use Rattle.std.specs.declared.ops.Bound.TheVariants.{Included}
use Rattle.std.specs.Ordering.{is_eq, is_gt, is_lt, is_le, ordering_then, nat_cmp}
use Rattle.std.specs.Cmp.{nat_cmp_total, nat_cmp_is, tied_itself}
use Rattle.std.specs.BTreeMap.{is_at}
use Rattle.std.specs.BTreeMap.Range.{range_contains}
use Rattle.std.specs.BTreeSet.{BTreeSet, keys_between}
use Rattle.std.proofs.lemmas.Bool.{ltb-true, ltb-false}
use Rattle.std.proofs.lemmas.List.Folds.{list_any-append}
use Rattle.std.proofs.lemmas.Map.Lookups.{exact_unsigned, exact_pairs}
use Rattle.std.proofs.lemmas.Map.Views.{any-filter_same}
use mathlib.Core.Logic.{dite}
use native.Mathlib.Decide.{ℕ_discrete}
use Rattle.loft_waits.specs.declared.key.Key.{Key}
use Rattle.loft_waits.specs.declared.key.Key.TheVariants.{Event, Value, End, Close}
use Rattle.loft_finder.specs.declared.key.IdKey.{IdKey}
use Rattle.loft_finder.proofs.KeyLemmas.{key_exact as id_exact, key_same as id_same}
use Rattle.loft_waits.specs.Told.{Told, ready_at}
use Rattle.loft_waits.specs.declared.places.Places.{Places}
use Rattle.loft_waits.specs.Places.{Place, key_cmp, place_cmp, is_placed, flag, SetsSome, SetsPlaced, SetsListed}
use Rattle.loft_waits.proofs.KeptLemmas.{ready_beyond}
use Rattle.loft_waits.proofs.PlaceLemmas.{place_apart}

-- ---- the order of keys

number_same : (n : ℕ) → nat_cmp n n ≡ Equal
number_same n = tied_itself nat_cmp_total n

then_left : (x y : Ordering) → ordering_then x y ≡ Equal → x ≡ Equal
then_left Less y h = absurd cc
then_left Equal y h = refl
then_left Greater y h = absurd cc

then_right : (x y : Ordering) → ordering_then x y ≡ Equal → y ≡ Equal
then_right Less y h = absurd cc
then_right Equal y h = h
then_right Greater y h = absurd cc

-- keys that compare as equal are the same
key_exact : (x y : Key) → key_cmp x y ≡ Equal → x ≡ y
key_exact (Event d) (Event e) h = ap (λ (k : ℕ). Event k) (exact_unsigned d e h)
key_exact (Event d) (Value e n) h = absurd cc
key_exact (Event d) (End t) h = absurd cc
key_exact (Event d) (Close n) h = absurd cc
key_exact (Value d m) (Event e) h = absurd cc
key_exact (Value d m) (Value e n) h =
    ap (λ (k : ℕ). Value k m) (exact_unsigned d e (then_left (nat_cmp d e) (nat_cmp m n) h)) ∙ ap (λ (k : ℕ). Value e k) (exact_unsigned m n (then_right (nat_cmp d e) (nat_cmp m n) h))
key_exact (Value d m) (End t) h = absurd cc
key_exact (Value d m) (Close n) h = absurd cc
key_exact (End s) (Event e) h = absurd cc
key_exact (End s) (Value e n) h = absurd cc
key_exact (End s) (End t) h = ap (λ (k : IdKey). End k) (id_exact s t h)
key_exact (End s) (Close n) h = absurd cc
key_exact (Close m) (Event e) h = absurd cc
key_exact (Close m) (Value e n) h = absurd cc
key_exact (Close m) (End t) h = absurd cc
key_exact (Close m) (Close n) h = ap (λ (k : ℕ). Close k) (exact_unsigned m n h)

key_same : (k : Key) → key_cmp k k ≡ Equal
key_same (Event e) = number_same e
key_same (Value e n) = ap (λ (o : Ordering). ordering_then o (nat_cmp n n)) (number_same e) ∙ number_same n
key_same (End t) = id_same t
key_same (Close n) = number_same n

number_le : (m n : ℕ) → m ≤ n → is_gt (nat_cmp m n) ≡ false
number_le m n h = one (nat_lt m n) refl
  where
    one : (b : Bool) → nat_lt m n ≡ b → is_gt (nat_cmp m n) ≡ false
    one true is = sym (ap is_gt (nat_cmp_is m n Less (ltb-true m n is)))
    one false is = let ge = ltb-false m n is in let e : m ≡ n = omega (arith, h, ge) in sym (ap is_gt (nat_cmp_is m n Equal e))

number_ge : (m n : ℕ) → n ≤ m → is_lt (nat_cmp m n) ≡ false
number_ge m n h = one (nat_lt n m) refl
  where
    one : (b : Bool) → nat_lt n m ≡ b → is_lt (nat_cmp m n) ≡ false
    one true is = sym (ap is_lt (nat_cmp_is m n Greater (ltb-true n m is)))
    one false is = let le = ltb-false n m is in let e : m ≡ n = omega (arith, h, le) in sym (ap is_lt (nat_cmp_is m n Equal e))

pub value_from : (e m n : ℕ) → m ≤ n → is_gt (key_cmp (Value e m) (Value e n)) ≡ false
value_from e m n h = ap (λ (o : Ordering). is_gt (ordering_then o (nat_cmp m n))) (number_same e) ∙ number_le m n h

pub value_to : (e m n : ℕ) → n ≤ m → is_lt (key_cmp (Value e m) (Value e n)) ≡ false
value_to e m n h = ap (λ (o : Ordering). is_lt (ordering_then o (nat_cmp m n))) (number_same e) ∙ number_ge m n h

pub same_from : (k : Key) → is_gt (key_cmp k k) ≡ false
same_from k = ap is_gt (key_same k)

pub same_to : (k : Key) → is_lt (key_cmp k k) ≡ false
same_to k = ap is_lt (key_same k)

-- ---- a range

start_in : (x y : Ordering) → is_gt x ≡ false → is_gt y ≡ false → is_le (ordering_then x y) ≡ true
start_in Less y a b = refl
start_in Equal Less a b = refl
start_in Equal Equal a b = refl
start_in Equal Greater a b = absurd cc
start_in Greater y a b = absurd cc

end_in : (x y : Ordering) → is_lt x ≡ false → is_lt y ≡ false → not (is_lt (ordering_then x y)) ≡ true
end_in Less y a b = absurd cc
end_in Equal Less a b = absurd cc
end_in Equal Equal a b = refl
end_in Equal Greater a b = refl
end_in Greater y a b = refl

in_range : (first last k : Key) (top i : ℕ) → is_gt (key_cmp first k) ≡ false → is_lt (key_cmp last k) ≡ false → i ≤ top → range_contains place_cmp (Included (first, 0)) (Included (last, top)) (k, i) ≡ true
in_range first last k top i from to small =
    ap (λ (b : Bool). b && not (is_lt (place_cmp (last, top) (k, i)))) (start_in (key_cmp first k) (nat_cmp 0 i) from (number_le 0 i (omega arith)))
    ∙ end_in (key_cmp last k) (nat_cmp top i) to (number_ge top i small)

equal_from : (o : Ordering) → is_eq o ≡ true → o ≡ Equal
equal_from Less h = absurd cc
equal_from Equal h = refl
equal_from Greater h = absurd cc

-- a place that is listed is in the range
pub found : (places : BTreeSet Place) (first last k : Key) (top i : ℕ) → is_gt (key_cmp first k) ≡ false → is_lt (key_cmp last k) ≡ false → i ≤ top → is_placed places k i ≡ true
    → list_any (is_at (place_cmp (k, i))) (keys_between place_cmp (Included (first, 0)) (Included (last, top)) places) ≡ true
found places first last k top i from to small h =
    any-filter_same (is_at (place_cmp (k, i))) (range_contains place_cmp (Included (first, 0)) (Included (last, top))) true
    (λ q e.
    ap (range_contains place_cmp (Included (first, 0)) (Included (last, top))) (sym (exact_pairs key_cmp nat_cmp key_exact exact_unsigned (k, i) q (equal_from (place_cmp (k, i) q) e)))
    ∙ in_range first last k top i from to small)
    places.keys
    ∙ h

-- ---- a walk

pub set_short : (xs : List ℕ) (p v : ℕ) → length xs ≤ p → set xs p v ≡ xs
set_short [] p v h = refl
set_short (x ∷ xs) zero v h = absurd (omega arith)
set_short (x ∷ xs) (suc p) v h = ap (λ (l : List ℕ). x ∷ l) (set_short xs p v (omega arith))

short_at : (xs : List ℕ) (p : ℕ) → length xs ≤ p → get_or xs p 0 ≡ 0
short_at [] p h = refl
short_at (x ∷ xs) zero h = absurd (omega arith)
short_at (x ∷ xs) (suc p) h = short_at xs p (omega arith)

flag_here : (t : Told) (ready : List ℕ) (p : ℕ) (within : Bool) → nat_lt p (length ready) ≡ within → length t.waits ≤ length ready → get_or (set ready p (flag (ready_at t p))) p 0 ≡ flag (ready_at t p)
flag_here t ready p true lt many = get_or-set_same ready p (flag (ready_at t p)) 0 (ltb-true p (length ready) lt)
flag_here t ready p false ge many =
    let far : length ready ≤ p = ltb-false p (length ready) ge in
    ap (λ (l : List ℕ). get_or l p 0) (set_short ready p (flag (ready_at t p)) far) ∙ short_at ready p far ∙ sym (ap flag (ready_beyond t p (omega (arith, far, many))))

flag_at : (t : Told) (ready : List ℕ) (p i : ℕ) → i ≡ p → length t.waits ≤ length ready → get_or (set ready p (flag (ready_at t p))) i 0 ≡ flag (ready_at t i)
flag_at t ready p i same many =
    ap (λ (k : ℕ). get_or (set ready p (flag (ready_at t p))) k 0) same ∙ flag_here t ready p (nat_lt p (length ready)) refl many ∙ sym (ap (λ (k : ℕ). flag (ready_at t k)) same)

-- one more flag is set anew
pub woken_some : (t : Told) (start now new : List ℕ) (p : ℕ) → SetsSome t start now → new ≡ set now p (flag (ready_at t p)) → length t.waits ≤ length now → SetsSome t start new
woken_some t start now new p some is many i =
    dite (ℕ_discrete i p)
    (λ same. inl (ap (λ (l : List ℕ). get_or l i 0) is ∙ flag_at t now p i same many))
    (λ apart. stays (ap (λ (l : List ℕ). get_or l i 0) is ∙ get_or-set_other now p i (flag (ready_at t p)) 0 apart) (some i))
  where
    stays : get_or new i 0 ≡ get_or now i 0 → (get_or now i 0 ≡ flag (ready_at t i)) ⊎ (get_or now i 0 ≡ get_or start i 0) → (get_or new i 0 ≡ flag (ready_at t i)) ⊎ (get_or new i 0 ≡ get_or start i 0)
    stays e (inl h) = inl (e ∙ h)
    stays e (inr h) = inr (e ∙ h)

or_false : (b : Bool) → (b || false) ≡ b
or_false true = refl
or_false false = refl

in_front : (k : Key) (i : ℕ) (done : List Place) (q : Place) → i ≢ q.1 → list_any (is_at (place_cmp (k, i))) (done ++ q ∷ []) ≡ true → list_any (is_at (place_cmp (k, i))) done ≡ true
in_front k i done q apart h =
    sym (or_false (list_any (is_at (place_cmp (k, i))) done))
    ∙ sym (ap (λ (b : Bool). list_any (is_at (place_cmp (k, i))) done || (b || false)) (place_apart k q.0 i q.1 (λ e. apart (sym e))))
    ∙ sym (list_any-append (is_at (place_cmp (k, i))) done (q ∷ []))
    ∙ h

-- the flags of those are set anew whose places were walked over
abbrev pub SetsDone : Told → List Place → List ℕ → Type 0
SetsDone t done now = (k : Key) (i : ℕ) → list_any (is_at (place_cmp (k, i))) done ≡ true → get_or now i 0 ≡ flag (ready_at t i)

pub woken_done : (t : Told) (done : List Place) (q : Place) (now new : List ℕ) → SetsDone t done now → new ≡ set now q.1 (flag (ready_at t q.1)) → length t.waits ≤ length now → SetsDone t (done ++ q ∷ []) new
woken_done t done q now new so is many k i h =
    dite (ℕ_discrete i q.1)
    (λ same. ap (λ (l : List ℕ). get_or l i 0) is ∙ flag_at t now q.1 i same many)
    (λ apart. ap (λ (l : List ℕ). get_or l i 0) is ∙ get_or-set_other now q.1 i (flag (ready_at t q.1)) 0 apart ∙ so k i (in_front k i done q apart h))

-- the flags of those are set anew whose positions were walked over
abbrev pub SetsThese : Told → List ℕ → List ℕ → Type 0
SetsThese t done now = (i : ℕ) → list_any (λ j. j == i) done ≡ true → get_or now i 0 ≡ flag (ready_at t i)

in_front_of : (i : ℕ) (done : List ℕ) (p : ℕ) → i ≢ p → list_any (λ j. j == i) (done ++ p ∷ []) ≡ true → list_any (λ j. j == i) done ≡ true
in_front_of i done p apart h =
    sym (or_false (list_any (λ j. j == i) done))
    ∙ sym (ap (λ (b : Bool). list_any (λ j. j == i) done || (b || false)) (ne_eqb p i (λ e. apart (sym e))))
    ∙ sym (list_any-append (λ j. j == i) done (p ∷ []))
    ∙ h

pub woken_these : (t : Told) (done more : List ℕ) (p : ℕ) (now new : List ℕ) → SetsThese t done now → new ≡ set now p (flag (ready_at t p)) → length t.waits ≤ length now → more ≡ done ++ p ∷ [] → SetsThese t more new
woken_these t done more p now new so is many next i h =
    dite (ℕ_discrete i p)
    (λ same. ap (λ (l : List ℕ). get_or l i 0) is ∙ flag_at t now p i same many)
    (λ apart. ap (λ (l : List ℕ). get_or l i 0) is ∙ get_or-set_other now p i (flag (ready_at t p)) 0 apart ∙ so i (in_front_of i done p apart (ap (list_any (λ j. j == i)) (sym next) ∙ h)))

-- those who were set anew stay so
pub still_these : (t : Told) (now new : List ℕ) (i : ℕ) → SetsSome t now new → get_or now i 0 ≡ flag (ready_at t i) → get_or new i 0 ≡ flag (ready_at t i)
still_these t now new i some h = one (some i)
  where
    one : (get_or new i 0 ≡ flag (ready_at t i)) ⊎ (get_or new i 0 ≡ get_or now i 0) → get_or new i 0 ≡ flag (ready_at t i)
    one (inl e) = e
    one (inr e) = e ∙ h

pub some_twice : (t : Told) (start now new : List ℕ) → SetsSome t start now → SetsSome t now new → SetsSome t start new
some_twice t start now new first second i = one (first i) (second i)
  where
    one : (get_or now i 0 ≡ flag (ready_at t i)) ⊎ (get_or now i 0 ≡ get_or start i 0) → (get_or new i 0 ≡ flag (ready_at t i)) ⊎ (get_or new i 0 ≡ get_or now i 0) → (get_or new i 0 ≡ flag (ready_at t i)) ⊎ (get_or new i 0 ≡ get_or start i 0)
    one a (inl e) = inl e
    one (inl h) (inr e) = inl (e ∙ h)
    one (inr h) (inr e) = inr (e ∙ h)

or_cases : (a b : Bool) → (a || b) ≡ true → (a ≡ true) ⊎ (b ≡ true)
or_cases true b h = inl refl
or_cases false b h = inr h

and_right : (a b : Bool) → (a && b) ≡ true → b ≡ true
and_right true b h = h
and_right false b h = absurd cc

and_left : (a b : Bool) → (a && b) ≡ true → a ≡ true
and_left true b h = refl
and_left false b h = absurd cc

-- the set, and then the list where it is for this close
pub close_listed : (t : Told) (places : Places) (close : ℕ) (now new : List ℕ) → SetsPlaced t places.set (Close close) now → SetsSome t now new → SetsThese t places.soon.items new → SetsListed t places (Close close) new
close_listed t places close now new placed some these i lt h = one (or_cases (places.due == close && list_any (λ j. j == i) places.soon.items) (is_placed places.set (Close close) i) h)
  where
    one : ((places.due == close && list_any (λ j. j == i) places.soon.items) ≡ true) ⊎ (is_placed places.set (Close close) i ≡ true) → get_or new i 0 ≡ flag (ready_at t i)
    one (inl e) = these i (and_right (places.due == close) (list_any (λ j. j == i) places.soon.items) e)
    one (inr e) = still_these t now new i some (placed i lt e)

pub close_placed : (t : Told) (places : Places) (close : ℕ) (new : List ℕ) → (places.due == close) ≡ false → SetsPlaced t places.set (Close close) new → SetsListed t places (Close close) new
close_placed t places close new apart placed i lt h = one (or_cases (places.due == close && list_any (λ j. j == i) places.soon.items) (is_placed places.set (Close close) i) h)
  where
    refuse : (b : Bool) → b ≡ false → b ≡ true → ⊥
    refuse true f t = cc
    refuse false f t = cc

    one : ((places.due == close && list_any (λ j. j == i) places.soon.items) ≡ true) ⊎ (is_placed places.set (Close close) i ≡ true) → get_or new i 0 ≡ flag (ready_at t i)
    one (inl e) = absurd (refuse (places.due == close) apart (and_left (places.due == close) (list_any (λ j. j == i) places.soon.items) e))
    one (inr e) = placed i lt e

pub take_next : (xs : List ℕ) (i : ℕ) → i < length xs → take (i + 1) xs ≡ take i xs ++ get_or xs i 0 ∷ []
take_next xs i h = ap (λ (n : ℕ). take n xs) (add-one i) ∙ one xs i h
  where
    one : (xs : List ℕ) (i : ℕ) → i < length xs → take (suc i) xs ≡ take i xs ++ get_or xs i 0 ∷ []
    one [] i h = absurd (omega arith)
    one (x ∷ xs) zero h = refl
    one (x ∷ xs) (suc i) h = ap (λ (l : List ℕ). x ∷ l) (one xs i (omega arith))
