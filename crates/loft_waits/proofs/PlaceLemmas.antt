-- The lists of waiting threads.
use Rattle.std.proofs.Common.{◌≡◌, ℕ, ◌==◌, Bool, true, false, List, [], ◌∷◌, ◌++◌, refl, sym, ◌∙◌, ap, eq-eqb, ne_eqb, ◌⊎◌, inl, inr}
use Rattle.std.specs.Prelude.{◌≢◌, cond, ◌&&◌, ◌||◌}
use Rattle.std.specs.List.{list_any}
use Rattle.std.proofs.lemmas.Bool.{eqb-true}
use Rattle.std.proofs.lemmas.List.Folds.{list_any-append}
use Rattle.std.specs.Ordering.{is_eq, nat_cmp}
use Rattle.std.specs.BTreeMap.{is_at}
use Rattle.std.specs.BTreeSet.{BTreeSet, contains}
use Rattle.loft_waits.specs.declared.key.Key.{Key}
use Rattle.loft_waits.specs.declared.key.Key.TheVariants.{Event, Value, End, Close}
use Rattle.loft_waits.specs.declared.places.Places.{Places}
use Rattle.loft_waits.specs.Places.{Place, key_cmp, place_cmp, is_placed, is_close, is_listed, KeepsOthers, KeepsAll, KeepsBut}
use Rattle.loft_ended.proofs.KeyLemmas.{eq_then, number_ties}

cond_true : (b : Bool) → cond b true true ≡ true
cond_true true = refl
cond_true false = refl

or_cases : (a b : Bool) → (a || b) ≡ true → (a ≡ true) ⊎ (b ≡ true)
or_cases true b h = inl refl
or_cases false b h = inr h

or_more : (a b : Bool) → b ≡ true → (a || b) ≡ true
or_more true b h = refl
or_more false b h = h

-- whether a position is in the list of a key
abbrev in_list : Places → Key → ℕ → Bool
in_list p k i = is_close p.due k && list_any (λ j. j == i) p.soon.items

-- one more place in the set
set_more : (old new : BTreeSet Place) (x : Place) → ((q : Place) → contains place_cmp new q ≡ cond (is_at (place_cmp x) q) true (contains place_cmp old q)) → (k : Key) (i : ℕ) → is_placed old k i ≡ true → is_placed new k i ≡ true
set_more old new x more k i h = more (k, i) ∙ ap (λ (b : Bool). cond (is_at (place_cmp x) (k, i)) true b) h ∙ cond_true (is_at (place_cmp x) (k, i))

and_false : (b : Bool) → (b && false) ≡ false
and_false true = refl
and_false false = refl

pub place_apart : (key k : Key) (p i : ℕ) → i ≢ p → is_eq (place_cmp (key, p) (k, i)) ≡ false
place_apart key k p i apart =
    eq_then (key_cmp key k) (nat_cmp p i)
    ∙ ap (λ (b : Bool). is_eq (key_cmp key k) && b) (number_ties p i ∙ ne_eqb i p apart)
    ∙ and_false (is_eq (key_cmp key k))

pub keeps_more : (p : Places) (new : BTreeSet Place) (x : Place) → ((q : Place) → contains place_cmp new q ≡ cond (is_at (place_cmp x) q) true (contains place_cmp p.set q)) → KeepsAll p (record p { set = new })
keeps_more p new x more k i h = one (or_cases (in_list p k i) (is_placed p.set k i) h)
  where
    one : (in_list p k i ≡ true) ⊎ (is_placed p.set k i ≡ true) → (in_list p k i || is_placed new k i) ≡ true
    one (inl e) = ap (λ (b : Bool). b || is_placed new k i) e
    one (inr e) = or_more (in_list p k i) (is_placed new k i) (set_more p.set new x more k i e)

-- a place that is in the set is listed
pub listed_placed : (p : Places) (k : Key) (i : ℕ) → is_placed p.set k i ≡ true → is_listed p k i ≡ true
listed_placed p k i h = or_more (in_list p k i) (is_placed p.set k i) h

-- one place less in the set
pub keeps_less : (p : Places) (new : BTreeSet Place) (key : Key) (pos : ℕ) → ((q : Place) → is_at (place_cmp (key, pos)) q ≡ false → contains place_cmp new q ≡ contains place_cmp p.set q) → KeepsOthers pos p (record p { set = new })
keeps_less p new key pos less k i apart h = one (or_cases (in_list p k i) (is_placed p.set k i) h)
  where
    one : (in_list p k i ≡ true) ⊎ (is_placed p.set k i ≡ true) → (in_list p k i || is_placed new k i) ≡ true
    one (inl e) = ap (λ (b : Bool). b || is_placed new k i) e
    one (inr e) = or_more (in_list p k i) (is_placed new k i) (less (k, i) (place_apart key k pos i apart) ∙ e)

any_more : (i : ℕ) (xs ys : List ℕ) → list_any (λ j. j == i) xs ≡ true → list_any (λ j. j == i) (xs ++ ys) ≡ true
any_more i xs ys h = list_any-append (λ j. j == i) xs ys ∙ ap (λ (b : Bool). b || list_any (λ j. j == i) ys) h

and_right : (a b c : Bool) → (b ≡ true → c ≡ true) → (a && b) ≡ true → (a && c) ≡ true
and_right true b c more h = more h
and_right false b c more h = absurd cc

-- one more in the list
pub keeps_soon : (p q : Places) (pos : ℕ) → q.due ≡ p.due → q.set ≡ p.set → q.soon.items ≡ p.soon.items ++ pos ∷ [] → KeepsAll p q
keeps_soon p q pos due set soon k i h = one (or_cases (in_list p k i) (is_placed p.set k i) h)
  where
    any : list_any (λ j. j == i) p.soon.items ≡ true → list_any (λ j. j == i) q.soon.items ≡ true
    any e = ap (list_any (λ j. j == i)) soon ∙ any_more i p.soon.items (pos ∷ []) e

    one : (in_list p k i ≡ true) ⊎ (is_placed p.set k i ≡ true) → (in_list q k i || is_placed q.set k i) ≡ true
    one (inl e) =
        let here : in_list q k i ≡ true = ap (λ (n : ℕ). is_close n k && list_any (λ j. j == i) q.soon.items) due ∙ and_right (is_close p.due k) (list_any (λ j. j == i) p.soon.items) (list_any (λ j. j == i) q.soon.items) any e in
        ap (λ (b : Bool). b || is_placed q.set k i) here
    one (inr e) = or_more (in_list q k i) (is_placed q.set k i) (ap (λ (s : BTreeSet Place). is_placed s k i) set ∙ e)

-- who was put last into the list is in it
pub soon_last : (q : Places) (xs : List ℕ) (pos close : ℕ) → (close == q.due) ≡ true → q.soon.items ≡ xs ++ pos ∷ [] → is_listed q (Close close) pos ≡ true
soon_last q xs pos close due soon =
    let same : q.due ≡ close = sym (eqb-true close q.due due) in
    let here : list_any (λ j. j == pos) q.soon.items ≡ true =
    ap (list_any (λ j. j == pos)) soon ∙ list_any-append (λ j. j == pos) xs (pos ∷ []) ∙ or_more (list_any (λ j. j == pos) xs) ((pos == pos) || false) (ap (λ (b : Bool). b || false) (eq-eqb pos pos refl)) in
    ap (λ (b : Bool). (b && list_any (λ j. j == pos) q.soon.items) || is_placed q.set (Close close) pos) (eq-eqb q.due close same)
    ∙ ap (λ (b : Bool). b || is_placed q.set (Close close) pos) here

-- ---- a close has come

other_close : (n close : ℕ) (k : Key) → n ≡ close → k ≢ Close close → is_close n k ≡ false
other_close n close (Close m) same apart = ne_eqb n m (λ e. apart (ap (λ (x : ℕ). Close x) (sym e ∙ same)))
other_close n close (Event e) same apart = refl
other_close n close (Value e m) same apart = refl
other_close n close (End t) same apart = refl

pub keeps_but : (p q : Places) (close : ℕ) → (close == p.due) ≡ true → q.set ≡ p.set → KeepsBut (Close close) p q
keeps_but p q close due set k i apart h =
    let none : in_list p k i ≡ false = ap (λ (b : Bool). b && list_any (λ j. j == i) p.soon.items) (other_close p.due close k (sym (eqb-true close p.due due)) apart) in
    or_more (in_list q k i) (is_placed q.set k i)
    (ap (λ (s : BTreeSet Place). is_placed s k i) set ∙ sym (ap (λ (b : Bool). b || is_placed p.set k i) none) ∙ h)
