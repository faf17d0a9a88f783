-- First faults: of a lock that is taken, of the outermost pair, and of a body, statement after statement.
use Rattle.std.proofs.Common.{◌≡◌, ℕ, zero, suc, ◌+◌, ◌-◌, ◌<◌, ◌≤◌, true, false, List, [], ◌∷◌, ◌++◌, drop, length, get_or, slice_get, Option, Some, None, is_some, refl, ap, sym, subst, ◌∙◌, drop-cons, drop-drop, add-one, arith}
use Rattle.std.specs.Borrow.{Bor}
use Rattle.std.proofs.lemmas.List.{append-nil}
use Rattle.std.proofs.lemmas.Bool.{false≢true}
use Rattle.loft_sense.specs.Tree.{first_some}
use Rattle.loft_lock_forms.specs.Seen.{names_seen}
use Rattle.loft_locks.specs.Outline.{Outline, Takes, has, closes, pair_fault, outermost}
use Rattle.loft_lock_pairs.specs.Seen.{lock_seen}
use Rattle.loft_lock_pairs.proofs.NameLemmas.{has_both}

none_some : {A : Type 0} (x : A) → None ≡ Some x → ⊥
none_some x e = cc

-- ---- a lock that is taken or given back

pub own_has : (l : List ℕ) (outer own : List (List ℕ)) (rest : Outline) → has l own ≡ true → Some l ≡ pair_fault outer own (Takes l rest)
own_has l outer own rest h = rw (has_both l own outer, h) refl

pub outer_has : (l : List ℕ) (outer own : List (List ℕ)) (rest : Outline) → has l own ≡ false → has l outer ≡ true → Some l ≡ pair_fault outer own (Takes l rest)
outer_has l outer own rest h g = rw (has_both l own outer, h, g) refl

pub stays_open : (l : List ℕ) (outer own : List (List ℕ)) (rest : Outline) → has l own ≡ false → has l outer ≡ false → closes l rest ≡ false → Some l ≡ pair_fault outer own (Takes l rest)
stays_open l outer own rest h g c = rw (has_both l own outer, h, g, c) refl

pub taken : (l : List ℕ) (outer own : List (List ℕ)) (rest : Outline) → has l own ≡ false → has l outer ≡ false → closes l rest ≡ true
    → pair_fault outer (l ∷ own) rest ≡ pair_fault outer own (Takes l rest)
taken l outer own rest h g c = rw (has_both l own outer, h, g, c) refl

-- ---- the outermost

one_less : (n : ℕ) → suc n - 1 ≡ n
one_less n = omega arith

last_seen : (k : Bor (List ℕ)) (ks : List (Bor (List ℕ))) → lock_seen (slice_get (k ∷ ks) (length ks)) ≡ outermost (names_seen (k ∷ ks))
last_seen k [] = refl
last_seen k (j ∷ ks) = last_seen j ks

some_last : (k : Bor (List ℕ)) (ks : List (Bor (List ℕ))) → None ≡ slice_get (k ∷ ks) (length ks) → ⊥
some_last k [] e = none_some k e
some_last k (j ∷ ks) e = some_last j ks e

-- those around a body decide, where there are some
around_it : (xs : List (List ℕ)) (y : List ℕ) (ys : List (List ℕ)) → outermost (xs ++ y ∷ ys) ≡ outermost (y ∷ ys)
around_it [] y ys = refl
around_it (x ∷ []) y ys = refl
around_it (x ∷ k ∷ xs) y ys = around_it (k ∷ xs) y ys

pub outer_last : (own outer : List (Bor (List ℕ))) (k : Bor (List ℕ)) → Some k ≡ slice_get outer (length outer - 1) → Some k.now ≡ outermost (names_seen own ++ names_seen outer)
outer_last own [] k e = absurd (none_some k (sym e))
outer_last own (y ∷ ys) k e =
    ap (λ (o : Option (Bor (List ℕ))). lock_seen o) (subst (λ (i : ℕ). Some k ≡ slice_get (y ∷ ys) i) (one_less (length ys)) e)
    ∙ (last_seen y ys ∙ sym (around_it (names_seen own) y.now (names_seen ys)))

last_own : (own : List (Bor (List ℕ))) (o : Option (Bor (List ℕ))) → o ≡ slice_get own (length own - 1) → lock_seen o ≡ outermost (names_seen own)
last_own [] o e = ap (λ (q : Option (Bor (List ℕ))). lock_seen q) e
last_own (y ∷ ys) o e =
    ap (λ (q : Option (Bor (List ℕ))). lock_seen q) (subst (λ (i : ℕ). o ≡ slice_get (y ∷ ys) i) (one_less (length ys)) e) ∙ last_seen y ys

pub own_last : (own outer : List (Bor (List ℕ))) (o : Option (Bor (List ℕ))) → None ≡ slice_get outer (length outer - 1) → o ≡ slice_get own (length own - 1)
    → lock_seen o ≡ outermost (names_seen own ++ names_seen outer)
own_last own [] o none e = last_own own o e ∙ ap (λ (ls : List (List ℕ)). outermost ls) (sym (append-nil (names_seen own)))
own_last own (y ∷ ys) o none e = absurd (some_last y ys (subst (λ (i : ℕ). None ≡ slice_get (y ∷ ys) i) (one_less (length ys)) none))

-- ---- what is left of a list

-- it begins with the next item
pub item_first : {X : Type 0} (xs : List X) (i : ℕ) (x : X) → i < length xs → x ≡ get_or xs i x → drop i xs ≡ x ∷ drop (i + 1) xs
item_first xs i x less is = drop-cons xs i x less ∙ rw (← is, add-one) refl

pub some_left : {X : Type 0} (xs ls : List X) (i : ℕ) → ls ≡ drop i xs → i < length xs → 1 ≤ length ls
some_left xs ls i is less = rw is (some xs i less)
  where
    some : {X : Type 0} (xs : List X) (i : ℕ) → i < length xs → 1 ≤ length (drop i xs)
    some [] i less = absurd (omega (arith, less))
    some (x ∷ xs) zero less = omega arith
    some (x ∷ xs) (suc i) less = some xs i (omega (arith, less))

-- the others, after one more
pub next_left : {X : Type 0} (xs ls after : List X) (i : ℕ) → ls ≡ drop i xs → after ≡ drop 1 ls → after ≡ drop (i + 1) xs
next_left xs ls after i is e = e ∙ (ap (λ l. drop 1 l) is ∙ drop-drop 1 i xs)

-- ---- a body, statement after statement

-- the statement has no fault
pub go_on : (o : Option (Bor (List ℕ))) (x y z : Option (List ℕ)) → is_some o ≡ false → first_some (lock_seen o) x ≡ y → y ≡ z → x ≡ z
go_on None x y z n e f = e ∙ f
go_on (Some k) x y z n e f = absurd (false≢true (sym n))

-- it has one
pub stop_at : (o : Option (Bor (List ℕ))) (x y z : Option (List ℕ)) → is_some o ≡ true → first_some (lock_seen o) x ≡ y → y ≡ z → lock_seen o ≡ z
stop_at None x y z n e f = absurd (false≢true n)
stop_at (Some k) x y z n e f = e ∙ f
