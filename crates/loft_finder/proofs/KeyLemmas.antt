-- The order of keys, and of places.
use Rattle.std.proofs.Common.{◌≡◌, ℕ, ◌<◌, ◌≤◌, Bool, true, false, refl, sym, ◌∙◌, ap, arith, ne_eqb}
use Rattle.std.specs.Prelude.{◌≢◌, ◌&&◌, nat_lt}
use Rattle.std.specs.declared.cmp.Ordering.{Ordering}
use Rattle.std.specs.declared.cmp.Ordering.TheVariants.{Less, Equal, Greater}
use Rattle.std.specs.Ordering.{is_eq, is_gt, ordering_then, nat_cmp}
use Rattle.std.specs.Cmp.{nat_cmp_total, nat_cmp_is, tied_itself, unsigned_ties}
use Rattle.std.proofs.lemmas.Bool.{ltb-true, ltb-false}
use Rattle.std.proofs.lemmas.Map.Lookups.{exact_unsigned}
use Rattle.loft_finder.specs.declared.key.IdKey.{IdKey}
use Rattle.loft_finder.specs.declared.key.MakerKey.{MakerKey}
use Rattle.loft_finder.specs.declared.key.MakerKey.TheVariants.{Source, Sched, Client}
use Rattle.loft_finder.specs.contracts.key.MakerKeyOrd.TheImpl as maker_ord
use Rattle.loft_finder.specs.Finder.{place_cmp}
use Rattle.loft_finder.specs.Keys.{key_cmp}

abbrev maker_cmp : MakerKey → MakerKey → Ordering
maker_cmp = (maker_ord.ghosts).cmp

number_same : (n : ℕ) → nat_cmp n n ≡ Equal
number_same n = tied_itself nat_cmp_total n

maker_same : (x : MakerKey) → maker_cmp x x ≡ Equal
maker_same Source = refl
maker_same (Sched n) = number_same n
maker_same (Client n) = number_same n

pub key_same : (k : IdKey) → key_cmp k k ≡ Equal
key_same k = ap (λ (o : Ordering). ordering_then o (maker_cmp k.maker k.maker)) (number_same k.seq) ∙ maker_same k.maker

-- ---- keys that compare as equal are the same

maker_exact : (x y : MakerKey) → maker_cmp x y ≡ Equal → x ≡ y
maker_exact Source Source h = refl
maker_exact Source (Sched n) h = absurd cc
maker_exact Source (Client n) h = absurd cc
maker_exact (Sched m) Source h = absurd cc
maker_exact (Sched m) (Sched n) h = ap (λ (k : ℕ). Sched k) (exact_unsigned m n h)
maker_exact (Sched m) (Client n) h = absurd cc
maker_exact (Client m) Source h = absurd cc
maker_exact (Client m) (Sched n) h = absurd cc
maker_exact (Client m) (Client n) h = ap (λ (k : ℕ). Client k) (exact_unsigned m n h)

then_left : (x y : Ordering) → ordering_then x y ≡ Equal → x ≡ Equal
then_left Less y h = absurd cc
then_left Equal y h = refl
then_left Greater y h = absurd cc

then_right : (x y : Ordering) → ordering_then x y ≡ Equal → y ≡ Equal
then_right Less y h = absurd cc
then_right Equal y h = h
then_right Greater y h = absurd cc

pub key_exact : (x y : IdKey) → key_cmp x y ≡ Equal → x ≡ y
key_exact x y h =
    let key : ℕ → MakerKey → IdKey = λ s m. record { seq = s; maker = m } in
    ap (λ (s : ℕ). key s x.maker) (exact_unsigned x.seq y.seq (then_left (nat_cmp x.seq y.seq) (maker_cmp x.maker y.maker) h))
    ∙ ap (λ (m : MakerKey). key y.seq m) (maker_exact x.maker y.maker (then_right (nat_cmp x.seq y.seq) (maker_cmp x.maker y.maker) h))

-- ---- the other way round

number_below : (m n : ℕ) → nat_cmp m n ≡ Less → m < n
number_below m n h = one (nat_lt m n) (nat_lt n m) refl refl
  where
    one : (a b : Bool) → nat_lt m n ≡ a → nat_lt n m ≡ b → m < n
    one true b p q = ltb-true m n p
    one false true p q =
        let e : Greater ≡ Less = nat_cmp_is m n Greater (ltb-true n m q) ∙ h in
        absurd cc
    one false false p q =
        let le = ltb-false m n p in
        let ge = ltb-false n m q in
        let same : m ≡ n = omega (arith, le, ge) in
        let e : Equal ≡ Less = nat_cmp_is m n Equal same ∙ h in
        absurd cc

number_back : (m n : ℕ) → nat_cmp m n ≡ Less → nat_cmp n m ≡ Greater
number_back m n h = sym (nat_cmp_is n m Greater (number_below m n h))

number_tied : (m n : ℕ) → nat_cmp m n ≡ Equal → nat_cmp n m ≡ Equal
number_tied m n h = one (nat_lt m n) (nat_lt n m) refl refl
  where
    one : (a b : Bool) → nat_lt m n ≡ a → nat_lt n m ≡ b → nat_cmp n m ≡ Equal
    one true b p q =
        let e : Less ≡ Equal = nat_cmp_is m n Less (ltb-true m n p) ∙ h in
        absurd cc
    one false true p q =
        let e : Greater ≡ Equal = nat_cmp_is m n Greater (ltb-true n m q) ∙ h in
        absurd cc
    one false false p q =
        let le = ltb-false m n p in
        let ge = ltb-false n m q in
        sym (nat_cmp_is n m Equal (omega (arith, le, ge)))

maker_back : (x y : MakerKey) → maker_cmp x y ≡ Less → maker_cmp y x ≡ Greater
maker_back Source Source h = absurd cc
maker_back Source (Sched n) h = refl
maker_back Source (Client n) h = refl
maker_back (Sched m) Source h = absurd cc
maker_back (Sched m) (Sched n) h = number_back m n h
maker_back (Sched m) (Client n) h = refl
maker_back (Client m) Source h = absurd cc
maker_back (Client m) (Sched n) h = absurd cc
maker_back (Client m) (Client n) h = number_back m n h

pub key_back : (x y : IdKey) → key_cmp x y ≡ Less → key_cmp y x ≡ Greater
key_back x y h = one (nat_cmp x.seq y.seq) refl h
  where
    one : (o : Ordering) → nat_cmp x.seq y.seq ≡ o → ordering_then o (maker_cmp x.maker y.maker) ≡ Less → key_cmp y x ≡ Greater
    one Less e g = ap (λ (p : Ordering). ordering_then p (maker_cmp y.maker x.maker)) (number_back x.seq y.seq e)
    one Equal e g = ap (λ (p : Ordering). ordering_then p (maker_cmp y.maker x.maker)) (number_tied x.seq y.seq e) ∙ maker_back x.maker y.maker g
    one Greater e g = absurd cc

-- ---- numbers

pub number_le : (m n : ℕ) → m ≤ n → is_gt (nat_cmp m n) ≡ false
number_le m n h = one (nat_lt m n) refl
  where
    one : (b : Bool) → nat_lt m n ≡ b → is_gt (nat_cmp m n) ≡ false
    one true is = sym (ap is_gt (nat_cmp_is m n Less (ltb-true m n is)))
    one false is = let ge = ltb-false m n is in let e : m ≡ n = omega (arith, h, ge) in sym (ap is_gt (nat_cmp_is m n Equal e))

pub number_above : (m n : ℕ) → n < m → nat_cmp m n ≡ Greater
number_above m n h = sym (nat_cmp_is m n Greater h)

-- ---- places

-- places of one key, one not after the other
pub place_le : (k : IdKey) (i j : ℕ) → i ≤ j → is_gt (place_cmp (k, i) (k, j)) ≡ false
place_le k i j h = ap (λ (o : Ordering). is_gt (ordering_then o (nat_cmp i j))) (key_same k) ∙ number_le i j h

eq_then : (x y : Ordering) → is_eq (ordering_then x y) ≡ (is_eq x && is_eq y)
eq_then Less y = refl
eq_then Equal y = refl
eq_then Greater y = refl

and_false : (b : Bool) → (b && false) ≡ false
and_false true = refl
and_false false = refl

-- places at two positions aren't one
pub place_apart : (key k : IdKey) (p i : ℕ) → i ≢ p → is_eq (place_cmp (key, p) (k, i)) ≡ false
place_apart key k p i apart =
    eq_then (key_cmp key k) (nat_cmp p i)
    ∙ ap (λ (b : Bool). is_eq (key_cmp key k) && b) (sym (unsigned_ties p i) ∙ ne_eqb p i (λ e. apart (sym e)))
    ∙ and_false (is_eq (key_cmp key k))
