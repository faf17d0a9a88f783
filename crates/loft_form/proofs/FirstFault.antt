-- Reading all of the symbols fails with their fault, and only with it.
use Rattle.std.proofs.Common.{◌≡◌, ℕ, ◌<◌, ◌≤◌, Bool, true, false, List, [], ◌∷◌, length, Result, Ok, Err, refl, sym, ap, subst, ◌∙◌, arith, inl, inr, ◌⊎◌}
use Rattle.std.proofs.Math.Nat.{eq-or-lt_of_le}
use Rattle.std.proofs.lemmas.Bool.{cases_lt}
use Rattle.loft_form.specs.declared.fault.Fault.{Fault}
use Rattle.loft_form.specs.declared.fault.Fault.TheVariants.{Expected, TooDeep, TooMany}
use Rattle.loft_form.specs.Form.{Language, Form, Grammar, Limits, State}
use Rattle.loft_form.specs.Reading.{Read, read, with_rest, all_of}
use Rattle.loft_form.specs.Faults.{unlimited, SpellsWhole, StopsWhole, HasFault, left_of, rank_of, Precedes, IsFaultOf}
use Rattle.loft_form.proofs.Disjoint.{Known}
use Rattle.loft_form.proofs.Checked.{Checked}
use Rattle.loft_form.proofs.Raised.{freed, Deeper, Later, Keeps, read_keeps, IsAfter, Moves, Raised, raised_read}
use Rattle.loft_form.proofs.Whole.{whole_found, spelled_whole, whole_stops, stopped_whole}

-- ---- raised limits, for all of the symbols

-- a fault, if there is one, after the symbol from which on k are left
abbrev AllAfter : {A : Type 0} → Bool → ℕ → Result A Fault → Type 0
AllAfter free k (Ok x) = Unit {0}
AllAfter free k (Err (Expected j)) = j < k
AllAfter free k (Err (TooDeep j)) = j < k
AllAfter free k (Err (TooMany j limit)) = Later free k j

abbrev AllMoves : {A : Type 0} → Bool → Bool → Fault → Result A Fault → Type 0
AllMoves true free e s = AllAfter free (left_of e) s
AllMoves false free e s = s ≡ Err e

abbrev AllRaised : {A : Type 0} → Bool → Bool → Result A Fault → Result A Fault → Type 0
AllRaised deeper free (Ok x) s = s ≡ Ok x
AllRaised deeper free (Err (Expected k)) s = s ≡ Err (Expected k)
AllRaised deeper free (Err (TooDeep k)) s = AllMoves deeper free (TooDeep k) s
AllRaised deeper free (Err (TooMany k limit)) s = AllMoves free free (TooMany k limit) s

module _ (deeper free : Bool) where
  rest_after : {A S : Type 0} (x : A) (rest : List S) (k : ℕ) → length rest < k → AllAfter free k (with_rest x rest)
  rest_after x [] k h = tt
  rest_after x (s ∷ rest) k h = h

  all_after : {L : Language} {A : Type 0} (k : ℕ) (s : Read L A) → IsAfter free k s → AllAfter free k (all_of s)
  all_after k (Ok x) h = rest_after x.0 x.1.rest k h
  all_after k (Err (Expected j)) h = h
  all_after k (Err (TooDeep j)) h = h
  all_after k (Err (TooMany j limit)) h = h

  all_moves : {L : Language} {A : Type 0} (b : Bool) (e : Fault) (s : Read L A) → Moves b free e s → AllMoves b free e (all_of s)
  all_moves true e s h = all_after (left_of e) s h
  all_moves false e s h = ap all_of h

  same_rest : {A S : Type 0} (x : A) (rest : List S) (s : Result A Fault) → s ≡ with_rest x rest → AllRaised deeper free (with_rest x rest) s
  same_rest x [] s h = h
  same_rest x (t ∷ rest) s h = h

  all_raised : {L : Language} {A : Type 0} (r s : Read L A) → Raised deeper free r s → AllRaised deeper free (all_of r) (all_of s)
  all_raised (Ok x) s h = same_rest x.0 x.1.rest (all_of s) (ap all_of h)
  all_raised (Err (Expected k)) s h = ap all_of h
  all_raised (Err (TooDeep k)) s h = all_moves deeper (TooDeep k) s h
  all_raised (Err (TooMany k limit)) s h = all_moves free (TooMany k limit) s h

-- no fault lies before
abbrev Within : {A : Type 0} → ℕ → Result A Fault → Type 0
Within len (Ok x) = Unit {0}
Within len (Err e) = left_of e ≤ len

rest_within : {A S : Type 0} (len : ℕ) (x : A) (rest : List S) → length rest ≤ len → Within len (with_rest x rest)
rest_within len x [] h = tt
rest_within len x (s ∷ rest) h = h

all_within : {L : Language} {A : Type 0} (len : ℕ) (r : Read L A) → Keeps len r → Within len (all_of r)
all_within len (Ok x) h = rest_within len x.0 x.1.rest h
all_within len (Err e) h = h

-- ---- a fault that is asked for by itself is the first one, or after it

-- there is a first fault, and d is it or after it
abbrev Beside : {A : Type 0} → Result A Fault → Fault → Type 0
Beside (Ok x) d = ⊥
Beside (Err e) d = (d ≡ e) ⊎ Precedes e d

same_fault : {A : Type 0} (s : Result A Fault) (d e : Fault) → s ≡ Err e → s ≡ Err d → d ≡ e
same_fault s d e p q = let h = sym q ∙ p in cc

beside_later : (free : Bool) (j i limit : ℕ) → Later free j i → Precedes (TooDeep j) (TooMany i limit)
beside_later true j i limit h = inl h
beside_later false j i limit h = go (eq-or-lt_of_le h)
  where
    go : (i ≡ j) ⊎ (i < j) → Precedes (TooDeep j) (TooMany i limit)
    go (inl p) = inr (p, omega arith)
    go (inr p) = inl p

after_deep : {A : Type 0} (free : Bool) (j : ℕ) (s : Result A Fault) (d : Fault) → AllAfter free j s → s ≡ Err d → Precedes (TooDeep j) d
after_deep free j s (Expected i) h e = inl (subst (AllAfter free j) e h)
after_deep free j s (TooDeep i) h e = inl (subst (AllAfter free j) e h)
after_deep free j s (TooMany i limit) h e = beside_later free j i limit (subst (AllAfter free j) e h)

after_many : {A : Type 0} (j most : ℕ) (s : Result A Fault) (d : Fault) → AllAfter true j s → s ≡ Err d → Precedes (TooMany j most) d
after_many j most s (Expected i) h e = inl (subst (AllAfter true j) e h)
after_many j most s (TooDeep i) h e = inl (subst (AllAfter true j) e h)
after_many j most s (TooMany i limit) h e = inl (subst (AllAfter true j) e h)

beside_raised : {A : Type 0} (deeper free : Bool) (r s : Result A Fault) (d : Fault) → AllRaised deeper free r s → s ≡ Err d → Beside r d
beside_raised deeper free (Ok x) s d h e = (let k = sym h ∙ e in cc)
beside_raised deeper free (Err (Expected j)) s d h e = inl (same_fault s d (Expected j) h e)
beside_raised true free (Err (TooDeep j)) s d h e = inr (after_deep free j s d h e)
beside_raised false free (Err (TooDeep j)) s d h e = inl (same_fault s d (TooDeep j) h e)
beside_raised deeper true (Err (TooMany j limit)) s d h e = inr (after_many j limit s d h e)
beside_raised deeper false (Err (TooMany j limit)) s d h e = inl (same_fault s d (TooMany j limit) h e)

beside_same : {A : Type 0} (r : Result A Fault) (d : Fault) → r ≡ Err d → Beside r d
beside_same (Ok x) d e = cc
beside_same (Err f) d e = inl (same_fault (Err f) d f refl e)

-- Expected and TooMany stay where more nestings may be opened
abbrev Stays : Fault → Type 0
Stays (Expected j) = Unit {0}
Stays (TooDeep j) = ⊥
Stays (TooMany j limit) = Unit {0}

stays : {A : Type 0} (d : Fault) → Stays d → (s : Result A Fault) → AllRaised true false (Err d) s → s ≡ Err d
stays (Expected j) t s h = h
stays (TooDeep j) t s h = absurd t
stays (TooMany j limit) t s h = h

module _ {L : Language} {a : Type 0} {G : Grammar L} {R : Known L} {f : Form L a} (checked : Checked G R f) (lim : Limits L) (n : ℕ) (ss : List L.Symbol) (c : State L) where
  -- reading all of them
  abbrev Reads : Limits L → ℕ → Result a Fault
  Reads lim' m = all_of (read G lim' m f ss c)

  raised_all : (lim' : Limits L) (deeper free : Bool) (k m : ℕ) → Deeper deeper k m → AllRaised deeper free (Reads lim' k) (Reads (freed free lim') m)
  raised_all lim' deeper free k m h = all_raised deeper free (read G lim' k f ss c) (read G (freed free lim') m f ss c) (raised_read G checked.rules_guarded lim' deeper free k m h f checked.form_guarded ss c)

  more_kept : (lim' : Limits L) (k m : ℕ) (d : Fault) → Stays d → k ≤ m → Reads lim' k ≡ Err d → Reads lim' m ≡ Err d
  more_kept lim' k m d t short e = go (eq-or-lt_of_le short)
    where
      go : (k ≡ m) ⊎ (k < m) → Reads lim' m ≡ Err d
      go (inl p) = ap (Reads lim') (sym p) ∙ e
      go (inr p) = stays d t (Reads lim' m) (subst (λ r. AllRaised true false r (Reads lim' m)) e (raised_all lim' true false k m p))

  freed_is : (e : Fault) → Reads lim n ≡ Err e → AllRaised false true (Err e) (Reads unlimited n)
  freed_is e h = subst (λ r. AllRaised false true r (Reads unlimited n)) h (raised_all lim false true n n refl)

  -- the fault that was read is one that is asked for by itself
  has_fault : (e : Fault) → Reads lim n ≡ Err e → HasFault G lim n f ss c e
  has_fault (Expected k) h = (n, whole_stops checked unlimited n ss c (Expected k) (freed_is (Expected k) h))
  has_fault (TooDeep k) h = whole_stops checked unlimited n ss c (TooDeep k) (freed_is (TooDeep k) h)
  has_fault (TooMany k limit) h = (n, whole_stops checked lim n ss c (TooMany k limit) h)

  beside : (d : Fault) → HasFault G lim n f ss c d → Beside (Reads lim n) d
  beside (Expected k) (m, p) = go (cases_lt n m)
    where
      e : Reads unlimited m ≡ Err (Expected k)
      e = stopped_whole checked unlimited m ss c (Expected k) p

      go : (n < m) ⊎ (m ≤ n) → Beside (Reads lim n) (Expected k)
      go (inl l) = beside_raised true true (Reads lim n) (Reads unlimited m) (Expected k) (raised_all lim true true n m l) e
      go (inr l) = beside_raised false true (Reads lim n) (Reads unlimited n) (Expected k) (raised_all lim false true n n refl) (more_kept unlimited m n (Expected k) tt l e)
  beside (TooDeep k) p = beside_raised false true (Reads lim n) (Reads unlimited n) (TooDeep k) (raised_all lim false true n n refl) (stopped_whole checked unlimited n ss c (TooDeep k) p)
  beside (TooMany k limit) (m, p) = go (cases_lt n m)
    where
      e : Reads lim m ≡ Err (TooMany k limit)
      e = stopped_whole checked lim m ss c (TooMany k limit) p

      go : (n < m) ⊎ (m ≤ n) → Beside (Reads lim n) (TooMany k limit)
      go (inl l) = beside_raised true false (Reads lim n) (Reads lim m) (TooMany k limit) (raised_all lim true false n m l) e
      go (inr l) = beside_same (Reads lim n) (TooMany k limit) (more_kept lim m n (TooMany k limit) tt l e)

  -- Where reading all of them fails it is with their fault,
  pub fault : (e : Fault) → all_of (read G lim n f ss c) ≡ Err e → IsFaultOf G lim n f ss c e
  fault e h = record { there = has_fault e h; first = λ d p. subst (λ r. Beside r d) h (beside d p) }

  not_both : (e d : Fault) → Precedes e d → Precedes d e → ⊥
  not_both e d (inl p) (inl q) = omega arith
  not_both e d (inl p) (inr q) = omega arith
  not_both e d (inr p) (inl q) = omega arith
  not_both e d (inr p) (inr q) = omega arith

  -- and where they have a fault reading fails with it.
  pub only_fault : (e : Fault) → IsFaultOf G lim n f ss c e → all_of (read G lim n f ss c) ≡ Err e
  only_fault e h = go (Reads lim n) refl
    where
      two : (d : Fault) → Reads lim n ≡ Err d → (e ≡ d) ⊎ Precedes d e → (d ≡ e) ⊎ Precedes e d → Reads lim n ≡ Err e
      two d k (inl p) q = k ∙ ap (λ (t : Fault). Err t) (sym p)
      two d k (inr p) (inl q) = k ∙ ap (λ (t : Fault). Err t) q
      two d k (inr p) (inr q) = absurd (not_both e d q p)

      go : (r : Result a Fault) → Reads lim n ≡ r → Reads lim n ≡ Err e
      go (Ok x) k = absurd (subst (λ r. Beside r e) k (beside e h.there))
      go (Err d) k = two d k (subst (λ r. Beside r e) k (beside e h.there)) (h.first d (has_fault d k))

  -- It is where the symbols stop to be of the form with all limits at once, and the other way round.
  pub fault_stops : (e : Fault) → IsFaultOf G lim n f ss c e → StopsWhole G lim n f ss c e
  fault_stops e h = whole_stops checked lim n ss c e (only_fault e h)

  pub stops_fault : (e : Fault) → StopsWhole G lim n f ss c e → IsFaultOf G lim n f ss c e
  stops_fault e h = fault e (stopped_whole checked lim n ss c e h)

  -- Where nothing is limited an Expected stays the same, however many nestings may be opened besides.
  pub expected_stays : (m k : ℕ) → n ≤ m → StopsWhole G unlimited n f ss c (Expected k) → StopsWhole G unlimited m f ss c (Expected k)
  expected_stays m k l p = whole_stops checked unlimited m ss c (Expected k) (more_kept unlimited n m (Expected k) tt l (stopped_whole checked unlimited n ss c (Expected k) p))

  -- What is spelled within the limits is spelled without them,
  pub spelled_freed : (x : a) → SpellsWhole G lim n f ss c x → SpellsWhole G unlimited n f ss c x
  spelled_freed x p = whole_found checked unlimited n ss c x (subst (λ r. AllRaised false true r (Reads unlimited n)) (spelled_whole checked lim n ss c x p) (raised_all lim false true n n refl))

  -- and stays so where more nestings may be opened.
  pub spelled_stays : (m : ℕ) (x : a) → n ≤ m → SpellsWhole G unlimited n f ss c x → SpellsWhole G unlimited m f ss c x
  spelled_stays m x l p = whole_found checked unlimited m ss c x (go (eq-or-lt_of_le l))
    where
      here : Reads unlimited n ≡ Ok x
      here = spelled_whole checked unlimited n ss c x p

      go : (n ≡ m) ⊎ (n < m) → Reads unlimited m ≡ Ok x
      go (inl e) = ap (Reads unlimited) (sym e) ∙ here
      go (inr h) = subst (λ r. AllRaised true false r (Reads unlimited m)) here (raised_all unlimited true false n m h)

-- ---- a limit is passed before the symbols stop to be of the form

module _ {L : Language} {a : Type 0} {G : Grammar L} {R : Known L} {f : Form L a} (checked : Checked G R f) (lim : Limits L) (n : ℕ) (ss : List L.Symbol) (c : State L) where
  passed_before : (e : Fault) (k : ℕ) → 0 < rank_of e → (Expected k ≡ e) ⊎ Precedes e (Expected k) → k < left_of e
  passed_before e k r (inl p) = absurd (let h = ap rank_of p in omega arith)
  passed_before e k r (inr (inl p)) = p
  passed_before e k r (inr (inr p)) = absurd (omega arith)

  -- Too deep a nesting is opened before the symbol at which the grammar without limits stops,
  pub deep_before : (j k : ℕ) → HasFault G lim n f ss c (TooDeep j) → HasFault G lim n f ss c (Expected k) → k < j
  deep_before j k p q = passed_before (TooDeep j) k (omega arith) (subst (λ r. Beside r (Expected k)) (stopped_whole checked unlimited n ss c (TooDeep j) p) (beside checked unlimited n ss c (Expected k) q))

  -- and so is what there is too much of.
  pub many_before : (j limit k : ℕ) → HasFault G lim n f ss c (TooMany j limit) → HasFault G lim n f ss c (Expected k) → k < j
  many_before j limit k (m, p) q = passed_before (TooMany j limit) k (omega arith) (subst (λ r. Beside r (Expected k)) (stopped_whole checked lim m ss c (TooMany j limit) p) (beside checked lim m ss c (Expected k) q))

  -- The fault is at one of the symbols, or at their end.
  pub fault_within : (e : Fault) → IsFaultOf G lim n f ss c e → left_of e ≤ length ss
  fault_within e h = subst (Within (length ss)) (only_fault checked lim n ss c e h) (all_within (length ss) (read G lim n f ss c) (read_keeps G lim n f ss c))
