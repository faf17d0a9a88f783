-- A fault depends on no symbol after it.
use Rattle.std.proofs.Common.{◌≡◌, ℕ, zero, suc, ◌+◌, ◌-◌, ◌<◌, ◌≤◌, Bool, true, false, cond, nat_le, ◌==◌, ◌&&◌, List, [], ◌∷◌, ◌++◌, length, Option, Some, None, Result, Ok, Err, refl, sym, ap, subst, ◌∙◌, arith, ◌⊎◌, inl, inr}
use Rattle.std.proofs.lemmas.List.{length-append}
use Rattle.std.proofs.lemmas.Bool.{cases_lt}
use Rattle.loft_form.specs.declared.fault.Fault.{Fault}
use Rattle.loft_form.specs.declared.fault.Fault.TheVariants.{Expected, TooDeep, TooMany}
use Rattle.loft_form.specs.Form.{Language, Form, leaf, ◌▹◌, ◌∣◌, maybe, many, inside, counted, fresh, made, Grammar, Limits, State, next_begins}
use Rattle.loft_form.specs.Spells.{owing, from_zero}
use Rattle.loft_form.specs.Reading.{Place, Read, ◌>>=◌, done, with_first, within, tally, paid, allowed, leaf_at, repeat, rule_at, read, with_rest, all_of}
use Rattle.loft_form.specs.Faults.{IsFaultOf, left_of}
use Rattle.loft_form.proofs.Progress.{Leaves, weaker, least, read_leaves}
use Rattle.loft_form.proofs.Disjoint.{Known, Fair, and_true, clear}
use Rattle.loft_form.proofs.Complete.{leading_least}
use Rattle.loft_form.proofs.Checked.{Checked}
use Rattle.loft_form.proofs.Raised.{counting, Keeps, keeps_made, keeps_first, keeps_repeat, read_keeps}
use Rattle.loft_form.proofs.FirstFault.{fault, only_fault}

-- the same fault, where k' symbols come after in place of k
abbrev pub moved : ℕ → ℕ → Fault → Fault
moved k k' (Expected j) = Expected (j - k + k')
moved k k' (TooDeep j) = TooDeep (j - k + k')
moved k k' (TooMany j limit) = TooMany (j - k + k') limit

-- counting gives the same at another place
abbrev Elsewhere : {A : Type 0} → ℕ → ℕ → Result A Fault → Result A Fault → Type 0
Elsewhere left left' (Ok d) s = s ≡ Ok d
Elsewhere left left' (Err (Expected k)) s = ⊥
Elsewhere left left' (Err (TooDeep k)) s = ⊥
Elsewhere left left' (Err (TooMany k limit)) s = (k ≡ left) × (s ≡ Err (TooMany left' limit))

elsewhere_within : {A : Type 0} (left left' n : ℕ) (o : Option ℕ) (r s : Result A Fault) → Elsewhere left left' r s → Elsewhere left left' (within o n left r) (within o n left' s)
elsewhere_within left left' n None r s h = h
elsewhere_within left left' n (Some limit) r s h = go (nat_le limit n)
  where
    go : (b : Bool) → Elsewhere left left' (cond b (Err (TooMany left limit)) r) (cond b (Err (TooMany left' limit)) s)
    go true = (refl, refl)
    go false = h

elsewhere : {L : Language} (lim : Limits L) (left left' : ℕ) (ws : List L.Counted) (c : L.Counts) → Elsewhere left left' (tally lim left ws c) (tally lim left' ws c)
elsewhere lim left left' [] c = refl
elsewhere {L} lim left left' (w ∷ ws) c = elsewhere_within left left' (L.number w c) (lim.most w) (tally lim left ws (L.more w c)) (tally lim left' ws (L.more w c)) (elsewhere lim left left' ws (L.more w c))

-- two lists that are the same up to and with a symbol, at, and have other symbols after it
module _ (L : Language) (at : L.Symbol) (suffix suffix' : List L.Symbol) where
  abbrev one : List L.Symbol → List L.Symbol
  one front = front ++ at ∷ suffix

  abbrev two : List L.Symbol → List L.Symbol
  two front = front ++ at ∷ suffix'

  abbrev place : List L.Symbol → State L → Place L
  place ss c = record { rest = ss; state = c }

  -- where the first answer is of symbols up to that one, the second is the same
  abbrev Same : {A : Type 0} → Read L A → Read L A → Type 0
  Same (Ok x) s = length suffix < length x.1.rest → (front : List L.Symbol) × (x.1.rest ≡ one front) × (s ≡ Ok (x.0, place (two front) x.1.state))
  Same (Err e) s = length suffix < left_of e → s ≡ Err (moved (length suffix) (length suffix') e)

  same_short : {A : Type 0} (r s : Read L A) (len : ℕ) → len ≤ length suffix → Keeps len r → Same r s
  same_short (Ok x) s len short h = λ l. absurd (omega arith)
  same_short (Err e) s len short h = λ l. absurd (omega arith)

  same_bind : {A B : Type 0} (r s : Read L A) (f g : A × Place L → Read L B) → Same r s
      → ((x : A) (front : List L.Symbol) (d : State L) → r ≡ Ok (x, place (one front) d) → s ≡ Ok (x, place (two front) d) → Same (f (x, place (one front) d)) (g (x, place (two front) d)))
      → ((x : A × Place L) → Keeps (length x.1.rest) (f x)) → Same (r >>= f) (s >>= g)
  same_bind (Err e) s f g h p q = λ l. ap (λ t. t >>= g) (h l)
  same_bind (Ok x) s f g h p q = go (cases_lt (length suffix) (length x.1.rest))
    where
      long : (front : List L.Symbol) × (x.1.rest ≡ one front) × (s ≡ Ok (x.0, place (two front) x.1.state)) → Same (f x) (s >>= g)
      long (front, e, k) =
          let here : Ok x ≡ Ok (x.0, place (one front) x.1.state) = ap (λ t. Ok (x.0, place t x.1.state)) e in
          let at_front = p x.0 front x.1.state here k in
          subst (λ t. Same (f (x.0, place t x.1.state)) (s >>= g)) (sym e)
          (subst (λ t. Same (f (x.0, place (one front) x.1.state)) (t >>= g)) (sym k) at_front)

      go : (length suffix < length x.1.rest) ⊎ (length x.1.rest ≤ length suffix) → Same (f x) (s >>= g)
      go (inl l) = long (h l)
      go (inr l) = same_short (f x) (s >>= g) (length x.1.rest) l (q x)

  same_done : {A : Type 0} (x : A) (front : List L.Symbol) (d : State L) → Same (Ok (x, place (one front) d)) (Ok (x, place (two front) d))
  same_done x front d = λ l. (front, refl, refl)

  same_made : {A B : Type 0} (r s : Read L A) (h : A → B) → Same r s → Same (r >>= λ x. Ok (h x.0, x.1)) (s >>= λ x. Ok (h x.0, x.1))
  same_made r s h p = same_bind r s (λ x. Ok (h x.0, x.1)) (λ x. Ok (h x.0, x.1)) p (λ x front d e k. same_done (h x) front d) (λ x. omega arith)

  same_cond : {A : Type 0} (b b' : Bool) (x y x' y' : Read L A) → b ≡ b' → Same x x' → Same y y' → Same (cond b x y) (cond b' x' y')
  same_cond true b' x y x' y' e p q = rw (← e) p
  same_cond false b' x y x' y' e p q = rw (← e) q

  same_first : {A : Type 0} (x : A) (r s : Read L (List A)) → Same r s → Same (with_first x r) (with_first x s)
  same_first x (Ok y) s h = λ l. let p = h l in (p.0, p.1, ap (with_first x) p.2)
  same_first x (Err e) s h = λ l. ap (with_first x) (h l)

  long_one : (front : List L.Symbol) → length (one front) ≡ suc (length front + length suffix)
  long_one front = omega (arith, length-append front (at ∷ suffix))

  long_two : (front : List L.Symbol) → length (two front) ≡ suc (length front + length suffix')
  long_two front = omega (arith, length-append front (at ∷ suffix'))

  -- ---- a single symbol

  same_counted : {A : Type 0} (x : A) (rest rest' : List L.Symbol) (left left' : ℕ) (r s : Result L.Counts Fault) → left' ≡ left - length suffix + length suffix'
      → ((d : State L) → Same (done x rest d) (done x rest' d)) → Elsewhere left left' r s → Same (counting L x rest r) (counting L x rest' s)
  same_counted x rest rest' left left' (Ok d) s e p h = subst (λ t. Same (done x rest (paid d)) (counting L x rest' t)) (sym h) (p (paid d))
  same_counted x rest rest' left left' (Err (Expected k)) s e p h = absurd h
  same_counted x rest rest' left left' (Err (TooDeep k)) s e p h = absurd h
  same_counted x rest rest' left left' (Err (TooMany k limit)) s e p h = λ l.
      let place : left' ≡ k - length suffix + length suffix' = e ∙ ap (λ j. j - length suffix + length suffix') (sym h.0) in
      ap (counting L x rest') h.1 ∙ ap (λ j. Err (TooMany j limit)) place

  same_allowed : {A : Type 0} (lim : Limits L) (x : A) (b : Bool) (rest rest' : List L.Symbol) (c : State L) → length rest' + 1 ≡ length rest + 1 - length suffix + length suffix'
      → ((d : State L) → Same (done x rest d) (done x rest' d)) → Same (allowed lim x b rest c) (allowed lim x b rest' c)
  same_allowed lim x true rest rest' c e p = λ l. ap (λ j. Err (TooDeep j)) e
  same_allowed lim x false rest rest' c e p =
      same_counted x rest rest' (length rest + 1) (length rest' + 1) (tally lim (length rest + 1) c.due c.counts) (tally lim (length rest' + 1) c.due c.counts) e p (elsewhere lim (length rest + 1) (length rest' + 1) c.due c.counts)

  same_symbol : {A : Type 0} (lim : Limits L) (b : Bool) (test : L.Kind → Bool) (value : L.Symbol → A) (t : L.Symbol) (rest rest' : List L.Symbol) (c : State L) → length rest' + 1 ≡ length rest + 1 - length suffix + length suffix'
      → ((d : State L) → Same (done (value t) rest d) (done (value t) rest' d)) → Same (leaf_at lim b test value (t ∷ rest) c) (leaf_at lim b test value (t ∷ rest') c)
  unfolding leaf_at
  same_symbol lim b test value t rest rest' c e p =
      same_cond (test (L.kind t)) (test (L.kind t)) (allowed lim (value t) b rest c) (Err (Expected (length rest + 1))) (allowed lim (value t) b rest' c) (Err (Expected (length rest' + 1))) refl
      (same_allowed lim (value t) b rest rest' c e p) (λ l. ap (λ j. Err (Expected j)) e)

  same_leaf : {A : Type 0} (lim : Limits L) (b : Bool) (test : L.Kind → Bool) (value : L.Symbol → A) (front : List L.Symbol) (c : State L) → Same (leaf_at lim b test value (one front) c) (leaf_at lim b test value (two front) c)
  same_leaf lim b test value [] c = same_symbol lim b test value at suffix suffix' c (omega arith) (λ d l. absurd (omega arith))
  same_leaf lim b test value (t ∷ front) c = same_symbol lim b test value t (one front) (two front) c (omega (arith, long_one front, long_two front)) (λ d. same_done (value t) front d)

  -- ---- a repetition

  left_by : {A : Type 0} (r : Read L A) (len : ℕ) (x : A) (ss : List L.Symbol) (d : State L) → r ≡ Ok (x, place ss d) → Leaves 1 len r → length ss + 1 ≤ len
  left_by r len x ss d e h = subst (Leaves 1 len) e h

  same_repeat : {A : Type 0} (goes_on : List L.Symbol → Bool) (reads : List L.Symbol → State L → Read L A) → ((front : List L.Symbol) → goes_on (one front) ≡ goes_on (two front))
      → ((front : List L.Symbol) (c : State L) → Same (reads (one front) c) (reads (two front) c)) → ((ss : List L.Symbol) (c : State L) → Keeps (length ss) (reads ss c)) → ((ss : List L.Symbol) (c : State L) → Leaves 1 (length ss) (reads ss c))
      → (m m' : ℕ) (front : List L.Symbol) (c : State L) → length (one front) ≤ m → length (two front) ≤ m' → Same (repeat m goes_on reads (one front) c) (repeat m' goes_on reads (two front) c)
  unfolding repeat
  same_repeat goes_on reads g h keep eats zero m' front c short short' = absurd (omega (arith, long_one front))
  same_repeat goes_on reads g h keep eats (suc m) zero front c short short' = absurd (omega (arith, long_two front))
  same_repeat goes_on reads g h keep eats (suc m) (suc m') front c short short' =
      same_cond (goes_on (one front)) (goes_on (two front)) (reads (one front) c >>= λ x. with_first x.0 (repeat m goes_on reads x.1.rest x.1.state)) (done [] (one front) c)
      (reads (two front) c >>= λ x. with_first x.0 (repeat m' goes_on reads x.1.rest x.1.state)) (done [] (two front) c) (g front)
      (same_bind (reads (one front) c) (reads (two front) c) (λ x. with_first x.0 (repeat m goes_on reads x.1.rest x.1.state)) (λ x. with_first x.0 (repeat m' goes_on reads x.1.rest x.1.state)) (h front c)
      (λ x back d e k.
      let less = left_by (reads (one front) c) (length (one front)) x (one back) d e (eats (one front) c) in
      let less' = left_by (reads (two front) c) (length (two front)) x (two back) d k (eats (two front) c) in
      same_first x (repeat m goes_on reads (one back) d) (repeat m' goes_on reads (two back) d) (same_repeat goes_on reads g h keep eats m m' back d (omega arith) (omega arith)))
      (λ x. keeps_first x.0 (repeat m goes_on reads x.1.rest x.1.state) (length x.1.rest) (keeps_repeat goes_on reads keep m x.1.rest x.1.state)))
      (same_done [] front c)

  same_next : {a : Type 0} (f : Form L a) (front : List L.Symbol) → next_begins f (one front) ≡ next_begins f (two front)
  same_next f [] = refl
  same_next f (t ∷ front) = refl

  -- ---- every form

  module _ (G : Grammar L) (R : Known L) (fair : Fair G R) (lim : Limits L) where
    module _ (n : ℕ) (same_rule : (r : L.Rule) (front : List L.Symbol) (c : State L) → Same (rule_at G lim n r (one front) c) (rule_at G lim n r (two front) c)) where
      same : {a : Type 0} (f : Form L a) → clear R f ≡ true → (front : List L.Symbol) (c : State L) → Same (read G lim n f (one front) c) (read G lim n f (two front) c)
      same (leaf test value opens) cl front c = same_leaf lim (opens && n == 0) test value front c
      same (f ▹ g) cl front c =
          let l = and_true _ _ cl in
          same_bind (read G lim n f (one front) c) (read G lim n f (two front) c) (λ x. read G lim n g x.1.rest x.1.state >>= λ y. Ok ((x.0, y.0), y.1)) (λ x. read G lim n g x.1.rest x.1.state >>= λ y. Ok ((x.0, y.0), y.1)) (same f l.0 front c)
          (λ x back d e k. same_made (read G lim n g (one back) d) (read G lim n g (two back) d) (λ y. (x, y)) (same g (and_true _ _ l.1).0 back d))
          (λ x. keeps_made (read G lim n g x.1.rest x.1.state) (λ y. (x.0, y)) (length x.1.rest) (read_keeps G lim n g x.1.rest x.1.state))
      same (f ∣ g) cl front c =
          let l = and_true _ _ cl in
          same_cond (next_begins f (one front)) (next_begins f (two front)) (read G lim n f (one front) c) (read G lim n g (one front) c) (read G lim n f (two front) c) (read G lim n g (two front) c) (same_next f front)
          (same f l.0 front c) (same g (and_true _ _ l.1).0 front c)
      same (maybe f) cl front c =
          same_cond (next_begins f (one front)) (next_begins f (two front)) (read G lim n f (one front) c >>= λ x. Ok (Some x.0, x.1)) (done None (one front) c) (read G lim n f (two front) c >>= λ x. Ok (Some x.0, x.1)) (done None (two front) c) (same_next f front)
          (same_made (read G lim n f (one front) c) (read G lim n f (two front) c) (λ x. Some x) (same f (and_true _ _ cl).0 front c)) (same_done None front c)
      same (many f) cl front c =
          let l = and_true _ _ cl in
          let some = leading_least f (and_true _ _ l.1).0 in
          same_repeat (next_begins f) (read G lim n f) (same_next f) (same f l.0) (read_keeps G lim n f) (λ ss d. weaker (read G lim n f ss d) 1 (least f) (length ss) (length ss) (omega arith) (read_leaves G lim n f ss d))
          (length (one front)) (length (two front)) front c (omega arith) (omega arith)
      same (inside r) cl front c = same_rule r front c
      same (counted w f) cl front c = same f (and_true _ _ cl).0 front (owing w c)
      same (fresh w f) cl front c = same f cl front (from_zero w c)
      same (made h f) cl front c = same_made (read G lim n f (one front) c) (read G lim n f (two front) c) h (same f cl front c)

    same_rule : (n : ℕ) (r : L.Rule) (front : List L.Symbol) (c : State L) → Same (rule_at G lim n r (one front) c) (rule_at G lim n r (two front) c)
    unfolding rule_at
    same_rule zero r front c = λ l. ap (λ j. Err (TooDeep j)) (omega (arith, long_one front, long_two front))
    same_rule (suc n) r front c = same n (same_rule n) (G r) (fair.rule_clear r) front c

  -- where all of them are read
  AllSame : {A : Type 0} → Result A Fault → Result A Fault → Type 0
  AllSame (Ok x) s = Unit {0}
  AllSame (Err e) s = length suffix < left_of e → s ≡ Err (moved (length suffix) (length suffix') e)

  rest_long : {A : Type 0} (x : A) (front : List L.Symbol) → with_rest x (two front) ≡ Err (Expected (length (one front) - length suffix + length suffix'))
  rest_long x [] = ap (λ j. Err (Expected j)) (omega arith)
  rest_long x (t ∷ front) = ap (λ j. Err (Expected j)) (omega (arith, long_one front, long_two front))

  all_same : {A : Type 0} (r s : Read L A) → Same r s → AllSame (all_of r) (all_of s)
  unfolding AllSame
  all_same (Ok x) s h = go x.1.rest refl
    where
      go : (rest : List L.Symbol) → x.1.rest ≡ rest → AllSame (with_rest x.0 rest) (all_of s)
      go [] e = tt
      go (t ∷ rest) e = λ l. let p = h (let k = ap length e in omega arith) in
          ap all_of p.2 ∙ rest_long x.0 p.0 ∙ ap (λ zs. Err (Expected (length zs - length suffix + length suffix'))) (sym p.1 ∙ e)
  all_same (Err e) s h = λ l. ap all_of (h l)

module _ {L : Language} {a : Type 0} {G : Grammar L} {R : Known L} {f : Form L a} (checked : Checked G R f) (lim : Limits L) (n : ℕ) (front : List L.Symbol) (at : L.Symbol) (suffix suffix' : List L.Symbol) (c : State L) (e : Fault) where
  read_whatever : all_of (read G lim n f (front ++ at ∷ suffix) c) ≡ Err e → length suffix < left_of e → all_of (read G lim n f (front ++ at ∷ suffix') c) ≡ Err (moved (length suffix) (length suffix') e)
  unfolding AllSame
  read_whatever h l =
      let p = all_same L at suffix suffix' (read G lim n f (front ++ at ∷ suffix) c) (read G lim n f (front ++ at ∷ suffix') c) (same L at suffix suffix' G R checked.fair lim n (same_rule L at suffix suffix' G R checked.fair lim n) f checked.form_clear front c) in
      (subst (λ r. AllSame L at suffix suffix' r (all_of (read G lim n f (front ++ at ∷ suffix') c))) h p) l

  -- A fault at a symbol or before it stays, whatever comes after the symbol.
  pub fault_whatever : IsFaultOf G lim n f (front ++ at ∷ suffix) c e → length suffix < left_of e → IsFaultOf G lim n f (front ++ at ∷ suffix') c (moved (length suffix) (length suffix') e)
  fault_whatever h l = fault checked lim n (front ++ at ∷ suffix') c (moved (length suffix) (length suffix') e) (read_whatever (only_fault checked lim n (front ++ at ∷ suffix) c e h) l)
