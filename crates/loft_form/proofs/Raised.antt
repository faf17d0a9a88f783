-- Reading where more nestings may be opened, or nothing that is counted is limited: what was read stays the same, and so does Expected.
-- A fault that the limit gave lies after its symbol then, if there is one.
use Rattle.std.proofs.Common.{◌≡◌, ℕ, zero, suc, ◌+◌, ◌<◌, ◌≤◌, Bool, true, false, cond, nat_le, ◌==◌, ◌&&◌, ◌||◌, List, [], ◌∷◌, length, Option, Some, None, Result, Ok, Err, refl, sym, ap, subst, arith}
use Rattle.std.proofs.Math.Dec.{eqb-suc-zero}
use Rattle.loft_form.specs.declared.fault.Fault.{Fault}
use Rattle.loft_form.specs.declared.fault.Fault.TheVariants.{Expected, TooDeep, TooMany}
use Rattle.loft_form.specs.Form.{Language, Form, leaf, ◌▹◌, ◌∣◌, maybe, many, inside, counted, fresh, made, Grammar, Limits, State, next_begins}
use Rattle.loft_form.specs.Spells.{owing, from_zero}
use Rattle.loft_form.specs.Reading.{Place, Read, ◌>>=◌, done, with_first, within, tally, paid, allowed, leaf_at, repeat, rule_at, read}
use Rattle.loft_form.specs.Faults.{unlimited, left_of}
use Rattle.loft_form.proofs.Disjoint.{and_true}
use Rattle.loft_form.proofs.Guarded.{opens_of, guarded, or_cases, opened_read}

-- ---- what is counted

module _ (L : Language) where
  -- all of them counted
  pub sums : List L.Counted → L.Counts → L.Counts
  sums [] c = c
  sums (w ∷ ws) c = sums ws (L.more w c)

  -- within the limits all of them are counted; else there are too many at this symbol
  abbrev pub Tallied : ℕ → List L.Counted → L.Counts → Result L.Counts Fault → Type 0
  Tallied left ws c (Ok d) = d ≡ sums ws c
  Tallied left ws c (Err (Expected k)) = ⊥
  Tallied left ws c (Err (TooDeep k)) = ⊥
  Tallied left ws c (Err (TooMany k limit)) = k ≡ left

  tallied_more : (left : ℕ) (w : L.Counted) (ws : List L.Counted) (c : L.Counts) (r : Result L.Counts Fault) → Tallied left ws (L.more w c) r → Tallied left (w ∷ ws) c r
  unfolding sums
  tallied_more left w ws c (Ok d) h = h
  tallied_more left w ws c (Err (Expected k)) h = h
  tallied_more left w ws c (Err (TooDeep k)) h = h
  tallied_more left w ws c (Err (TooMany k limit)) h = h

  tallied_within : (left : ℕ) (ws : List L.Counted) (c : L.Counts) (n : ℕ) (o : Option ℕ) (r : Result L.Counts Fault) → Tallied left ws c r → Tallied left ws c (within o n left r)
  tallied_within left ws c n None r h = h
  tallied_within left ws c n (Some limit) r h = go (nat_le limit n)
    where
      go : (b : Bool) → Tallied left ws c (cond b (Err (TooMany left limit)) r)
      go true = refl
      go false = h

  pub tallied : (lim : Limits L) (left : ℕ) (ws : List L.Counted) (c : L.Counts) → Tallied left ws c (tally lim left ws c)
  unfolding sums
  tallied lim left [] c = refl
  tallied lim left (w ∷ ws) c =
      tallied_within left (w ∷ ws) c (L.number w c) (lim.most w) (tally lim left ws (L.more w c)) (tallied_more left w ws c (tally lim left ws (L.more w c)) (tallied lim left ws (L.more w c)))

  pub all_tallied : (left : ℕ) (ws : List L.Counted) (c : L.Counts) → tally {L = L} unlimited left ws c ≡ Ok (sums ws c)
  unfolding sums
  all_tallied left [] c = refl
  all_tallied left (w ∷ ws) c = all_tallied left ws (L.more w c)

  -- a symbol that was counted
  abbrev pub counting : {A : Type 0} → A → List L.Symbol → Result L.Counts Fault → Read L A
  counting x ss r = r >>= λ after. done {L = L} x ss (paid after)

-- ---- nothing is given back, and no fault lies before

abbrev pub Keeps : {L : Language} {A : Type 0} → ℕ → Read L A → Type 0
Keeps len (Ok x) = length x.1.rest ≤ len
Keeps len (Err e) = left_of e ≤ len

module _ (L : Language) where
  keeps_counted : {A : Type 0} (x : A) (ss : List L.Symbol) (left : ℕ) (ws : List L.Counted) (c : L.Counts) (r : Result L.Counts Fault) → length ss ≤ left → Tallied L left ws c r → Keeps {L = L} left (counting L x ss r)
  keeps_counted x ss left ws c (Ok d) short h = short
  keeps_counted x ss left ws c (Err (Expected k)) short h = absurd h
  keeps_counted x ss left ws c (Err (TooDeep k)) short h = absurd h
  keeps_counted x ss left ws c (Err (TooMany k limit)) short h = omega arith

module _ {L : Language} where
  keeps_less : {A : Type 0} (r : Read L A) (m n : ℕ) → m ≤ n → Keeps m r → Keeps n r
  keeps_less (Ok x) m n h p = omega arith
  keeps_less (Err e) m n h p = omega arith

  pub keeps_bind : {A B : Type 0} (r : Read L A) (f : A × Place L → Read L B) (len : ℕ) → Keeps len r → ((x : A × Place L) → Keeps (length x.1.rest) (f x)) → Keeps len (r >>= f)
  keeps_bind (Ok x) f len p q = keeps_less (f x) (length x.1.rest) len p (q x)
  keeps_bind (Err e) f len p q = p

  pub keeps_made : {A B : Type 0} (r : Read L A) (h : A → B) (len : ℕ) → Keeps len r → Keeps len (r >>= λ x. Ok (h x.0, x.1))
  keeps_made (Ok x) h len p = p
  keeps_made (Err e) h len p = p

  keeps_cond : {A : Type 0} (b : Bool) (x y : Read L A) (len : ℕ) → Keeps len x → Keeps len y → Keeps len (cond b x y)
  keeps_cond true x y len p q = p
  keeps_cond false x y len p q = q

  pub keeps_first : {A : Type 0} (x : A) (r : Read L (List A)) (len : ℕ) → Keeps len r → Keeps len (with_first x r)
  keeps_first x (Ok y) len p = p
  keeps_first x (Err e) len p = p

  keeps_leaf : {A : Type 0} (lim : Limits L) (too_deep : Bool) (test : L.Kind → Bool) (value : L.Symbol → A) (ss : List L.Symbol) (c : State L) → Keeps (length ss) (leaf_at lim too_deep test value ss c)
  unfolding leaf_at
  keeps_leaf lim too_deep test value [] c = omega arith
  keeps_leaf lim too_deep test value (s ∷ ss) c =
      let taken = keeps_counted L (value s) ss (length ss + 1) c.due c.counts (tally lim (length ss + 1) c.due c.counts) (omega arith) (tallied L lim (length ss + 1) c.due c.counts) in
      keeps_cond (test (L.kind s)) _ _ (suc (length ss))
      (keeps_cond too_deep _ _ (suc (length ss)) (omega arith)
      (keeps_less (counting L (value s) ss (tally lim (length ss + 1) c.due c.counts)) (length ss + 1) (suc (length ss)) (omega arith) taken))
      (omega arith)

  pub keeps_repeat : {A : Type 0} (goes_on : List L.Symbol → Bool) (one : List L.Symbol → State L → Read L A) → ((ss : List L.Symbol) (c : State L) → Keeps (length ss) (one ss c))
      → (n : ℕ) (ss : List L.Symbol) (c : State L) → Keeps (length ss) (repeat n goes_on one ss c)
  unfolding repeat
  keeps_repeat goes_on one h zero ss c = omega arith
  keeps_repeat goes_on one h (suc n) ss c =
      keeps_cond (goes_on ss) _ _ (length ss)
      (keeps_bind (one ss c) _ (length ss) (h ss c) (λ x. keeps_first x.0 (repeat n goes_on one x.1.rest x.1.state) (length x.1.rest) (keeps_repeat goes_on one h n x.1.rest x.1.state)))
      (omega arith)

module _ {L : Language} (G : Grammar L) (lim : Limits L) where
  module _ (n : ℕ) (keeps_rule : (r : L.Rule) (ss : List L.Symbol) (c : State L) → Keeps (length ss) (rule_at G lim n r ss c)) where
    keeps : {a : Type 0} (f : Form L a) (ss : List L.Symbol) (c : State L) → Keeps (length ss) (read G lim n f ss c)
    keeps (leaf test value opens) ss c = keeps_leaf lim (opens && n == 0) test value ss c
    keeps (f ▹ g) ss c = keeps_bind (read G lim n f ss c) _ (length ss) (keeps f ss c) (λ x. keeps_made (read G lim n g x.1.rest x.1.state) (λ y. (x.0, y)) (length x.1.rest) (keeps g x.1.rest x.1.state))
    keeps (f ∣ g) ss c = keeps_cond (next_begins f ss) _ _ (length ss) (keeps f ss c) (keeps g ss c)
    keeps (maybe f) ss c = keeps_cond (next_begins f ss) _ _ (length ss) (keeps_made (read G lim n f ss c) (λ x. Some x) (length ss) (keeps f ss c)) (omega arith)
    keeps (many f) ss c = keeps_repeat (next_begins f) (read G lim n f) (keeps f) (length ss) ss c
    keeps (inside r) ss c = keeps_rule r ss c
    keeps (counted w f) ss c = keeps f ss (owing w c)
    keeps (fresh w f) ss c = keeps f ss (from_zero w c)
    keeps (made h f) ss c = keeps_made (read G lim n f ss c) h (length ss) (keeps f ss c)

  keeps_rule : (n : ℕ) (r : L.Rule) (ss : List L.Symbol) (c : State L) → Keeps (length ss) (rule_at G lim n r ss c)
  unfolding rule_at
  keeps_rule zero r ss c = omega arith
  keeps_rule (suc n) r ss c = keeps n (keeps_rule n) (G r) ss c

  -- A form gives nothing back, and has no fault before it.
  pub read_keeps : {a : Type 0} (n : ℕ) (f : Form L a) (ss : List L.Symbol) (c : State L) → Keeps (length ss) (read G lim n f ss c)
  read_keeps n f ss c = keeps n (keeps_rule n) f ss c

-- ---- raising limits

-- the limits, or none of them
abbrev pub freed : {L : Language} → Bool → Limits L → Limits L
freed true lim = unlimited
freed false lim = lim

-- more nestings may be opened, or as many
abbrev pub Deeper : Bool → ℕ → ℕ → Type 0
Deeper true n m = n < m
Deeper false n m = m ≡ n

-- after the symbol from which on k are left, or at it, where counts may still be limited
abbrev pub Later : Bool → ℕ → ℕ → Type 0
Later true k j = j < k
Later false k j = j ≤ k

-- an answer after the symbol from which on k are left; one more than a count allows may be that symbol itself, where counts are limited
abbrev pub IsAfter : {L : Language} {A : Type 0} → Bool → ℕ → Read L A → Type 0
IsAfter free k (Ok x) = length x.1.rest < k
IsAfter free k (Err (Expected j)) = j < k
IsAfter free k (Err (TooDeep j)) = j < k
IsAfter free k (Err (TooMany j limit)) = Later free k j

-- a fault whose limit is raised moves to a symbol after its own; else it stays
abbrev pub Moves : {L : Language} {A : Type 0} → Bool → Bool → Fault → Read L A → Type 0
Moves true free e s = IsAfter free (left_of e) s
Moves false free e s = s ≡ Err e

-- what an answer becomes where more nestings may be opened, or counts are free of limits
abbrev pub Raised : {L : Language} {A : Type 0} → Bool → Bool → Read L A → Read L A → Type 0
Raised deeper free (Ok x) s = s ≡ Ok x
Raised deeper free (Err (Expected k)) s = s ≡ Err (Expected k)
Raised deeper free (Err (TooDeep k)) s = Moves deeper free (TooDeep k) s
Raised deeper free (Err (TooMany k limit)) s = Moves free free (TooMany k limit) s

module _ {L : Language} (deeper free : Bool) where
  after_of : {A : Type 0} (s : Read L A) (len k : ℕ) → len < k → Keeps len s → IsAfter free k s
  after_of (Ok y) len k l h = omega arith
  after_of (Err (Expected j)) len k l h = omega arith
  after_of (Err (TooDeep j)) len k l h = omega arith
  after_of (Err (TooMany j limit)) len k l h = later free
    where
      later : (b : Bool) → Later b k j
      later true = omega arith
      later false = omega arith

  after_bind : {A B : Type 0} (k : ℕ) (r : Read L A) (f : A × Place L → Read L B) → IsAfter free k r → ((x : A × Place L) → Keeps (length x.1.rest) (f x)) → IsAfter free k (r >>= f)
  after_bind k (Ok x) f p q = after_of (f x) (length x.1.rest) k p (q x)
  after_bind k (Err (Expected j)) f p q = p
  after_bind k (Err (TooDeep j)) f p q = p
  after_bind k (Err (TooMany j limit)) f p q = p

  moves_bind : {A B : Type 0} (b : Bool) (e : Fault) (s : Read L A) (g : A × Place L → Read L B) → Moves b free e s → ((x : A × Place L) → Keeps (length x.1.rest) (g x)) → Moves b free e (s >>= g)
  moves_bind true e s g h q = after_bind (left_of e) s g h q
  moves_bind false e s g h q = ap (λ t. t >>= g) h

  raised_bind : {A B : Type 0} (r s : Read L A) (f g : A × Place L → Read L B) → Raised deeper free r s → ((x : A × Place L) → r ≡ Ok x → Raised deeper free (f x) (g x)) → ((x : A × Place L) → Keeps (length x.1.rest) (g x))
      → Raised deeper free (r >>= f) (s >>= g)
  raised_bind (Ok x) s f g h p q = subst (λ t. Raised deeper free (f x) (t >>= g)) (sym h) (p x refl)
  raised_bind (Err (Expected k)) s f g h p q = ap (λ t. t >>= g) h
  raised_bind (Err (TooDeep k)) s f g h p q = moves_bind deeper (TooDeep k) s g h q
  raised_bind (Err (TooMany k limit)) s f g h p q = moves_bind free (TooMany k limit) s g h q

  raised_made : {A B : Type 0} (r s : Read L A) (h : A → B) → Raised deeper free r s → Raised deeper free (r >>= λ x. Ok (h x.0, x.1)) (s >>= λ x. Ok (h x.0, x.1))
  raised_made r s h p = raised_bind r s (λ x. Ok (h x.0, x.1)) (λ x. Ok (h x.0, x.1)) p (λ x e. refl) (λ x. omega arith)

  raised_cond : {A : Type 0} (b : Bool) (x y x' y' : Read L A) → Raised deeper free x x' → Raised deeper free y y' → Raised deeper free (cond b x y) (cond b x' y')
  raised_cond true x y x' y' p q = p
  raised_cond false x y x' y' p q = q

  after_first : {A : Type 0} (x : A) (k : ℕ) (s : Read L (List A)) → IsAfter free k s → IsAfter free k (with_first x s)
  after_first x k (Ok y) p = p
  after_first x k (Err (Expected j)) p = p
  after_first x k (Err (TooDeep j)) p = p
  after_first x k (Err (TooMany j limit)) p = p

  moves_first : {A : Type 0} (x : A) (b : Bool) (e : Fault) (s : Read L (List A)) → Moves b free e s → Moves b free e (with_first x s)
  moves_first x true e s p = after_first x (left_of e) s p
  moves_first x false e s p = ap (with_first x) p

  raised_first : {A : Type 0} (x : A) (r s : Read L (List A)) → Raised deeper free r s → Raised deeper free (with_first x r) (with_first x s)
  raised_first x (Ok y) s p = ap (with_first x) p
  raised_first x (Err (Expected k)) s p = ap (with_first x) p
  raised_first x (Err (TooDeep k)) s p = moves_first x deeper (TooDeep k) s p
  raised_first x (Err (TooMany k limit)) s p = moves_first x free (TooMany k limit) s p

  raised_repeat : {A : Type 0} (goes_on : List L.Symbol → Bool) (one two : List L.Symbol → State L → Read L A) → ((ss : List L.Symbol) (c : State L) → Raised deeper free (one ss c) (two ss c)) → ((ss : List L.Symbol) (c : State L) → Keeps (length ss) (two ss c))
      → (k : ℕ) (ss : List L.Symbol) (c : State L) → Raised deeper free (repeat k goes_on one ss c) (repeat k goes_on two ss c)
  unfolding repeat
  raised_repeat goes_on one two h q zero ss c = refl
  raised_repeat goes_on one two h q (suc k) ss c =
      raised_cond (goes_on ss) (one ss c >>= λ x. with_first x.0 (repeat k goes_on one x.1.rest x.1.state)) (done [] ss c) (two ss c >>= λ x. with_first x.0 (repeat k goes_on two x.1.rest x.1.state)) (done [] ss c)
      (raised_bind (one ss c) (two ss c) (λ x. with_first x.0 (repeat k goes_on one x.1.rest x.1.state)) (λ x. with_first x.0 (repeat k goes_on two x.1.rest x.1.state)) (h ss c)
      (λ x e. raised_first x.0 (repeat k goes_on one x.1.rest x.1.state) (repeat k goes_on two x.1.rest x.1.state) (raised_repeat goes_on one two h q k x.1.rest x.1.state))
      (λ x. keeps_first x.0 (repeat k goes_on two x.1.rest x.1.state) (length x.1.rest) (keeps_repeat goes_on two q k x.1.rest x.1.state)))
      refl

-- a symbol that opened too deep a nesting doesn't where more may be opened
abbrev Eased : Bool → Bool → Bool → Type 0
Eased true b b' = b' ≡ false
Eased false b b' = b' ≡ b

module _ (L : Language) where
  -- the same counts, with limits or without
  raised_freed : {A : Type 0} (deeper : Bool) (x : A) (ss : List L.Symbol) (left : ℕ) (ws : List L.Counted) (c : L.Counts) (r : Result L.Counts Fault) → length ss < left → Tallied L left ws c r
      → Raised {L = L} deeper true (counting L x ss r) (done {L = L} x ss (paid (sums L ws c)))
  raised_freed deeper x ss left ws c (Ok d) short h = ap (λ b. done {L = L} x ss (paid b)) (sym h)
  raised_freed deeper x ss left ws c (Err (Expected k)) short h = absurd h
  raised_freed deeper x ss left ws c (Err (TooDeep k)) short h = absurd h
  raised_freed deeper x ss left ws c (Err (TooMany k limit)) short h = omega arith

  raised_kept : {A : Type 0} (deeper : Bool) (x : A) (ss : List L.Symbol) (left : ℕ) (ws : List L.Counted) (c : L.Counts) (r : Result L.Counts Fault) → Tallied L left ws c r
      → Raised {L = L} deeper false (counting L x ss r) (counting L x ss r)
  raised_kept deeper x ss left ws c (Ok d) h = refl
  raised_kept deeper x ss left ws c (Err (Expected k)) h = absurd h
  raised_kept deeper x ss left ws c (Err (TooDeep k)) h = absurd h
  raised_kept deeper x ss left ws c (Err (TooMany k limit)) h = refl

  -- what was too deep is after the symbol then
  after_freed : {A : Type 0} (x : A) (ss : List L.Symbol) (left : ℕ) (ws : List L.Counted) (c : L.Counts) (r : Result L.Counts Fault) → length ss < left → Tallied L left ws c r
      → IsAfter {L = L} false left (counting L x ss r)
  after_freed x ss left ws c (Ok d) short h = short
  after_freed x ss left ws c (Err (Expected k)) short h = absurd h
  after_freed x ss left ws c (Err (TooDeep k)) short h = absurd h
  after_freed x ss left ws c (Err (TooMany k limit)) short h = omega arith

module _ {L : Language} where
  raised_counted : {A : Type 0} (deeper free : Bool) (lim : Limits L) (x : A) (ss : List L.Symbol) (left : ℕ) (ws : List L.Counted) (c : L.Counts) → length ss < left
      → Raised {L = L} deeper free (counting L x ss (tally lim left ws c)) (counting L x ss (tally (freed free lim) left ws c))
  raised_counted deeper true lim x ss left ws c short =
      subst (λ t. Raised {L = L} deeper true (counting L x ss (tally lim left ws c)) (counting L x ss t)) (sym (all_tallied L left ws c))
      (raised_freed L deeper x ss left ws c (tally lim left ws c) short (tallied L lim left ws c))
  raised_counted deeper false lim x ss left ws c short = raised_kept L deeper x ss left ws c (tally lim left ws c) (tallied L lim left ws c)

  after_counted : {A : Type 0} (free : Bool) (lim : Limits L) (x : A) (ss : List L.Symbol) (left : ℕ) (ws : List L.Counted) (c : L.Counts) → length ss < left
      → IsAfter {L = L} free left (counting L x ss (tally (freed free lim) left ws c))
  after_counted true lim x ss left ws c short = subst (λ t. IsAfter {L = L} true left (counting L x ss t)) (sym (all_tallied L left ws c)) short
  after_counted false lim x ss left ws c short = after_freed L x ss left ws c (tally lim left ws c) short (tallied L lim left ws c)

  raised_allowed : {A : Type 0} (deeper free : Bool) (lim : Limits L) (x : A) (b b' : Bool) → Eased deeper b b' → (ss : List L.Symbol) (c : State L) → Raised deeper free (allowed lim x b ss c) (allowed (freed free lim) x b' ss c)
  raised_allowed true free lim x true b' e ss c = rw e (after_counted free lim x ss (length ss + 1) c.due c.counts (omega arith))
  raised_allowed true free lim x false b' e ss c = rw e (raised_counted true free lim x ss (length ss + 1) c.due c.counts (omega arith))
  raised_allowed false free lim x true b' e ss c = rw e refl
  raised_allowed false free lim x false b' e ss c = rw e (raised_counted false free lim x ss (length ss + 1) c.due c.counts (omega arith))

  raised_leaf : {A : Type 0} (deeper free : Bool) (lim : Limits L) (b b' : Bool) → Eased deeper b b' → (test : L.Kind → Bool) (value : L.Symbol → A) (ss : List L.Symbol) (c : State L)
      → Raised deeper free (leaf_at lim b test value ss c) (leaf_at (freed free lim) b' test value ss c)
  unfolding leaf_at
  raised_leaf deeper free lim b b' e test value [] c = refl
  raised_leaf deeper free lim b b' e test value (s ∷ ss) c =
      raised_cond deeper free (test (L.kind s)) (allowed lim (value s) b ss c) (Err (Expected (length ss + 1))) (allowed (freed free lim) (value s) b' ss c) (Err (Expected (length ss + 1)))
      (raised_allowed deeper free lim (value s) b b' e ss c) refl

pub never : (opens : Bool) (m : ℕ) → 0 < m → (opens && m == 0) ≡ false
never false m h = refl
never true zero h = absurd (omega arith)
never true (suc m) h = eqb-suc-zero m

eased : (deeper opens : Bool) (n m : ℕ) → Deeper deeper n m → Eased deeper (opens && n == 0) (opens && m == 0)
eased true opens n m h = never opens m (omega arith)
eased false opens n m h = ap (λ k. opens && k == 0) h

deeper_below : (deeper : Bool) (n m : ℕ) → Deeper deeper (suc n) (suc m) → Deeper deeper n m
deeper_below true n m h = omega arith
deeper_below false n m h = omega arith

deeper_zero : (deeper : Bool) (n : ℕ) → Deeper deeper (suc n) 0 → ⊥
deeper_zero true n h = omega arith
deeper_zero false n h = omega arith

module _ {L : Language} (G : Grammar L) (rules_guarded : (r : L.Rule) → guarded false (G r) ≡ true) (lim : Limits L) (deeper free : Bool) where
  module _ (n m : ℕ) (more : Deeper deeper n m) (raised_rule : 0 < n → (r : L.Rule) (ss : List L.Symbol) (c : State L) → Raised deeper free (rule_at G lim n r ss c) (rule_at G (freed free lim) m r ss c)) where
    raised : {a : Type 0} (f : Form L a) (before : Bool) → guarded before f ≡ true → (before ≡ true → 0 < n) → (ss : List L.Symbol) (c : State L) → Raised deeper free (read G lim n f ss c) (read G (freed free lim) m f ss c)
    raised (leaf test value opens) b g h ss c = raised_leaf deeper free lim (opens && n == 0) (opens && m == 0) (eased deeper opens n m more) test value ss c
    raised (f ▹ f') b g h ss c =
        let l = and_true (guarded b f) (guarded (b || opens_of f) f') g in
        raised_bind deeper free (read G lim n f ss c) (read G (freed free lim) m f ss c)
        (λ x. read G lim n f' x.1.rest x.1.state >>= λ y. Ok ((x.0, y.0), y.1)) (λ x. read G (freed free lim) m f' x.1.rest x.1.state >>= λ y. Ok ((x.0, y.0), y.1))
        (raised f b l.0 h ss c)
        (λ x e. raised_made deeper free (read G lim n f' x.1.rest x.1.state) (read G (freed free lim) m f' x.1.rest x.1.state) (λ y. (x.0, y))
        (raised f' (b || opens_of f) l.1 (or_cases b (opens_of f) (0 < n) h (λ o. opened_read G lim n f o ss c x e)) x.1.rest x.1.state))
        (λ x. keeps_made (read G (freed free lim) m f' x.1.rest x.1.state) (λ y. (x.0, y)) (length x.1.rest) (read_keeps G (freed free lim) m f' x.1.rest x.1.state))
    raised (f ∣ f') b g h ss c =
        let l = and_true (guarded b f) (guarded b f') g in
        raised_cond deeper free (next_begins f ss) (read G lim n f ss c) (read G lim n f' ss c) (read G (freed free lim) m f ss c) (read G (freed free lim) m f' ss c) (raised f b l.0 h ss c) (raised f' b l.1 h ss c)
    raised (maybe f) b g h ss c =
        raised_cond deeper free (next_begins f ss) (read G lim n f ss c >>= λ x. Ok (Some x.0, x.1)) (done None ss c) (read G (freed free lim) m f ss c >>= λ x. Ok (Some x.0, x.1)) (done None ss c)
        (raised_made deeper free (read G lim n f ss c) (read G (freed free lim) m f ss c) (λ x. Some x) (raised f b g h ss c)) refl
    raised (many f) b g h ss c = raised_repeat deeper free (next_begins f) (read G lim n f) (read G (freed free lim) m f) (raised f b g h) (read_keeps G (freed free lim) m f) (length ss) ss c
    raised (inside r) b g h ss c = raised_rule (h g) r ss c
    raised (counted w f) b g h ss c = raised f b g h ss (owing w c)
    raised (fresh w f) b g h ss c = raised f b g h ss (from_zero w c)
    raised (made u f) b g h ss c = raised_made deeper free (read G lim n f ss c) (read G (freed free lim) m f ss c) u (raised f b g h ss c)

  raised_rule : (n m : ℕ) → Deeper deeper n m → 0 < n → (r : L.Rule) (ss : List L.Symbol) (c : State L) → Raised deeper free (rule_at G lim n r ss c) (rule_at G (freed free lim) m r ss c)
  unfolding rule_at
  raised_rule zero m more h r ss c = absurd (omega arith)
  raised_rule (suc n) zero more h r ss c = absurd (deeper_zero deeper n more)
  raised_rule (suc n) (suc m) more h r ss c =
      let below = deeper_below deeper n m more in
      raised n m below (raised_rule n m below) (G r) false (rules_guarded r) (λ e. absurd cc) ss c

  -- What reading gives where more nestings may be opened, or counts are free of limits.
  pub raised_read : {a : Type 0} (n m : ℕ) → Deeper deeper n m → (f : Form L a) → guarded false f ≡ true → (ss : List L.Symbol) (c : State L) → Raised deeper free (read G lim n f ss c) (read G (freed free lim) m f ss c)
  raised_read n m more f g ss c = raised n m more (raised_rule n m more) f false g (λ e. absurd cc) ss c
