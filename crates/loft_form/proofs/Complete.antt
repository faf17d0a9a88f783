-- What is spelled is read, whatever follows that doesn't go on with it.
use Rattle.std.proofs.Common.{◌≡◌, ℕ, zero, suc, ◌+◌, ◌<◌, Bool, true, false, ◌==◌, ◌&&◌, ◌||◌, not, List, [], ◌∷◌, ◌++◌, length, Option, Some, None, Ok, refl, sym, ap, subst, ◌∙◌, append_assoc, arith, inl, inr}
use Rattle.std.proofs.lemmas.Bool.{lt-leb}
use Rattle.loft_form.specs.Form.{Language, Form, leaf, ◌▹◌, ◌∣◌, maybe, many, inside, counted, fresh, made, Grammar, Limits, State, begins, next_begins}
use Rattle.loft_form.specs.Spells.{Below, Adds, Pays, owing, from_zero, Spelling, SpellsEach, Spells, SpellsRule}
use Rattle.loft_form.specs.Reading.{◌>>=◌, done, with_first, within, tally, allowed, leaf_at, rule_at, read}
use Rattle.loft_form.proofs.Progress.{least, many_more, many_done}
use Rattle.loft_form.proofs.Disjoint.{Known, and_true, or_false, or_true_right, nullable, starts, goes_on, apart, agrees, leading, clear, Fair}

-- ---- truth values

pub both_or : (a b c d : Bool) → a ≡ b → c ≡ d → (a || c) ≡ (b || d)
both_or a b c d p q = cc

not_both : (a b : Bool) → not (a && b) ≡ true → b ≡ true → a ≡ false
not_both true true e h = absurd cc
not_both true false e h = absurd cc
not_both false b e h = refl

implied : (a b : Bool) → (not a || b) ≡ true → a ≡ true → b ≡ true
implied true b e h = e
implied false b e h = absurd cc

implied_not : (a b : Bool) → (not a || b) ≡ true → b ≡ false → a ≡ false
implied_not true b e h = absurd cc
implied_not false b e h = refl

and_intro : (a b : Bool) → a ≡ true → b ≡ true → (a && b) ≡ true
and_intro a b p q = rw (p, q) refl

or_true_left : (a b : Bool) → a ≡ true → (a || b) ≡ true
or_true_left a b p = rw p refl

or_no : (a b c : Bool) → b ≡ false → (a || (b && c)) ≡ a
or_no true b c e = refl
or_no false b c e = rw e refl

append_empty : {A : Type 0} (a b : List A) → a ++ b ≡ [] → (a ≡ []) × (b ≡ [])
append_empty [] b e = (refl, e)
append_empty (s ∷ a) b e = absurd cc

-- the next symbol fails the test
abbrev pub Free : (L : Language) → (L.Kind → Bool) → List L.Symbol → Type 0
Free L p [] = Unit {0}
Free L p (s ∷ ss) = p (L.kind s) ≡ false

free_weaker : (L : Language) (p q : L.Kind → Bool) (ss : List L.Symbol) → ((k : L.Kind) → p k ≡ false → q k ≡ false) → Free L p ss → Free L q ss
free_weaker L p q [] h f = tt
free_weaker L p q (s ∷ ss) h f = h (L.kind s) f

-- ---- leading forms

module _ {L : Language} where
  pub leading_least : {a : Type 0} (f : Form L a) → leading f ≡ true → 0 < least f
  leading_least (leaf test value opens) h = omega arith
  leading_least (f ▹ g) h = omega (arith, leading_least f h)
  leading_least (f ∣ g) h = let p = and_true _ _ h in omega (arith, leading_least f p.0, leading_least g p.1)
  leading_least (maybe f) h = absurd cc
  leading_least (many f) h = absurd cc
  leading_least (inside r) h = absurd cc
  leading_least (counted w f) h = leading_least f h
  leading_least (fresh w f) h = leading_least f h
  leading_least (made k f) h = leading_least f h

  begins_free : {a : Type 0} (f : Form L a) (ss : List L.Symbol) → Free L (begins f) ss → next_begins f ss ≡ false
  begins_free f [] h = refl
  begins_free f (s ∷ ss) h = h

  -- ---- what is counted

  pub tally_ok : (lim : Limits L) (left : ℕ) (ws : List L.Counted) (c d : L.Counts) → Adds lim ws c d → tally lim left ws c ≡ Ok d
  tally_ok lim left [] c d h = ap (λ (e : L.Counts). Ok e) (sym h)
  tally_ok lim left (w ∷ ws) c d h = within_ok (lim.most w) (L.number w c) h.0 ∙ tally_ok lim left ws (L.more w c) d h.1
    where
      within_ok : (o : Option ℕ) (n : ℕ) → Below o n → within o n left (tally lim left ws (L.more w c)) ≡ tally lim left ws (L.more w c)
      within_ok None n h = refl
      within_ok (Some limit) n h = let e = lt-leb limit n h in rw e refl

  pub allowed_ok : {A : Type 0} (lim : Limits L) (x : A) (too_deep : Bool) (ss : List L.Symbol) (c d : State L) → too_deep ≡ false → Pays lim c d → allowed lim x too_deep ss c ≡ done x ss d
  allowed_ok lim x too_deep ss c d e h = rw (e, tally_ok lim (length ss + 1) c.due c.counts d.counts h.0) (ap (λ (t : List L.Counted). done x ss (record { counts = d.counts; due = t })) (sym h.1))

  pub leaf_ok : {A : Type 0} (lim : Limits L) (too_deep : Bool) (test : L.Kind → Bool) (value : L.Symbol → A) (s : L.Symbol) (ss : List L.Symbol) (c d : State L)
      → test (L.kind s) ≡ true → too_deep ≡ false → Pays lim c d → leaf_at lim too_deep test value (s ∷ ss) c ≡ done (value s) ss d
  unfolding leaf_at
  leaf_ok lim too_deep test value s ss c d e f h = rw e (allowed_ok lim (value s) too_deep ss c d f h)

-- ---- the first symbol

module _ {L : Language} (R : Known L) where
  leading_takes : {a : Type 0} (f : Form L a) → leading f ≡ true → nullable R f ≡ false
  leading_takes (leaf test value opens) h = refl
  leading_takes (f ▹ g) h = rw (leading_takes f h) refl
  leading_takes (f ∣ g) h = let p = and_true _ _ h in rw (leading_takes f p.0, leading_takes g p.1) refl
  leading_takes (maybe f) h = absurd cc
  leading_takes (many f) h = absurd cc
  leading_takes (inside r) h = absurd cc
  leading_takes (counted w f) h = leading_takes f h
  leading_takes (fresh w f) h = leading_takes f h
  leading_takes (made k f) h = leading_takes f h

  leading_starts : {a : Type 0} (f : Form L a) → leading f ≡ true → (k : L.Kind) → starts R f k ≡ begins f k
  leading_starts (leaf test value opens) h k = refl
  leading_starts (f ▹ g) h k = or_no _ _ _ (leading_takes f h) ∙ leading_starts f h k
  leading_starts (f ∣ g) h k = let p = and_true _ _ h in both_or _ _ _ _ (leading_starts f p.0 k) (leading_starts g p.1 k)
  leading_starts (maybe f) h k = absurd cc
  leading_starts (many f) h k = absurd cc
  leading_starts (inside r) h k = absurd cc
  leading_starts (counted w f) h k = leading_starts f h k
  leading_starts (fresh w f) h k = leading_starts f h k
  leading_starts (made m f) h k = leading_starts f h k

  -- a form that takes nothing may take nothing
  module _ (lim : Limits L) (n : ℕ) (Inner : (r : L.Rule) → Spelling L (L.Meaning r))
      (inner_empty : (r : L.Rule) (c : State L) (x : L.Meaning r) (d : State L) → Inner r [] c x d → R.may_be_empty r ≡ true) where
    empty : {a : Type 0} (f : Form L a) (ss : List L.Symbol) (c : State L) (x : a) (d : State L) → ss ≡ [] → Spells lim n Inner f ss c x d → nullable R f ≡ true
    empty (leaf test value opens) ss c x d e p = absurd (let h = sym e ∙ p.1 in cc)
    empty (f ▹ g) ss c x d e (front, back, b, s, p, q) =
        let h = append_empty front back (sym s ∙ e) in
        and_intro (nullable R f) (nullable R g) (empty f front c x.0 b h.0 p) (empty g back b x.1 d h.1 q)
    empty (f ∣ g) ss c x d e (inl p) = or_true_left (nullable R f) (nullable R g) (empty f ss c x d e p)
    empty (f ∣ g) ss c x d e (inr p) = or_true_right (nullable R f) (nullable R g) (empty g ss c x d e p)
    empty (maybe f) ss c x d e p = refl
    empty (many f) ss c x d e p = refl
    empty (inside r) ss c x d e p = inner_empty r c x d (subst (λ t. Inner r t c x d) e p)
    empty (counted w f) ss c x d e p = empty f ss (owing w c) x d e p
    empty (fresh w f) ss c x d e p = empty f ss (from_zero w c) x d e p
    empty (made h f) ss c x d e p = empty f ss c p.0 d e p.2

    -- the first symbol of what a form takes may be its first
    module _ (inner_first : (r : L.Rule) (s : L.Symbol) (ss : List L.Symbol) (c : State L) (x : L.Meaning r) (d : State L) → Inner r (s ∷ ss) c x d → R.may_start r (L.kind s) ≡ true) where
      -- the same, of the symbols that begin with s
      abbrev Firsts : {a : Type 0} → Form L a → Type 0
      Firsts {a} f = (ss : List L.Symbol) (s : L.Symbol) (rest : List L.Symbol) (c : State L) (x : a) (d : State L) → ss ≡ s ∷ rest → Spells lim n Inner f ss c x d → starts R f (L.kind s) ≡ true

      first_each : {a : Type 0} (f : Form L a) → Firsts f → nullable R f ≡ false
          → (front back : List L.Symbol) (s : L.Symbol) (rest : List L.Symbol) (c : State L) (x : a) (d : State L) → front ++ back ≡ s ∷ rest → Spells lim n Inner f front c x d → starts R f (L.kind s) ≡ true
      first_each f hf takes [] back s rest c x d e p = absurd (let h = sym takes ∙ empty f [] c x d refl p in cc)
      first_each f hf takes (t ∷ front) back s rest c x d e p = hf (t ∷ front) s front c x d (let h : t ≡ s = cc in ap (λ u. u ∷ front) h) p

      first_then : {a b : Type 0} (f : Form L a) (g : Form L b) → Firsts f → Firsts g
          → (front back : List L.Symbol) (s : L.Symbol) (rest : List L.Symbol) (c : State L) (x : a) (y : b) (m d : State L) → front ++ back ≡ s ∷ rest → Spells lim n Inner f front c x m → Spells lim n Inner g back m y d → starts R (f ▹ g) (L.kind s) ≡ true
      first_then f g hf hg [] back s rest c x y m d e p q = or_true_right (starts R f (L.kind s)) (nullable R f && starts R g (L.kind s)) (and_intro (nullable R f) (starts R g (L.kind s)) (empty f [] c x m refl p) (hg back s rest m y d e q))
      first_then f g hf hg (t ∷ front) back s rest c x y m d e p q = or_true_left (starts R f (L.kind s)) (nullable R f && starts R g (L.kind s)) (hf (t ∷ front) s front c x m (let h : t ≡ s = cc in ap (λ u. u ∷ front) h) p)

      first : {a : Type 0} (f : Form L a) → clear R f ≡ true → (ss : List L.Symbol) (s : L.Symbol) (rest : List L.Symbol) (c : State L) (x : a) (d : State L) → ss ≡ s ∷ rest → Spells lim n Inner f ss c x d → starts R f (L.kind s) ≡ true
      first (leaf test value opens) cl ss s rest c x d e (t, f, g, v, h, j) = let same : t ≡ s = (let k = sym f ∙ e in cc) in rw (← same) g
      first (f ▹ g) cl ss s rest c x d e (front, back, b, k, p, q) =
          let l = and_true _ _ cl in
          first_then f g (first f l.0) (first g (and_true _ _ l.1).0) front back s rest c x.0 x.1 b d (sym k ∙ e) p q
      first (f ∣ g) cl ss s rest c x d e (inl p) = or_true_left (starts R f (L.kind s)) (starts R g (L.kind s)) (first f (and_true _ _ cl).0 ss s rest c x d e p)
      first (f ∣ g) cl ss s rest c x d e (inr p) = or_true_right (starts R f (L.kind s)) (starts R g (L.kind s)) (first g (and_true _ _ (and_true _ _ cl).1).0 ss s rest c x d e p)
      first (maybe f) cl ss s rest c None d e p = absurd (let h = sym e ∙ p.0 in cc)
      first (maybe f) cl ss s rest c (Some x) d e p = first f (and_true _ _ cl).0 ss s rest c x d e p
      first (many f) cl ss s rest c [] d e p = absurd (let h = sym e ∙ p.0 in cc)
      first (many f) cl ss s rest c (x ∷ xs) d e (front, back, b, k, p, q) =
          let l = and_true _ _ cl in
          first_each f (first f l.0) (leading_takes f (and_true _ _ l.1).0) front back s rest c x b (sym k ∙ e) p
      first (inside r) cl ss s rest c x d e p = inner_first r s rest c x d (subst (λ t. Inner r t c x d) e p)
      first (counted w f) cl ss s rest c x d e p = first f (and_true _ _ cl).0 ss s rest (owing w c) x d e p
      first (fresh w f) cl ss s rest c x d e p = first f cl ss s rest (from_zero w c) x d e p
      first (made h f) cl ss s rest c x d e p = first f cl ss s rest c p.0 d e p.2

-- ---- what is spelled is read

module _ {L : Language} (G : Grammar L) (R : Known L) (fair : Fair G R) (lim : Limits L) where
  of_agrees : (p q : L.Kind → Bool) → agrees R p q ≡ true → (k : L.Kind) → (not (p k) || q k) ≡ true
  of_agrees p q e k = fair.all_kinds (λ j. not (p j) || q j) e k

  pub of_apart : (p q : L.Kind → Bool) → apart R p q ≡ true → (k : L.Kind) → q k ≡ true → p k ≡ false
  of_apart p q e k h = not_both (p k) (q k) (fair.all_kinds (λ j. not (p j && q j)) e k) h

  rule_empty : (n : ℕ) (r : L.Rule) (c : State L) (x : L.Meaning r) (d : State L) → SpellsRule G lim n r [] c x d → R.may_be_empty r ≡ true
  rule_empty zero r c x d p = absurd p
  rule_empty (suc n) r c x d p = fair.rule_empty r (empty R lim n (SpellsRule G lim n) (rule_empty n) (G r) [] c x d refl p)

  rule_first : (n : ℕ) (r : L.Rule) (s : L.Symbol) (ss : List L.Symbol) (c : State L) (x : L.Meaning r) (d : State L) → SpellsRule G lim n r (s ∷ ss) c x d → R.may_start r (L.kind s) ≡ true
  rule_first zero r s ss c x d p = absurd p
  rule_first (suc n) r s ss c x d p =
      implied _ _ (of_agrees (starts R (G r)) (R.may_start r) (fair.rule_starts r) (L.kind s))
      (first R lim n (SpellsRule G lim n) (rule_empty n) (rule_first n) (G r) (fair.rule_clear r) (s ∷ ss) s ss c x d refl p)

  module _ (n : ℕ) where
    abbrev Sp : {a : Type 0} → Form L a → Spelling L a
    Sp f = Spells lim n (SpellsRule G lim n) f

    none_taken : {a : Type 0} (f : Form L a) (c : State L) (x : a) (d : State L) → Sp f [] c x d → nullable R f ≡ true
    none_taken f c x d p = empty R lim n (SpellsRule G lim n) (rule_empty n) f [] c x d refl p

    starts_first : {a : Type 0} (f : Form L a) → clear R f ≡ true → (s : L.Symbol) (ss : List L.Symbol) (c : State L) (x : a) (d : State L) → Sp f (s ∷ ss) c x d → starts R f (L.kind s) ≡ true
    starts_first f cl s ss c x d p = first R lim n (SpellsRule G lim n) (rule_empty n) (rule_first n) f cl (s ∷ ss) s ss c x d refl p

    -- a leading form begins with what begins it
    leads : {a : Type 0} (f : Form L a) → clear R f ≡ true → leading f ≡ true → (front ss rest : List L.Symbol) (c : State L) (x : a) (d : State L) → ss ≡ front ++ rest → Sp f front c x d → next_begins f ss ≡ true
    leads f cl ld [] ss rest c x d e p = absurd (let h = sym (leading_takes R f ld) ∙ none_taken f c x d p in cc)
    leads f cl ld (s ∷ front) ss rest c x d e p = ap (next_begins f) e ∙ sym (leading_starts R f ld (L.kind s)) ∙ starts_first f cl s front c x d p

    -- the other side of a choice doesn't begin with it
    lags : {a : Type 0} (f g : Form L a) → clear R g ≡ true → leading g ≡ true → apart R (begins f) (begins g) ≡ true → (front ss rest : List L.Symbol) (c : State L) (x : a) (d : State L) → ss ≡ front ++ rest → Sp g front c x d → next_begins f ss ≡ false
    lags f g cl ld ap' [] ss rest c x d e p = absurd (let h = sym (leading_takes R g ld) ∙ none_taken g c x d p in cc)
    lags f g cl ld ap' (s ∷ front) ss rest c x d e p = ap (next_begins f) e ∙ of_apart (begins f) (begins g) ap' (L.kind s) (sym (leading_starts R g ld (L.kind s)) ∙ starts_first g cl s front c x d p)

    -- what comes after a form in a sequence doesn't go on with it
    free_then : {a b : Type 0} (f : Form L a) (g : Form L b) → clear R g ≡ true → apart R (goes_on R f) (starts R g) ≡ true → (back rest : List L.Symbol) (c : State L) (y : b) (d : State L) → Sp g back c y d → Free L (goes_on R (f ▹ g)) rest → Free L (goes_on R f) (back ++ rest)
    free_then f g cl ap' [] rest c y d p free =
        free_weaker L (goes_on R (f ▹ g)) (goes_on R f) rest
        (λ k h. let may = none_taken g c y d p in let both = (or_false (goes_on R g k) (nullable R g && goes_on R f k) h).1 in rw may at both)
        free
    free_then f g cl ap' (s ∷ back) rest c y d p free = of_apart (goes_on R f) (starts R g) ap' (L.kind s) (starts_first g cl s back c y d p)

    free_each : {a : Type 0} (f : Form L a) → clear R f ≡ true → leading f ≡ true → apart R (goes_on R f) (begins f) ≡ true → (back rest : List L.Symbol) (c : State L) (xs : List a) (d : State L) → SpellsEach (Sp f) back c xs d → Free L (goes_on R (many f)) rest → Free L (goes_on R f) (back ++ rest)
    free_each f cl ld ap' [] rest c xs d p free = free_weaker L (goes_on R (many f)) (goes_on R f) rest (λ k h. (or_false (begins f k) (goes_on R f k) h).1) free
    free_each f cl ld ap' (s ∷ back) rest c [] d p free = absurd (let h = p.0 in cc)
    free_each f cl ld ap' (s ∷ back) rest c (x ∷ xs) d (one, more, b, e, p, q) free =
        of_apart (goes_on R f) (begins f) ap' (L.kind s)
        (let h = leads f cl ld one (s ∷ back) more c x b e p in h)

    -- what a form spells is read
    abbrev Reads : {a : Type 0} → Form L a → Type 0
    Reads {a} f = (front ss rest : List L.Symbol) (c : State L) (x : a) (d : State L) → ss ≡ front ++ rest → Sp f front c x d → Free L (goes_on R f) rest → read G lim n f ss c ≡ done x rest d

    complete_each : {a : Type 0} (f : Form L a) → clear R f ≡ true → leading f ≡ true → apart R (goes_on R f) (begins f) ≡ true → Reads f
        → (front ss rest : List L.Symbol) (c : State L) (xs : List a) (d : State L) → ss ≡ front ++ rest → SpellsEach (Sp f) front c xs d → Free L (goes_on R (many f)) rest → read G lim n (many f) ss c ≡ done xs rest d
    complete_each f cl ld ap' one front ss rest c [] d e p free =
        let here : ss ≡ rest = e ∙ ap (λ t. t ++ rest) p.0 in
        let stop : next_begins f rest ≡ false = begins_free f rest (free_weaker L (goes_on R (many f)) (begins f) rest (λ k h. (or_false (begins f k) (goes_on R f k) h).0) free) in
        many_done G lim n f ss c (leading_least f ld) (ap (next_begins f) here ∙ stop) ∙ rw (here, p.1) refl
    complete_each f cl ld ap' one front ss rest c (x ∷ xs) d e (a, b, m, k, p, q) free =
        let split : ss ≡ a ++ (b ++ rest) = e ∙ ap (λ t. t ++ rest) k ∙ append_assoc a b rest in
        let h1 = one a ss (b ++ rest) c x m split p (free_each f cl ld ap' b rest m xs d q free) in
        let h2 = complete_each f cl ld ap' one b (b ++ rest) rest m xs d refl q free in
        many_more G lim n f ss c (leading_least f ld) (leads f cl ld a ss (b ++ rest) c x m split p)
        ∙ ap (λ r. r >>= λ y. with_first y.0 (read G lim n (many f) y.1.rest y.1.state)) h1
        ∙ ap (with_first x) h2

    module _ (complete_rule : (r : L.Rule) (front ss rest : List L.Symbol) (c : State L) (x : L.Meaning r) (d : State L) → ss ≡ front ++ rest → SpellsRule G lim n r front c x d → Free L (R.may_go_on r) rest → rule_at G lim n r ss c ≡ done x rest d) where
      complete : {a : Type 0} (f : Form L a) → clear R f ≡ true → (front ss rest : List L.Symbol) (c : State L) (x : a) (d : State L) → ss ≡ front ++ rest → Sp f front c x d → Free L (goes_on R f) rest → read G lim n f ss c ≡ done x rest d
      complete (leaf test value opens) cl front ss rest c x d e (s, f, g, v, h, j) free =
          ap (λ t. leaf_at lim (opens && n == 0) test value t c) (e ∙ ap (λ t. t ++ rest) f) ∙ leaf_ok lim (opens && n == 0) test value s rest c d g h j ∙ ap (λ y. done y rest d) (sym v)
      complete (f ▹ g) cl front ss rest c x d e (a, b, m, k, p, q) free =
          let l = and_true _ _ cl in
          let r = and_true _ _ l.1 in
          let split : ss ≡ a ++ (b ++ rest) = e ∙ ap (λ t. t ++ rest) k ∙ append_assoc a b rest in
          let h1 = complete f l.0 a ss (b ++ rest) c x.0 m split p (free_then f g r.0 r.1 b rest m x.1 d q free) in
          let h2 = complete g r.0 b (b ++ rest) rest m x.1 d refl q (free_weaker L (goes_on R (f ▹ g)) (goes_on R g) rest (λ k h. (or_false (goes_on R g k) (nullable R g && goes_on R f k) h).0) free) in
          ap (λ r. r >>= λ y. read G lim n g y.1.rest y.1.state >>= λ z. Ok ((y.0, z.0), z.1)) h1 ∙ ap (λ r. r >>= λ z. Ok ((x.0, z.0), z.1)) h2
      complete (f ∣ g) cl front ss rest c x d e (inl p) free =
          let l = and_true _ _ cl in
          let r = and_true _ _ l.1 in
          let t = and_true _ _ r.1 in
          rw (leads f l.0 t.0 front ss rest c x d e p) (complete f l.0 front ss rest c x d e p (free_weaker L (goes_on R (f ∣ g)) (goes_on R f) rest (λ k h. (or_false (goes_on R f k) (goes_on R g k) h).0) free))
      complete (f ∣ g) cl front ss rest c x d e (inr p) free =
          let l = and_true _ _ cl in
          let r = and_true _ _ l.1 in
          let t = and_true _ _ r.1 in
          let u = and_true _ _ t.1 in
          rw (lags f g r.0 u.0 u.1 front ss rest c x d e p) (complete g r.0 front ss rest c x d e p (free_weaker L (goes_on R (f ∣ g)) (goes_on R g) rest (λ k h. (or_false (goes_on R f k) (goes_on R g k) h).1) free))
      complete (maybe f) cl front ss rest c None d e p free =
          let here : ss ≡ rest = e ∙ ap (λ t. t ++ rest) p.0 in
          let stop : next_begins f ss ≡ false = ap (next_begins f) here ∙ begins_free f rest (free_weaker L (goes_on R (maybe f)) (begins f) rest (λ k h. (or_false (begins f k) (goes_on R f k) h).0) free) in
          rw (stop, here, p.1) refl
      complete (maybe f) cl front ss rest c (Some x) d e p free =
          let l = and_true _ _ cl in
          let h = complete f l.0 front ss rest c x d e p (free_weaker L (goes_on R (maybe f)) (goes_on R f) rest (λ k h. (or_false (begins f k) (goes_on R f k) h).1) free) in
          rw (leads f l.0 l.1 front ss rest c x d e p) (ap (λ r. r >>= λ y. Ok (Some y.0, y.1)) h)
      complete (many f) cl front ss rest c xs d e p free =
          let l = and_true _ _ cl in
          let r = and_true _ _ l.1 in
          complete_each f l.0 r.0 r.1 (complete f l.0) front ss rest c xs d e p free
      complete (inside r) cl front ss rest c x d e p free = complete_rule r front ss rest c x d e p free
      complete (counted w f) cl front ss rest c x d e p free = complete f (and_true _ _ cl).0 front ss rest (owing w c) x d e p free
      complete (fresh w f) cl front ss rest c x d e p free = complete f cl front ss rest (from_zero w c) x d e p free
      complete (made h f) cl front ss rest c x d e p free = ap (λ r. r >>= λ y. Ok (h y.0, y.1)) (complete f cl front ss rest c p.0 d e p.2 free) ∙ ap (λ y. done y rest d) (sym p.1)

  complete_rule : (n : ℕ) (r : L.Rule) (front ss rest : List L.Symbol) (c : State L) (x : L.Meaning r) (d : State L) → ss ≡ front ++ rest → SpellsRule G lim n r front c x d → Free L (R.may_go_on r) rest → rule_at G lim n r ss c ≡ done x rest d
  unfolding rule_at
  complete_rule zero r front ss rest c x d e p free = absurd p
  complete_rule (suc n) r front ss rest c x d e p free =
      complete n (complete_rule n) (G r) (fair.rule_clear r) front ss rest c x d e p
      (free_weaker L (R.may_go_on r) (goes_on R (G r)) rest
      (λ k h. implied_not (goes_on R (G r) k) (R.may_go_on r k) (of_agrees (goes_on R (G r)) (R.may_go_on r) (fair.rule_goes_on r) k) h) free)

  -- What is spelled is read, whatever comes after it that doesn't go on with it.
  pub spelled_read : {a : Type 0} (n : ℕ) (f : Form L a) → clear R f ≡ true → (front rest : List L.Symbol) (c : State L) (x : a) (d : State L) → Spells lim n (SpellsRule G lim n) f front c x d → Free L (goes_on R f) rest → read G lim n f (front ++ rest) c ≡ done x rest d
  spelled_read n f cl front rest c x d p free = complete n (complete_rule n) f cl front (front ++ rest) rest c x d refl p free
