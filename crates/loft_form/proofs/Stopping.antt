-- Reading stops where the list stops to be of the form, and only there.
use Rattle.std.proofs.Common.{◌≡◌, ℕ, zero, suc, ◌+◌, ◌<◌, ◌≤◌, Bool, true, false, cond, nat_le, ◌==◌, ◌&&◌, List, [], ◌∷◌, length, Option, Some, None, Result, Ok, Err, refl, sym, ap, subst, ◌∙◌, arith, inl, inr}
use Rattle.std.proofs.lemmas.Bool.{leb-false, leb-true, lt-leb, le-leb}
use Rattle.loft_form.specs.declared.fault.Fault.{Fault}
use Rattle.loft_form.specs.declared.fault.Fault.TheVariants.{Expected, TooDeep, TooMany}
use Rattle.loft_form.specs.Form.{Language, Form, leaf, ◌▹◌, ◌∣◌, maybe, many, inside, counted, fresh, made, Grammar, Limits, State, begins, next_begins}
use Rattle.loft_form.specs.Spells.{Below, Adds, owing, from_zero}
use Rattle.loft_form.specs.Reading.{Place, Read, ◌>>=◌, done, with_first, within, tally, paid, allowed, leaf_at, repeat, rule_at, read}
use Rattle.loft_form.specs.Stops.{Passed, Passes, Taking, Stopping, TakesOne, StopsOne, TakesTimes, StopsAfter, Takes, Stops, TakesRule, StopsRule}
use Rattle.loft_form.proofs.Progress.{Leaves, weaker, least, many_more, many_done, read_leaves}
use Rattle.loft_form.proofs.Disjoint.{Known, and_true, or_false, leading, clear, apart, Fair}
use Rattle.loft_form.proofs.Complete.{leaf_ok, leading_least, of_apart}

-- what is read is taken, and a fault is a stop
abbrev pub Runs : {L : Language} {A : Type 0} → Taking L → Stopping L → List L.Symbol → State L → Read L A → Type 0
Runs T S ss c (Ok x) = T ss c x.1.rest x.1.state
Runs T S ss c (Err e) = S ss c e

one_more : (n : ℕ) → n + 1 ≡ suc n
one_more n = omega arith

-- what is counted is within the limits, or passes one
Counted_is : {L : Language} → Limits L → ℕ → List L.Counted → L.Counts → Result L.Counts Fault → Type 0
Counted_is {L} lim left ws c (Ok d) = Adds lim ws c d
Counted_is lim left ws c (Err e) = (limit : ℕ) × Passes lim ws c limit × (e ≡ TooMany left limit)

module _ {L : Language} where
  runs_cond : {A : Type 0} (T : Taking L) (S : Stopping L) (ss : List L.Symbol) (c : State L) (b : Bool) (x y : Read L A) → (b ≡ true → Runs T S ss c x) → (b ≡ false → Runs T S ss c y) → Runs T S ss c (cond b x y)
  runs_cond T S ss c true x y p q = p refl
  runs_cond T S ss c false x y p q = q refl

  -- the same of another state, or of forms that take and stop alike
  runs_weaker : {A : Type 0} (T U : Taking L) (S V : Stopping L) (ss : List L.Symbol) (c b : State L) (r : Read L A) → ((rest : List L.Symbol) (d : State L) → T ss c rest d → U ss b rest d) → ((e : Fault) → S ss c e → V ss b e) → Runs T S ss c r → Runs U V ss b r
  runs_weaker T U S V ss c b (Ok x) p q h = p x.1.rest x.1.state h
  runs_weaker T U S V ss c b (Err e) p q h = q e h

  runs_made : {A B : Type 0} (T : Taking L) (S : Stopping L) (h : A → B) (ss : List L.Symbol) (c : State L) (r : Read L A) → Runs T S ss c r → Runs T S ss c (r >>= λ x. Ok (h x.0, x.1))
  runs_made T S h ss c (Ok x) p = p
  runs_made T S h ss c (Err e) p = p

  runs_bind : {A B : Type 0} (T U : Taking L) (S V : Stopping L) (ss : List L.Symbol) (c : State L) (r : Read L A) (k : A × Place L → Read L B)
      → Runs T S ss c r → ((e : Fault) → S ss c e → V ss c e) → ((x : A × Place L) → T ss c x.1.rest x.1.state → Runs U V ss c (k x)) → Runs U V ss c (r >>= k)
  runs_bind T U S V ss c (Ok x) k p q h = h x p
  runs_bind T U S V ss c (Err e) k p q h = q e p

  counted_more : (lim : Limits L) (left : ℕ) (w : L.Counted) (ws : List L.Counted) (c : L.Counts) (r : Result L.Counts Fault) → Below (lim.most w) (L.number w c) → Counted_is lim left ws (L.more w c) r → Counted_is lim left (w ∷ ws) c r
  unfolding Counted_is
  counted_more lim left w ws c (Ok d) b h = (b, h)
  counted_more lim left w ws c (Err e) b h = (h.0, inr (b, h.1), h.2)

  counted_first : (lim : Limits L) (left : ℕ) (w : L.Counted) (ws : List L.Counted) (c : L.Counts) (next : Result L.Counts Fault) → Counted_is lim left ws (L.more w c) next
      → (o : Option ℕ) → lim.most w ≡ o → Counted_is lim left (w ∷ ws) c (within o (L.number w c) left next)
  unfolding Counted_is
  counted_first lim left w ws c next h None m = counted_more lim left w ws c next (subst (λ (o : Option ℕ). Below o (L.number w c)) (sym m) tt) h
  counted_first lim left w ws c next h (Some limit) m = test (nat_le limit (L.number w c)) refl
    where
      test : (b : Bool) → nat_le limit (L.number w c) ≡ b → Counted_is lim left (w ∷ ws) c (cond b (Err (TooMany left limit)) next)
      test true e = (limit, inl (subst (λ (o : Option ℕ). Passed o (L.number w c) limit) (sym m) (leb-true limit (L.number w c) e, refl)), refl)
      test false e = counted_more lim left w ws c next (subst (λ (o : Option ℕ). Below o (L.number w c)) (sym m) (leb-false limit (L.number w c) e)) h

  counted_is : (lim : Limits L) (left : ℕ) (ws : List L.Counted) (c : L.Counts) → Counted_is lim left ws c (tally lim left ws c)
  unfolding Counted_is
  counted_is lim left [] c = refl
  counted_is lim left (w ∷ ws) c = counted_first lim left w ws c (tally lim left ws (L.more w c)) (counted_is lim left ws (L.more w c)) (lim.most w) refl

  runs_counted : {A : Type 0} (lim : Limits L) (test : L.Kind → Bool) (x : A) (too_deep : Bool) (s : L.Symbol) (ss : List L.Symbol) (c : State L) → test (L.kind s) ≡ true → too_deep ≡ false → (r : Result L.Counts Fault) → Counted_is lim (length ss + 1) c.due c.counts r
      → Runs (TakesOne lim test too_deep) (StopsOne lim test too_deep) (s ∷ ss) c (r >>= λ after. done x ss (paid after))
  unfolding Counted_is
  runs_counted lim test x too_deep s ss c ok e (Ok d) h = (s, refl, ok, e, (h, refl))
  runs_counted lim test x too_deep s ss c ok e (Err f) h = inr (inr (h.0, ok, e, h.1, h.2 ∙ ap (λ k. TooMany k h.0) (one_more (length ss))))

  runs_leaf : {A : Type 0} (lim : Limits L) (too_deep : Bool) (test : L.Kind → Bool) (value : L.Symbol → A) (ss : List L.Symbol) (c : State L) → Runs (TakesOne lim test too_deep) (StopsOne lim test too_deep) ss c (leaf_at lim too_deep test value ss c)
  unfolding leaf_at
  runs_leaf lim too_deep test value [] c = refl
  runs_leaf lim too_deep test value (s ∷ ss) c =
      runs_cond (TakesOne lim test too_deep) (StopsOne lim test too_deep) (s ∷ ss) c (test (L.kind s)) _ _
      (λ ok. runs_cond (TakesOne lim test too_deep) (StopsOne lim test too_deep) (s ∷ ss) c too_deep _ _
      (λ e. inr (inl (ok, e, ap (λ k. TooDeep k) (one_more (length ss)))))
      (λ e. runs_counted lim test (value s) too_deep s ss c ok e (tally lim (length ss + 1) c.due c.counts) (counted_is lim (length ss + 1) c.due c.counts)))
      (λ e. inl (e, ap (λ k. Expected k) (one_more (length ss))))

  -- ---- a repetition

  module _ {A : Type 0} (next : List L.Symbol → Bool) (one : List L.Symbol → State L → Read L A) (T : Taking L) (S : Stopping L)
      (runs_one : (ss : List L.Symbol) (c : State L) → Runs T S ss c (one ss c)) (eats : (ss : List L.Symbol) (c : State L) → Leaves 1 (length ss) (one ss c)) (ends : next [] ≡ false) where
    Times : Taking L
    Times ss c rest d = (k : ℕ) × TakesTimes next T k ss c rest d

    After : Stopping L
    After ss c e = (k : ℕ) × StopsAfter next T S k ss c e

    runs_first : (x : A) (ss : List L.Symbol) (c : State L) (mid : List L.Symbol) (m : State L) (r : Read L (List A)) → next ss ≡ true → T ss c mid m
        → Runs Times After mid m r → Runs Times After ss c (with_first x r)
    unfolding Times After
    runs_first x ss c mid m (Ok y) e t h = (suc h.0, (e, mid, m, t, h.1))
    runs_first x ss c mid m (Err f) e t h = (suc h.0, (e, mid, m, t, h.1))

    runs_step : (k : ℕ) (ss : List L.Symbol) (c : State L) → length ss ≤ suc k → next ss ≡ true → ((ts : List L.Symbol) (m : State L) → length ts ≤ k → Runs Times After ts m (repeat k next one ts m))
        → (r : Read L A) → Runs T S ss c r → Leaves 1 (length ss) r → Runs Times After ss c (r >>= λ x. with_first x.0 (repeat k next one x.1.rest x.1.state))
    unfolding Times After
    runs_step k ss c short e again (Ok x) t l = runs_first x.0 ss c x.1.rest x.1.state (repeat k next one x.1.rest x.1.state) e t (again x.1.rest x.1.state (omega arith))
    runs_step k ss c short e again (Err f) t l = (0, (e, t))

    runs_repeat : (k : ℕ) (ss : List L.Symbol) (c : State L) → length ss ≤ k → Runs Times After ss c (repeat k next one ss c)
    unfolding repeat Times After
    runs_repeat zero [] c short = (0, (ends, refl, refl))
    runs_repeat zero (s ∷ ss) c short = absurd (omega arith)
    runs_repeat (suc k) ss c short =
        runs_cond Times After ss c (next ss) _ _
        (λ e. runs_step k ss c short e (runs_repeat k) (one ss c) (runs_one ss c) (eats ss c))
        (λ e. (0, (e, refl, refl)))

    repeat_runs : (ss : List L.Symbol) (c : State L) → Runs (λ ts m rest d. (k : ℕ) × TakesTimes next T k ts m rest d) (λ ts m e. (k : ℕ) × StopsAfter next T S k ts m e) ss c (repeat (length ss) next one ss c)
    unfolding Times After
    repeat_runs ss c = runs_repeat (length ss) ss c (omega arith)

  neither : {a : Type 0} (f g : Form L a) (ss : List L.Symbol) → next_begins (f ∣ g) ss ≡ false → (next_begins f ss ≡ false) × (next_begins g ss ≡ false)
  neither f g [] e = (refl, refl)
  neither f g (s ∷ ss) e = or_false (begins f (L.kind s)) (begins g (L.kind s)) e

  next_then : {a b : Type 0} (f : Form L a) (g : Form L b) (ss : List L.Symbol) → next_begins (f ▹ g) ss ≡ next_begins f ss
  next_then f g [] = refl
  next_then f g (s ∷ ss) = refl

  next_counted : {a : Type 0} (w : L.Counted) (f : Form L a) (ss : List L.Symbol) → next_begins (counted w f) ss ≡ next_begins f ss
  next_counted w f [] = refl
  next_counted w f (s ∷ ss) = refl

  next_fresh : {a : Type 0} (w : L.Counted) (f : Form L a) (ss : List L.Symbol) → next_begins (fresh w f) ss ≡ next_begins f ss
  next_fresh w f [] = refl
  next_fresh w f (s ∷ ss) = refl

  next_made : {a : Type 0} (b : Type 0) (h : a → b) (f : Form L a) (ss : List L.Symbol) → next_begins (made h f) ss ≡ next_begins f ss
  next_made b h f [] = refl
  next_made b h f (s ∷ ss) = refl

-- ---- a form that the next symbol doesn't begin

not_begun_leaf : {L : Language} {A : Type 0} (lim : Limits L) (too_deep : Bool) (test : L.Kind → Bool) (value : L.Symbol → A) (opens : Bool) (ss : List L.Symbol) (c : State L) → next_begins {L = L} (leaf test value opens) ss ≡ false → leaf_at lim too_deep test value ss c ≡ Err (Expected (length ss))
unfolding leaf_at
not_begun_leaf lim too_deep test value opens [] c e = refl
not_begun_leaf lim too_deep test value opens (s ∷ ss) c e = rw (e, one_more (length ss)) refl

module _ {L : Language} (G : Grammar L) (lim : Limits L) where
  not_begun : {a : Type 0} (n : ℕ) (f : Form L a) (ss : List L.Symbol) (c : State L) → leading f ≡ true → next_begins f ss ≡ false → read G lim n f ss c ≡ Err (Expected (length ss))
  not_begun n (leaf test value opens) ss c ld e = not_begun_leaf lim (opens && n == 0) test value opens ss c e
  not_begun n (f ▹ g) ss c ld e = ap (λ r. r >>= λ x. read G lim n g x.1.rest x.1.state >>= λ y. Ok ((x.0, y.0), y.1)) (not_begun n f ss c ld (sym (next_then f g ss) ∙ e))
  not_begun n (f ∣ g) ss c ld e = let p = neither f g ss e in rw p.0 (not_begun n g ss c (and_true _ _ ld).1 p.1)
  not_begun n (maybe f) ss c ld e = absurd cc
  not_begun n (many f) ss c ld e = absurd cc
  not_begun n (inside r) ss c ld e = absurd cc
  not_begun n (counted w f) ss c ld e = not_begun n f ss (owing w c) ld (sym (next_counted w f ss) ∙ e)
  not_begun n (fresh w f) ss c ld e = not_begun n f ss (from_zero w c) ld (sym (next_fresh w f ss) ∙ e)
  not_begun n (made h f) ss c ld e = ap (λ r. r >>= λ x. Ok (h x.0, x.1)) (not_begun n f ss c ld (sym (next_made _ h f ss) ∙ e))

-- ---- every form

module _ {L : Language} (G : Grammar L) (R : Known L) (fair : Fair G R) (lim : Limits L) where
  module _ (n : ℕ) where
    abbrev T : {a : Type 0} → Form L a → Taking L
    T f = Takes lim n (TakesRule G lim n) f

    abbrev S : {a : Type 0} → Form L a → Stopping L
    S f = Stops lim n (TakesRule G lim n) (StopsRule G lim n) f

    runs_choice : {a : Type 0} (f g : Form L a) → leading g ≡ true → (ss : List L.Symbol) (c : State L) → next_begins f ss ≡ false → Runs (T g) (S g) ss c (read G lim n g ss c)
        → (b : Bool) → next_begins g ss ≡ b → Runs (T (f ∣ g)) (S (f ∣ g)) ss c (read G lim n g ss c)
    runs_choice f g ld ss c e h true k = runs_weaker (T g) (T (f ∣ g)) (S g) (S (f ∣ g)) ss c c (read G lim n g ss c) (λ rest d t. inr (k, t)) (λ x s. inr (inl (k, s))) h
    runs_choice f g ld ss c e h false k = subst (λ r. Runs (T (f ∣ g)) (S (f ∣ g)) ss c r) (sym (not_begun G lim n g ss c ld k)) (inr (inr (e, k, refl)))

    runs_after : {a b : Type 0} (f : Form L a) (g : Form L b) (ss : List L.Symbol) (c : State L) (mid : List L.Symbol) (m : State L) (r : Read L b) → T f ss c mid m → Runs (T g) (S g) mid m r → Runs (T (f ▹ g)) (S (f ▹ g)) ss c r
    runs_after f g ss c mid m (Ok y) t h = (mid, m, t, h)
    runs_after f g ss c mid m (Err e) t h = inr (mid, m, t, h)

    leaves_one : {a : Type 0} (f : Form L a) → 0 < least f → (ss : List L.Symbol) (c : State L) → Leaves 1 (length ss) (read G lim n f ss c)
    leaves_one f h ss c = weaker (read G lim n f ss c) 1 (least f) (length ss) (length ss) (omega arith) (read_leaves G lim n f ss c)

    module _ (runs_rule : (r : L.Rule) (ss : List L.Symbol) (c : State L) → Runs (TakesRule G lim n r) (StopsRule G lim n r) ss c (rule_at G lim n r ss c)) where
      runs : {a : Type 0} (f : Form L a) → clear R f ≡ true → (ss : List L.Symbol) (c : State L) → Runs (T f) (S f) ss c (read G lim n f ss c)
      runs (leaf test value opens) cl ss c = runs_leaf lim (opens && n == 0) test value ss c
      runs (f ▹ g) cl ss c =
          let l = and_true _ _ cl in
          runs_bind (T f) (T (f ▹ g)) (S f) (S (f ▹ g)) ss c (read G lim n f ss c) _ (runs f l.0 ss c) (λ e s. inl s)
          (λ x t. runs_made (T (f ▹ g)) (S (f ▹ g)) (λ y. (x.0, y)) ss c (read G lim n g x.1.rest x.1.state)
          (runs_after f g ss c x.1.rest x.1.state (read G lim n g x.1.rest x.1.state) t (runs g (and_true _ _ l.1).0 x.1.rest x.1.state)))
      runs (f ∣ g) cl ss c =
          let l = and_true _ _ cl in
          let r = and_true _ _ l.1 in
          runs_cond (T (f ∣ g)) (S (f ∣ g)) ss c (next_begins f ss) _ _
          (λ e. runs_weaker (T f) (T (f ∣ g)) (S f) (S (f ∣ g)) ss c c (read G lim n f ss c) (λ rest d t. inl (e, t)) (λ x s. inl (e, s)) (runs f l.0 ss c))
          (λ e. runs_choice f g (and_true _ _ (and_true _ _ r.1).1).0 ss c e (runs g r.0 ss c) (next_begins g ss) refl)
      runs (maybe f) cl ss c =
          let l = and_true _ _ cl in
          runs_cond (T (maybe f)) (S (maybe f)) ss c (next_begins f ss) _ _
          (λ e. runs_made (T (maybe f)) (S (maybe f)) (λ x. Some x) ss c (read G lim n f ss c) (runs_weaker (T f) (T (maybe f)) (S f) (S (maybe f)) ss c c (read G lim n f ss c) (λ rest d t. inl (e, t)) (λ x s. (e, s)) (runs f l.0 ss c)))
          (λ e. inr (e, refl, refl))
      runs (many f) cl ss c =
          let l = and_true _ _ cl in
          repeat_runs (next_begins f) (read G lim n f) (T f) (S f) (runs f l.0) (λ ts m. leaves_one f (leading_least f (and_true _ _ l.1).0) ts m) refl ss c
      runs (inside r) cl ss c = runs_rule r ss c
      runs (counted w f) cl ss c = runs_weaker (T f) (T (counted w f)) (S f) (S (counted w f)) ss (owing w c) c (read G lim n f ss (owing w c)) (λ rest d t. t) (λ x s. s) (runs f (and_true _ _ cl).0 ss (owing w c))
      runs (fresh w f) cl ss c = runs_weaker (T f) (T (fresh w f)) (S f) (S (fresh w f)) ss (from_zero w c) c (read G lim n f ss (from_zero w c)) (λ rest d t. t) (λ x s. s) (runs f cl ss (from_zero w c))
      runs (made h f) cl ss c = runs_made (T (made h f)) (S (made h f)) h ss c (read G lim n f ss c) (runs_weaker (T f) (T (made h f)) (S f) (S (made h f)) ss c c (read G lim n f ss c) (λ rest d t. t) (λ x s. s) (runs f cl ss c))

  runs_down : (n : ℕ) (r : L.Rule) (ss : List L.Symbol) (c : State L) (x : Read L (L.Meaning r)) → Runs (T n (G r)) (S n (G r)) ss c x → Runs (TakesRule G lim (suc n) r) (StopsRule G lim (suc n) r) ss c x
  runs_down n r ss c (Ok x) h = h
  runs_down n r ss c (Err e) h = h

  runs_rule : (n : ℕ) (r : L.Rule) (ss : List L.Symbol) (c : State L) → Runs (TakesRule G lim n r) (StopsRule G lim n r) ss c (rule_at G lim n r ss c)
  unfolding rule_at
  runs_rule zero r ss c = refl
  runs_rule (suc n) r ss c = runs_down n r ss c (read G lim n (G r) ss c) (runs n (runs_rule n) (G r) (fair.rule_clear r) ss c)

  -- ---- what is taken is read, and a stop is a fault

  count_no : (left : ℕ) (ws : List L.Counted) (c : L.Counts) (limit : ℕ) → Passes lim ws c limit → tally lim left ws c ≡ Err (TooMany left limit)
  count_no left [] c limit p = absurd p
  count_no left (w ∷ ws) c limit (inl p) = go (lim.most w) p
    where
      go : (o : Option ℕ) → Passed o (L.number w c) limit → within o (L.number w c) left (tally lim left ws (L.more w c)) ≡ Err (TooMany left limit)
      go None p = absurd p
      go (Some most) p = let e = le-leb most (L.number w c) p.0 in rw (e, p.1) refl
  count_no left (w ∷ ws) c limit (inr p) = go (lim.most w) p.0 ∙ count_no left ws (L.more w c) limit p.1
    where
      go : (o : Option ℕ) → Below o (L.number w c) → within o (L.number w c) left (tally lim left ws (L.more w c)) ≡ tally lim left ws (L.more w c)
      go None b = refl
      go (Some most) b = let e = lt-leb most (L.number w c) b in rw e refl

  allowed_stops : {A : Type 0} (test : L.Kind → Bool) (x : A) (too_deep : Bool) (s : L.Symbol) (ss : List L.Symbol) (c : State L) (e : Fault) → test (L.kind s) ≡ true → StopsOne lim test too_deep (s ∷ ss) c e → allowed lim x too_deep ss c ≡ Err e
  allowed_stops test x too_deep s ss c e ok (inl p) = absurd (let h = sym ok ∙ p.0 in cc)
  allowed_stops test x too_deep s ss c e ok (inr (inl p)) = rw (p.1, one_more (length ss)) (ap (λ (f : Fault). Err f) (sym p.2))
  allowed_stops test x too_deep s ss c e ok (inr (inr p)) = rw (p.2, one_more (length ss), count_no (suc (length ss)) c.due c.counts p.0 p.3) (ap (λ (f : Fault). Err f) (sym p.4))

  other_stops : (test : L.Kind → Bool) (too_deep : Bool) (s : L.Symbol) (ss : List L.Symbol) (c : State L) (e : Fault) → test (L.kind s) ≡ false → StopsOne lim test too_deep (s ∷ ss) c e → e ≡ Expected (suc (length ss))
  other_stops test too_deep s ss c e other (inl p) = p.1
  other_stops test too_deep s ss c e other (inr (inl p)) = absurd (let h = sym other ∙ p.0 in cc)
  other_stops test too_deep s ss c e other (inr (inr p)) = absurd (let h = sym other ∙ p.1 in cc)

  leaf_stops : {A : Type 0} (too_deep : Bool) (test : L.Kind → Bool) (value : L.Symbol → A) (ss : List L.Symbol) (c : State L) (e : Fault) → StopsOne lim test too_deep ss c e → leaf_at lim too_deep test value ss c ≡ Err e
  unfolding leaf_at
  leaf_stops too_deep test value [] c e p = ap (λ (f : Fault). Err f) (sym p)
  leaf_stops too_deep test value (s ∷ ss) c e p = go (test (L.kind s)) refl
    where
      go : (b : Bool) → test (L.kind s) ≡ b → leaf_at lim too_deep test value (s ∷ ss) c ≡ Err e
      go true h = rw h (allowed_stops test (value s) too_deep s ss c e h p)
      go false h = rw (h, one_more (length ss)) (ap (λ (f : Fault). Err f) (sym (other_stops test too_deep s ss c e h p)))

  choice_clear : {a : Type 0} (f g : Form L a) → clear R (f ∣ g) ≡ true → (clear R f ≡ true) × (clear R g ≡ true) × (leading f ≡ true) × (leading g ≡ true) × (apart R (begins f) (begins g) ≡ true)
  choice_clear f g cl =
      let l = and_true (clear R f) (clear R g && (leading f && (leading g && apart R (begins f) (begins g)))) cl in
      let r = and_true (clear R g) (leading f && (leading g && apart R (begins f) (begins g))) l.1 in
      let t = and_true (leading f) (leading g && apart R (begins f) (begins g)) r.1 in
      let u = and_true (leading g) (apart R (begins f) (begins g)) t.1 in
      (l.0, r.0, t.0, u.0, u.1)

  -- the other side of a choice isn't begun
  other_side : {a : Type 0} (f g : Form L a) → apart R (begins f) (begins g) ≡ true → (ss : List L.Symbol) → next_begins g ss ≡ true → next_begins f ss ≡ false
  other_side f g ap' [] e = absurd cc
  other_side f g ap' (s ∷ ss) e = of_apart G R fair lim (begins f) (begins g) ap' (L.kind s) e

  module _ (n : ℕ) (takes_rule : (r : L.Rule) (ss : List L.Symbol) (c : State L) (rest : List L.Symbol) (d : State L) → TakesRule G lim n r ss c rest d → (x : L.Meaning r) × (rule_at G lim n r ss c ≡ done x rest d)) where
    times_read : {a : Type 0} (f : Form L a) → 0 < least f → ((ss : List L.Symbol) (c : State L) (rest : List L.Symbol) (d : State L) → T n f ss c rest d → (x : a) × (read G lim n f ss c ≡ done x rest d))
        → (k : ℕ) (ss : List L.Symbol) (c : State L) (rest : List L.Symbol) (d : State L) → TakesTimes (next_begins f) (T n f) k ss c rest d → (xs : List a) × (read G lim n (many f) ss c ≡ done xs rest d)
    times_read f h one zero ss c rest d p = ([], many_done G lim n f ss c h p.0 ∙ rw (p.1, p.2) refl)
    times_read f h one (suc k) ss c rest d (e, mid, m, t, p) =
        let x = one ss c mid m t in
        let xs = times_read f h one k mid m rest d p in
        (x.0 ∷ xs.0, many_more G lim n f ss c h e ∙ ap (λ r. r >>= λ y. with_first y.0 (read G lim n (many f) y.1.rest y.1.state)) x.1 ∙ ap (with_first x.0) xs.1)

    takes_read : {a : Type 0} (f : Form L a) → clear R f ≡ true → (ss : List L.Symbol) (c : State L) (rest : List L.Symbol) (d : State L) → T n f ss c rest d → (x : a) × (read G lim n f ss c ≡ done x rest d)
    takes_read (leaf test value opens) cl ss c rest d (s, e, f, g, h) = (value s, ap (λ t. leaf_at lim (opens && n == 0) test value t c) e ∙ leaf_ok lim (opens && n == 0) test value s rest c d f g h)
    takes_read (f ▹ g) cl ss c rest d (mid, m, p, q) =
        let l = and_true _ _ cl in
        let x = takes_read f l.0 ss c mid m p in
        let y = takes_read g (and_true _ _ l.1).0 mid m rest d q in
        ((x.0, y.0), ap (λ r. r >>= λ x. read G lim n g x.1.rest x.1.state >>= λ y. Ok ((x.0, y.0), y.1)) x.1 ∙ ap (λ r. r >>= λ z. Ok ((x.0, z.0), z.1)) y.1)
    takes_read (f ∣ g) cl ss c rest d (inl p) =
        let x = takes_read f (and_true _ _ cl).0 ss c rest d p.1 in
        (x.0, rw p.0 x.1)
    takes_read (f ∣ g) cl ss c rest d (inr p) =
        let l = choice_clear f g cl in
        let x = takes_read g l.1 ss c rest d p.1 in
        (x.0, rw (other_side f g l.4 ss p.0) x.1)
    takes_read (maybe f) cl ss c rest d (inl p) =
        let x = takes_read f (and_true _ _ cl).0 ss c rest d p.1 in
        (Some x.0, rw p.0 (ap (λ r. r >>= λ y. Ok (Some y.0, y.1)) x.1))
    takes_read (maybe f) cl ss c rest d (inr p) = (None, rw (p.0, p.1, p.2) refl)
    takes_read (many f) cl ss c rest d (k, p) =
        let l = and_true _ _ cl in
        times_read f (leading_least f (and_true _ _ l.1).0) (takes_read f l.0) k ss c rest d p
    takes_read (inside r) cl ss c rest d p = takes_rule r ss c rest d p
    takes_read (counted w f) cl ss c rest d p = takes_read f (and_true _ _ cl).0 ss (owing w c) rest d p
    takes_read (fresh w f) cl ss c rest d p = takes_read f cl ss (from_zero w c) rest d p
    takes_read (made h f) cl ss c rest d p = let x = takes_read f cl ss c rest d p in (h x.0, ap (λ r. r >>= λ y. Ok (h y.0, y.1)) x.1)

    module _ (stops_rule : (r : L.Rule) (ss : List L.Symbol) (c : State L) (e : Fault) → StopsRule G lim n r ss c e → rule_at G lim n r ss c ≡ Err e) where
      after_read : {a : Type 0} (f : Form L a) → clear R f ≡ true → 0 < least f → ((ss : List L.Symbol) (c : State L) (e : Fault) → S n f ss c e → read G lim n f ss c ≡ Err e)
          → (k : ℕ) (ss : List L.Symbol) (c : State L) (e : Fault) → StopsAfter (next_begins f) (T n f) (S n f) k ss c e → read G lim n (many f) ss c ≡ Err e
      after_read f cl h one zero ss c e p = many_more G lim n f ss c h p.0 ∙ ap (λ r. r >>= λ y. with_first y.0 (read G lim n (many f) y.1.rest y.1.state)) (one ss c e p.1)
      after_read f cl h one (suc k) ss c e (b, mid, m, t, p) =
          let x = takes_read f cl ss c mid m t in
          many_more G lim n f ss c h b ∙ ap (λ r. r >>= λ y. with_first y.0 (read G lim n (many f) y.1.rest y.1.state)) x.1 ∙ ap (with_first x.0) (after_read f cl h one k mid m e p)

      stops_read : {a : Type 0} (f : Form L a) → clear R f ≡ true → (ss : List L.Symbol) (c : State L) (e : Fault) → S n f ss c e → read G lim n f ss c ≡ Err e
      stops_read (leaf test value opens) cl ss c e p = leaf_stops (opens && n == 0) test value ss c e p
      stops_read (f ▹ g) cl ss c e (inl p) = ap (λ r. r >>= λ x. read G lim n g x.1.rest x.1.state >>= λ y. Ok ((x.0, y.0), y.1)) (stops_read f (and_true _ _ cl).0 ss c e p)
      stops_read (f ▹ g) cl ss c e (inr (mid, m, p, q)) =
          let l = and_true _ _ cl in
          let x = takes_read f l.0 ss c mid m p in
          ap (λ r. r >>= λ x. read G lim n g x.1.rest x.1.state >>= λ y. Ok ((x.0, y.0), y.1)) x.1 ∙ ap (λ r. r >>= λ z. Ok ((x.0, z.0), z.1)) (stops_read g (and_true _ _ l.1).0 mid m e q)
      stops_read (f ∣ g) cl ss c e (inl p) = rw p.0 (stops_read f (and_true _ _ cl).0 ss c e p.1)
      stops_read (f ∣ g) cl ss c e (inr (inl p)) =
          let l = choice_clear f g cl in
          rw (other_side f g l.4 ss p.0) (stops_read g l.1 ss c e p.1)
      stops_read (f ∣ g) cl ss c e (inr (inr p)) =
          let l = choice_clear f g cl in
          rw (p.0, p.2) (not_begun G lim n g ss c l.3 p.1)
      stops_read (maybe f) cl ss c e p = rw p.0 (ap (λ r. r >>= λ y. Ok (Some y.0, y.1)) (stops_read f (and_true _ _ cl).0 ss c e p.1))
      stops_read (many f) cl ss c e (k, p) =
          let l = and_true _ _ cl in
          after_read f l.0 (leading_least f (and_true _ _ l.1).0) (stops_read f l.0) k ss c e p
      stops_read (inside r) cl ss c e p = stops_rule r ss c e p
      stops_read (counted w f) cl ss c e p = stops_read f (and_true _ _ cl).0 ss (owing w c) e p
      stops_read (fresh w f) cl ss c e p = stops_read f cl ss (from_zero w c) e p
      stops_read (made h f) cl ss c e p = ap (λ r. r >>= λ y. Ok (h y.0, y.1)) (stops_read f cl ss c e p)

  takes_rule : (n : ℕ) (r : L.Rule) (ss : List L.Symbol) (c : State L) (rest : List L.Symbol) (d : State L) → TakesRule G lim n r ss c rest d → (x : L.Meaning r) × (rule_at G lim n r ss c ≡ done x rest d)
  unfolding rule_at
  takes_rule zero r ss c rest d p = absurd p
  takes_rule (suc n) r ss c rest d p = takes_read n (takes_rule n) (G r) (fair.rule_clear r) ss c rest d p

  stops_rule : (n : ℕ) (r : L.Rule) (ss : List L.Symbol) (c : State L) (e : Fault) → StopsRule G lim n r ss c e → rule_at G lim n r ss c ≡ Err e
  unfolding rule_at
  stops_rule zero r ss c e p = ap (λ (f : Fault). Err f) (sym p)
  stops_rule (suc n) r ss c e p = stops_read n (takes_rule n) (stops_rule n) (G r) (fair.rule_clear r) ss c e p

  -- Reading a form goes on as the form takes symbols and stops, both ways.
  pub read_runs : {a : Type 0} (n : ℕ) (f : Form L a) → clear R f ≡ true → (ss : List L.Symbol) (c : State L) → Runs (Takes lim n (TakesRule G lim n) f) (Stops lim n (TakesRule G lim n) (StopsRule G lim n) f) ss c (read G lim n f ss c)
  read_runs n f cl ss c = runs n (runs_rule n) f cl ss c

  pub taken_read : {a : Type 0} (n : ℕ) (f : Form L a) → clear R f ≡ true → (ss : List L.Symbol) (c : State L) (rest : List L.Symbol) (d : State L) → Takes lim n (TakesRule G lim n) f ss c rest d → (x : a) × (read G lim n f ss c ≡ done x rest d)
  taken_read n f cl ss c rest d p = takes_read n (takes_rule n) f cl ss c rest d p

  pub stopped_read : {a : Type 0} (n : ℕ) (f : Form L a) → clear R f ≡ true → (ss : List L.Symbol) (c : State L) (e : Fault) → Stops lim n (TakesRule G lim n) (StopsRule G lim n) f ss c e → read G lim n f ss c ≡ Err e
  stopped_read n f cl ss c e p = stops_read n (takes_rule n) (stops_rule n) f cl ss c e p
