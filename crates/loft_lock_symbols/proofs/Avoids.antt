-- A kind of symbol that no leaf of a form takes stands nowhere in what it spells.
use Rattle.std.proofs.Common.{◌≡◌, ℕ, zero, suc, Bool, true, false, ◌&&◌, not, inl, inr, List, [], ◌∷◌, ◌++◌, Some, None, refl, sym, ap, ◌∙◌, subst}
use Rattle.std.specs.Prelude.{◌⊎◌}
use Rattle.loft_tree.specs.Fits.{Each}
use Rattle.loft_form.specs.Form.{Language, Form, leaf, ◌▹◌, ◌∣◌, maybe, many, inside, counted, fresh, made, Grammar, Limits, State}
use Rattle.loft_form.specs.Spells.{owing, from_zero, Spelling, SpellsEach, Spells, SpellsRule}
use Rattle.loft_form.proofs.Disjoint.{and_true}

each_append : {A : Type 0} (P : A → Type 0) (xs ys : List A) → Each P xs → Each P ys → Each P (xs ++ ys)
each_append P [] ys f g = g
each_append P (x ∷ xs) ys f g = (f.0, each_append P xs ys f.1 g)

abbrev pub tail_of : {A : Type 0} → List A → List A
tail_of [] = []
tail_of (x ∷ xs) = xs

each_tail : {A : Type 0} (P : A → Type 0) (xs : List A) → Each P xs → Each P (tail_of xs)
each_tail P [] f = tt
each_tail P (x ∷ xs) f = f.1

tail_append : {A : Type 0} (P : A → Type 0) (xs ys : List A) → Each P (tail_of xs) → Each P ys → Each P (tail_of (xs ++ ys))
tail_append P [] ys f g = each_tail P ys g
tail_append P (x ∷ xs) ys f g = each_append P xs ys f g

abbrev pub HasNone : (L : Language) → L.Kind → List L.Symbol → Type 0
HasNone L k ss = Each (λ s. L.kind s ≡ k → ⊥) ss

none_of : (L : Language) (k : L.Kind) (xs ys : List L.Symbol) → HasNone L k xs → HasNone L k ys → HasNone L k (xs ++ ys)
none_of L k xs ys f g = each_append (λ s. L.kind s ≡ k → ⊥) xs ys f g

not_both : (b : Bool) → not b ≡ true → b ≡ true → ⊥
not_both true e f = cc
not_both false e f = cc

-- a list that is cut in two ways
cut_at : {A : Type 0} (xs ys zs : List A) (s : A) (ws : List A) → xs ++ ys ≡ zs ++ s ∷ ws
    → ((m : List A) × (zs ≡ xs ++ m) × (ys ≡ m ++ s ∷ ws)) ⊎ ((m : List A) × (xs ≡ zs ++ s ∷ m))
cut_at [] ys zs s ws e = inl (zs, refl, e)
cut_at (x ∷ xs) ys [] s ws e = inr (xs, let same : x ≡ s = cc in ap (λ y. y ∷ xs) same)
cut_at {A} (x ∷ xs) ys (z ∷ zs) s ws e = by (cut_at xs ys zs s ws (ap tail_of e)) (let same : x ≡ z = cc in same)
  where
    by : ((m : List A) × (zs ≡ xs ++ m) × (ys ≡ m ++ s ∷ ws)) ⊎ ((m : List A) × (xs ≡ zs ++ s ∷ m)) → x ≡ z
        → ((m : List A) × (z ∷ zs ≡ x ∷ (xs ++ m)) × (ys ≡ m ++ s ∷ ws)) ⊎ ((m : List A) × (x ∷ xs ≡ z ∷ (zs ++ s ∷ m)))
    by (inl (m, f, g)) same = inl (m, ap (λ l. z ∷ l) f ∙ ap (λ y. y ∷ (xs ++ m)) (sym same), g)
    by (inr (m, f)) same = inr (m, ap (λ l. x ∷ l) f ∙ ap (λ y. y ∷ (zs ++ s ∷ m)) same)

each_last : {A : Type 0} (P : A → Type 0) (xs : List A) (s : A) (ys : List A) → Each P (xs ++ s ∷ ys) → P s
each_last P [] s ys f = f.0
each_last P (x ∷ xs) s ys f = each_last P xs s ys f.1

module _ {L : Language} where
  -- no leaf takes the kind, apart from those of the rules inside
  abbrev pub avoids : {a : Type 0} → Form L a → L.Kind → Bool
  avoids (leaf test value opens) k = not (test k)
  avoids (f ▹ g) k = avoids f k && avoids g k
  avoids (f ∣ g) k = avoids f k && avoids g k
  avoids (maybe f) k = avoids f k
  avoids (many f) k = avoids f k
  avoids (inside r) k = true
  avoids (counted w f) k = avoids f k
  avoids (fresh w f) k = avoids f k
  avoids (made h f) k = avoids f k

  -- no leaf after the first symbol does
  abbrev pub tail_avoids : {a : Type 0} → Form L a → L.Kind → Bool
  tail_avoids (leaf test value opens) k = true
  tail_avoids (f ▹ g) k = tail_avoids f k && avoids g k
  tail_avoids (f ∣ g) k = tail_avoids f k && tail_avoids g k
  tail_avoids (maybe f) k = tail_avoids f k
  tail_avoids (many f) k = false
  tail_avoids (inside r) k = false
  tail_avoids (counted w f) k = tail_avoids f k
  tail_avoids (fresh w f) k = tail_avoids f k
  tail_avoids (made h f) k = tail_avoids f k

  module _ (lim : Limits L) (n : ℕ) (Inner : (r : L.Rule) → Spelling L (L.Meaning r)) (k : L.Kind)
      (inner : (r : L.Rule) (ss : List L.Symbol) (c : State L) (x : L.Meaning r) (d : State L) → Inner r ss c x d → HasNone L k ss) where
    each_avoids : {a : Type 0} (f : Form L a) → ((ss : List L.Symbol) (c : State L) (x : a) (d : State L) → Spells lim n Inner f ss c x d → HasNone L k ss)
        → (ss : List L.Symbol) (c : State L) (xs : List a) (d : State L) → SpellsEach (Spells lim n Inner f) ss c xs d → HasNone L k ss
    each_avoids f one ss c [] d p = subst (HasNone L k) (sym p.0) tt
    each_avoids f one ss c (x ∷ xs) d (front, back, b, e, p, q) = subst (HasNone L k) (sym e) (none_of L k front back (one front c x b p) (each_avoids f one back b xs d q))

    pub spelled_avoids : {a : Type 0} (f : Form L a) → avoids f k ≡ true → (ss : List L.Symbol) (c : State L) (x : a) (d : State L) → Spells lim n Inner f ss c x d → HasNone L k ss
    spelled_avoids (leaf test value opens) e ss c x d (s, is, passes, v, deep, pays) = subst (HasNone L k) (sym is) (λ same. not_both (test k) e (subst (λ j. test j ≡ true) same passes), tt)
    spelled_avoids (f ▹ g) e ss c x d (front, back, b, is, p, q) =
        let l = and_true _ _ e in
        subst (HasNone L k) (sym is) (none_of L k front back (spelled_avoids f l.0 front c x.0 b p) (spelled_avoids g l.1 back b x.1 d q))
    spelled_avoids (f ∣ g) e ss c x d (inl p) = spelled_avoids f (and_true _ _ e).0 ss c x d p
    spelled_avoids (f ∣ g) e ss c x d (inr p) = spelled_avoids g (and_true _ _ e).1 ss c x d p
    spelled_avoids (maybe f) e ss c None d p = subst (HasNone L k) (sym p.0) tt
    spelled_avoids (maybe f) e ss c (Some x) d p = spelled_avoids f e ss c x d p
    spelled_avoids (many f) e ss c xs d p = each_avoids f (spelled_avoids f e) ss c xs d p
    spelled_avoids (inside r) e ss c x d p = inner r ss c x d p
    spelled_avoids (counted w f) e ss c x d p = spelled_avoids f e ss (owing w c) x d p
    spelled_avoids (fresh w f) e ss c x d p = spelled_avoids f e ss (from_zero w c) x d p
    spelled_avoids (made h f) e ss c x d p = spelled_avoids f e ss c p.0 d p.2

    pub spelled_tail : {a : Type 0} (f : Form L a) → tail_avoids f k ≡ true → (ss : List L.Symbol) (c : State L) (x : a) (d : State L) → Spells lim n Inner f ss c x d → HasNone L k (tail_of ss)
    spelled_tail (leaf test value opens) e ss c x d (s, is, passes, v, deep, pays) = subst (λ l. HasNone L k (tail_of l)) (sym is) tt
    spelled_tail (f ▹ g) e ss c x d (front, back, b, is, p, q) =
        let l = and_true _ _ e in
        subst (λ t. HasNone L k (tail_of t)) (sym is) (tail_append (λ s. L.kind s ≡ k → ⊥) front back (spelled_tail f l.0 front c x.0 b p) (spelled_avoids g l.1 back b x.1 d q))
    spelled_tail (f ∣ g) e ss c x d (inl p) = spelled_tail f (and_true _ _ e).0 ss c x d p
    spelled_tail (f ∣ g) e ss c x d (inr p) = spelled_tail g (and_true _ _ e).1 ss c x d p
    spelled_tail (maybe f) e ss c None d p = subst (λ l. HasNone L k (tail_of l)) (sym p.0) tt
    spelled_tail (maybe f) e ss c (Some x) d p = spelled_tail f e ss c x d p
    spelled_tail (many f) e ss c xs d p = absurd cc
    spelled_tail (inside r) e ss c x d p = absurd cc
    spelled_tail (counted w f) e ss c x d p = spelled_tail f e ss (owing w c) x d p
    spelled_tail (fresh w f) e ss c x d p = spelled_tail f e ss (from_zero w c) x d p
    spelled_tail (made h f) e ss c x d p = spelled_tail f e ss c p.0 d p.2

  pub rule_avoids : (G : Grammar L) (lim : Limits L) (k : L.Kind) → ((r : L.Rule) → avoids (G r) k ≡ true) → (n : ℕ) (r : L.Rule) (ss : List L.Symbol) (c : State L) (x : L.Meaning r) (d : State L) → SpellsRule G lim n r ss c x d → HasNone L k ss
  rule_avoids G lim k e zero r ss c x d p = absurd p
  rule_avoids G lim k e (suc n) r ss c x d p = spelled_avoids lim n (SpellsRule G lim n) k (rule_avoids G lim k e n) (G r) (e r) ss c x d p

module _ (L : Language) where
  -- ---- where a list of forms is cut

  -- a symbol of the kind in what a form takes is its first
  is_first : (k : L.Kind) (front zs : List L.Symbol) (s : L.Symbol) (m : List L.Symbol) → HasNone L k (tail_of front) → L.kind s ≡ k → front ≡ zs ++ s ∷ m → zs ≡ []
  is_first k front [] s m none is e = refl
  is_first k front (z ∷ zs) s m none is e = absurd (each_last (λ t. L.kind t ≡ k → ⊥) zs s m (subst (λ l. HasNone L k (tail_of l)) e none) is)

  -- the list is cut there
  pub record CutAt {A : Type 0} (One : Spelling L A) (pre post : List L.Symbol) (c : State L) (xs : List A) (d : State L) : Type 0 where
    pub before : List A
    pub after : List A
    pub state : State L
    pub parts : xs ≡ before ++ after
    pub front : SpellsEach One pre c before state
    pub back : SpellsEach One post state after d

  pub cuts : {A : Type 0} (One : Spelling L A) (k : L.Kind) → ((ss : List L.Symbol) (c : State L) (x : A) (d : State L) → One ss c x d → HasNone L k (tail_of ss))
      → (ss pre : List L.Symbol) (s : L.Symbol) (post : List L.Symbol) (c : State L) (xs : List A) (d : State L) → L.kind s ≡ k → ss ≡ pre ++ s ∷ post → SpellsEach One ss c xs d → CutAt One pre (s ∷ post) c xs d
  cuts One k one ss pre s post c [] d is e p = absurd (no pre (sym p.0 ∙ e))
    where
      no : (pre : List L.Symbol) → [] ≡ pre ++ s ∷ post → ⊥
      no [] e = cc
      no (x ∷ pre) e = cc
  cuts {A} One k one ss pre s post c (x ∷ xs) d is e (front, back, b, f, p, q) = by (cut_at front back pre s post (sym f ∙ e)) (λ m g. cuts One k one back m s post b xs d is g q)
    where
      by : ((m : List L.Symbol) × (pre ≡ front ++ m) × (back ≡ m ++ s ∷ post)) ⊎ ((m : List L.Symbol) × (front ≡ pre ++ s ∷ m)) → ((m : List L.Symbol) → back ≡ m ++ s ∷ post → CutAt One m (s ∷ post) b xs d) → CutAt One pre (s ∷ post) c (x ∷ xs) d
      by (inl (m, g, h)) go =
          let r = go m h in
          record { before = x ∷ r.before; after = r.after; state = r.state; parts = ap (λ l. x ∷ l) r.parts; front = (front, m, b, g, p, r.front); back = r.back }
      by (inr (m, g)) go =
          let empty = is_first k front pre s m (one front c x b p) is g in
          let whole : ss ≡ s ∷ post = e ∙ ap (λ l. l ++ s ∷ post) empty in
          record {
            before = [];
            after = x ∷ xs;
            state = c;
            parts = refl;
            front = (empty, refl);
            back = (front, back, b, sym whole ∙ f, p, q);
          }
