-- What changed symbols spell is what the symbols spell, changed in the same way.
use Rattle.std.proofs.Common.{◌≡◌, ℕ, zero, suc, Bool, List, [], ◌∷◌, ◌++◌, map, Some, None, refl, sym, ap, subst, ◌∙◌, inl, inr}
use Rattle.std.specs.Option.{option_map}
use Rattle.loft_form.specs.Form.{Language, Form, leaf, ◌▹◌, ◌∣◌, maybe, many, inside, counted, fresh, made, Grammar, Limits, State}
use Rattle.loft_form.specs.Spells.{owing, from_zero, Spelling, SpellsEach, Spells, SpellsRule}

-- what changed symbols spell is what the symbols spell, changed by h
abbrev pub Kept : {L : Language} {A : Type 0} → (L.Symbol → L.Symbol) → Spelling L A → (A → A) → Type 0
Kept {L} {A} change S h = (ss : List L.Symbol) (c : State L) (x : A) (d : State L) → S (map change ss) c x d → (y : A) × (x ≡ h y) × S ss c y d

-- changed symbols in two parts are symbols in two parts
parted : {A : Type 0} (change : A → A) (xs front back : List A) → map change xs ≡ front ++ back → (a : List A) × (b : List A) × (xs ≡ a ++ b) × (map change a ≡ front) × (map change b ≡ back)
parted change xs [] back e = ([], xs, refl, refl, e)
parted change [] (f ∷ front) back e = absurd cc
parted change (x ∷ xs) (f ∷ front) back e =
    let (a, b, k, p, q) = parted change xs front back cc in
    let first : change x ≡ f = cc in
    (x ∷ a, b, ap (λ t. x ∷ t) k, (λ i. first i ∷ p i), q)

-- the same of each of a list
kept_each : {L : Language} {A : Type 0} (change : L.Symbol → L.Symbol) (S : Spelling L A) (h : A → A) → Kept change S h → Kept change (SpellsEach S) (map h)
kept_each change S h one [] c [] d p = ([], refl, (refl, p.1))
kept_each change S h one (s ∷ ss) c [] d p = absurd (let k = p.0 in cc)
kept_each {L} change S h one ss c (x ∷ xs) d (front, back, b, e, p, q) =
    let (f, k, split, is_front, is_back) = parted change ss front back e in
    let (y, same, r) = one f c x b (subst (λ t. S t c x b) (sym is_front) p) in
    let (ys, sames, rs) = kept_each change S h one k b xs d (subst (λ t. SpellsEach S t b xs d) (sym is_back) q) in
    (y ∷ ys, (λ i. same i ∷ sames i), (f, k, b, split, r, rs))

module _ {L : Language} (change : L.Symbol → L.Symbol) (lim : Limits L) (n : ℕ) (Inner : (r : L.Rule) → Spelling L (L.Meaning r)) where
  -- what changed symbols spell by the form is what the symbols spell, changed by h
  pub record Keeps {a : Type 0} (f : Form L a) (h : a → a) : Type 0 where
    pub keeps : Kept change (Spells lim n Inner f) h

  -- a symbol that keeps its kind, and whose value is changed by h
  pub keeps_leaf : {a : Type 0} {test : L.Kind → Bool} {value : L.Symbol → a} {opens : Bool} {h : a → a} → ((s : L.Symbol) → L.kind (change s) ≡ L.kind s) → ((s : L.Symbol) → value (change s) ≡ h (value s)) → Keeps (leaf test value opens) h
  keeps_leaf {test} {value} {opens} {h} kinds values = record { keeps = one }
    where
      one : Kept change (Spells lim n Inner (leaf test value opens)) h
      one [] c x d (t, e, passes, is, deep, pays) = absurd cc
      one (s ∷ []) c x d (t, e, passes, is, deep, pays) =
          let same : change s ≡ t = cc in
          (value s, is ∙ ap value (sym same) ∙ values s, (s, refl, ap test (sym (kinds s) ∙ ap L.kind same) ∙ passes, refl, deep, pays))
      one (s ∷ r ∷ ss) c x d (t, e, passes, is, deep, pays) = absurd cc

  -- each form keeps it where its parts do
  pub keeps_then : {a b : Type 0} {f : Form L a} {g : Form L b} {h : a → a} {k : b → b} → Keeps f h → Keeps g k → Keeps (f ▹ g) (λ x. (h x.0, k x.1))
  keeps_then {f} {g} {h} {k} p q = record { keeps = two }
    where
      two : Kept change (Spells lim n Inner (f ▹ g)) (λ x. (h x.0, k x.1))
      two ss c x d (front, back, b, e, r, s) =
          let (us, vs, split, is_front, is_back) = parted change ss front back e in
          let (y, is_y, r') = p.keeps us c x.0 b (subst (λ t. Spells lim n Inner f t c x.0 b) (sym is_front) r) in
          let (z, is_z, s') = q.keeps vs b x.1 d (subst (λ t. Spells lim n Inner g t b x.1 d) (sym is_back) s) in
          ((y, z), (λ i. (is_y i, is_z i)), (us, vs, b, split, r', s'))

  pub keeps_or : {a : Type 0} {f g : Form L a} {h : a → a} → Keeps f h → Keeps g h → Keeps (f ∣ g) h
  keeps_or {f} {g} {h} p q = record { keeps = either }
    where
      either : Kept change (Spells lim n Inner (f ∣ g)) h
      either ss c x d (inl r) = let (y, is, s) = p.keeps ss c x d r in (y, is, inl s)
      either ss c x d (inr r) = let (y, is, s) = q.keeps ss c x d r in (y, is, inr s)

  pub keeps_maybe : {a : Type 0} {f : Form L a} {h : a → a} → Keeps f h → Keeps (maybe f) (option_map h)
  keeps_maybe {f} {h} p = record { keeps = perhaps }
    where
      perhaps : Kept change (Spells lim n Inner (maybe f)) (option_map h)
      perhaps [] c None d r = (None, refl, (refl, r.1))
      perhaps (s ∷ ss) c None d r = absurd (let e = r.0 in cc)
      perhaps ss c (Some x) d r = let (y, is, s) = p.keeps ss c x d r in (Some y, ap Some is, s)

  pub keeps_many : {a : Type 0} {f : Form L a} {h : a → a} → Keeps f h → Keeps (many f) (map h)
  keeps_many {f} {h} p = record { keeps = kept_each change (Spells lim n Inner f) h p.keeps }

  pub keeps_counted : {a : Type 0} {w : L.Counted} {f : Form L a} {h : a → a} → Keeps f h → Keeps (counted w f) h
  keeps_counted {w} {f} {h} p = record { keeps = λ ss c x d r. p.keeps ss (owing w c) x d r }

  pub keeps_fresh : {a : Type 0} {w : L.Counted} {f : Form L a} {h : a → a} → Keeps f h → Keeps (fresh w f) h
  keeps_fresh {w} {f} {h} p = record { keeps = λ ss c x d r. p.keeps ss (from_zero w c) x d r }

  pub keeps_inside : (r : L.Rule) (h : L.Meaning r → L.Meaning r) → Kept change (Inner r) h → Keeps (inside r) h
  keeps_inside r h p = record { keeps = p }

  -- what is made of changed parts is changed
  pub keeps_made : {a b : Type 0} {m : a → b} {f : Form L a} {h : a → a} {k : b → b} → Keeps f h → ((y : a) → m (h y) ≡ k (m y)) → Keeps (made m f) k
  keeps_made {m} {f} {h} {k} p commutes = record { keeps = built }
    where
      built : Kept change (Spells lim n Inner (made m f)) k
      built ss c x d (z, is, r) = let (y, same, s) = p.keeps ss c z d r in (m y, is ∙ ap m same ∙ commutes y, (y, refl, s))

module _ {L : Language} (G : Grammar L) (change : L.Symbol → L.Symbol) (lim : Limits L) (h : (r : L.Rule) → L.Meaning r → L.Meaning r)
    (rule_keeps : (n : ℕ) (Inner : (r : L.Rule) → Spelling L (L.Meaning r)) → ((r : L.Rule) → Kept change (Inner r) (h r)) → (r : L.Rule) → Keeps change lim n Inner (G r) (h r)) where
  -- and so does each rule, if it does where the rules inside it do
  pub kept_rule : (n : ℕ) (r : L.Rule) → Kept change (SpellsRule G lim n r) (h r)
  kept_rule zero r ss c x d p = absurd p
  kept_rule (suc n) r ss c x d p = (rule_keeps n (SpellsRule G lim n) (kept_rule n) r).keeps ss c x d p
