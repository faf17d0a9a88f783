-- What is read is spelled so.
use Rattle.std.proofs.Common.{◌≡◌, ℕ, zero, suc, ◌+◌, ◌<◌, Bool, true, false, cond, nat_le, ◌==◌, ◌&&◌, List, [], ◌∷◌, ◌++◌, length, Option, Some, None, Result, Ok, Err, refl, sym, ap, ◌∙◌, append_assoc, inl, inr}
use Rattle.std.proofs.lemmas.Bool.{leb-false}
use Rattle.loft_form.specs.declared.fault.Fault.{Fault}
use Rattle.loft_form.specs.declared.fault.Fault.TheVariants.{TooMany}
use Rattle.loft_form.specs.Form.{Language, Form, leaf, ◌▹◌, ◌∣◌, maybe, many, inside, counted, fresh, made, Grammar, Limits, State, next_begins}
use Rattle.loft_form.specs.Spells.{Below, Adds, owing, from_zero, Spelling, SpellsEach, Spells, SpellsRule}
use Rattle.loft_form.specs.Reading.{Place, Read, ◌>>=◌, done, with_first, within, tally, paid, allowed, leaf_at, repeat, form_at, rule_at, read}

-- what was read is spelled by the symbols that were taken
abbrev pub Found : {L : Language} {A : Type 0} → Spelling L A → List L.Symbol → State L → Read L A → Type 0
Found {L} S ss c (Ok x) = (front : List L.Symbol) × (ss ≡ front ++ x.1.rest) × S front c x.0 x.1.state
Found S ss c (Err e) = Unit {0}

-- what is counted is within the limits
pub below_of : {A : Type 0} (o : Option ℕ) (n left : ℕ) (next : Result A Fault) (x : A) → within o n left next ≡ Ok x → Below o n × (next ≡ Ok x)
below_of None n left next x h = (tt, h)
below_of (Some limit) n left next x h = go (nat_le limit n) refl h
  where
    go : (b : Bool) → nat_le limit n ≡ b → cond b (Err (TooMany left limit)) next ≡ Ok x → (n < limit) × (next ≡ Ok x)
    go true e k = absurd cc
    go false e k = (leb-false limit n e, k)

pub adds : {L : Language} (lim : Limits L) (left : ℕ) (ws : List L.Counted) (c d : L.Counts) → tally lim left ws c ≡ Ok d → Adds lim ws c d
adds lim left [] c d h = cc
adds {L} lim left (w ∷ ws) c d h =
    let p = below_of (lim.most w) (L.number w c) left (tally lim left ws (L.more w c)) d h in
    (p.0, adds lim left ws (L.more w c) d p.1)

module _ {L : Language} where
  found_cond : {A : Type 0} (S : Spelling L A) (ss : List L.Symbol) (c : State L) (b : Bool) (x y : Read L A) → (b ≡ true → Found S ss c x) → (b ≡ false → Found S ss c y) → Found S ss c (cond b x y)
  found_cond S ss c true x y p q = p refl
  found_cond S ss c false x y p q = q refl

  found_after : {A B : Type 0} (S : Spelling L A) (ss : List L.Symbol) (c : State L) (r : Result B Fault) (f : B → Read L A) → ((x : B) → r ≡ Ok x → Found S ss c (f x)) → Found S ss c (r >>= f)
  found_after S ss c (Ok x) f h = h x refl
  found_after S ss c (Err e) f h = tt

  weaken : {A : Type 0} (S T : Spelling L A) (ss : List L.Symbol) (c : State L) (r : Read L A) → ((front : List L.Symbol) (x : A) (d : State L) → S front c x d → T front c x d) → Found S ss c r → Found T ss c r
  weaken S T ss c (Ok x) k p = (p.0, p.1, k p.0 x.0 x.1.state p.2)
  weaken S T ss c (Err e) k p = tt

  found_as : {A : Type 0} (S T : Spelling L A) (ss : List L.Symbol) (c c' : State L) (r : Read L A) → ((front : List L.Symbol) (x : A) (d : State L) → S front c x d → T front c' x d) → Found S ss c r → Found T ss c' r
  found_as S T ss c c' (Ok x) k p = (p.0, p.1, k p.0 x.0 x.1.state p.2)
  found_as S T ss c c' (Err e) k p = tt

  found_made : {A B : Type 0} (S : Spelling L A) (T : Spelling L B) (h : A → B) (ss : List L.Symbol) (c : State L) (r : Read L A)
      → ((front : List L.Symbol) (x : A) (d : State L) → S front c x d → T front c (h x) d) → Found S ss c r → Found T ss c (r >>= λ x. Ok (h x.0, x.1))
  found_made S T h ss c (Ok x) k p = (p.0, p.1, k p.0 x.0 x.1.state p.2)
  found_made S T h ss c (Err e) k p = tt

  -- one after the other
  found_then : {A B C : Type 0} (S : Spelling L A) (T : Spelling L B) (U : Spelling L C) (h : A → B → C) (ss : List L.Symbol) (c : State L) (r : Read L A) (k : A × Place L → Read L B)
      → ((front back : List L.Symbol) (x : A) (y : B) (b d : State L) → S front c x b → T back b y d → U (front ++ back) c (h x y) d)
      → Found S ss c r → ((x : A × Place L) → Found T x.1.rest x.1.state (k x)) → Found U ss c (r >>= λ x. k x >>= λ y. Ok (h x.0 y.0, y.1))
  found_then S T U h ss c (Ok x) k join p q = go (k x) (q x)
    where
      go : (r : Read L _) → Found T x.1.rest x.1.state r → Found U ss c (r >>= λ y. Ok (h x.0 y.0, y.1))
      go (Ok y) l = (p.0 ++ l.0, p.1 ∙ ap (λ (t : List L.Symbol). p.0 ++ t) l.1 ∙ sym (append_assoc p.0 l.0 y.1.rest), join p.0 l.0 x.0 y.0 x.1.state y.1.state p.2 l.2)
      go (Err e) l = tt
  found_then S T U h ss c (Err e) k join p q = tt

  found_first : {A : Type 0} (S : Spelling L A) (ss : List L.Symbol) (c : State L) (front : List L.Symbol) (x : A) (p : Place L) (r : Read L (List A))
      → ss ≡ front ++ p.rest → S front c x p.state → Found (SpellsEach S) p.rest p.state r → Found (SpellsEach S) ss c (with_first x r)
  found_first S ss c front x p (Ok y) e h l = (front ++ l.0, e ∙ ap (λ (t : List L.Symbol). front ++ t) l.1 ∙ sym (append_assoc front l.0 y.1.rest), (front, l.0, p.state, refl, h, l.2))
  found_first S ss c front x p (Err d) e h l = tt

  found_bind : {A B : Type 0} (S : Spelling L A) (T : Spelling L B) (ss : List L.Symbol) (c : State L) (r : Read L A) (k : A × Place L → Read L B)
      → Found S ss c r → ((x : A × Place L) (front : List L.Symbol) → ss ≡ front ++ x.1.rest → S front c x.0 x.1.state → Found T ss c (k x)) → Found T ss c (r >>= k)
  found_bind S T ss c (Ok x) k p q = q x p.0 p.1 p.2
  found_bind S T ss c (Err e) k p q = tt

  found_repeat : {A : Type 0} (S : Spelling L A) (goes_on : List L.Symbol → Bool) (one : List L.Symbol → State L → Read L A) → ((ss : List L.Symbol) (c : State L) → Found S ss c (one ss c))
      → (n : ℕ) (ss : List L.Symbol) (c : State L) → Found (SpellsEach S) ss c (repeat n goes_on one ss c)
  unfolding repeat
  found_repeat S goes_on one h zero ss c = ([], refl, (refl, refl))
  found_repeat S goes_on one h (suc n) ss c =
      found_cond (SpellsEach S) ss c (goes_on ss) _ _
      (λ _. found_bind S (SpellsEach S) ss c (one ss c) (λ x. with_first x.0 (repeat n goes_on one x.1.rest x.1.state)) (h ss c)
      (λ x front e k. found_first S ss c front x.0 x.1 (repeat n goes_on one x.1.rest x.1.state) e k (found_repeat S goes_on one h n x.1.rest x.1.state)))
      (λ _. ([], refl, (refl, refl)))

  -- a symbol that is taken
  found_allowed : {A : Type 0} (lim : Limits L) (S : Spelling L A) (x : A) (too_deep : Bool) (s : L.Symbol) (ss : List L.Symbol) (c : State L)
      → ((d : L.Counts) → too_deep ≡ false → Adds lim c.due c.counts d → S (s ∷ []) c x (paid d)) → Found S (s ∷ ss) c (allowed lim x too_deep ss c)
  found_allowed lim S x too_deep s ss c h =
      found_cond S (s ∷ ss) c too_deep _ _ (λ _. tt)
      (λ e. found_after S (s ∷ ss) c (tally lim (length ss + 1) c.due c.counts) (λ after. done x ss (paid after)) (λ d k. (s ∷ [], refl, h d e (adds lim (length ss + 1) c.due c.counts d k))))

  module _ (lim : Limits L) (n : ℕ) (Inner : (r : L.Rule) → Spelling L (L.Meaning r)) where
    found_leaf : {A : Type 0} (test : L.Kind → Bool) (value : L.Symbol → A) (opens : Bool) (ss : List L.Symbol) (c : State L)
        → Found (Spells lim n Inner (leaf test value opens)) ss c (leaf_at lim (opens && n == 0) test value ss c)
    unfolding leaf_at
    found_leaf test value opens [] c = tt
    found_leaf test value opens (s ∷ ss) c =
        found_cond (Spells lim n Inner (leaf test value opens)) (s ∷ ss) c (test (L.kind s)) _ _
        (λ e. found_allowed lim (Spells lim n Inner (leaf test value opens)) (value s) (opens && n == 0) s ss c (λ d f g. (s, refl, e, refl, f, (g, refl))))
        (λ _. tt)

    module _ (inner : (r : L.Rule) → List L.Symbol → State L → Read L (L.Meaning r)) (found_inner : (r : L.Rule) (ss : List L.Symbol) (c : State L) → Found (Inner r) ss c (inner r ss c)) where
      found : {a : Type 0} (f : Form L a) (ss : List L.Symbol) (c : State L) → Found (Spells lim n Inner f) ss c (form_at lim n inner f ss c)
      found (leaf test value opens) ss c = found_leaf test value opens ss c
      found (f ▹ g) ss c =
          found_then (Spells lim n Inner f) (Spells lim n Inner g) (Spells lim n Inner (f ▹ g)) (λ x y. (x, y)) ss c (form_at lim n inner f ss c) (λ x. form_at lim n inner g x.1.rest x.1.state)
          (λ front back x y b d p q. (front, back, b, refl, p, q)) (found f ss c) (λ x. found g x.1.rest x.1.state)
      found (f ∣ g) ss c =
          found_cond (Spells lim n Inner (f ∣ g)) ss c (next_begins f ss) _ _
          (λ _. weaken (Spells lim n Inner f) (Spells lim n Inner (f ∣ g)) ss c (form_at lim n inner f ss c) (λ front x d p. inl p) (found f ss c))
          (λ _. weaken (Spells lim n Inner g) (Spells lim n Inner (f ∣ g)) ss c (form_at lim n inner g ss c) (λ front x d p. inr p) (found g ss c))
      found (maybe f) ss c =
          found_cond (Spells lim n Inner (maybe f)) ss c (next_begins f ss) _ _
          (λ _. found_made (Spells lim n Inner f) (Spells lim n Inner (maybe f)) (λ x. Some x) ss c (form_at lim n inner f ss c) (λ front x d p. p) (found f ss c))
          (λ _. ([], refl, (refl, refl)))
      found (many f) ss c = found_repeat (Spells lim n Inner f) (next_begins f) (form_at lim n inner f) (λ ts d. found f ts d) (length ss) ss c
      found (inside r) ss c = found_inner r ss c
      found (counted w f) ss c = found_as (Spells lim n Inner f) (Spells lim n Inner (counted w f)) ss (owing w c) c (form_at lim n inner f ss (owing w c)) (λ front x d p. p) (found f ss (owing w c))
      found (fresh w f) ss c = found_as (Spells lim n Inner f) (Spells lim n Inner (fresh w f)) ss (from_zero w c) c (form_at lim n inner f ss (from_zero w c)) (λ front x d p. p) (found f ss (from_zero w c))
      found (made h f) ss c = found_made (Spells lim n Inner f) (Spells lim n Inner (made h f)) h ss c (form_at lim n inner f ss c) (λ front x d p. (x, refl, p)) (found f ss c)

module _ {L : Language} (G : Grammar L) (lim : Limits L) where
  found_rule : (n : ℕ) (r : L.Rule) (ss : List L.Symbol) (c : State L) → Found (SpellsRule G lim n r) ss c (rule_at G lim n r ss c)
  unfolding rule_at
  found_rule zero r ss c = tt
  found_rule (suc n) r ss c = found lim n (SpellsRule G lim n) (rule_at G lim n) (found_rule n) (G r) ss c

  -- What is read is spelled by what was taken.
  pub read_found : {a : Type 0} (n : ℕ) (f : Form L a) (ss : List L.Symbol) (c : State L) → Found (Spells lim n (SpellsRule G lim n) f) ss c (read G lim n f ss c)
  read_found n f ss c = found lim n (SpellsRule G lim n) (rule_at G lim n) (found_rule n) f ss c
