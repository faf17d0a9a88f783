-- What is read is taken from the front, and a repetition goes on with what is left.
use Rattle.std.proofs.Common.{◌≡◌, ℕ, zero, suc, ◌+◌, ◌<◌, ◌≤◌, Bool, true, false, cond, List, [], ◌∷◌, length, Some, Result, Ok, Err, refl, arith, ap, sym, ◌∙◌}
use Rattle.std.specs.Prelude.{min}
use Rattle.loft_form.specs.declared.fault.Fault.{Fault}
use Rattle.loft_form.specs.Form.{Language, Form, leaf, ◌▹◌, ◌∣◌, maybe, many, inside, counted, fresh, made, Grammar, Limits, State, next_begins}
use Rattle.loft_form.specs.Spells.{owing, from_zero}
use Rattle.loft_form.specs.Reading.{Place, Read, ◌>>=◌, done, with_first, tally, paid, leaf_at, repeat, form_at, rule_at, read}

-- at least how many symbols a form takes
abbrev pub least : {L : Language} {a : Type 0} → Form L a → ℕ
least (leaf test value opens) = 1
least (f ▹ g) = least f + least g
least (f ∣ g) = min (least f) (least g)
least (maybe f) = 0
least (many f) = 0
least (inside r) = 0
least (counted w f) = least f
least (fresh w f) = least f
least (made h f) = least f

-- what is left is fewer symbols by k
abbrev pub Leaves : {L : Language} {A : Type 0} → ℕ → ℕ → Read L A → Type 0
Leaves k len (Ok x) = length x.1.rest + k ≤ len
Leaves k len (Err e) = Unit {0}

module _ {L : Language} where
  pub weaker : {A : Type 0} (r : Read L A) (j k len len' : ℕ) → len + j ≤ len' + k → Leaves k len r → Leaves j len' r
  weaker (Ok x) j k len len' h p = omega arith
  weaker (Err e) j k len len' h p = tt

  leaves_bind : {A B : Type 0} (r : Read L A) (f : A × Place L → Read L B) (j k len : ℕ) → Leaves j len r → ((x : A × Place L) → Leaves k (length x.1.rest) (f x)) → Leaves (j + k) len (r >>= f)
  leaves_bind (Ok x) f j k len p q = weaker (f x) (j + k) k (length x.1.rest) len (omega arith) (q x)
  leaves_bind (Err e) f j k len p q = tt

  leaves_after : {A B : Type 0} (r : Result B Fault) (f : B → Read L A) (k len : ℕ) → ((x : B) → Leaves k len (f x)) → Leaves k len (r >>= f)
  leaves_after (Ok x) f k len q = q x
  leaves_after (Err e) f k len q = tt

  leaves_cond : {A : Type 0} (b : Bool) (x y : Read L A) (k len : ℕ) → Leaves k len x → Leaves k len y → Leaves k len (cond b x y)
  leaves_cond true x y k len p q = p
  leaves_cond false x y k len p q = q

  leaves_made : {A B : Type 0} (r : Read L A) (h : A → B) (k len : ℕ) → Leaves k len r → Leaves k len (r >>= λ x. Ok (h x.0, x.1))
  leaves_made (Ok x) h k len p = p
  leaves_made (Err e) h k len p = tt

  leaves_leaf : {A : Type 0} (lim : Limits L) (too_deep : Bool) (test : L.Kind → Bool) (value : L.Symbol → A) (ss : List L.Symbol) (c : State L) → Leaves 1 (length ss) (leaf_at lim too_deep test value ss c)
  unfolding leaf_at
  leaves_leaf lim too_deep test value [] c = tt
  leaves_leaf lim too_deep test value (s ∷ ss) c =
      leaves_cond (test (L.kind s)) _ _ 1 (suc (length ss))
      (leaves_cond too_deep _ _ 1 (suc (length ss)) tt (leaves_after (tally lim (length ss + 1) c.due c.counts) (λ after. done (value s) ss (paid after)) 1 (suc (length ss)) (λ after. omega arith)))
      tt

  leaves_first : {A : Type 0} (x : A) (r : Read L (List A)) (len : ℕ) → Leaves 0 len r → Leaves 0 len (with_first x r)
  leaves_first x (Ok y) len p = p
  leaves_first x (Err e) len p = tt

  leaves_repeat : {A : Type 0} (goes_on : List L.Symbol → Bool) (one : List L.Symbol → State L → Read L A) → ((ss : List L.Symbol) (c : State L) → Leaves 0 (length ss) (one ss c))
      → (n : ℕ) (ss : List L.Symbol) (c : State L) → Leaves 0 (length ss) (repeat n goes_on one ss c)
  unfolding repeat
  leaves_repeat goes_on one h zero ss c = omega arith
  leaves_repeat goes_on one h (suc n) ss c =
      leaves_cond (goes_on ss) _ _ 0 (length ss)
      (leaves_bind (one ss c) _ 0 0 (length ss) (h ss c) (λ x. leaves_first x.0 (repeat n goes_on one x.1.rest x.1.state) (length x.1.rest) (leaves_repeat goes_on one h n x.1.rest x.1.state)))
      (omega arith)

  -- each form takes at least its least number of symbols, if rules inside take none back
  module _ (lim : Limits L) (n : ℕ) (inner : (r : L.Rule) → List L.Symbol → State L → Read L (L.Meaning r)) (inner_leaves : (r : L.Rule) (ss : List L.Symbol) (c : State L) → Leaves 0 (length ss) (inner r ss c)) where
    leaves : {a : Type 0} (f : Form L a) (ss : List L.Symbol) (c : State L) → Leaves (least f) (length ss) (form_at lim n inner f ss c)
    leaves (leaf test value opens) ss c = leaves_leaf lim _ test value ss c
    leaves (f ▹ g) ss c = leaves_bind (form_at lim n inner f ss c) _ (least f) (least g) (length ss) (leaves f ss c) (λ x. leaves_made (form_at lim n inner g x.1.rest x.1.state) (λ y. (x.0, y)) (least g) (length x.1.rest) (leaves g x.1.rest x.1.state))
    leaves (f ∣ g) ss c =
        leaves_cond (next_begins f ss) _ _ (min (least f) (least g)) (length ss)
        (weaker (form_at lim n inner f ss c) _ (least f) (length ss) (length ss) (omega arith) (leaves f ss c))
        (weaker (form_at lim n inner g ss c) _ (least g) (length ss) (length ss) (omega arith) (leaves g ss c))
    leaves (maybe f) ss c =
        leaves_cond (next_begins f ss) _ _ 0 (length ss)
        (leaves_made (form_at lim n inner f ss c) (λ x. Some x) 0 (length ss) (weaker (form_at lim n inner f ss c) 0 (least f) (length ss) (length ss) (omega arith) (leaves f ss c)))
        (omega arith)
    leaves (many f) ss c = leaves_repeat (next_begins f) (form_at lim n inner f) (λ ts d. weaker (form_at lim n inner f ts d) 0 (least f) (length ts) (length ts) (omega arith) (leaves f ts d)) (length ss) ss c
    leaves (inside r) ss c = inner_leaves r ss c
    leaves (counted w f) ss c = leaves f ss (owing w c)
    leaves (fresh w f) ss c = leaves f ss (from_zero w c)
    leaves (made h f) ss c = leaves_made (form_at lim n inner f ss c) h (least f) (length ss) (leaves f ss c)

  same_bind : {A B : Type 0} (r : Read L A) (f g : A × Place L → Result B Fault) (k len : ℕ) → Leaves k len r → ((x : A × Place L) → length x.1.rest + k ≤ len → f x ≡ g x) → (r >>= f) ≡ (r >>= g)
  same_bind (Ok x) f g k len l h = h x l
  same_bind (Err e) f g k len l h = refl

  -- a repetition doesn't depend on how many times it may go on, if that is enough
  module _ {A : Type 0} (goes_on : List L.Symbol → Bool) (one : List L.Symbol → State L → Read L A) (eats : (ss : List L.Symbol) (c : State L) → Leaves 1 (length ss) (one ss c)) (ends : goes_on [] ≡ false) where
    enough : (m n : ℕ) (ss : List L.Symbol) (c : State L) → length ss ≤ m → length ss ≤ n → repeat m goes_on one ss c ≡ repeat n goes_on one ss c
    unfolding repeat
    enough zero zero ss c p q = refl
    enough zero (suc n) [] c p q = rw ends refl
    enough zero (suc n) (s ∷ ss) c p q = absurd (omega arith)
    enough (suc m) zero [] c p q = rw ends refl
    enough (suc m) zero (s ∷ ss) c p q = absurd (omega arith)
    enough (suc m) (suc n) ss c p q =
        ap (λ r. cond (goes_on ss) r (done [] ss c))
        (same_bind (one ss c) (λ x. with_first x.0 (repeat m goes_on one x.1.rest x.1.state)) (λ x. with_first x.0 (repeat n goes_on one x.1.rest x.1.state)) 1 (length ss) (eats ss c)
        (λ x l. ap (with_first x.0) (enough m n x.1.rest x.1.state (omega arith) (omega arith))))

    goes : (n : ℕ) (ss : List L.Symbol) (c : State L) → length ss ≤ n → goes_on ss ≡ true → repeat n goes_on one ss c ≡ (one ss c >>= λ x. with_first x.0 (repeat (length x.1.rest) goes_on one x.1.rest x.1.state))
    unfolding repeat
    goes zero [] c p e = absurd (let f : true ≡ false = sym e ∙ ends in cc)
    goes zero (s ∷ ss) c p e = absurd (omega arith)
    goes (suc n) ss c p e =
        rw e (same_bind (one ss c) (λ x. with_first x.0 (repeat n goes_on one x.1.rest x.1.state)) (λ x. with_first x.0 (repeat (length x.1.rest) goes_on one x.1.rest x.1.state)) 1 (length ss) (eats ss c)
        (λ x l. ap (with_first x.0) (enough n (length x.1.rest) x.1.rest x.1.state (omega arith) (omega arith))))

    stays : (n : ℕ) (ss : List L.Symbol) (c : State L) → goes_on ss ≡ false → repeat n goes_on one ss c ≡ done [] ss c
    unfolding repeat
    stays zero ss c e = refl
    stays (suc n) ss c e = rw e refl

rest_of : {L : Language} {A : Type 0} → Read L A → ℕ
rest_of (Ok z) = length z.1.rest
rest_of (Err d) = 0

shorter : {L : Language} {A : Type 0} (r : Read L A) (k len : ℕ) (x : A) (p : Place L) → 0 < k → r ≡ Ok (x, p) → Leaves k len r → length p.rest < len
unfolding rest_of
shorter (Ok y) k len x p h e l = let f : length y.1.rest ≡ length p.rest = ap (λ q. rest_of q) e in omega arith
shorter (Err d) k len x p h e l = absurd cc

module _ {L : Language} (G : Grammar L) (lim : Limits L) where
  leaves_rule : (n : ℕ) (r : L.Rule) (ss : List L.Symbol) (c : State L) → Leaves 0 (length ss) (rule_at G lim n r ss c)
  unfolding rule_at
  leaves_rule zero r ss c = tt
  leaves_rule (suc n) r ss c = weaker (form_at lim n (rule_at G lim n) (G r) ss c) 0 (least (G r)) (length ss) (length ss) (omega arith) (leaves lim n (rule_at G lim n) (leaves_rule n) (G r) ss c)

  pub read_leaves : {a : Type 0} (n : ℕ) (f : Form L a) (ss : List L.Symbol) (c : State L) → Leaves (least f) (length ss) (read G lim n f ss c)
  read_leaves n f ss c = leaves lim n (rule_at G lim n) (leaves_rule n) f ss c

  -- reading many of a form that takes symbols: one that begins next, and then many more
  pub many_more : {a : Type 0} (n : ℕ) (f : Form L a) (ss : List L.Symbol) (c : State L) → 0 < least f → next_begins f ss ≡ true
      → read G lim n (many f) ss c ≡ (read G lim n f ss c >>= λ x. with_first x.0 (read G lim n (many f) x.1.rest x.1.state))
  many_more n f ss c h e = goes (next_begins f) (λ ts d. read G lim n f ts d) (λ ts d. weaker (read G lim n f ts d) 1 (least f) (length ts) (length ts) (omega arith) (read_leaves n f ts d)) refl (length ss) ss c (omega arith) e

  pub many_done : {a : Type 0} (n : ℕ) (f : Form L a) (ss : List L.Symbol) (c : State L) → 0 < least f → next_begins f ss ≡ false → read G lim n (many f) ss c ≡ done [] ss c
  many_done n f ss c h e = stays (next_begins f) (λ ts d. read G lim n f ts d) (λ ts d. weaker (read G lim n f ts d) 1 (least f) (length ts) (length ts) (omega arith) (read_leaves n f ts d)) refl (length ss) ss c e

  pub eaten : {a : Type 0} (n : ℕ) (f : Form L a) (ss : List L.Symbol) (c : State L) (x : a) (p : Place L) → 0 < least f → read G lim n f ss c ≡ Ok (x, p) → length p.rest < length ss
  eaten n f ss c x p h e = shorter (read G lim n f ss c) (least f) (length ss) x p h e (read_leaves n f ss c)
