-- When each rule inside stands after a symbol that opens a nesting.
use Rattle.std.proofs.Common.{◌≡◌, ℕ, zero, suc, ◌+◌, ◌<◌, Bool, true, false, cond, ◌==◌, ◌&&◌, ◌||◌, List, [], ◌∷◌, length, Result, Ok, Err, refl, arith}
use Rattle.loft_form.specs.declared.fault.Fault.{Fault}
use Rattle.loft_form.specs.Form.{Language, Form, leaf, ◌▹◌, ◌∣◌, maybe, many, inside, counted, fresh, made, Grammar, Limits, State, next_begins}
use Rattle.loft_form.specs.Spells.{owing, from_zero}
use Rattle.loft_form.specs.Reading.{Place, Read, ◌>>=◌, done, tally, paid, leaf_at, read}
use Rattle.loft_form.proofs.Disjoint.{and_true}

module _ {L : Language} where
  -- whoever takes the form opens a nesting
  abbrev pub opens_of : {a : Type 0} → Form L a → Bool
  opens_of (leaf test value opens) = opens
  opens_of (f ▹ g) = opens_of f || opens_of g
  opens_of (f ∣ g) = opens_of f && opens_of g
  opens_of (maybe f) = false
  opens_of (many f) = false
  opens_of (inside r) = false
  opens_of (counted w f) = opens_of f
  opens_of (fresh w f) = opens_of f
  opens_of (made h f) = opens_of f

  -- each rule inside the form stands after a symbol that opens a nesting; such a one stands before the form, or not
  abbrev pub guarded : {a : Type 0} → Bool → Form L a → Bool
  guarded before (leaf test value opens) = true
  guarded before (f ▹ g) = guarded before f && guarded (before || opens_of f) g
  guarded before (f ∣ g) = guarded before f && guarded before g
  guarded before (maybe f) = guarded before f
  guarded before (many f) = guarded before f
  guarded before (inside r) = before
  guarded before (counted w f) = guarded before f
  guarded before (fresh w f) = guarded before f
  guarded before (made h f) = guarded before f

-- ---- where a form was taken that opens a nesting, one could be opened

pub or_cases : (a b : Bool) (P : Type 0) → (a ≡ true → P) → (b ≡ true → P) → (a || b) ≡ true → P
or_cases true b P p q e = p refl
or_cases false b P p q e = q e

module _ {L : Language} where
  -- if something was read
  abbrev pub IfRead : {A : Type 0} → Type 0 → Read L A → Type 0
  IfRead P (Ok x) = P
  IfRead P (Err e) = Unit {0}

  if_cond : {A : Type 0} (P : Type 0) (b : Bool) (x y : Read L A) → IfRead P x → IfRead P y → IfRead P (cond b x y)
  if_cond P true x y p q = p
  if_cond P false x y p q = q

  if_first : {A B : Type 0} (P : Type 0) (r : Read L A) (k : A × Place L → Read L B) → IfRead P r → IfRead P (r >>= k)
  if_first P (Ok x) k p = if_known P (k x) p
    where
      if_known : {A : Type 0} (P : Type 0) (r : Read L A) → P → IfRead P r
      if_known P (Ok x) p = p
      if_known P (Err e) p = tt
  if_first P (Err e) k p = tt

  if_then : {A B : Type 0} (P : Type 0) (r : Read L A) (k : A × Place L → Read L B) → ((x : A × Place L) → IfRead P (k x)) → IfRead P (r >>= k)
  if_then P (Ok x) k p = p x
  if_then P (Err e) k p = tt

  if_counted : {A : Type 0} (P : Type 0) (r : Result L.Counts Fault) (k : L.Counts → Read L A) → ((d : L.Counts) → IfRead P (k d)) → IfRead P (r >>= k)
  if_counted P (Ok d) k p = p d
  if_counted P (Err e) k p = tt

  opened_leaf : {A : Type 0} (lim : Limits L) (n : ℕ) (test : L.Kind → Bool) (value : L.Symbol → A) (ss : List L.Symbol) (c : State L) → IfRead (0 < n) (leaf_at lim (n == 0) test value ss c)
  unfolding leaf_at
  opened_leaf lim n test value [] c = tt
  opened_leaf lim zero test value (s ∷ ss) c = if_cond (0 < 0) (test (L.kind s)) _ _ tt tt
  opened_leaf lim (suc n) test value (s ∷ ss) c =
      if_cond (0 < suc n) (test (L.kind s)) _ _
      (if_cond (0 < suc n) (suc n == 0) _ _ tt (if_counted (0 < suc n) (tally lim (length ss + 1) c.due c.counts) (λ after. done (value s) ss (paid after)) (λ d. omega arith)))
      tt

module _ {L : Language} (G : Grammar L) (lim : Limits L) (n : ℕ) where
  opened : {a : Type 0} (f : Form L a) → opens_of f ≡ true → (ss : List L.Symbol) (c : State L) → IfRead (0 < n) (read G lim n f ss c)
  opened (leaf test value true) o ss c = opened_leaf lim n test value ss c
  opened (leaf test value false) o ss c = absurd cc
  opened (f ▹ g) o ss c =
      or_cases (opens_of f) (opens_of g) _
      (λ e. if_first (0 < n) (read G lim n f ss c) _ (opened f e ss c))
      (λ e. if_then (0 < n) (read G lim n f ss c) _ (λ x. if_first (0 < n) (read G lim n g x.1.rest x.1.state) _ (opened g e x.1.rest x.1.state)))
      o
  opened (f ∣ g) o ss c = let l = and_true _ _ o in if_cond (0 < n) (next_begins f ss) _ _ (opened f l.0 ss c) (opened g l.1 ss c)
  opened (maybe f) o ss c = absurd cc
  opened (many f) o ss c = absurd cc
  opened (inside r) o ss c = absurd cc
  opened (counted w f) o ss c = opened f o ss (owing w c)
  opened (fresh w f) o ss c = opened f o ss (from_zero w c)
  opened (made h f) o ss c = if_first (0 < n) (read G lim n f ss c) _ (opened f o ss c)

  -- a nesting can be opened where one was
  pub opened_read : {a : Type 0} (f : Form L a) → opens_of f ≡ true → (ss : List L.Symbol) (c : State L) (x : a × Place L) → read G lim n f ss c ≡ Ok x → 0 < n
  opened_read f o ss c x e = go (read G lim n f ss c) (opened f o ss c) e
    where
      go : (r : Read L _) → IfRead (0 < n) r → r ≡ Ok x → 0 < n
      go (Ok y) p h = p
      go (Err d) p h = absurd cc
