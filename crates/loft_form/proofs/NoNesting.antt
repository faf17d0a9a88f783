-- A form that opens no nesting is read alike, however many may still be opened.
use Rattle.std.proofs.Common.{◌≡◌, ℕ, zero, suc, Bool, true, false, cond, ◌&&◌, not, List, length, Result, Ok, Err, refl, ap, ◌∙◌}
use Rattle.loft_form.specs.declared.fault.Fault.{Fault}
use Rattle.loft_form.specs.Form.{Language, Form, leaf, ◌▹◌, ◌∣◌, maybe, many, inside, counted, fresh, made, Grammar, Limits, State, next_begins}
use Rattle.loft_form.specs.Spells.{owing, from_zero}
use Rattle.loft_form.specs.Reading.{Read, ◌>>=◌, with_first, repeat, form_at, rule_at, read}
use Rattle.loft_form.proofs.Disjoint.{and_true}

-- the form opens no nesting
abbrev pub flat : {L : Language} {a : Type 0} → Form L a → Bool
flat (leaf test value opens) = not opens
flat (f ▹ g) = flat f && flat g
flat (f ∣ g) = flat f && flat g
flat (maybe f) = flat f
flat (many f) = flat f
flat (inside r) = false
flat (counted w f) = flat f
flat (fresh w f) = flat f
flat (made h f) = flat f

same_bind : {A B : Type 0} (r s : Result A Fault) (f g : A → Result B Fault) → r ≡ s → ((x : A) → f x ≡ g x) → (r >>= f) ≡ (s >>= g)
same_bind r (Ok x) f g e h = ap (λ q. q >>= f) e ∙ h x
same_bind r (Err e) f g p h = ap (λ q. q >>= f) p

same_cond : {A : Type 0} (b : Bool) (x y z w : A) → x ≡ z → y ≡ w → cond b x y ≡ cond b z w
same_cond true x y z w p q = p
same_cond false x y z w p q = q

same_repeat : {L : Language} {A : Type 0} (goes_on : List L.Symbol → Bool) (f g : List L.Symbol → State L → Read L A) → ((ss : List L.Symbol) (c : State L) → f ss c ≡ g ss c) → (n : ℕ) (ss : List L.Symbol) (c : State L) → repeat n goes_on f ss c ≡ repeat n goes_on g ss c
unfolding repeat
same_repeat goes_on f g h zero ss c = refl
same_repeat goes_on f g h (suc n) ss c =
    same_cond (goes_on ss) _ _ _ _
    (same_bind (f ss c) (g ss c) _ _ (h ss c) (λ x. ap (with_first x.0) (same_repeat goes_on f g h n x.1.rest x.1.state)))
    refl

module _ {L : Language} (lim : Limits L) (m n : ℕ) (inner inside' : (r : L.Rule) → List L.Symbol → State L → Read L (L.Meaning r)) where
  same : {a : Type 0} (f : Form L a) → flat f ≡ true → (ss : List L.Symbol) (c : State L) → form_at lim m inner f ss c ≡ form_at lim n inside' f ss c
  same (leaf test value true) e ss c = absurd cc
  same (leaf test value false) e ss c = refl
  same (f ▹ g) e ss c =
      same_bind _ _ _ _ (same f (and_true _ _ e).0 ss c)
      (λ x. same_bind _ _ _ _ (same g (and_true _ _ e).1 x.1.rest x.1.state) (λ y. refl))
  same (f ∣ g) e ss c = same_cond (next_begins f ss) _ _ _ _ (same f (and_true _ _ e).0 ss c) (same g (and_true _ _ e).1 ss c)
  same (maybe f) e ss c = same_cond (next_begins f ss) _ _ _ _ (same_bind _ _ _ _ (same f e ss c) (λ x. refl)) refl
  same (many f) e ss c = same_repeat (next_begins f) (form_at lim m inner f) (form_at lim n inside' f) (same f e) (length ss) ss c
  same (inside r) e ss c = absurd cc
  same (counted w f) e ss c = same f e ss (owing w c)
  same (fresh w f) e ss c = same f e ss (from_zero w c)
  same (made h f) e ss c = same_bind _ _ _ _ (same f e ss c) (λ x. refl)

pub read_flat : {L : Language} {a : Type 0} (G : Grammar L) (lim : Limits L) (m n : ℕ) (f : Form L a) → flat f ≡ true → (ss : List L.Symbol) (c : State L) → read G lim m f ss c ≡ read G lim n f ss c
read_flat G lim m n f e ss c = same lim m n (rule_at G lim m) (rule_at G lim n) f e ss c
