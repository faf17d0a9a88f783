-- What the grammar without limits says of a list of symbols: one answer, for which as many nestings are enough as there are symbols.
use Rattle.std.proofs.Common.{◌≡◌, ℕ, zero, suc, ◌+◌, ◌<◌, ◌≤◌, Bool, true, false, cond, ◌==◌, ◌&&◌, ◌||◌, List, [], ◌∷◌, length, Some, Result, Ok, Err, refl, sym, ap, subst, ◌∙◌, arith, inl, inr, ◌⊎◌}
use Rattle.loft_form.specs.declared.fault.Fault.{Fault}
use Rattle.loft_form.specs.declared.fault.Fault.TheVariants.{Expected, TooDeep, TooMany}
use Rattle.loft_form.specs.Form.{Language, Form, leaf, ◌▹◌, ◌∣◌, maybe, many, inside, counted, fresh, made, Grammar, State, next_begins}
use Rattle.loft_form.specs.Spells.{owing, from_zero}
use Rattle.loft_form.specs.Reading.{Place, Read, ◌>>=◌, with_first, allowed, leaf_at, repeat, rule_at, read, with_rest, all_of}
use Rattle.loft_form.specs.Faults.{unlimited, SpellsWhole, StopsWhole}
use Rattle.loft_form.proofs.Disjoint.{Known, and_true}
use Rattle.loft_form.proofs.Progress.{least, eaten}
use Rattle.loft_form.proofs.Guarded.{opens_of, guarded, or_cases}
use Rattle.loft_form.proofs.Checked.{Checked}
use Rattle.loft_form.proofs.Raised.{all_tallied, counting, Keeps, read_keeps, never}
use Rattle.loft_form.proofs.Whole.{whole_found, spelled_whole, whole_stops, stopped_whole}
use Rattle.loft_form.proofs.FirstFault.{spelled_stays, expected_stays}

-- no limit is passed
abbrev Free : {L : Language} {A : Type 0} → Read L A → Type 0
Free (Ok x) = Unit {0}
Free (Err (Expected k)) = Unit {0}
Free (Err (TooDeep k)) = ⊥
Free (Err (TooMany k limit)) = ⊥

module _ {L : Language} where
  free_bind : {A B : Type 0} (r : Read L A) (f : A × Place L → Read L B) → Free r → ((x : A × Place L) → r ≡ Ok x → Free (f x)) → Free (r >>= f)
  free_bind (Ok x) f p q = q x refl
  free_bind (Err (Expected k)) f p q = tt
  free_bind (Err (TooDeep k)) f p q = p
  free_bind (Err (TooMany k limit)) f p q = p

  free_made : {A B : Type 0} (r : Read L A) (h : A → B) → Free r → Free (r >>= λ x. Ok (h x.0, x.1))
  free_made r h p = free_bind r (λ x. Ok (h x.0, x.1)) p (λ x e. tt)

  free_cond : {A : Type 0} (b : Bool) (x y : Read L A) → Free x → Free y → Free (cond b x y)
  free_cond true x y p q = p
  free_cond false x y p q = q

  free_first : {A : Type 0} (x : A) (r : Read L (List A)) → Free r → Free (with_first x r)
  free_first x (Ok y) p = tt
  free_first x (Err (Expected k)) p = tt
  free_first x (Err (TooDeep k)) p = p
  free_first x (Err (TooMany k limit)) p = p

  -- what is read leaves no more than there is
  left_short : {A : Type 0} (r : Read L A) (len : ℕ) (x : A × Place L) → r ≡ Ok x → Keeps len r → length x.1.rest ≤ len
  left_short r len x e h = subst (Keeps len) e h

  free_repeat : {A : Type 0} (goes_on : List L.Symbol → Bool) (one : List L.Symbol → State L → Read L A) (len : ℕ)
      → ((ss : List L.Symbol) (c : State L) → length ss ≤ len → Free (one ss c)) → ((ss : List L.Symbol) (c : State L) → Keeps (length ss) (one ss c))
      → (k : ℕ) (ss : List L.Symbol) (c : State L) → length ss ≤ len → Free (repeat k goes_on one ss c)
  unfolding repeat
  free_repeat goes_on one len h q zero ss c short = tt
  free_repeat goes_on one len h q (suc k) ss c short =
      free_cond (goes_on ss) _ _
      (free_bind (one ss c) _ (h ss c short)
      (λ x e. let less = left_short (one ss c) (length ss) x e (q ss c) in free_first x.0 (repeat k goes_on one x.1.rest x.1.state) (free_repeat goes_on one len h q k x.1.rest x.1.state (omega arith))))
      tt

  free_allowed : {A : Type 0} (x : A) (b : Bool) → b ≡ false → (ss : List L.Symbol) (c : State L) → Free (allowed {L = L} unlimited x b ss c)
  free_allowed x true e ss c = absurd cc
  free_allowed x false e ss c = subst (λ t. Free {L = L} (counting L x ss t)) (sym (all_tallied L (length ss + 1) c.due c.counts)) tt

  free_leaf : {A : Type 0} (n : ℕ) (opens : Bool) (test : L.Kind → Bool) (value : L.Symbol → A) (ss : List L.Symbol) (c : State L) → length ss ≤ n → Free (leaf_at {L = L} unlimited (opens && n == 0) test value ss c)
  unfolding leaf_at
  free_leaf n opens test value [] c short = tt
  free_leaf n opens test value (s ∷ ss) c short = free_cond (test (L.kind s)) _ _ (free_allowed (value s) (opens && n == 0) (never opens n (omega arith)) ss c) tt

  opens_least : {a : Type 0} (f : Form L a) → opens_of f ≡ true → 0 < least f
  opens_least (leaf test value opens) o = omega arith
  opens_least (f ▹ g) o = or_cases (opens_of f) (opens_of g) (0 < least f + least g) (λ e. omega (arith, opens_least f e)) (λ e. omega (arith, opens_least g e)) o
  opens_least (f ∣ g) o = let l = and_true _ _ o in omega (arith, opens_least f l.0, opens_least g l.1)
  opens_least (maybe f) o = absurd cc
  opens_least (many f) o = absurd cc
  opens_least (inside r) o = absurd cc
  opens_least (counted w f) o = opens_least f o
  opens_least (fresh w f) o = opens_least f o
  opens_least (made h f) o = opens_least f o

module _ {L : Language} (G : Grammar L) (rules_guarded : (r : L.Rule) → guarded false (G r) ≡ true) where
  module _ (n : ℕ) (free_rule : (r : L.Rule) (ss : List L.Symbol) (c : State L) → length ss < n → Free (rule_at G unlimited n r ss c)) where
    free : {a : Type 0} (f : Form L a) (before : Bool) → guarded before f ≡ true → (ss : List L.Symbol) (c : State L) → length ss ≤ n → (before ≡ true → length ss < n) → Free (read G unlimited n f ss c)
    free (leaf test value opens) b g ss c short h = free_leaf n opens test value ss c short
    free (f ▹ f') b g ss c short h =
        let l = and_true (guarded b f) (guarded (b || opens_of f) f') g in
        free_bind (read G unlimited n f ss c) (λ x. read G unlimited n f' x.1.rest x.1.state >>= λ y. Ok ((x.0, y.0), y.1)) (free f b l.0 ss c short h)
        (λ x e. let less = left_short (read G unlimited n f ss c) (length ss) x e (read_keeps G unlimited n f ss c) in
        free_made (read G unlimited n f' x.1.rest x.1.state) (λ y. (x.0, y))
        (free f' (b || opens_of f) l.1 x.1.rest x.1.state (omega arith)
        (or_cases b (opens_of f) (length x.1.rest < n) (λ t. omega (arith, h t)) (λ o. omega (arith, eaten G unlimited n f ss c x.0 x.1 (opens_least f o) e)))))
    free (f ∣ f') b g ss c short h = let l = and_true (guarded b f) (guarded b f') g in free_cond (next_begins f ss) _ _ (free f b l.0 ss c short h) (free f' b l.1 ss c short h)
    free (maybe f) b g ss c short h = free_cond (next_begins f ss) _ _ (free_made (read G unlimited n f ss c) (λ x. Some x) (free f b g ss c short h)) tt
    free (many f) b g ss c short h =
        free_repeat (next_begins f) (read G unlimited n f) (length ss) (λ ts d l. free f b g ts d (omega arith) (λ e. omega (arith, h e))) (read_keeps G unlimited n f) (length ss) ss c (omega arith)
    free (inside r) b g ss c short h = free_rule r ss c (h g)
    free (counted w f) b g ss c short h = free f b g ss (owing w c) short h
    free (fresh w f) b g ss c short h = free f b g ss (from_zero w c) short h
    free (made u f) b g ss c short h = free_made (read G unlimited n f ss c) u (free f b g ss c short h)

  free_rule : (n : ℕ) (r : L.Rule) (ss : List L.Symbol) (c : State L) → length ss < n → Free (rule_at G unlimited n r ss c)
  unfolding rule_at
  free_rule zero r ss c short = absurd (omega arith)
  free_rule (suc n) r ss c short = free n (free_rule n) (G r) false (rules_guarded r) ss c (omega arith) (λ e. absurd cc)

-- all of them are of the form, or there is an Expected
abbrev AllFree : {A : Type 0} → Result A Fault → Type 0
AllFree {A} r = ((x : A) × (r ≡ Ok x)) ⊎ ((k : ℕ) × (r ≡ Err (Expected k)))

rest_free : {A S : Type 0} (x : A) (rest : List S) → AllFree (with_rest x rest)
rest_free x [] = inl (x, refl)
rest_free x (s ∷ rest) = inr (length (s ∷ rest), refl)

all_free : {L : Language} {A : Type 0} (r : Read L A) → Free r → AllFree (all_of r)
all_free (Ok x) h = rest_free x.0 x.1.rest
all_free (Err (Expected k)) h = inr (k, refl)
all_free (Err (TooDeep k)) h = absurd h
all_free (Err (TooMany k limit)) h = absurd h

-- Where nothing is limited the symbols spell a value, or stop with Expected, with as many nestings as there are symbols.
pub enough : {L : Language} {a : Type 0} {G : Grammar L} {R : Known L} {f : Form L a} → Checked G R f → (n : ℕ) (ss : List L.Symbol) (c : State L) → length ss ≤ n
    → ((x : a) × SpellsWhole G unlimited n f ss c x) ⊎ ((k : ℕ) × StopsWhole G unlimited n f ss c (Expected k))
enough {L} {a} {G} {R} {f} checked n ss c short = go (all_free (read G unlimited n f ss c) (free G checked.rules_guarded n (free_rule G checked.rules_guarded n) f false checked.form_guarded ss c short (λ e. absurd cc)))
  where
    go : AllFree (all_of (read G unlimited n f ss c)) → ((x : a) × SpellsWhole G unlimited n f ss c x) ⊎ ((k : ℕ) × StopsWhole G unlimited n f ss c (Expected k))
    go (inl p) = inl (p.0, whole_found checked unlimited n ss c p.0 p.1)
    go (inr p) = inr (p.0, whole_stops checked unlimited n ss c (Expected p.0) p.1)

-- ---- one answer without limits

module _ {L : Language} {a : Type 0} {G : Grammar L} {R : Known L} {f : Form L a} (checked : Checked G R f) (ss : List L.Symbol) (c : State L) where
  -- reading all of the symbols, where nothing is limited but nestings
  abbrev Reads : ℕ → Result a Fault
  Reads m = all_of (read G unlimited m f ss c)

  -- what is spelled, or stops, with so many nestings is read so with more of them
  spelled_with : (m k : ℕ) (x : a) → SpellsWhole G unlimited m f ss c x → Reads (m + k) ≡ Ok x
  spelled_with m k x p = spelled_whole checked unlimited (m + k) ss c x (spelled_stays checked unlimited m ss c (m + k) x (omega arith) p)

  stopped_with : (m k j : ℕ) → StopsWhole G unlimited m f ss c (Expected j) → Reads (m + k) ≡ Err (Expected j)
  stopped_with m k j p = stopped_whole checked unlimited (m + k) ss c (Expected j) (expected_stays checked unlimited m ss c (m + k) j (omega arith) p)

  same_sum : (m k : ℕ) → Reads (k + m) ≡ Reads (m + k)
  same_sum m k = let e : k + m ≡ m + k = omega arith in ap Reads e

  -- The symbols spell one value at most, however many nestings may be opened,
  pub one_spelled : (m k : ℕ) (x y : a) → SpellsWhole G unlimited m f ss c x → SpellsWhole G unlimited k f ss c y → x ≡ y
  one_spelled m k x y p q = let h = sym (spelled_with m k x p) ∙ sym (same_sum m k) ∙ spelled_with k m y q in cc

  -- stop at one symbol at most,
  pub one_stop : (m k i j : ℕ) → StopsWhole G unlimited m f ss c (Expected i) → StopsWhole G unlimited k f ss c (Expected j) → i ≡ j
  one_stop m k i j p q = let h = sym (stopped_with m k i p) ∙ sym (same_sum m k) ∙ stopped_with k m j q in cc

  -- and never both.
  pub never_both : (m k j : ℕ) (x : a) → SpellsWhole G unlimited m f ss c x → StopsWhole G unlimited k f ss c (Expected j) → ⊥
  never_both m k j x p q = let h = sym (spelled_with m k x p) ∙ sym (same_sum m k) ∙ stopped_with k m j q in cc
