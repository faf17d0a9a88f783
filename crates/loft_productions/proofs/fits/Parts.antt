-- What the values of forms are, and how much they count, by their parts.
use Rattle.std.proofs.Common.{◌≡◌, ℕ, zero, suc, ◌+◌, ◌≤◌, Bool, true, false, List, [], ◌∷◌, ◌++◌, Option, Some, None, ⊎_elim, refl, sym, ap, subst, arith}
use Rattle.loft_form.specs.Form.{leaf, ◌▹◌, ◌∣◌, maybe, many, inside, counted, fresh, made, Limits, State}
use Rattle.loft_form.specs.Spells.{SpellsEach, SpellsMaybe, owing, from_zero}
use Rattle.loft_lex.specs.Symbol.{Symbol}
use Rattle.loft_tree.specs.Fits.{Each, IfThere}
use Rattle.loft_grammar.specs.Counts.{most, number}
use Rattle.loft_grammar.specs.Symbols.{Form}
use Rattle.loft_grammar.specs.Statements.{rules}
use Rattle.loft_grammar.specs.Language.{Language, Kind, Rule, Meaning, kind_of}
use Rattle.loft_grammar.specs.Limits.{limits}
use Rattle.loft_grammar.specs.declared.counts.Counted.{Counted}
use Rattle.loft_productions.proofs.fits.Counting.{one, owed, total, UpTo, Within, zero_within}
use Rattle.loft_productions.proofs.fits.Forms.{Spelled, spares, counts, settles, spelled_counts, spelled_keeps, spelled_settles}
use Rattle.loft_productions.proofs.fits.Symbols.{SymbolFits, each_front, each_back}

-- each value of the form is so, if its symbols fit and no count was past its limit before
pub record Gives {A : Type 0} (lim : Limits Language) (n : ℕ) (f : Form A) (P : A → Type 0) : Type 0 where
  pub of : (ss : List Symbol) (c : State Language) (x : A) (d : State Language) → Each SymbolFits ss → Within lim c.counts → Spelled lim n f ss c x d → P x

-- each value of the form counts so much
pub record Weighs {A : Type 0} (lim : Limits Language) (n : ℕ) (w : Counted) (f : Form A) (m : A → ℕ) : Type 0 where
  pub of : (ss : List Symbol) (c : State Language) (x : A) (d : State Language) → Spelled lim n f ss c x d → total w c + m x ≤ total w d

-- ---- what values are

-- of any value nothing is said
pub gives_any : {lim : Limits Language} {n : ℕ} {A : Type 0} {f : Form A} → Gives lim n f (λ _. Unit {0})
gives_any = record { of = λ ss c x d fits within h. tt }

pub gives_leaf : {lim : Limits Language} {n : ℕ} {A : Type 0} {passes : Kind → Bool} {value : Symbol → A} {opens : Bool} {P : A → Type 0}
    → ((s : Symbol) → SymbolFits s → passes (kind_of s.what) ≡ true → P (value s)) → Gives lim n (leaf passes value opens) P
gives_leaf {P = P} k = record { of = λ ss c x d fits within h. subst P (sym h.3) (k h.0 (subst (Each SymbolFits) h.1 fits).0 h.2) }

-- one form after the other
infixr 30 ◌▸◌
pub ◌▸◌ : {lim : Limits Language} {n : ℕ} {A B : Type 0} {f : Form A} {g : Form B} {P : A → Type 0} {Q : B → Type 0} → Gives lim n f P → Gives lim n g Q → Gives lim n (f ▹ g) (λ x. P x.0 × Q x.1)
◌▸◌ {lim} {n} {f = f} p q = record {
  of = λ ss c x d fits within h.
      let all : Each SymbolFits (h.0 ++ h.1) = subst (Each SymbolFits) h.3 fits in
      (p.of h.0 c x.0 h.2 (each_front SymbolFits h.0 h.1 all) within h.4, q.of h.1 h.2 x.1 d (each_back SymbolFits h.0 h.1 all) (spelled_keeps lim n f h.0 c x.0 h.2 h.4 within) h.5);
}

-- one form or the other
infixr 20 ◌or◌
pub ◌or◌ : {lim : Limits Language} {n : ℕ} {A : Type 0} {f g : Form A} {P : A → Type 0} → Gives lim n f P → Gives lim n g P → Gives lim n (f ∣ g) P
◌or◌ p q = record { of = λ ss c x d fits within h. ⊎_elim (p.of ss c x d fits within) (q.of ss c x d fits within) h }

pub gives_made : {lim : Limits Language} {n : ℕ} {A B : Type 0} {h : A → B} {f : Form A} {P : A → Type 0} {Q : B → Type 0} → Gives lim n f P → ((x : A) → P x → Q (h x)) → Gives lim n (made h f) Q
gives_made {Q = Q} p k = record { of = λ ss c x d fits within h. subst Q (sym h.1) (k h.0 (p.of ss c h.0 d fits within h.2)) }

pub gives_counted : {lim : Limits Language} {n : ℕ} {A : Type 0} {w : Counted} {f : Form A} {P : A → Type 0} → Gives lim n f P → Gives lim n (counted w f) P
gives_counted {w = w} p = record { of = λ ss c x d fits within h. p.of ss (owing w c) x d fits within h }

pub gives_fresh : {lim : Limits Language} {n : ℕ} {A : Type 0} {w : Counted} {f : Form A} {P : A → Type 0} → Gives lim n f P → Gives lim n (fresh w f) P
gives_fresh {lim} {w = w} p = record { of = λ ss c x d fits within h. p.of ss (from_zero w c) x d fits (zero_within lim w c within) h }

maybe_of : {lim : Limits Language} {n : ℕ} {A : Type 0} {f : Form A} {P : A → Type 0} → Gives lim n f P → (ss : List Symbol) (c : State Language) (x : Option A) (d : State Language) → Each SymbolFits ss → Within lim c.counts → SpellsMaybe (Spelled lim n f) ss c x d → IfThere P x
maybe_of p ss c None d fits within h = tt
maybe_of p ss c (Some x) d fits within h = p.of ss c x d fits within h

pub gives_maybe : {lim : Limits Language} {n : ℕ} {A : Type 0} {f : Form A} {P : A → Type 0} → Gives lim n f P → Gives lim n (maybe f) (IfThere P)
gives_maybe p = record { of = maybe_of p }

many_of : {lim : Limits Language} {n : ℕ} {A : Type 0} {f : Form A} {P : A → Type 0} → Gives lim n f P → (ss : List Symbol) (c : State Language) (xs : List A) (d : State Language) → Each SymbolFits ss → Within lim c.counts → SpellsEach (Spelled lim n f) ss c xs d → Each P xs
many_of p ss c [] d fits within h = tt
many_of {lim} {n} {f = f} p ss c (x ∷ xs) d fits within h =
    let all : Each SymbolFits (h.0 ++ h.1) = subst (Each SymbolFits) h.3 fits in
    (p.of h.0 c x h.2 (each_front SymbolFits h.0 h.1 all) within h.4, many_of p h.1 h.2 xs d (each_back SymbolFits h.0 h.1 all) (spelled_keeps lim n f h.0 c x h.2 h.4 within) h.5)

pub gives_many : {lim : Limits Language} {n : ℕ} {A : Type 0} {f : Form A} {P : A → Type 0} → Gives lim n f P → Gives lim n (many f) (Each P)
gives_many p = record { of = many_of p }

pub gives_both : {lim : Limits Language} {n : ℕ} {A : Type 0} {f : Form A} {P Q : A → Type 0} → Gives lim n f P → Gives lim n f Q → Gives lim n f (λ x. P x × Q x)
gives_both p q = record { of = λ ss c x d fits within h. (p.of ss c x d fits within h, q.of ss c x d fits within h) }

pub gives_so : {lim : Limits Language} {n : ℕ} {A : Type 0} {f : Form A} {P Q : A → Type 0} → Gives lim n f P → ((x : A) → P x → Q x) → Gives lim n f Q
gives_so p k = record { of = λ ss c x d fits within h. k x (p.of ss c x d fits within h) }

-- No rule stands inside where no nesting may be opened; else it is read with one nesting fewer.
pub gives_inside_none : {lim : Limits Language} (r : Rule) (P : Meaning r → Type 0) → Gives lim zero (inside r) P
gives_inside_none r P = record { of = λ ss c x d fits within h. absurd h }

pub gives_inside : {lim : Limits Language} (n : ℕ) (r : Rule) (P : Meaning r → Type 0) → Gives lim n (rules r) P → Gives lim (suc n) (inside r) P
gives_inside n r P p = record { of = p.of }

-- ---- how much values count

-- each value counts at least nothing, and at least one where the form surely counts
pub weighs_none : {lim : Limits Language} {n : ℕ} {w : Counted} {A : Type 0} {f : Form A} → spares w f ≡ true → Weighs lim n w f (λ _. 0)
weighs_none {lim} {n} {w} {f = f} spared = record { of = λ ss c x d h. omega (arith, spelled_counts lim n w f ss c x d spared h) }

pub weighs_one : {lim : Limits Language} {n : ℕ} {w : Counted} {A : Type 0} {f : Form A} → spares w f ≡ true → counts w f ≡ true → Weighs lim n w f (λ _. 1)
weighs_one {lim} {n} {w} {f = f} spared sure = record { of = λ ss c x d h. let e : one (counts w f) ≡ 1 = ap one sure in omega (arith, spelled_counts lim n w f ss c x d spared h) }

pub weighs_then : {lim : Limits Language} {n : ℕ} {w : Counted} {A B : Type 0} {f : Form A} {g : Form B} {p : A → ℕ} {q : B → ℕ} → Weighs lim n w f p → Weighs lim n w g q → Weighs lim n w (f ▹ g) (λ x. p x.0 + q x.1)
weighs_then p q = record { of = λ ss c x d h. omega (arith, p.of h.0 c x.0 h.2 h.4, q.of h.1 h.2 x.1 d h.5) }

pub weighs_either : {lim : Limits Language} {n : ℕ} {w : Counted} {A : Type 0} {f g : Form A} {m : A → ℕ} → Weighs lim n w f m → Weighs lim n w g m → Weighs lim n w (f ∣ g) m
weighs_either p q = record { of = λ ss c x d h. ⊎_elim (p.of ss c x d) (q.of ss c x d) h }

pub weighs_made : {lim : Limits Language} {n : ℕ} {w : Counted} {A B : Type 0} {h : A → B} {f : Form A} {p : A → ℕ} {q : B → ℕ} → Weighs lim n w f p → ((x : A) → q (h x) ≤ p x) → Weighs lim n w (made h f) q
weighs_made {q = q} p k = record { of = λ ss c x d h. let e : q x ≡ q _ = ap q h.1 in omega (arith, k h.0, p.of ss c h.0 d h.2) }

-- how much the values of a list count
abbrev pub weights : {A : Type 0} → (A → ℕ) → List A → ℕ
weights m [] = 0
weights m (x ∷ xs) = m x + weights m xs

many_weigh : {lim : Limits Language} {n : ℕ} {w : Counted} {A : Type 0} {f : Form A} {m : A → ℕ} → Weighs lim n w f m → (ss : List Symbol) (c : State Language) (xs : List A) (d : State Language) → SpellsEach (Spelled lim n f) ss c xs d → total w c + weights m xs ≤ total w d
many_weigh {w = w} p ss c [] d h = let e : total w d ≡ total w c = ap (total w) h.1 in omega arith
many_weigh p ss c (x ∷ xs) d h = omega (arith, p.of h.0 c x h.2 h.4, many_weigh p h.1 h.2 xs d h.5)

pub weighs_many : {lim : Limits Language} {n : ℕ} {w : Counted} {A : Type 0} {f : Form A} {m : A → ℕ} → Weighs lim n w f m → Weighs lim n w (many f) (weights m)
weighs_many p = record { of = many_weigh p }

maybe_weigh : {lim : Limits Language} {n : ℕ} {w : Counted} {A : Type 0} {f : Form A} {p : A → ℕ} (q : Option A → ℕ) → q None ≡ 0 → ((x : A) → q (Some x) ≤ p x) → Weighs lim n w f p → (ss : List Symbol) (c : State Language) (x : Option A) (d : State Language) → SpellsMaybe (Spelled lim n f) ss c x d → total w c + q x ≤ total w d
maybe_weigh {w = w} q none some p ss c None d h = let e : total w d ≡ total w c = ap (total w) h.1 in omega arith
maybe_weigh q none some p ss c (Some x) d h = omega (arith, some x, p.of ss c x d h)

pub weighs_maybe : {lim : Limits Language} {n : ℕ} {w : Counted} {A : Type 0} {f : Form A} {p : A → ℕ} {q : Option A → ℕ} → q None ≡ 0 → ((x : A) → q (Some x) ≤ p x) → Weighs lim n w f p → Weighs lim n w (maybe f) q
weighs_maybe {q = q} none some p = record { of = maybe_weigh q none some p }

pub weighs_so : {lim : Limits Language} {n : ℕ} {w : Counted} {A : Type 0} {f : Form A} {p q : A → ℕ} → Weighs lim n w f p → ((x : A) → q x ≤ p x) → Weighs lim n w f q
weighs_so p k = record { of = λ ss c x d h. omega (arith, k x, p.of ss c x d h) }

pub weighs_inside_none : {lim : Limits Language} (w : Counted) (r : Rule) (m : Meaning r → ℕ) → Weighs lim zero w (inside r) m
weighs_inside_none w r m = record { of = λ ss c x d h. absurd h }

pub weighs_inside : {lim : Limits Language} (n : ℕ) (w : Counted) (r : Rule) (m : Meaning r → ℕ) → Weighs lim n w (rules r) m → Weighs lim (suc n) w (inside r) m
weighs_inside n w r m p = record { of = p.of }

-- ---- limits

-- the limit is that of sources
abbrev pub IsLimited : Limits Language → Counted → Type 0
IsLimited lim w = lim.most w ≡ Some (most w)

-- sources have all of theirs
pub limited : (w : Counted) → IsLimited limits w
limited w = refl

-- What is counted is within the limit, once nothing is due.
pub few_of : {A : Type 0} {lim : Limits Language} {n : ℕ} {w : Counted} {f : Form A} {m : A → ℕ} → IsLimited lim w → (b : Bool) → Weighs lim n w f m → settles b f ≡ true
    → (ss : List Symbol) (c : State Language) (x : A) (d : State Language) → (b ≡ true → c.due ≡ []) → Within lim c.counts → Spelled lim n f ss c x d → m x ≤ most w
few_of {lim} {n = n} {w = w} {f = f} limited b p settled ss c x d paid within h =
    let e : owed w d.due ≡ 0 = ap (owed w) (spelled_settles lim n f b ss c x d paid settled h) in
    let few : number w d.counts ≤ most w = subst (λ o. UpTo o (number w d.counts)) limited ((spelled_keeps lim n f ss c x d h within).each w) in
    omega (arith, p.of ss c x d h, few)

-- each value counts no more than the limit
pub gives_few : {A : Type 0} {lim : Limits Language} {n : ℕ} {w : Counted} {f : Form A} {m : A → ℕ} → IsLimited lim w → Weighs lim n w f m → settles false f ≡ true → Gives lim n f (λ x. m x ≤ most w)
gives_few limited p settled = record { of = λ ss c x d fits within h. few_of limited false p settled ss c x d (λ e. absurd cc) within h }

-- what is counted from 0 is within the limit after the next symbols
pub gives_few_fresh : {A B : Type 0} {lim : Limits Language} {n : ℕ} {w : Counted} {f : Form A} {g : Form B} {m : A → ℕ} → IsLimited lim w → Weighs lim n w f m → spares w g ≡ true → settles false (f ▹ g) ≡ true → Gives lim n (fresh w f ▹ g) (λ x. m x.0 ≤ most w)
gives_few_fresh {lim} {w = w} {g = g} limited p spared settled = record {
  of = λ ss c x d fits within h.
      let few = few_of limited false (weighs_then p (weighs_none {f = g} spared)) settled ss (from_zero w c) x d (λ e. absurd cc) (zero_within lim w c within) h in
      omega (arith, few);
}
