-- What is kept as the first of the faults is their first.
use Rattle.std.proofs.Common.{◌≡◌, ℕ, ◌<◌, ◌≤◌, ◌⊎◌, inl, inr, Bool, true, false, ◌&&◌, ◌==◌, zero, suc, List, [], ◌∷◌, Option, Some, None, refl, sym, ap, ◌∙◌, subst, arith}
use Rattle.std.specs.Prelude.{nat_lt, if◌then◌else◌, Contains, MatchOption}
use Rattle.std.proofs.lemmas.Bool.{or_cases, and_parts, or_parts, and_cases, ltb-true, ltb-false, eqb-true, eqb-false, cases_order}
use Rattle.loft_scopes.specs.declared.error.NameError.{NameError}
use Rattle.loft_scopes.specs.declared.error.NameError.TheVariants.{NoScheduler, Unknown, Twice, Arity, Kind as WrongKind, NoMemory}
use Rattle.loft_tree.specs.Source.{Source}
use Rattle.loft_scopes.specs.Scopes.{Declared, declared}
use Rattle.loft_scopes.specs.Faults.{place_of, rank_of, first_of, Before, Precedes, IsFirst, faults, twice_from, uses_from}
use Rattle.loft_scopes.proofs.First.{least_of-append}
use Rattle.loft_scopes.specs.FirstFault.{least_of, before, precedes, sooner}

-- ---- the order

-- where one number decides before what else is compared
does_before : (m n : ℕ) (b : Bool) (P : Type 0) → (b ≡ true → P) → before m n b ≡ true → Before m n P
does_before m n b P holds h = elim (or_cases (nat_lt m n) (m == n && b) h) [
  | inl less ↦ inl (ltb-true m n less)
  | inr q ↦ let parts = and_parts (m == n) b q in inr (eqb-true m n parts.0, holds parts.1)
]

not_before : (m n : ℕ) (b : Bool) (P : Type 0) → (b ≡ false → P → ⊥) → before m n b ≡ false → Before m n P → ⊥
not_before m n b P fails h (inl less) =
    let no_less : n ≤ m = ltb-false m n (or_parts (nat_lt m n) (m == n && b) h).0 in
    omega arith
not_before m n b P fails h (inr (same, p)) =
    elim (and_cases (m == n) b (or_parts (nat_lt m n) (m == n && b) h).1) [ inl n-same ↦ eqb-false m n n-same same | inr not ↦ fails not p ]

before_through : (k m n : ℕ) (P Q R : Type 0) → (P → Q → R) → Before k m P → Before m n Q → Before k n R
before_through k m n P Q R rest (inl less) (inl fewer) = inl (omega arith)
before_through k m n P Q R rest (inl less) (inr (same, q)) = inl (omega arith)
before_through k m n P Q R rest (inr (same, p)) (inl less) = inl (omega arith)
before_through k m n P Q R rest (inr (same, p)) (inr (also, q)) = inr (same ∙ also, rest p q)

before_past : (k m n : ℕ) (P Q R : Type 0) → (P → (Q → ⊥) → R) → Before k n P → (Before m n Q → ⊥) → Before k m R
before_past k m n P Q R rest (inl less) not = elim (cases_order m n) [
  | inl same ↦ inl (omega arith)
  | inr (inl lower) ↦ absurd (not (inl lower))
  | inr (inr higher) ↦ inl (omega arith)
]
before_past k m n P Q R rest (inr (at, p)) not = elim (cases_order m n) [
  | inl same ↦ inr (at ∙ sym same, rest p (λ q. not (inr (same, q))))
  | inr (inl lower) ↦ absurd (not (inl lower))
  | inr (inr higher) ↦ inl (omega arith)
]

-- neither comes before the other only where they are the same
before_same : (m n : ℕ) (P Q : Type 0) → (Before m n P → ⊥) → (Before n m Q → ⊥) → (m ≡ n) × (P → ⊥) × (Q → ⊥)
before_same m n P Q not never = elim (cases_order m n) [
  | inl same ↦ (same, λ p. not (inr (same, p)), λ q. never (inr (sym same, q)))
  | inr (inl lower) ↦ absurd (not (inl lower))
  | inr (inr higher) ↦ absurd (never (inl higher))
]

less_past : (k m n : ℕ) → k < n → (m < n → ⊥) → k < m
less_past k m n less not = elim (cases_order m n) [ inl same ↦ omega arith | inr (inl lower) ↦ absurd (not lower) | inr (inr higher) ↦ omega arith ]

does_precede : (e d : NameError) → precedes e d ≡ true → Precedes e d
does_precede e d = does_before (place_of e) (place_of d) _ _ (does_before (rank_of e) (rank_of d) _ _ (ltb-true (first_of e) (first_of d)))

doesnt_precede : (e d : NameError) → precedes e d ≡ false → Precedes e d → ⊥
doesnt_precede e d =
    not_before (place_of e) (place_of d) _ _ (not_before (rank_of e) (rank_of d) _ _ (λ h less. let no_less : first_of d ≤ first_of e = ltb-false (first_of e) (first_of d) h in omega arith))

not_itself : (e : NameError) → Precedes e e → ⊥
not_itself e (inl sooner) = omega arith
not_itself e (inr (here, inl lower)) = omega arith
not_itself e (inr (here, inr (rank, less))) = omega arith

through : (x d e : NameError) → Precedes x d → Precedes d e → Precedes x e
through x d e =
    before_through (place_of x) (place_of d) (place_of e) _ _ _
    (before_through (rank_of x) (rank_of d) (rank_of e) _ _ _ (λ (p : first_of x < first_of d) (q : first_of d < first_of e). omega arith))

-- what comes before e, comes before all that e doesn't follow
past : (x d e : NameError) → Precedes x e → (Precedes d e → ⊥) → Precedes x d
past x d e =
    before_past (place_of x) (place_of d) (place_of e) _ _ _
    (before_past (rank_of x) (rank_of d) (rank_of e) _ _ _ (less_past (first_of x) (first_of d) (first_of e)))

-- two faults of which neither comes before the other are one
pub neither_precedes : (e d : NameError) → (Precedes e d → ⊥) → (Precedes d e → ⊥) → e ≡ d
neither_precedes e d not never =
    let at = before_same (place_of e) (place_of d) _ _ not never in
    let rank = before_same (rank_of e) (rank_of d) _ _ at.1 at.2 in
    one e d at.0 rank.0 (elim (cases_order (first_of e) (first_of d)) [ inl same ↦ same | inr (inl lower) ↦ absurd (rank.1 lower) | inr (inr higher) ↦ absurd (rank.2 higher) ])
  where
    one : (x y : NameError) → place_of x ≡ place_of y → rank_of x ≡ rank_of y → first_of x ≡ first_of y → x ≡ y
    one NoScheduler NoScheduler at rank first = refl
    one (Unknown a) (Unknown b) at rank first = ap Unknown at
    one (Twice a first-a) (Twice b first-b) at rank first = λ i. Twice (at i) (first i)
    one (WrongKind a) (WrongKind b) at rank first = ap WrongKind at
    one (Arity a) (Arity b) at rank first = ap Arity at
    one NoMemory NoMemory at rank first = refl
    one x y at rank first = absurd (omega arith)

-- ---- the first

head : (x : NameError) (xs : List NameError) → Contains (x ∷ xs) x
head x xs = (0, omega arith, refl)

tail_contains : (x e : NameError) (xs : List NameError) → Contains xs e → Contains (x ∷ xs) e
tail_contains x e xs (k, lt, is) = (suc k, omega arith, is)

-- it is the one so far or one of these, and neither that one nor one of these comes before it
record Keeps (d e : NameError) (es : List NameError) : Type 0 where
  there : (e ≡ d) ⊎ Contains es e
  old : Precedes d e → ⊥
  others : (x : NameError) → Contains es x → Precedes x e → ⊥

keeps : (d e : NameError) (es : List NameError) → least_of (Some d) es ≡ Some e → Keeps d e es
keeps d e [] h =
    let same : e ≡ d = cc in
    record {
      there = inl same;
      old = λ p. not_itself d (subst (λ (y : NameError). Precedes d y) same p);
      others = λ x (k, lt, is) p. omega arith;
    }
keeps d e (x ∷ xs) h = elim (precedes x d) as (λ b. precedes x d ≡ b → least_of (Some (if b then x else d)) xs ≡ Some e → Keeps d e (x ∷ xs)) [
  | true ↦ λ first rest. let k = keeps x e xs rest in record {
    there = elim k.there [ inl is ↦ inr (subst (λ (y : NameError). Contains (x ∷ xs) y) (sym is) (head x xs)) | inr later ↦ inr (tail_contains x e xs later) ];
    old = λ p. k.old (through x d e (does_precede x d first) p);
    others = λ y c p. among y c p k.old k.others;
  }
  | false ↦ λ first rest. let k = keeps d e xs rest in record {
    there = elim k.there [ inl is ↦ inl is | inr later ↦ inr (tail_contains x e xs later) ];
    old = k.old;
    others = λ y c p. among y c p (λ q. doesnt_precede x d first (past x d e q k.old)) k.others;
  }
] refl h
  where
    among : (y : NameError) → Contains (x ∷ xs) y → Precedes y e → (Precedes x e → ⊥) → ((z : NameError) → Contains xs z → Precedes z e → ⊥) → ⊥
    among y (zero, lt, is) p here rest = here (subst (λ (z : NameError). Precedes z e) (sym is) p)
    among y (suc k, lt, is) p here rest = rest y (k, omega arith, is) p

pub least_is_first : (es : List NameError) (e : NameError) → least_of None es ≡ Some e → IsFirst e es
least_is_first [] e h = absurd cc
least_is_first (x ∷ xs) e h = let k = keeps x e xs h in record {
  there = elim k.there [ inl is ↦ subst (λ (y : NameError). Contains (x ∷ xs) y) (sym is) (head x xs) | inr later ↦ tail_contains x e xs later ];
  first = λ y c p. among y c p;
}
  where
    among : (y : NameError) → Contains (x ∷ xs) y → Precedes y e → ⊥
    among y (zero, lt, is) p = (keeps x e xs h).old (subst (λ (z : NameError). Precedes z e) (sym is) p)
    among y (suc k, lt, is) p = (keeps x e xs h).others y (k, omega arith, is) p

some_stays : (d : NameError) (es : List NameError) → least_of (Some d) es ≡ None → ⊥
some_stays d [] h = cc
some_stays d (x ∷ xs) h = some_stays (sooner (Some d) x) xs h

pub least_is_none : (es : List NameError) → least_of None es ≡ None → es ≡ []
least_is_none [] h = refl
least_is_none (x ∷ xs) h = absurd (some_stays x xs h)

-- the faults of declarations and then of uses
pub found : (p : Source) (table : List Declared) (once twice : Option NameError) → table ≡ declared p
    → once ≡ least_of None (twice_from [] (declared p)) → twice ≡ least_of once (uses_from table 0 p) → twice ≡ least_of None (faults p)
found p table once twice is first second =
    second ∙ (λ i. least_of (first i) (uses_from (is i) 0 p)) ∙ sym (least_of-append None (twice_from [] (declared p)) (uses_from (declared p) 0 p))

-- the first of the faults, or none
pub first_or_none : (es : List NameError) (o : Option NameError) → o ≡ least_of None es → MatchOption o (es ≡ []) (λ e. IsFirst e es)
first_or_none es None is = least_is_none es (sym is)
first_or_none es (Some e) is = least_is_first es e (sym is)
