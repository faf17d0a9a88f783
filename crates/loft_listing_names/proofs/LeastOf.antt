-- What is kept as the least of the numbers is their least.
use Rattle.std.proofs.Common.{◌≡◌, ℕ, ◌<◌, ◌≤◌, ◌⊎◌, inl, inr, true, false, zero, suc, List, [], ◌∷◌, ◌++◌, map, Option, Some, None, refl, sym, ap, ◌∙◌, subst, arith, append-nil, ◌+◌, length, get_or, drop, drop-cons, add-one}
use Rattle.std.specs.Prelude.{nat_lt, if◌then◌else◌, MatchOption}
use Rattle.std.specs.List.{Contains, flat_map}
use Rattle.std.specs.Option.{option_map}
use Rattle.std.proofs.lemmas.Bool.{ltb-true, ltb-false}
use Rattle.loft_scopes.specs.declared.error.NameError.{NameError}
use Rattle.loft_scopes.specs.Faults.{place_of, IsFirst}
use Rattle.loft_listing_names.specs.Least.{lesser, least_of}
use Rattle.loft_listing_names.specs.Wrong.{IsLeast}

pub least_of-append : (least : Option ℕ) (ms ns : List ℕ) → least_of least (ms ++ ns) ≡ least_of (least_of least ms) ns
least_of-append least [] ns = refl
least_of-append least (m ∷ ms) ns = least_of-append (lesser least m) ms ns

-- for the loops that look for an offset
pub ruleset steps = (least_of-append, append-nil)

-- the next of those that are gone over
pub one_more : {A B : Type 0} (f : B → List ℕ) (v : A → B) (least found whole : Option ℕ) (xs : List A) (i : ℕ) (x : A) → i < length xs → x ≡ get_or xs i x
    → least_of least (flat_map f (map v (drop i xs))) ≡ whole → found ≡ least_of least (f (v x)) → least_of found (flat_map f (map v (drop (i + 1) xs))) ≡ whole
one_more f v least found whole xs i x lt is sofar here =
    let split : drop i xs ≡ x ∷ drop (i + 1) xs = drop-cons xs i x lt ∙ rw (← is, add-one) refl in
    ap (λ o. least_of o (flat_map f (map v (drop (i + 1) xs)))) here
    ∙ sym (least_of-append least (f (v x)) (flat_map f (map v (drop (i + 1) xs))))
    ∙ ap (λ ys. least_of least (flat_map f (map v ys))) (sym split)
    ∙ sofar

head : (x : ℕ) (xs : List ℕ) → Contains (x ∷ xs) x
head x xs = (0, omega arith, refl)

tail : (x n : ℕ) (xs : List ℕ) → Contains xs n → Contains (x ∷ xs) n
tail x n xs (k, lt, is) = (suc k, omega arith, is)

-- what holds of the head and of each that is in the tail holds of each
among : (P : ℕ → Type 0) (x : ℕ) (xs : List ℕ) → P x → ((n : ℕ) → Contains xs n → P n) → (n : ℕ) → Contains (x ∷ xs) n → P n
among P x xs here rest n (zero, lt, is) = subst P is here
among P x xs here rest n (suc k, lt, is) = rest n (k, omega arith, is)

-- it is the one so far or one of these, and no greater than they
record Keeps (d e : ℕ) (ns : List ℕ) : Type 0 where
  there : (e ≡ d) ⊎ Contains ns e
  old : e ≤ d
  others : (n : ℕ) → Contains ns n → e ≤ n

keeps : (d e : ℕ) (ns : List ℕ) → least_of (Some d) ns ≡ Some e → Keeps d e ns
keeps d e [] h = let same : e ≡ d = cc in record { there = inl same; old = omega arith; others = λ n (k, lt, is). omega arith }
keeps d e (x ∷ xs) h = elim (nat_lt x d) as (λ b. nat_lt x d ≡ b → least_of (if b then Some x else Some d) xs ≡ Some e → Keeps d e (x ∷ xs)) [
  | true ↦ λ less rest. let k = keeps x e xs rest in let lt = ltb-true x d less in record {
    there = elim k.there [ inl is ↦ inr (subst (λ (n : ℕ). Contains (x ∷ xs) n) (sym is) (head x xs)) | inr later ↦ inr (tail x e xs later) ];
    old = omega arith;
    others = among (λ n. e ≤ n) x xs k.old k.others;
  }
  | false ↦ λ least rest. let k = keeps d e xs rest in let le = ltb-false x d least in record {
    there = elim k.there [ inl is ↦ inl is | inr later ↦ inr (tail x e xs later) ];
    old = k.old;
    others = among (λ n. e ≤ n) x xs (omega arith) k.others;
  }
] refl h

some_stays : (d : ℕ) (ns : List ℕ) → least_of (Some d) ns ≡ None → ⊥
some_stays d [] h = cc
some_stays d (x ∷ xs) h = elim (nat_lt x d) as (λ b. least_of (if b then Some x else Some d) xs ≡ None → ⊥) [ true ↦ some_stays x xs | false ↦ some_stays d xs ] h

-- the least of these, or none
pub least_or_none : (ns : List ℕ) (o : Option ℕ) → o ≡ least_of None ns → MatchOption o (ns ≡ []) (λ n. IsLeast n ns)
least_or_none [] None is = refl
least_or_none [] (Some n) is = absurd cc
least_or_none (x ∷ xs) None is = absurd (some_stays x xs (sym is))
least_or_none (x ∷ xs) (Some n) is = let k = keeps x n xs (sym is) in record {
  there = elim k.there [ inl is ↦ subst (λ (m : ℕ). Contains (x ∷ xs) m) (sym is) (head x xs) | inr later ↦ tail x n xs later ];
  least = among (λ m. n ≤ m) x xs k.old k.others;
}

-- ---- the first of the faults stands at the least offset

mapped : (es : List NameError) (e : NameError) → Contains es e → Contains (map place_of es) (place_of e)
mapped [] e (k, lt, is) = absurd (omega arith)
mapped (x ∷ xs) e (zero, lt, is) = subst (λ (d : NameError). Contains (place_of x ∷ map place_of xs) (place_of d)) is (head (place_of x) (map place_of xs))
mapped (x ∷ xs) e (suc k, lt, is) = tail (place_of x) (place_of e) (map place_of xs) (mapped xs e (k, omega arith, is))

-- one of these faults stands there
mapped_back : (es : List NameError) (n : ℕ) → Contains (map place_of es) n → (e : NameError) × Contains es e × (place_of e ≡ n)
mapped_back [] n (k, lt, is) = absurd (omega arith)
mapped_back (x ∷ xs) n (zero, lt, is) = (x, (0, omega arith, refl), is)
mapped_back (x ∷ xs) n (suc k, lt, is) = let (e, (j, less, there), same) = mapped_back xs n (k, omega arith, is) in (e, (suc j, omega arith, there), same)

first_is_least : (e : NameError) (es : List NameError) → IsFirst e es → IsLeast (place_of e) (map place_of es)
first_is_least e es first = record {
  there = mapped es e first.there;
  least = λ n there. let back = mapped_back es n there in elim (nat_lt n (place_of e)) as (λ b. nat_lt n (place_of e) ≡ b → place_of e ≤ n) [
    | true ↦ λ less. let lt = ltb-true n (place_of e) less in absurd (first.first back.0 back.1 (inl (omega (arith, back.2))))
    | false ↦ λ least. ltb-false n (place_of e) least
  ] refl;
}

pub first_line : (es : List NameError) (fault : Option NameError) (line : Option ℕ) → line ≡ option_map place_of fault
    → MatchOption fault (es ≡ []) (λ e. IsFirst e es) → MatchOption line (map place_of es ≡ []) (λ n. IsLeast n (map place_of es))
first_line es None None is none = ap (map place_of) none
first_line es None (Some n) is none = absurd cc
first_line es (Some e) None is first = absurd cc
first_line es (Some e) (Some n) is first = let same : place_of e ≡ n = cc in subst (λ (m : ℕ). IsLeast m (map place_of es)) same (first_is_least e es first)
