-- Where bytes are cut.
use Rattle.std.proofs.Common.{◌≡◌, ℕ, suc, ◌+◌, ◌-◌, ◌<◌, ◌≤◌, ◌==◌, Bool, true, false, not, ◌&&◌, List, [], ◌∷◌, ◌++◌, length, take, drop, Some, None, ◌⊎◌, inl, inr, if◌then◌else◌, refl, sym, ap, ◌∙◌, arith}
use Rattle.std.proofs.lemmas.List.{take_all, length-append}
use Rattle.std.proofs.Math.Seq.{take-append_seam, drop-append-add}
use Rattle.std.specs.List.{position_from}
use Rattle.loft_spelling.proofs.Sets.{and_both, both_and}
use Rattle.loft_order_lines.specs.Cut.{lacks, Lacks, IsCut}

-- a byte stands after those that lack it, once
one_cut : (c : ℕ) (a b x y : List ℕ) → Lacks c a → Lacks c b → a ++ c ∷ x ≡ b ++ c ∷ y → (a ≡ b) × (x ≡ y)
one_cut c [] [] x y p q e = (refl, (let f = e in cc))
one_cut c [] (d ∷ b) x y p q e = absurd (let same : d ≡ c = cc in let r = (and_both (not (d == c)) (lacks c b) q).0 in grind (arith, r, same))
one_cut c (d ∷ a) [] x y p q e = absurd (let same : d ≡ c = cc in let r = (and_both (not (d == c)) (lacks c a) p).0 in grind (arith, r, same))
one_cut c (d ∷ a) (f ∷ b) x y p q e =
    let same : d ≡ f = cc in
    let rest : a ++ c ∷ x ≡ b ++ c ∷ y = cc in
    let h = one_cut c a b x y (and_both (not (d == c)) (lacks c a) p).1 (and_both (not (f == c)) (lacks c b) q).1 rest in
    ((let g = h.0 in cc), h.1)

-- bytes that lack it have it nowhere
never : (c : ℕ) (front rest : List ℕ) → Lacks c (front ++ c ∷ rest) → ⊥
never c [] rest p = let r = (and_both (not (c == c)) (lacks c rest) p).0 in grind (arith, r)
never c (b ∷ front) rest p = never c front rest (and_both (not (b == c)) (lacks c (front ++ c ∷ rest)) p).1

-- what comes before a byte and after it
pub cut_found : (c : ℕ) (bytes f r front rest : List ℕ) → IsCut c bytes f r → Lacks c front → bytes ≡ front ++ c ∷ rest → (f ≡ front) × (r ≡ rest)
cut_found c bytes f r front rest is none e = go is.whole
  where
    go : (bytes ≡ f ++ c ∷ r) ⊎ ((bytes ≡ f) × (r ≡ [])) → (f ≡ front) × (r ≡ rest)
    go (inl w) = one_cut c f front r rest is.lack none (sym w ∙ e)
    go (inr w) = absurd (let g : f ≡ front ++ c ∷ rest = sym w.0 ∙ e in never c front rest (ap (lacks c) (sym g) ∙ is.lack))

-- where the byte isn't there
pub cut_none : (c : ℕ) (bytes f r : List ℕ) → IsCut c bytes f r → Lacks c bytes → (f ≡ bytes) × (r ≡ [])
cut_none c bytes f r is none = go is.whole
  where
    go : (bytes ≡ f ++ c ∷ r) ⊎ ((bytes ≡ f) × (r ≡ [])) → (f ≡ bytes) × (r ≡ [])
    go (inl w) = absurd (never c f r (ap (lacks c) (sym w) ∙ none))
    go (inr w) = (sym w.0, w.1)

-- of bytes that are there, fewer come after the cut
pub cut_shorter : (c : ℕ) (bytes f r : List ℕ) → IsCut c bytes f r → 0 < length bytes → length r < length bytes
cut_shorter c bytes f r is some = go is.whole
  where
    go : (bytes ≡ f ++ c ∷ r) ⊎ ((bytes ≡ f) × (r ≡ [])) → length r < length bytes
    go (inl w) = let long : length bytes ≡ length f + suc (length r) = ap length w ∙ length-append f (c ∷ r) in omega (arith, long)
    go (inr w) = let short : length r ≡ 0 = ap length w.1 in omega (arith, short, some)

-- ---- the index of the byte

-- the first parts of the list
record Found (c k i : ℕ) (xs : List ℕ) : Type 0 where
  front : List ℕ
  rest : List ℕ
  long : i ≡ k + length front
  lack : Lacks c front
  whole : xs ≡ front ++ c ∷ rest

found_at : (c k i : ℕ) (xs : List ℕ) → position_from (λ b. b == c) k xs ≡ Some i → Found c k i xs
found_at c k i [] e = absurd cc
found_at c k i (x ∷ xs) e = go (x == c) refl e (found_at c (k + 1) i xs)
  where
    go : (t : Bool) → (x == c) ≡ t → (if t then Some k else position_from (λ b. b == c) (k + 1) xs) ≡ Some i
        → (position_from (λ b. b == c) (k + 1) xs ≡ Some i → Found c (k + 1) i xs) → Found c k i (x ∷ xs)
    go true is f later =
        let same : x ≡ c = grind (arith, is) in
        let at : k ≡ i = cc in
        record { front = []; rest = xs; long = omega (arith, at); lack = refl; whole = ap (λ b. b ∷ xs) same }
    go false is f later =
        let l = later f in
        record { front = x ∷ l.front; rest = l.rest; long = omega (arith, l.long); lack = both_and (not (x == c)) (lacks c l.front) (ap not is) l.lack; whole = ap (λ t. x ∷ t) l.whole }

none_at : (c k : ℕ) (xs : List ℕ) → position_from (λ b. b == c) k xs ≡ None → Lacks c xs
none_at c k [] e = refl
none_at c k (x ∷ xs) e = go (x == c) refl e (none_at c (k + 1) xs)
  where
    go : (t : Bool) → (x == c) ≡ t → (if t then Some k else position_from (λ b. b == c) (k + 1) xs) ≡ None
        → (position_from (λ b. b == c) (k + 1) xs ≡ None → Lacks c xs) → (not (x == c) && lacks c xs) ≡ true
    go true is f later = absurd cc
    go false is f later = both_and (not (x == c)) (lacks c xs) (ap not is) (later f)

pub is_cut : (c index : ℕ) (bytes : List ℕ) → position_from (λ b. b == c) 0 bytes ≡ Some index → IsCut c bytes (take index bytes) (take (length bytes - (index + 1)) (drop (index + 1) bytes))
is_cut c index bytes e =
    let f = found_at c 0 index bytes e in
    let at : index ≡ length f.front = omega (arith, f.long) in
    let first : take index bytes ≡ f.front =
    ap (λ t. take index t) f.whole ∙ ap (λ k. take k (f.front ++ c ∷ f.rest)) at ∙ take-append_seam f.front (c ∷ f.rest) in
    let after : drop (index + 1) bytes ≡ f.rest =
    ap (λ t. drop (index + 1) t) f.whole ∙ ap (λ k. drop (k + 1) (f.front ++ c ∷ f.rest)) at ∙ drop-append-add f.front (c ∷ f.rest) 1 in
    let long : length bytes ≡ length f.front + suc (length f.rest) = ap length f.whole ∙ length-append f.front (c ∷ f.rest) in
    let enough : length f.rest ≤ length bytes - (index + 1) = omega (arith, long, at) in
    let all : take (length bytes - (index + 1)) (drop (index + 1) bytes) ≡ f.rest = ap (λ t. take (length bytes - (index + 1)) t) after ∙ take_all (length bytes - (index + 1)) f.rest enough in
    rw (first, all) (record { lack = f.lack; whole = inl f.whole })

pub is_uncut : (c : ℕ) (bytes : List ℕ) → position_from (λ b. b == c) 0 bytes ≡ None → IsCut c bytes bytes []
is_uncut c bytes e = record { lack = none_at c 0 bytes e; whole = inr (refl, refl) }
