-- Texts that are compared piece by piece.
use Rattle.std.proofs.Common.{◌≡◌, ℕ, zero, suc, ◌+◌, ◌-◌, ◌<◌, ◌≤◌, ◌==◌, nat_eq, min, Bool, true, false, List, [], ◌∷◌, ◌++◌, length, take, drop, get_or, ◌⊎◌, inl, inr, refl, sym, ap, subst, ◌∙◌, append-nil, append_assoc, length-append, length-drop, arith}
use Rattle.std.proofs.lemmas.Grind.{common_steps}
use Rattle.std.proofs.lemmas.List.{take_all, take-append-drop}
use Rattle.loft_replay_error.specs.Difference.{DifferAt}
use Rattle.loft_raw_block.specs.Compared.{SameFront, Matches}

-- so many bytes of what begins with others
take_past : (a b : List ℕ) (n : ℕ) → take (length a + n) (a ++ b) ≡ a ++ take n b
take_past [] b n = let e : 0 + n ≡ n = omega arith in ap (λ k. take k b) e
take_past (x ∷ a) b n = let e : suc (length a) + n ≡ suc (length a + n) = omega arith in ap (λ k. take k (x ∷ (a ++ b))) e ∙ ap (λ t. x ∷ t) (take_past a b n)

take_within : (a b : List ℕ) (n : ℕ) → n ≤ length a → take n (a ++ b) ≡ take n a
take_within [] b n small = let e : n ≡ 0 = omega (arith, small) in ap (λ k. take k b) e ∙ sym (ap (λ k. take k []) e)
take_within (x ∷ a) b zero small = refl
take_within (x ∷ a) b (suc n) small = ap (λ t. x ∷ t) (take_within a b n (omega (arith, small)))

cancel : (p a b : List ℕ) → p ++ a ≡ p ++ b → a ≡ b
cancel [] a b e = e
cancel (c ∷ p) a b e = cancel p a b (let f = e in cc)

length_take : (n : ℕ) (a : List ℕ) → length (take n a) ≡ min n (length a)
length_take n a = grind (arith, common_steps)

-- one more byte that is the same
next_same : (a b : List ℕ) (n : ℕ) → take (suc n) a ≡ take (suc n) b → n < length a → (n < length b) × (get_or a n 0 ≡ get_or b n 0)
next_same [] b n e small = absurd (omega (arith, small))
next_same (x ∷ a) [] n e small = absurd (let f : x ∷ take n a ≡ [] = e in cc)
next_same (x ∷ a) (y ∷ b) zero e small = let f : x ∷ [] ≡ y ∷ [] = e in (omega arith, (let g : x ≡ y = cc in g))
next_same (x ∷ a) (y ∷ b) (suc n) e small =
    let f : x ∷ take (suc n) a ≡ y ∷ take (suc n) b = e in
    let g : take (suc n) a ≡ take (suc n) b = cc in
    let h = next_same a b n g (omega (arith, small)) in
    (omega (arith, h.0), h.1)

-- a piece that is the same to its end
pub piece_same : (text front piece left : List ℕ) (n : ℕ) → text ≡ front ++ left → SameFront piece left n → n ≡ length piece → text ≡ (front ++ piece) ++ drop n left
piece_same text front piece left n whole s all =
    let first : piece ≡ take n left = sym (take_all n piece (omega (arith, all))) ∙ s.same in
    whole ∙ ap (λ t. front ++ t) (sym (take-append-drop n left)) ∙ ap (λ t. front ++ (t ++ drop n left)) (sym first) ∙ sym (append_assoc front piece (drop n left))

-- a piece that differs
pub piece_differs : (text front piece left : List ℕ) (n : ℕ) → text ≡ front ++ left → SameFront piece left n → n < length piece → Matches text (drop n left) false (front ++ piece)
piece_differs text front piece left n whole s few =
    let k = length front + n in
    let long : length (front ++ piece) ≡ length front + length piece = length-append front piece in
    let all : length text ≡ length front + length left = ap length whole ∙ length-append front left in
    let rest : length (drop n left) ≡ length left - n = length-drop n left in
    let same : take k (front ++ piece) ≡ take k text = take_past front piece n ∙ ap (λ t. front ++ t) s.same ∙ sym (take_past front left n) ∙ ap (take k) (sym whole) in (
      k,
      omega (arith, long, few),
      omega (arith, all, rest, s.in_other),
      (
        same,
        λ e.
            let sum : k + 1 ≡ length front + (n + 1) = omega arith in
            let f : front ++ take (n + 1) piece ≡ front ++ take (n + 1) left =
            sym (take_past front piece (n + 1)) ∙ ap (λ j. take j (front ++ piece)) (sym sum) ∙ e ∙ ap (take (k + 1)) whole ∙ ap (λ j. take j (front ++ left)) sum ∙ take_past front left (n + 1) in
            let one : n + 1 ≡ suc n = omega arith in
            let g : take (suc n) piece ≡ take (suc n) left = subst (λ j. take j piece ≡ take j left) one (cancel front (take (n + 1) piece) (take (n + 1) left) f) in
            let h = next_same piece left n g few in
            s.last few h.0 h.1,
      ),
    )

-- what differs still differs with more bytes
pub still_differs : (text left front piece : List ℕ) → Matches text left false front → Matches text left false (front ++ piece)
still_differs text left front piece (k, within, at, d) =
    let long : length (front ++ piece) ≡ length front + length piece = length-append front piece in
    (k, omega (arith, long, within), at, (take_within front piece k (omega (arith, within)) ∙ d.0, λ e. d.1 (sym (take_within front piece (k + 1) (omega (arith, within))) ∙ e)))

-- one piece more, where all so far were the same
pub piece_goes : (text front piece left : List ℕ) (n : ℕ) (same : Bool) → same ≡ true → SameFront piece left n → Matches text left same front → Matches text (take (length left - n) (drop n left)) (nat_eq n (length piece)) (front ++ piece)
piece_goes text front piece left n false e s m = absurd cc
piece_goes text front piece left n true e s m =
    let rest : take (length left - n) (drop n left) ≡ drop n left = take_all (length left - n) (drop n left) (omega (arith, length-drop n left)) in
    subst (λ (l : List ℕ). Matches text l (nat_eq n (length piece)) (front ++ piece)) (sym rest) (go (nat_eq n (length piece)) refl)
  where
    go : (t : Bool) → nat_eq n (length piece) ≡ t → Matches text (drop n left) t (front ++ piece)
    go true f = let all : n ≡ length piece = grind (arith, f) in piece_same text front piece left n m s all
    go false f = let few : n < length piece = grind (arith, f, s.in_one) in piece_differs text front piece left n m s few

-- and where they weren't
pub piece_skips : (text front piece left : List ℕ) (same : Bool) → same ≡ false → Matches text left same front → Matches text left same (front ++ piece)
piece_skips text front piece left true e m = absurd cc
piece_skips text front piece left false e m = still_differs text left front piece m

-- the pieces of a block
pub block_front : (word name read instants last end : List ℕ) → read ≡ name → end ≡ last → ((((([] ++ word) ++ read) ++ 10 ∷ []) ++ instants) ++ end) ≡ (word ++ (name ++ 10 ∷ [])) ++ (instants ++ last)
block_front word name read instants last end e f =
    ap (λ (n : List ℕ). ((((word ++ n) ++ 10 ∷ []) ++ instants) ++ end)) e ∙ ap (λ (n : List ℕ). ((((word ++ name) ++ 10 ∷ []) ++ instants) ++ n)) f
    ∙ append_assoc ((word ++ name) ++ 10 ∷ []) instants last ∙ ap (λ (t : List ℕ). t ++ (instants ++ last)) (append_assoc word name (10 ∷ []))

-- ---- at the end

pub ends_same : (text front left : List ℕ) → Matches text left true front → length left ≡ 0 → front ≡ text
ends_same text front [] e none = sym (e ∙ append-nil front)
ends_same text front (b ∷ left) e none = absurd (omega (arith, none))

-- front is a proper prefix of the text
pub ends_short : (text front left : List ℕ) → Matches text left true front → 0 < length left → DifferAt front text (length text - length left)
ends_short text front left e some =
    let all : length text ≡ length front + length left = ap length e ∙ length-append front left in
    let at : length text - length left ≡ length front = omega (arith, all) in
    let same : take (length front) front ≡ take (length front) text = take_all (length front) front (omega arith) ∙ sym (ap (take (length front)) e ∙ take_within front left (length front) (omega arith) ∙ take_all (length front) front (omega arith)) in
    let other : take (length front + 1) front ≡ take (length front + 1) text → ⊥ = λ f.
    let g : length (take (length front + 1) front) ≡ length (take (length front + 1) text) = ap length f in
    omega (arith, g, length_take (length front + 1) front, length_take (length front + 1) text, all, some) in
    subst (DifferAt front text) (sym at) (same, other)

pub ends_other : (text front left : List ℕ) → Matches text left false front → DifferAt front text (length text - length left)
ends_other text front left (k, within, at, differ) = let e : k ≡ length text - length left = omega (arith, at) in subst (DifferAt front text) e differ

small_or : (m n : ℕ) → (m ≤ n) ⊎ (n < m)
small_or zero n = inl (omega arith)
small_or (suc m) zero = inr (omega arith)
small_or (suc m) (suc n) = step (small_or m n)
  where
    step : (m ≤ n) ⊎ (n < m) → (suc m ≤ suc n) ⊎ (suc n < suc m)
    step (inl p) = inl (omega (arith, p))
    step (inr p) = inr (omega (arith, p))

-- a difference stands within the first text, or at its end
pub differ_within : (a b : List ℕ) (k : ℕ) → DifferAt a b k → k ≤ length a
differ_within a b k d = go (small_or k (length a))
  where
    go : (k ≤ length a) ⊎ (length a < k) → k ≤ length a
    go (inl p) = p
    go (inr p) =
        absurd (let e : length a ≡ min k (length b) = ap length (sym (take_all k a (omega (arith, p))) ∙ d.0) ∙ length_take k b in
        let short : length b < k = omega (arith, e, p) in
        let same : a ≡ b = sym (take_all k a (omega (arith, p))) ∙ d.0 ∙ take_all k b (omega (arith, short)) in
        d.1 (ap (take (k + 1)) same))

-- ---- what was seen in the end

pub left_within : (text left front : List ℕ) (same : Bool) → Matches text left same front → length left ≤ length text
left_within text left front true m = let all : length text ≡ length front + length left = ap length m ∙ length-append front left in omega (arith, all)
left_within text left front false (k, within, at, d) = omega (arith, at)

pub seen_same : (text left front : List ℕ) (same : Bool) → same ≡ true → length left ≡ 0 → Matches text left same front → front ≡ text
seen_same text left front true e none m = ends_same text front left m none
seen_same text left front false e none m = absurd cc

pub seen_other : (text left front : List ℕ) (same : Bool) → (same ≡ true → 0 < length left) → Matches text left same front → DifferAt front text (length text - length left)
seen_other text left front true some m = ends_short text front left m (some refl)
seen_other text left front false some m = ends_other text front left m

pub none_left : (left : List ℕ) (t : Bool) → t ≡ (length left == 0) → t ≡ true → length left ≡ 0
none_left left t e f = let g : (length left == 0) ≡ true = sym e ∙ f in grind (arith, g)

pub some_left : (left : List ℕ) (t : Bool) → t ≡ (length left == 0) → t ≡ false → 0 < length left
some_left left t e f = let g : (length left == 0) ≡ false = sym e ∙ f in grind (arith, g)
