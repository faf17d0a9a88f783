-- Threads that ended, counted one after another.
use Rattle.std.proofs.Common.{arith, ◌≡◌, ℕ, suc, ◌+◌, ◌<◌, ◌≤◌, Bool, true, false, cond, List, [], ◌∷◌, ◌++◌, length, take, get_or, filter, flat_map, refl, sym, ap, ◌∙◌, take-suc, take_all, append-nil, length-append}
use Rattle.std.proofs.lemmas.Grind.{flat_map-append}
use Rattle.std.proofs.lemmas.List.Elements.{filter-append}
use Rattle.loft_orders.specs.declared.note.Act.{Act}
use Rattle.loft_sense.specs.Tally.{capped}
use Rattle.loft_summary.specs.Lines.{done_among, is_done}

-- so many, and those among these acts
abbrev pub tally : ℕ → List Act → ℕ
tally n acts = capped (n + done_among acts)

by_test : (b : Bool) (n total : ℕ) (a : Act) → n ≡ capped total → cond b (capped (n + 1)) n ≡ capped (n + length (cond b (a ∷ []) []))
by_test true n total a is = omega (arith, is)
by_test false n total a is = omega (arith, is)

pub tally_one : (n total : ℕ) (a : Act) → n ≡ capped total → cond (is_done a) (capped (n + 1)) n ≡ tally n (a ∷ [])
tally_one n total a is = by_test (is_done a) n total a is

pub tally_append : (n : ℕ) (xs ys : List Act) → tally n (xs ++ ys) ≡ tally (tally n xs) ys
tally_append n xs ys =
    let both : done_among (xs ++ ys) ≡ done_among xs + done_among ys =
    ap (λ (zs : List Act). length zs) (filter-append is_done xs ys) ∙ length-append (filter is_done xs) (filter is_done ys) in
    omega (arith, both)

-- one after another of a list, of which each has acts
pub told_more : {A : Type 0} (acts_of : A → List Act) (before : ℕ) (xs : List A) (i : ℕ) (x : A) (n m : ℕ)
    → i < length xs → x ≡ get_or xs i x → n ≡ tally before (flat_map acts_of (take i xs)) → m ≡ tally n (acts_of x)
    → m ≡ tally before (flat_map acts_of (take (i + 1) xs))
told_more {A} acts_of before xs i x n m lt is so_far more =
    let next : i + 1 ≡ suc i = omega arith in
    let split : take (i + 1) xs ≡ take i xs ++ (x ∷ []) =
    ap (λ (k : ℕ). take k xs) next ∙ take-suc xs i x lt ∙ ap (λ (y : A). take i xs ++ (y ∷ [])) (sym is) in
    let acts : flat_map acts_of (take (i + 1) xs) ≡ flat_map acts_of (take i xs) ++ acts_of x =
    ap (flat_map acts_of) split ∙ flat_map-append acts_of (take i xs) (x ∷ []) ∙ ap (λ (t : List Act). flat_map acts_of (take i xs) ++ t) (append-nil (acts_of x)) in
    more
    ∙ ap (λ (k : ℕ). tally k (acts_of x)) so_far
    ∙ sym (tally_append before (flat_map acts_of (take i xs)) (acts_of x))
    ∙ ap (tally before) (sym acts)

-- all of the list
pub told_all : {A : Type 0} (acts_of : A → List Act) (before : ℕ) (xs : List A) (i n : ℕ)
    → length xs ≤ i → n ≡ tally before (flat_map acts_of (take i xs)) → n ≡ tally before (flat_map acts_of xs)
told_all {A} acts_of before xs i n le so_far = so_far ∙ ap (λ (ys : List A). tally before (flat_map acts_of ys)) (take_all i xs le)

-- an act alone
abbrev pub single : Act → List Act
single a = a ∷ []

pub singles : (acts : List Act) → flat_map single acts ≡ acts
singles [] = refl
singles (a ∷ acts) = ap (λ (t : List Act). a ∷ t) (singles acts)
