-- A body has no fault of pairs exactly where the four rules hold.
use Rattle.std.proofs.Common.{◌≡◌, ◌↔◌, ℕ, Bool, true, false, List, [], ◌∷◌, ◌++◌, None, refl, sym, ap, ◌∙◌, subst}
use Rattle.std.specs.Prelude.{◌||◌, not}
use Rattle.std.specs.Str.{bytes_eq}
use Rattle.loft_sense.specs.Tree.{first_some}
use Rattle.loft_locks.specs.Outline.{Outline, Nothing, Takes, Gives, Goes, Within, has, closes, pair_fault}
use Rattle.loft_locks.specs.Rules.{joined, Paired, nothing, goes, within, pair}
use Rattle.loft_locks.proofs.RefusalLemmas.{none_first, not_chosen, chosen, or_parts, not_false, same_name, name_same, takes_other, gives_other}

joined_empty : (b : Outline) → joined b Nothing ≡ b
joined_empty Nothing = refl
joined_empty (Takes l rest) = ap (λ (c : Outline). Takes l c) (joined_empty rest)
joined_empty (Gives l rest) = ap (λ (c : Outline). Gives l c) (joined_empty rest)
joined_empty (Goes rest) = ap (λ (c : Outline). Goes c) (joined_empty rest)
joined_empty (Within x y rest) = ap (λ (c : Outline). Within x y c) (joined_empty rest)

joined_twice : (a b c : Outline) → joined (joined a b) c ≡ joined a (joined b c)
joined_twice Nothing b c = refl
joined_twice (Takes l rest) b c = ap (λ (d : Outline). Takes l d) (joined_twice rest b c)
joined_twice (Gives l rest) b c = ap (λ (d : Outline). Gives l d) (joined_twice rest b c)
joined_twice (Goes rest) b c = ap (λ (d : Outline). Goes d) (joined_twice rest b c)
joined_twice (Within x y rest) b c = ap (λ (d : Outline). Within x y d) (joined_twice rest b c)

same_lock : (l : List ℕ) → bytes_eq l l ≡ true
same_lock l = name_same l l refl

-- ---- where the rules hold there is no fault

second_true : (p q : Bool) → q ≡ true → (p || q) ≡ true
second_true true q e = refl
second_true false q e = e

-- a lock of which a pair has begun is another than one of which none has
begun_apart : (l k : List ℕ) (begun : List (List ℕ)) → has l begun ≡ true → has k begun ≡ false → bytes_eq l k ≡ false
begun_apart l k begun e off = by (bytes_eq l k) refl
  where
    by : (b : Bool) → bytes_eq l k ≡ b → b ≡ false
    by false f = refl
    by true f = let none : has l begun ≡ false = ap (λ n. has n begun) (same_name l k f) ∙ off in cc

-- pairs inside a pair of a lock don't end it
closes_after : {begun : List (List ℕ)} {b : Outline} → Paired begun b → (l : List ℕ) (after : Outline) → has l begun ≡ true → closes l (joined b after) ≡ closes l after
closes_after (nothing begun) l after e = refl
closes_after (goes begun rest p) l after e = closes_after p l after e
closes_after (within begun x y rest f g p) l after e = closes_after p l after e
closes_after (pair begun k inner rest off f p) l after e =
    let apart = begun_apart l k begun e off in
    let beyond = Gives k (joined rest after) in
    takes_other l k (joined (joined inner (Gives k rest)) after) apart
    ∙ ap (closes l) (joined_twice inner (Gives k rest) after)
    ∙ closes_after f l beyond (second_true (bytes_eq l k) (has l begun) e)
    ∙ gives_other l k (joined rest after) apart
    ∙ closes_after p l after e

closes_there : {begun : List (List ℕ)} {b : Outline} (l : List ℕ) → Paired (l ∷ begun) b → (rest : Outline) → closes l (joined b (Gives l rest)) ≡ true
closes_there {begun} {b} l p rest = let e = same_lock l in closes_after p l (Gives l rest) (ap (λ b. b || has l begun) e) ∙ rw e refl

passes : {begun : List (List ℕ)} {b : Outline} → Paired begun b → (outer own : List (List ℕ)) (after : Outline) → begun ≡ own ++ outer → pair_fault outer own (joined b after) ≡ pair_fault outer own after
passes (nothing begun) outer own after e = refl
passes (goes begun rest p) outer own after e = passes p outer own after e
passes (within begun x y rest f g p) outer own after e =
    let a : pair_fault (own ++ outer) [] x ≡ None = ap (pair_fault (own ++ outer) []) (sym (joined_empty x)) ∙ passes f (own ++ outer) [] Nothing e in
    let b : pair_fault (own ++ outer) [] y ≡ None = ap (pair_fault (own ++ outer) []) (sym (joined_empty y)) ∙ passes g (own ++ outer) [] Nothing e in
    rw (a, b) (passes p outer own after e)
passes (pair begun l inner rest off f p) outer own after e =
    let beyond = Gives l (joined rest after) in
    let shape : joined (joined inner (Gives l rest)) after ≡ joined inner beyond = joined_twice inner (Gives l rest) after in
    let not_open : has l (own ++ outer) ≡ false = ap (has l) (sym e) ∙ off in
    let there = closes_there l f (joined rest after) in
    let one : pair_fault outer own (Takes l (joined inner beyond)) ≡ pair_fault outer (l ∷ own) (joined inner beyond) = rw (not_open, there) refl in
    let two = passes f outer (l ∷ own) beyond (ap (λ (k : List (List ℕ)). l ∷ k) e) in
    let same = same_lock l in
    let three : pair_fault outer (l ∷ own) beyond ≡ pair_fault outer own (joined rest after) = rw same refl in
    ap (λ (b : Outline). pair_fault outer own (Takes l b)) shape ∙ one ∙ two ∙ three ∙ passes p outer own after e

pub paired_passes : (begun : List (List ℕ)) (b : Outline) → Paired begun b → pair_fault begun [] b ≡ None
paired_passes begun b p = ap (pair_fault begun []) (sym (joined_empty b)) ∙ passes p begun [] Nothing refl

-- ---- where there is no fault the rules hold

-- what is left of a body that has begun these pairs: up to the end of the innermost, and so on
record Ends (outer : List (List ℕ)) (l : List ℕ) (own : List (List ℕ)) (Rest : Outline → Type 0) (b : Outline) : Type 0 where
  inner : Outline
  rest : Outline
  are : b ≡ joined inner (Gives l rest)
  paired : Paired (l ∷ (own ++ outer)) inner
  others : Rest rest

abbrev Parsed : List (List ℕ) → List (List ℕ) → Outline → Type 0
Parsed outer [] b = Paired outer b
Parsed outer (l ∷ own) b = Ends outer l own (Parsed outer own) b

-- each of the pairs that were begun ends here, and they differ
abbrev AllEnd : List (List ℕ) → Outline → Type 0
AllEnd [] b = Unit {0}
AllEnd (l ∷ own) b = (has l own ≡ false) × (closes l b ≡ true) × AllEnd own b

all_end : (own : List (List ℕ)) (b c : Outline) → ((l : List ℕ) → closes l b ≡ true → closes l c ≡ true) → AllEnd own b → AllEnd own c
all_end [] b c f h = tt
all_end (l ∷ own) b c f h = (h.0, f l h.1, all_end own b c f h.2)

-- one more statement in front, which the pairs keep
goes_front : (outer own : List (List ℕ)) (rest : Outline) → Parsed outer own rest → Parsed outer own (Goes rest)
goes_front outer [] rest p = goes outer rest p
goes_front outer (l ∷ own) rest p = record { inner = Goes p.inner; rest = p.rest; are = ap (λ (b : Outline). Goes b) p.are; paired = goes (l ∷ (own ++ outer)) p.inner p.paired; others = p.others }

-- a body in more pairs
within_front : (outer own : List (List ℕ)) (x y rest : Outline) → pair_fault (own ++ outer) [] x ≡ None → pair_fault (own ++ outer) [] y ≡ None
    → ((begun : List (List ℕ)) → pair_fault begun [] x ≡ None → Paired begun x) → ((begun : List (List ℕ)) → pair_fault begun [] y ≡ None → Paired begun y) → Parsed outer own rest → Parsed outer own (Within x y rest)
within_front outer [] x y rest a b f g p = within outer x y rest (f outer a) (g outer b) p
within_front outer (l ∷ own) x y rest a b f g p = record {
  inner = Within x y p.inner;
  rest = p.rest;
  are = ap (λ (c : Outline). Within x y c) p.are;
  paired = within (l ∷ (own ++ outer)) x y p.inner (f (l ∷ (own ++ outer)) a) (g (l ∷ (own ++ outer)) b) p.paired;
  others = p.others;
}

-- a pair in front of what is left
pair_front : (outer own : List (List ℕ)) (l : List ℕ) (inner rest : Outline) → has l (own ++ outer) ≡ false → Paired (l ∷ (own ++ outer)) inner → Parsed outer own rest → Parsed outer own (Takes l (joined inner (Gives l rest)))
pair_front outer [] l inner rest off f p = pair outer l inner rest off f p
pair_front outer (k ∷ own) l inner rest off f p = record {
  inner = Takes l (joined inner (Gives l p.inner));
  rest = p.rest;
  are = ap (λ (b : Outline). Takes l (joined inner (Gives l b))) p.are ∙ ap (λ (b : Outline). Takes l b) (sym (joined_twice inner (Gives l p.inner) (Gives k p.rest)));
  paired = pair (k ∷ (own ++ outer)) l inner p.inner off f p.paired;
  others = p.others;
}

left_has : (l : List ℕ) (xs ys : List (List ℕ)) → has l (xs ++ ys) ≡ false → has l xs ≡ false
left_has l [] ys e = refl
left_has l (x ∷ xs) ys e =
    let parts = or_parts (bytes_eq l x) (has l (xs ++ ys)) e in
    let first = parts.0 in
    rw first (left_has l xs ys parts.1)

not_same : (k l : List ℕ) → bytes_eq k l ≡ false → bytes_eq l k ≡ false
not_same k l e = by (bytes_eq l k) refl
  where
    by : (b : Bool) → bytes_eq l k ≡ b → b ≡ false
    by false f = refl
    by true f = let same = same_name l k f in let back = name_same k l (sym same) in cc

-- what ends after a `lock` of another lock ends after it
begins_after : (own : List (List ℕ)) (k : List ℕ) (rest : Outline) → has k own ≡ false → AllEnd own (Takes k rest) → AllEnd own rest
begins_after [] k rest off h = tt
begins_after (l ∷ own) k rest off h =
    let parts = or_parts (bytes_eq k l) (has k own) off in
    (h.0, sym (takes_other l k rest (not_same k l parts.0)) ∙ h.1, begins_after own k rest parts.1 h.2)

-- and so after an `unlock`
ends_after : (own : List (List ℕ)) (k : List ℕ) (rest : Outline) → has k own ≡ false → AllEnd own (Gives k rest) → AllEnd own rest
ends_after [] k rest off h = tt
ends_after (l ∷ own) k rest off h =
    let parts = or_parts (bytes_eq k l) (has k own) off in
    (h.0, sym (gives_other l k rest (not_same k l parts.0)) ∙ h.1, ends_after own k rest parts.1 h.2)

no_end : (outer own : List (List ℕ)) → AllEnd own Nothing → Parsed outer own Nothing
no_end outer [] h = nothing outer
no_end outer (l ∷ own) h = absurd (let c = h.1 in cc)

parsed : (b : Outline) (outer own : List (List ℕ)) → pair_fault outer own b ≡ None → AllEnd own b → Parsed outer own b
parsed Nothing outer own fault ends = no_end outer own ends
parsed (Goes rest) outer own fault ends = goes_front outer own rest (parsed rest outer own fault (all_end own (Goes rest) rest (λ l c. c) ends))
parsed (Takes l rest) outer own fault ends =
    let both = not_chosen (has l (own ++ outer) || not (closes l rest)) l (pair_fault outer (l ∷ own) rest) fault in
    let parts = or_parts (has l (own ++ outer)) (not (closes l rest)) both.0 in
    let apart = left_has l own outer parts.0 in
    let p = parsed rest outer (l ∷ own) both.1 (apart, not_false _ parts.1, begins_after own l rest apart ends) in
    subst (λ (b : Outline). Parsed outer own (Takes l b)) (sym p.are) (pair_front outer own l p.inner p.rest parts.0 p.paired p.others)
parsed (Gives l rest) outer [] fault ends = absurd cc
parsed (Gives l rest) outer (k ∷ own) fault ends =
    let both = chosen (bytes_eq l k) l (pair_fault outer own rest) fault in
    let same : l ≡ k = same_name l k both.0 in
    let later : AllEnd own (Gives k rest) = subst (λ (n : List ℕ). AllEnd own (Gives n rest)) same ends.2 in
    record { inner = Nothing; rest = rest; are = ap (λ (n : List ℕ). Gives n rest) same; paired = nothing (k ∷ (own ++ outer)); others = parsed rest outer own both.1 (ends_after own k rest ends.0 later) }
parsed (Within x y rest) outer own fault ends =
    let a = none_first (pair_fault (own ++ outer) [] x) (first_some (pair_fault (own ++ outer) [] y) (pair_fault outer own rest)) fault in
    let b = none_first (pair_fault (own ++ outer) [] y) (pair_fault outer own rest) a.1 in
    within_front outer own x y rest a.0 b.0 (λ begun e. parsed x begun [] e tt) (λ begun e. parsed y begun [] e tt) (parsed rest outer own b.1 (all_end own (Within x y rest) rest (λ l c. c) ends))

-- as the law says it
pub rules_hold : (outer : List (List ℕ)) (b : Outline) → (pair_fault outer [] b ≡ None) ↔ Paired outer b
rules_hold outer b = (λ e. parsed b outer [] e tt, paired_passes outer b)
