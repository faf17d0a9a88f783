-- Tests, and runs of bytes of one class.
use Rattle.std.proofs.Common.{◌≡◌, ℕ, zero, suc, ◌+◌, ◌≤◌, Bool, true, false, ◌&&◌, ◌||◌, if◌then◌else◌, List, [], ◌∷◌, ◌++◌, length, take, drop, refl, ap, arith}
use Rattle.std.specs.List.{prefix_len, list_all}
use Rattle.loft_lex.specs.Bytes.{begins}

pub both : (p q : Bool) → p ≡ true → q ≡ true → (p && q) ≡ true
both true q first second = second
both false q first second = first

pub left_of : (p q : Bool) → (p && q) ≡ true → p ≡ true
left_of true q h = refl
left_of false q h = h

pub right_of : (p q : Bool) → (p && q) ≡ true → q ≡ true
right_of true q h = h
right_of false q h = cc

pub neither_left : (p q : Bool) → (p || q) ≡ false → p ≡ false
neither_left true q h = h
neither_left false q h = refl

pub neither_right : (p q : Bool) → (p || q) ≡ false → q ≡ false
neither_right true q h = cc
neither_right false q h = h

pub none_of : (p q : Bool) → p ≡ false → q ≡ false → (p || q) ≡ false
none_of true q first second = first
none_of false q first second = second

pub first_true : (p q : Bool) → p ≡ true → (p || q) ≡ true
first_true true q h = refl
first_true false q h = cc

pub second_true : (p q : Bool) → q ≡ true → (p || q) ≡ true
second_true true q h = refl
second_true false q h = h

pub either : {P : Type 0} (p q : Bool) → (p || q) ≡ true → (p ≡ true → P) → (q ≡ true → P) → P
either true q h first second = first refl
either false q h first second = second h

pub neither_begins : (p q : ℕ → Bool) (rest : List ℕ) → begins p rest ≡ false → begins q rest ≡ false → begins (λ b. p b || q b) rest ≡ false
neither_begins p q [] first second = refl
neither_begins p q (b ∷ bs) first second = none_of (p b) (q b) first second

pub begins_neither : (p q : ℕ → Bool) (rest : List ℕ) → begins (λ b. p b || q b) rest ≡ false → (begins p rest ≡ false) × (begins q rest ≡ false)
begins_neither p q [] h = (refl, refl)
begins_neither p q (b ∷ bs) h = (neither_left (p b) (q b) h, neither_right (p b) (q b) h)

one_more : (p : ℕ → Bool) (b : ℕ) (bs : List ℕ) (test : Bool) → p b ≡ test → list_all p (take (prefix_len p bs) bs) ≡ true → list_all p (take (if test then 1 + prefix_len p bs else 0) (b ∷ bs)) ≡ true
one_more p b bs true passes run = let e : 1 + prefix_len p bs ≡ suc (prefix_len p bs) = omega arith in rw e (both (p b) _ passes run)
one_more p b bs false fails run = refl

-- the bytes that go on are all of the class
pub take_run : (p : ℕ → Bool) (bs : List ℕ) → list_all p (take (prefix_len p bs) bs) ≡ true
take_run p [] = refl
take_run p (b ∷ bs) = one_more p b bs (p b) refl (take_run p bs)

stops_after : (p : ℕ → Bool) (b : ℕ) (bs : List ℕ) (test : Bool) → p b ≡ test → begins p (drop (prefix_len p bs) bs) ≡ false → begins p (drop (if test then 1 + prefix_len p bs else 0) (b ∷ bs)) ≡ false
stops_after p b bs true passes stop = let e : 1 + prefix_len p bs ≡ suc (prefix_len p bs) = omega arith in rw e stop
stops_after p b bs false fails stop = fails

-- the byte after them isn't
pub run_stops : (p : ℕ → Bool) (bs : List ℕ) → begins p (drop (prefix_len p bs) bs) ≡ false
run_stops p [] = refl
run_stops p (b ∷ bs) = stops_after p b bs (p b) refl (run_stops p bs)

no_run : (p : ℕ → Bool) (rest : List ℕ) → begins p rest ≡ false → prefix_len p rest ≡ 0
no_run p [] h = refl
no_run p (b ∷ bs) h = rw h refl

-- bytes of the class before one that isn't are the run
pub run_is : (p : ℕ → Bool) (bytes rest : List ℕ) → list_all p bytes ≡ true → begins p rest ≡ false → prefix_len p (bytes ++ rest) ≡ length bytes
run_is p [] rest all stop = no_run p rest stop
run_is p (b ∷ bs) rest all stop =
    let first : p b ≡ true = left_of (p b) (list_all p bs) all in
    let others = run_is p bs rest (right_of (p b) (list_all p bs) all) stop in
    rw first (omega (arith, others))

-- bytes of the class are part of the run
pub run_is_long : (p : ℕ → Bool) (bytes rest : List ℕ) → list_all p bytes ≡ true → length bytes ≤ prefix_len p (bytes ++ rest)
run_is_long p [] rest all = omega arith
run_is_long p (b ∷ bs) rest all =
    let first : p b ≡ true = left_of (p b) (list_all p bs) all in
    let others = run_is_long p bs rest (right_of (p b) (list_all p bs) all) in
    rw first (omega (arith, others))

pub take_one_more : (n : ℕ) (xs : List ℕ) (c : ℕ) (cs : List ℕ) → drop n xs ≡ c ∷ cs → take (n + 1) xs ≡ take n xs ++ c ∷ []
take_one_more zero [] c cs e = cc
take_one_more (suc n) [] c cs e = cc
take_one_more zero (x ∷ xs) c cs e = let same : x ≡ c = cc in ap (λ (y : ℕ). y ∷ []) same
take_one_more (suc n) (x ∷ xs) c cs e =
    let d : suc n + 1 ≡ suc (n + 1) = omega arith in
    rw d (ap (λ (ys : List ℕ). x ∷ ys) (take_one_more n xs c cs e))

pub drop_one_more : (n : ℕ) (xs : List ℕ) (c : ℕ) (cs : List ℕ) → drop n xs ≡ c ∷ cs → drop (n + 1) xs ≡ cs
drop_one_more zero [] c cs e = cc
drop_one_more (suc n) [] c cs e = cc
drop_one_more zero (x ∷ xs) c cs e = cc
drop_one_more (suc n) (x ∷ xs) c cs e =
    let d : suc n + 1 ≡ suc (n + 1) = omega arith in
    rw d (drop_one_more n xs c cs e)
