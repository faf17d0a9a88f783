-- Looking among those that begin with the first byte finds what looking among all does.
use Rattle.std.proofs.Common.{◌≡◌, ℕ, ◌≤◌, Bool, true, false, ◌==◌, if◌then◌else◌, Option, Some, None, List, [], ◌∷◌, length, get_or, refl, sym, ap, arith}
use Rattle.std.specs.Prelude.{IfSome}
use Rattle.std.specs.List.{find, filter}
use Rattle.std.specs.Str.{bytes_eq}
use Rattle.std.proofs.lemmas.Bool.{false≢true}
use Rattle.std.proofs.lemmas.Bool.Decides.{nat_tests}
use Rattle.std.proofs.lemmas.Slice.Eq.{bytes_eq-Decides}
use Rattle.loft_lex.specs.Bytes.{begins}
use Rattle.loft_lex.proofs.Spelled.{found_spelled}

one_more : {X : Type 0} (p : X → Bool) (x : X) (xs ys : List X) (test kept : Bool) → p x ≡ test → (test ≡ true → kept ≡ true) → find p ys ≡ find p xs → find p (if kept then x ∷ ys else ys) ≡ find p (x ∷ xs)
one_more p x xs ys test true is implies same = ap (λ others. if p x then Some x else others) same
one_more p x xs ys true false is implies same = absurd (false≢true (implies refl))
one_more p x xs ys false false is implies same = rw is same

-- what is looked for stays, if it passes the other test too
find_kept : {X : Type 0} (p q : X → Bool) (implies : (x : X) → p x ≡ true → q x ≡ true) (xs : List X) → find p (filter q xs) ≡ find p xs
find_kept p q implies [] = refl
find_kept p q implies (x ∷ xs) = one_more p x xs (filter q xs) (p x) (q x) refl (implies x) (find_kept p q implies xs)

same_byte : (b : ℕ) → (b == b) ≡ true
same_byte b = grind (arith, nat_tests)

first_byte : (b : ℕ) (bs s : List ℕ) → bytes_eq s (b ∷ bs) ≡ true → begins (λ c. c == b) s ≡ true
first_byte b bs s same = let e : s ≡ b ∷ bs = (bytes_eq-Decides s (b ∷ bs)).0 same in rw e (same_byte b)

pub find_among : {X : Type 0} (spelling : X → List ℕ) (xs : List X) (bytes : List ℕ) → 1 ≤ length bytes → find (λ x. bytes_eq (spelling x) bytes) (filter (λ x. begins (λ c. c == get_or bytes 0 0) (spelling x)) xs) ≡ find (λ x. bytes_eq (spelling x) bytes) xs
find_among spelling xs [] some = absurd (omega arith)
find_among spelling xs (b ∷ bs) some = find_kept (λ x. bytes_eq (spelling x) (b ∷ bs)) (λ x. begins (λ c. c == b) (spelling x)) (λ x same. first_byte b bs (spelling x) same) xs

-- what is found is spelled so
pub some_spelled : {X : Type 0} (spelling : X → List ℕ) (xs : List X) (bytes : List ℕ) (found : Option X) → found ≡ find (λ x. bytes_eq (spelling x) bytes) xs → IfSome found (λ x. spelling x ≡ bytes)
some_spelled spelling xs bytes None is = tt
some_spelled spelling xs bytes (Some x) is = found_spelled spelling bytes xs x (sym is)
