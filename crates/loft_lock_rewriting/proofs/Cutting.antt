-- A text is cut token by token, whatever is written after it.
use Rattle.std.proofs.Common.{◌≡◌, ℕ, suc, ◌+◌, ◌-◌, List, [], ◌∷◌, ◌++◌, length, take, drop, map, slice_range, refl, sym, ap, subst, arith}
use Rattle.loft_lex.specs.declared.token.Token.{Token}
use Rattle.loft_lex.specs.Symbol.{what_of}
use Rattle.loft_lex.specs.Tokens.{token_moved}
use Rattle.loft_lock_forms.specs.Rewriting.{says, all_say}

-- ---- spans of a text that stands after another

drop_past : (x rest : List ℕ) (n : ℕ) → drop (length x + n) (x ++ rest) ≡ drop n rest
drop_past [] rest n = ap (λ (k : ℕ). drop k rest) (omega arith)
drop_past (b ∷ bs) rest n = let e : length (b ∷ bs) + n ≡ suc (length bs + n) = omega arith in rw e (drop_past bs rest n)

take_past : (x rest : List ℕ) (n : ℕ) → take (length x + n) (x ++ rest) ≡ x ++ take n rest
take_past [] rest n = ap (λ (k : ℕ). take k rest) (omega arith)
take_past (b ∷ bs) rest n = let e : length (b ∷ bs) + n ≡ suc (length bs + n) = omega arith in rw e (ap (λ (l : List ℕ). b ∷ l) (take_past bs rest n))

pub drop_moved : (x rest : List ℕ) (n : ℕ) → drop (length x + n) (x ++ rest) ≡ drop n rest
drop_moved = drop_past

pub slice_moved : (x rest : List ℕ) (a b : ℕ) → slice_range (x ++ rest) (length x + a) (length x + b) ≡ slice_range rest a b
slice_moved x rest a b =
    let e : length x + b - (length x + a) ≡ b - a = omega arith in
    rw (e, drop_past x rest a) refl

pub slice_front : (x rest : List ℕ) (b : ℕ) → slice_range (x ++ rest) 0 (length x + b) ≡ x ++ slice_range rest 0 b
slice_front x rest b =
    let e : length x + b - 0 ≡ length x + b = omega arith in
    let f : b - 0 ≡ b = omega arith in
    rw (e, f) (take_past x rest b)

take_whole : (x rest : List ℕ) → take (length x) (x ++ rest) ≡ x
take_whole [] rest = refl
take_whole (b ∷ bs) rest = ap (λ (l : List ℕ). b ∷ l) (take_whole bs rest)

pub slice_whole : (x rest : List ℕ) → slice_range (x ++ rest) 0 (length x) ≡ x
slice_whole x rest = let e : length x - 0 ≡ length x = omega arith in rw e (take_whole x rest)

pub says_moved : (x rest : List ℕ) (t : Token) → says (x ++ rest) (token_moved (length x) t) ≡ says rest t
says_moved x rest t = ap (what_of t.kind) (slice_moved x rest t.from t.to)

pub all_moved : (x rest : List ℕ) (ts : List Token) → all_say (x ++ rest) (map (token_moved (length x)) ts) ≡ all_say rest ts
all_moved x rest [] = refl
all_moved x rest (t ∷ ts) = let e = says_moved x rest t in let f = all_moved x rest ts in cc

pub comment_moved : (line rest : List ℕ) (ts : List Token) → all_say (47 ∷ 47 ∷ (line ++ rest)) (map (token_moved (2 + length line)) ts) ≡ all_say rest ts
comment_moved line rest ts =
    let e : 2 + length line ≡ length (47 ∷ 47 ∷ line) = omega arith in
    subst (λ (n : ℕ). all_say (47 ∷ 47 ∷ (line ++ rest)) (map (token_moved n) ts) ≡ all_say rest ts) (sym e) (all_moved (47 ∷ 47 ∷ line) rest ts)
