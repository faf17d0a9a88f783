-- Lines without a line feed in them are found again in a text.
use Rattle.std.proofs.Common.{◌≡◌, ℕ, ◌^◌, ◌<◌, Bool, true, false, not, nat_le, ◌==◌, List, [], ◌∷◌, ◌++◌, append_assoc, refl, sym, subst, ◌∙◌, arith}
use Rattle.std.proofs.lemmas.Bool.{leb-true, le-leb}
use Rattle.std.proofs.lemmas.Fmt.{decimal_injective, digits_decimal}
use Rattle.std.proofs.lemmas.Str.Parse.{IsDigitsTest, FoldsDigits, numerals_by_fold}
use Rattle.std.specs.Fmt.{decimal}
use Rattle.std.specs.List.{list_all}
use Rattle.loft_lex.specs.Bytes.{is_name_byte}
use Rattle.loft_spelling.specs.Sets.{is_digit, value_after}
use Rattle.loft_spelling.proofs.Sets.{and_both, both_and}
use Rattle.loft_orders.specs.Lines.{text_of}

abbrev pub no_feed : List ℕ → Bool
no_feed line = list_all (λ b. not (b == 10)) line

-- a text is cut at its first line feed in one way
cut : (a b x y : List ℕ) → no_feed a ≡ true → no_feed b ≡ true → a ++ 10 ∷ x ≡ b ++ 10 ∷ y → (a ≡ b) × (x ≡ y)
cut [] [] x y p q e = (refl, (let f = e in cc))
cut [] (c ∷ b) x y p q e = absurd (let same : 10 ≡ c = cc in let r = (and_both (not (c == 10)) (no_feed b) q).0 in let s : not (10 == 10) ≡ true = subst (λ d. not (d == 10) ≡ true) (sym same) r in cc)
cut (c ∷ a) [] x y p q e = absurd (let same : c ≡ 10 = cc in let r = (and_both (not (c == 10)) (no_feed a) p).0 in let s : not (10 == 10) ≡ true = subst (λ d. not (d == 10) ≡ true) same r in cc)
cut (c ∷ a) (d ∷ b) x y p q e =
    let same : c ≡ d = cc in
    let rest : a ++ 10 ∷ x ≡ b ++ 10 ∷ y = cc in
    let h = cut a b x y (and_both (not (c == 10)) (no_feed a) p).1 (and_both (not (d == 10)) (no_feed b) q).1 rest in
    ((let f = h.0 in cc), h.1)

regroup : (line more x : List ℕ) → ((line ++ 10 ∷ []) ++ more) ++ x ≡ line ++ 10 ∷ (more ++ x)
regroup line more x = simp append_assoc refl

-- texts of lines that are the same begin with the same line
pub peel : (l m : List ℕ) (ls ms : List (List ℕ)) (x y : List ℕ) → no_feed l ≡ true → no_feed m ≡ true → text_of (l ∷ ls) ++ x ≡ text_of (m ∷ ms) ++ y → (l ≡ m) × (text_of ls ++ x ≡ text_of ms ++ y)
peel l m ls ms x y p q e = cut l m (text_of ls ++ x) (text_of ms ++ y) p q (sym (regroup l (text_of ls) x) ∙ e ∙ regroup m (text_of ms) y)

pub cancel : (p a b : List ℕ) → p ++ a ≡ p ++ b → a ≡ b
cancel [] a b e = e
cancel (c ∷ p) a b e = cancel p a b (let f = e in cc)

pub no_feed_append : (a b : List ℕ) → no_feed a ≡ true → no_feed b ≡ true → no_feed (a ++ b) ≡ true
no_feed_append [] b p q = q
no_feed_append (c ∷ a) b p q = let r = and_both (not (c == 10)) (no_feed a) p in both_and (not (c == 10)) (no_feed (a ++ b)) r.0 (no_feed_append a b r.1 q)

-- a class of bytes without the line feed
weaker : (class : ℕ → Bool) → class 10 ≡ false → (bytes : List ℕ) → list_all class bytes ≡ true → no_feed bytes ≡ true
weaker class none [] p = refl
weaker class none (b ∷ bytes) p =
    let r = and_both (class b) (list_all class bytes) p in
    both_and (not (b == 10)) (no_feed bytes) (go (b == 10) refl r.0) (weaker class none bytes r.1)
  where
    go : (t : Bool) → (b == 10) ≡ t → class b ≡ true → not (b == 10) ≡ true
    go false e f = rw e refl
    go true e f = absurd (let same : b ≡ 10 = grind (arith, e) in let g : class 10 ≡ true = subst (λ c. class c ≡ true) same f in let k : false ≡ true = sym none ∙ g in cc)

pub name_no_feed : (bytes : List ℕ) → list_all is_name_byte bytes ≡ true → no_feed bytes ≡ true
name_no_feed bytes p = weaker is_name_byte refl bytes p

digits_test : IsDigitsTest (λ ds. list_all is_digit ds ≡ true)
digits_test = record {
  empty = refl;
  parts = λ c cs e. let p = and_both (is_digit c) (list_all is_digit cs) e in let q = and_both (nat_le 48 c) (nat_le c 57) p.0 in ((leb-true 48 c q.0, leb-true c 57 q.1), p.1);
  more = λ c cs k e. both_and (is_digit c) (list_all is_digit cs) (both_and (nat_le 48 c) (nat_le c 57) (le-leb 48 c k.0) (le-leb c 57 k.1)) e;
}

folds : FoldsDigits value_after
unfolding value_after
folds = record { empty = λ n. refl; more = λ n c cs k. refl }

pub decimal_no_feed : (n : ℕ) → n < 2 ^ 64 → no_feed (decimal n) ≡ true
decimal_no_feed n h = weaker is_digit refl (decimal n) (digits_decimal (numerals_by_fold (λ ds. list_all is_digit ds ≡ true) digits_test value_after folds) n h)

-- a line of a word and a number
pub number_line : (p : List ℕ) (n m : ℕ) (ls ms : List (List ℕ)) (x y : List ℕ) → no_feed p ≡ true → n < 2 ^ 64 → m < 2 ^ 64
    → text_of ((p ++ decimal n) ∷ ls) ++ x ≡ text_of ((p ++ decimal m) ∷ ms) ++ y → (n ≡ m) × (text_of ls ++ x ≡ text_of ms ++ y)
number_line p n m ls ms x y none a b e =
    let h = peel (p ++ decimal n) (p ++ decimal m) ls ms x y (no_feed_append p (decimal n) none (decimal_no_feed n a)) (no_feed_append p (decimal m) none (decimal_no_feed m b)) e in
    (decimal_injective n m a b (cancel p (decimal n) (decimal m) h.0), h.1)
