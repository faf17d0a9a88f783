-- What is spelled from a list of parts on, one spelling at a time.
use Rattle.std.proofs.Common.{◌≡◌, ℕ, ◌^◌, ◌<◌, Bool, true, false, not, nat_le, ◌==◌, ◌&&◌, ◌||◌, List, [], ◌∷◌, ◌++◌, length, get_or, ◌⊎◌, inl, inr, refl, sym, subst, arith}
use Rattle.std.proofs.lemmas.Bool.{leb-true, le-leb}
use Rattle.std.proofs.lemmas.Fmt.{decimal-digits_value}
use Rattle.std.proofs.lemmas.Str.Parse.{IsDigitsTest, FoldsDigits, numerals_by_fold}
use Rattle.std.specs.Fmt.{decimal}
use Rattle.std.specs.List.{list_all}
use Rattle.std.specs.Str.{bytes_eq}
use Rattle.loft_spelling.specs.Sets.{is_digit, is_empty, value_after, value_of, is_number, words}
use Rattle.loft_spelling.specs.Script.{Spells}
use Rattle.loft_spelling.specs.Parts.{Left, script}
use Rattle.loft_spelling.proofs.Sets.{or_cases, and_both, both_and, same_bytes}
use Rattle.loft_report_shape.specs.Sets.{set_of}
use Rattle.loft_report_shape.specs.Grammar.{after}
use Rattle.loft_report_shape.specs.Told.{Report, Told, note}
use Rattle.loft_report_shape.specs.Report.{grammar}
use Rattle.loft_report_shape.specs.declared.part.Part.{Part}
use Rattle.loft_report_shape.specs.declared.part.Section.TheVariants as section

-- what is spelled from these parts on
abbrev pub Sp : List (List ℕ) → List Part → Told → List ℕ → Left grammar → Type 0
Sp ws ps told text last = Spells (script grammar) ws (record { parts = ps; told = told }) text last

-- no bytes are kept, as what they tell is
abbrev pub top : Report → Told
top r = record { report = r; section = section.Told }

-- the next spelling, and what is spelled after it
pub record One (p : Part) (ps : List Part) (told : Told) (text : List ℕ) (last : Left grammar) : Type 0 where
  pub word : List ℕ
  pub ws : List (List ℕ)
  pub rest : List ℕ
  pub split : text ≡ word ++ rest
  pub whole : (set_of p).whole word ≡ true
  pub spells : Sp ws (after p word ++ ps) (note p word told) rest last

pub one : (ws : List (List ℕ)) (p : Part) (ps : List Part) (told : Told) (text : List ℕ) (last : Left grammar) → Sp ws (p ∷ ps) told text last → One p ps told text last
one [] p ps told text last s = absurd (let h = s.0 in cc)
one (w ∷ ws) p ps told text last (rest, split, whole, s) = record { word = w; ws = ws; rest = rest; split = split; whole = whole; spells = s }

pub only_bytes : (v w : List ℕ) → (words (v ∷ [])).whole w ≡ true → w ≡ v
only_bytes v w e = go (or_cases (bytes_eq v w) false e)
  where
    go : (bytes_eq v w ≡ true) ⊎ (false ≡ true) → w ≡ v
    go (inl f) = sym (same_bytes v w f)
    go (inr f) = absurd cc

digits_test : IsDigitsTest (λ ds. list_all is_digit ds ≡ true)
digits_test = record {
  empty = refl;
  parts = λ c cs e. let p = and_both (is_digit c) (list_all is_digit cs) e in let q = and_both (nat_le 48 c) (nat_le c 57) p.0 in ((leb-true 48 c q.0, leb-true c 57 q.1), p.1);
  more = λ c cs k e. both_and (is_digit c) (list_all is_digit cs) (both_and (nat_le 48 c) (nat_le c 57) (le-leb 48 c k.0) (le-leb c 57 k.1)) e;
}

folds : FoldsDigits value_after
unfolding value_after
folds = record { empty = λ n. refl; more = λ n c cs k. refl }

-- a number is written in one way
pub number_is : (nought : Bool) (n : ℕ) (w : List ℕ) → n < 2 ^ 64 → is_number nought n w ≡ true → w ≡ decimal (value_of w)
number_is nought n [] h e = absurd cc
number_is nought n (b ∷ w) h e =
    let p = and_both (not (b == 48) || (nought && is_empty w)) (list_all is_digit (b ∷ w) && nat_le (value_of (b ∷ w)) n) e in
    let q = and_both (list_all is_digit (b ∷ w)) (nat_le (value_of (b ∷ w)) n) p.1 in
    sym (decimal-digits_value (numerals_by_fold (λ ds. list_all is_digit ds ≡ true) digits_test value_after folds) (b ∷ w) q.0 (omega arith) (lead (or_cases (not (b == 48)) (nought && is_empty w) p.0)) (omega (arith, leb-true (value_of (b ∷ w)) n q.1, h)))
  where
    one_long : (v : List ℕ) → is_empty v ≡ true → length (b ∷ v) ≡ 1
    one_long [] f = refl
    one_long (c ∷ v) f = absurd cc

    lead : (not (b == 48) ≡ true) ⊎ ((nought && is_empty w) ≡ true) → get_or (b ∷ w) 0 0 ≡ 48 → length (b ∷ w) ≡ 1
    lead (inl f) same = absurd (let g : b ≡ 48 = same in let k : not (48 == 48) ≡ true = subst (λ x. not (x == 48) ≡ true) g f in cc)
    lead (inr f) same = one_long w (and_both nought (is_empty w) f).1
