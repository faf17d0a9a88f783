-- Where the first line of a text ends.
use Rattle.std.proofs.Common.{◌≡◌, ℕ, zero, suc, ◌+◌, ◌-◌, ◌<◌, ◌≤◌, ◌==◌, List, [], ◌∷◌, length, take, drop, Bool, true, false, if◌then◌else◌, Option, Some, None, refl, sym, ap, subst, ◌∙◌, arith}
use Rattle.std.proofs.lemmas.List.{take_all}
use Rattle.std.proofs.lemmas.Grind.{common_steps}
use Rattle.std.proofs.lemmas.Bool.Decides.{nat_tests}
use Rattle.std.proofs.lemmas.Bool.{false≢true}
use Rattle.std.specs.List.{position_from}
use Rattle.std.specs.Io.BufRead.{take_through}
use Rattle.memchr.specs.Find.{is_byte, IsFirstByte, Passes, Nowhere}
use Rattle.loft_base.specs.Outside.{is_line}
use Rattle.loft_base.specs.Writing.{are_lines}

-- the index of the first line feed, where the first byte has the index k
abbrev line_feed : ℕ → List ℕ → Option ℕ
line_feed k xs = position_from (λ byte. byte == 10) k xs

-- the line ends at the index i
abbrev IsLineTo : ℕ → ℕ → List ℕ → List ℕ → Type 0
IsLineTo k i xs line = (k ≤ i) × (take (i - k + 1) xs ≡ line)

-- the first byte that is a line feed has the first one's index
none-step : (b : Bool) (k x : ℕ) (xs : List ℕ) → (b ≡ true → ⊥) → line_feed (k + 1) xs ≡ None → (if b then Some k else line_feed (k + 1) xs) ≡ None
none-step true k x xs not later = absurd (not refl)
none-step false k x xs not later = later

none-from : (k : ℕ) (xs : List ℕ) → Nowhere (Passes (is_byte 10) xs) 0 (length xs) → line_feed k xs ≡ None
none-from k [] none = refl
none-from k (x ∷ xs) none = none-step (x == 10) k x xs (none 0 (omega arith) (omega arith)) (none-from (k + 1) xs (λ i le lt. none (suc i) (omega arith) (omega (arith, lt))))

some-step : (b : Bool) (k i x : ℕ) (xs : List ℕ) → (b ≡ true → ⊥) → line_feed (k + 1) xs ≡ Some (k + 1 + i) → (if b then Some k else line_feed (k + 1) xs) ≡ Some (k + suc i)
some-step true k i x xs not later = absurd (not refl)
some-step false k i x xs not later = let n : k + 1 + i ≡ k + suc i = omega arith in later ∙ ap (λ n. Some n) n

some-here : (b : Bool) (k : ℕ) (xs : List ℕ) → b ≡ true → (if b then Some k else line_feed (k + 1) xs) ≡ Some (k + 0)
some-here true k xs is = let n : k ≡ k + 0 = omega arith in ap (λ n. Some n) n
some-here false k xs is = absurd (false≢true is)

some-from : (k i : ℕ) (xs : List ℕ) → i < length xs → Nowhere (Passes (is_byte 10) xs) 0 i → Passes (is_byte 10) xs i → line_feed k xs ≡ Some (k + i)
some-from k i [] lt none is = absurd (omega (arith, lt))
some-from k zero (x ∷ xs) lt none is = some-here (x == 10) k xs is
some-from k (suc i) (x ∷ xs) lt none is = some-step (x == 10) k i x xs (none 0 (omega arith) (omega arith)) (some-from (k + 1) i xs (omega (arith, lt)) (λ j le l. none (suc j) (omega arith) (omega (arith, l))) is)

pub found_first : (xs : List ℕ) (r : Option ℕ) → IsFirstByte (is_byte 10) xs r → r ≡ line_feed 0 xs
found_first xs None h = sym (none-from 0 xs h)
found_first xs (Some i) h = let n : 0 + i ≡ i = omega arith in sym (some-from 0 i xs h.0.high h.0.before h.1 ∙ ap (λ n. Some n) n)

found-step : (b : Bool) (k i x : ℕ) (xs : List ℕ) → (line_feed (k + 1) xs ≡ Some i → IsLineTo (k + 1) i xs (take_through 10 xs)) → (if b then Some k else line_feed (k + 1) xs) ≡ Some i → IsLineTo k i (x ∷ xs) (if b then x ∷ [] else x ∷ take_through 10 xs)
found-step true k i x xs later e = grind (arith, common_steps)
found-step false k i x xs later e = let h = later e in (omega (arith, h.0), grind (arith, common_steps, h.0, h.1))

found-from : (k : ℕ) (xs : List ℕ) (i : ℕ) → line_feed k xs ≡ Some i → IsLineTo k i xs (take_through 10 xs)
found-from k [] i e = absurd cc
found-from k (x ∷ xs) i e = found-step (x == 10) k i x xs (found-from (k + 1) xs i) e

-- the first line feed ends the line
pub found_line : (xs : List ℕ) (i : ℕ) → line_feed 0 xs ≡ Some i → take (i + 1) xs ≡ take_through 10 xs
found_line xs i e = let n : i + 1 ≡ i - 0 + 1 = omega arith in ap (λ n. take n xs) n ∙ (found-from 0 xs i e).1

open-step : (b : Bool) (k x : ℕ) (xs : List ℕ) → (line_feed (k + 1) xs ≡ None → xs ≡ take_through 10 xs) → (if b then Some k else line_feed (k + 1) xs) ≡ None → x ∷ xs ≡ (if b then x ∷ [] else x ∷ take_through 10 xs)
open-step true k x xs later e = absurd cc
open-step false k x xs later e = ap (λ l. x ∷ l) (later e)

open-from : (k : ℕ) (xs : List ℕ) → line_feed k xs ≡ None → xs ≡ take_through 10 xs
open-from k [] e = refl
open-from k (x ∷ xs) e = open-step (x == 10) k x xs (open-from (k + 1) xs) e

-- a text without a line feed is one line
pub open_line : (xs : List ℕ) → line_feed 0 xs ≡ None → take (length xs) xs ≡ take_through 10 xs
open_line xs e = take_all (length xs) xs (omega arith) ∙ open-from 0 xs e

-- ---- lines

-- the first line of whole lines is a line
first-step : (x : ℕ) (xs : List ℕ) (b : Bool) → (x == 10) ≡ b → is_line (take_through 10 xs) ≡ true → is_line (if b then x ∷ [] else x ∷ take_through 10 xs) ≡ true
first-step x xs true is later = rw is refl
first-step x xs false is later = rw is later

last-step : (x : ℕ) (b : Bool) → (x == 10) ≡ b → b ≡ true → is_line (if b then x ∷ [] else x ∷ []) ≡ true
last-step x true is all = rw is refl
last-step x false is all = absurd (false≢true all)

first_is_line : (xs : List ℕ) → 0 < length xs → are_lines xs ≡ true → is_line (take_through 10 xs) ≡ true
first_is_line [] some all = absurd (omega (arith, some))
first_is_line (x ∷ []) some all = last-step x (x == 10) refl all
first_is_line (x ∷ y ∷ ys) some all = first-step x (y ∷ ys) (x == 10) refl (first_is_line (y ∷ ys) (omega arith) all)

pub found_is_line : (xs : List ℕ) (i : ℕ) → 0 < length xs → are_lines xs ≡ true → line_feed 0 xs ≡ Some i → is_line (take (i + 1) xs) ≡ true
found_is_line xs i some all e = ap is_line (found_line xs i e) ∙ first_is_line xs some all

pub open_is_line : (xs : List ℕ) → 0 < length xs → are_lines xs ≡ true → line_feed 0 xs ≡ None → is_line (take (length xs) xs) ≡ true
open_is_line xs some all e = ap is_line (open_line xs e) ∙ first_is_line xs some all

-- what comes after some of them is made of lines, too
pub rest_are_lines : (n : ℕ) (xs : List ℕ) → are_lines xs ≡ true → are_lines (drop n xs) ≡ true
rest_are_lines zero xs all = all
rest_are_lines (suc n) [] all = all
rest_are_lines (suc n) (x ∷ []) all = rest_are_lines n [] refl
rest_are_lines (suc n) (x ∷ y ∷ ys) all = rest_are_lines n (y ∷ ys) all

-- a piece is a line exactly where its first line feed is its last byte
at_last : (n k : ℕ) → (n == 0) ≡ (k + 1 == k + suc n)
at_last n k = grind (arith, nat_tests)

ended-step : (x k i : ℕ) (xs : List ℕ) (b : Bool) → (line_feed (k + 1) xs ≡ Some i → is_line xs ≡ (i + 1 == k + 1 + length xs)) → (if b then Some k else line_feed (k + 1) xs) ≡ Some i → (if b then length xs == 0 else is_line xs) ≡ (i + 1 == k + suc (length xs))
ended-step x k i xs true later e = let is : k ≡ i = cc in subst (λ n. (length xs == 0) ≡ (n + 1 == k + suc (length xs))) is (at_last (length xs) k)
ended-step x k i xs false later e = let n : k + 1 + length xs ≡ k + suc (length xs) = omega arith in later e ∙ ap (λ m. i + 1 == m) n

ended-from : (k : ℕ) (xs : List ℕ) (i : ℕ) → line_feed k xs ≡ Some i → is_line xs ≡ (i + 1 == k + length xs)
ended-from k [] i e = absurd cc
ended-from k (x ∷ xs) i e = ended-step x k i xs (x == 10) (ended-from (k + 1) xs i) e

pub ended_there : (xs : List ℕ) (i : ℕ) → line_feed 0 xs ≡ Some i → is_line xs ≡ (i + 1 == length xs)
ended_there xs i e = let n : 0 + length xs ≡ length xs = omega arith in ended-from 0 xs i e ∙ ap (λ m. i + 1 == m) n

not-step : (k : ℕ) (xs : List ℕ) (b : Bool) → (line_feed (k + 1) xs ≡ None → is_line xs ≡ false) → (if b then Some k else line_feed (k + 1) xs) ≡ None → (if b then length xs == 0 else is_line xs) ≡ false
not-step k xs true later e = absurd cc
not-step k xs false later e = later e

not-from : (k : ℕ) (xs : List ℕ) → line_feed k xs ≡ None → is_line xs ≡ false
not-from k [] e = refl
not-from k (x ∷ xs) e = not-step k xs (x == 10) (not-from (k + 1) xs) e

pub not_ended : (xs : List ℕ) → line_feed 0 xs ≡ None → is_line xs ≡ false
not_ended xs e = not-from 0 xs e
