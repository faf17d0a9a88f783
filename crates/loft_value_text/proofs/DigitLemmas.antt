-- Numbers as two digits at a time.
use Rattle.std.proofs.Common.{ℕ, ◌≡◌, ◌≤◌, ◌<◌, ◌^◌, ◌∙◌, ◌++◌, ◌∷◌, [], ◌+◌, ◌%◌, ◌/◌, ap, length, length-append, arith, append_assoc}
use Rattle.std.specs.Fmt.{decimal}
use Rattle.std.proofs.lemmas.Fmt.{decimal_digit, decimal_step, length-decimal-le}

pub decimal_pair : (n : ℕ) → 10 ≤ n → n < 100 → decimal n ≡ (48 + n / 10) ∷ (48 + n % 10) ∷ []
decimal_pair n low high =
    decimal_step n low (omega (arith, high))
    ∙ ap (λ digits. digits ++ (48 + n % 10) ∷ []) (decimal_digit (n / 10) (omega (arith, high)))

-- the last two digits
pub decimal_pairs : (n : ℕ) → 100 ≤ n → n < 2 ^ 64 → decimal n ≡ decimal (n / 100) ++ (48 + n % 100 / 10) ∷ (48 + n % 100 % 10) ∷ []
decimal_pairs n low high =
    let hundreds : n / 10 / 10 ≡ n / 100 = omega arith in
    let tens : n / 10 % 10 ≡ n % 100 / 10 = omega arith in
    let ones : n % 10 ≡ n % 100 % 10 = omega arith in
    decimal_step n (omega (arith, low)) high
    ∙ ap (λ digits. digits ++ (48 + n % 10) ∷ []) (decimal_step (n / 10) (omega (arith, low)) (omega (arith, high)))
    ∙ append_assoc (decimal (n / 10 / 10)) ((48 + n / 10 % 10) ∷ []) ((48 + n % 10) ∷ [])
    ∙ ap (λ h. decimal h ++ (48 + n / 10 % 10) ∷ (48 + n % 10) ∷ []) hundreds
    ∙ ap (λ t. decimal (n / 100) ++ (48 + t) ∷ (48 + n % 10) ∷ []) tens
    ∙ ap (λ o. decimal (n / 100) ++ (48 + n % 100 / 10) ∷ (48 + o) ∷ []) ones

-- how many digits a number has: two more than without its last two, and one more than without its last one
pub more_by_two : (n : ℕ) → 100 ≤ n → n < 2 ^ 64 → length (decimal n) ≡ length (decimal (n / 100)) + 2
more_by_two n low high = ap length (decimal_pairs n low high) ∙ length-append (decimal (n / 100)) ((48 + n % 100 / 10) ∷ (48 + n % 100 % 10) ∷ [])

one_more : (n : ℕ) → 10 ≤ n → n < 2 ^ 64 → length (decimal n) ≡ length (decimal (n / 10)) + 1
one_more n low high = ap length (decimal_step n low high) ∙ length-append (decimal (n / 10)) ((48 + n % 10) ∷ [])

pub one_digit : (n : ℕ) → n < 10 → length (decimal n) ≡ 1
one_digit n low = ap length (decimal_digit n low)

pub two_digits : (n : ℕ) → 10 ≤ n → n < 100 → length (decimal n) ≡ 2
two_digits n low high = one_more n low (omega (arith, high)) ∙ ap (λ k. k + 1) (one_digit (n / 10) (omega (arith, high)))

pub three_digits : (n : ℕ) → 100 ≤ n → n < 1000 → length (decimal n) ≡ 3
three_digits n low high = one_more n (omega (arith, low)) (omega (arith, high)) ∙ ap (λ k. k + 1) (two_digits (n / 10) (omega (arith, low)) (omega (arith, high)))

pub four_digits : (n : ℕ) → 1000 ≤ n → n < 10000 → length (decimal n) ≡ 4
four_digits n low high = one_more n (omega (arith, low)) (omega (arith, high)) ∙ ap (λ k. k + 1) (three_digits (n / 10) (omega (arith, low)) (omega (arith, high)))

pub more_digits : (n : ℕ) → 10000 ≤ n → n < 2 ^ 64 → length (decimal n) ≡ length (decimal (n / 10000)) + 4
more_digits n low high =
    let two = more_by_two n (omega (arith, low)) high in
    let next = more_by_two (n / 100) (omega (arith, low)) (omega (arith, high)) in
    let thousands : n / 100 / 100 ≡ n / 10000 = omega arith in
    two ∙ (ap (λ k. k + 2) (next ∙ ap (λ m. length (decimal m) + 2) thousands) ∙ four (length (decimal (n / 10000))))
  where
    four : (k : ℕ) → k + 2 + 2 ≡ k + 4
    four k = omega arith

pub most_digits : (n : ℕ) → n < 2 ^ 64 → length (decimal n) ≤ 20
most_digits n high = length-decimal-le 20 n (omega arith) (omega (arith, high)) high
