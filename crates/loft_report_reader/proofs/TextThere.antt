-- A line is printed bytes up to its line feed, and line feeds are counted one by one.
use Rattle.std.proofs.Common.{◌≡◌, ℕ, zero, suc, ◌+◌, ◌-◌, ◌<◌, ◌≤◌, Bool, true, false, not, ◌==◌, ◌&&◌, List, [], ◌∷◌, ◌++◌, length, get_or, take, drop, length-append, arith, refl, sym, ap, ◌∙◌}
use Rattle.std.proofs.Math.Seq.{take-suc}
use Rattle.std.proofs.lemmas.Bool.Decides.{nat_tests}
use Rattle.std.proofs.lemmas.List.Folds.{list_all-append}
use Rattle.std.specs.List.{list_all}
use Rattle.memchr.specs.Find.{is_byte, Passes}
use Rattle.loft_spelling.specs.Sets.{is_empty, is_line, is_printed}
use Rattle.loft_report_shape.specs.Report.{feeds}
use Rattle.loft_report_shape.specs.Sets.{set_of}
use Rattle.loft_report_shape.specs.declared.part.Part.TheVariants.{Text}
use Rattle.loft_report_sets.specs.Taken.{Run, Taken}
use Rattle.loft_report_sets.proofs.TakenLemmas.{line_closed, line_whole}
use Rattle.loft_report_reader.specs.Ahead.{There}

more : (bytes : List ℕ) (n : ℕ) → n < length bytes → take (n + 1) bytes ≡ take n bytes ++ get_or bytes n 0 ∷ []
more bytes n h = let e : n + 1 ≡ suc n = omega arith in ap (λ k. take k bytes) e ∙ take-suc bytes n 0 h

and_true : (a : Bool) → (a && true) ≡ a
and_true true = refl
and_true false = refl

pub all_next : (test : ℕ → Bool) (bytes : List ℕ) (i : ℕ) (a : Bool) → i < length bytes → a ≡ list_all test (take i bytes) → (a && test (get_or bytes i 0)) ≡ list_all test (take (i + 1) bytes)
all_next test bytes i a h e =
    ap (λ t. t && test (get_or bytes i 0)) e
    ∙ sym (ap (list_all test) (more bytes i h) ∙ list_all-append test (take i bytes) (get_or bytes i 0 ∷ []) ∙ ap (λ t. list_all test (take i bytes) && t) (and_true (test (get_or bytes i 0))))

feed_not_printed : (b : ℕ) → b ≡ 10 → is_printed b ≡ false
feed_not_printed b e = rw e refl

last_byte : (w : List ℕ) (b : ℕ) → get_or (w ++ b ∷ []) (length (w ++ b ∷ []) - 1) 0 ≡ b
last_byte [] b = refl
last_byte (c ∷ w) b = let e : length (c ∷ w ++ b ∷ []) - 1 ≡ suc (length (w ++ b ∷ []) - 1) = omega (arith, length-append w (b ∷ [])) in rw e (last_byte w b)

some_bytes : (w : List ℕ) (b : ℕ) → not (is_empty (w ++ b ∷ [])) ≡ true
some_bytes [] b = refl
some_bytes (c ∷ w) b = refl

pub text_there : (bytes : List ℕ) (n : ℕ) → Passes (is_byte 10) bytes n → n ≤ 256 → n + 1 < length bytes → list_all is_printed (take n bytes) ≡ true → There (set_of Text) bytes (n + 1)
text_there bytes n feed few further all = record { taken = taken; whole = whole; more = further }
  where
    is : get_or bytes n 0 ≡ 10
    is = grind (arith, nat_tests, feed)

    within : n < length bytes
    within = omega (arith, further)

    run : Run is_printed 256 bytes n
    run = record { within = omega (arith, further); few = few; all = all; last = λ _ _. feed_not_printed (get_or bytes n 0) is }

    taken : Taken (set_of Text) bytes (n + 1)
    taken = line_closed bytes n run within is

    whole : is_line 256 (take (n + 1) bytes) ≡ true
    whole =
        line_whole 256 (take (n + 1) bytes) taken.begun
        ∙ ap (λ w. not (is_empty w) && get_or w (length w - 1) 0 == 10) (more bytes n within)
        ∙ rw (some_bytes (take n bytes) (get_or bytes n 0), last_byte (take n bytes) (get_or bytes n 0), is) refl

-- ---- line feeds

pub no_feeds : (bytes : List ℕ) → ((k : ℕ) → k < length bytes → (get_or bytes k 0 == 10) ≡ true → ⊥) → feeds bytes ≡ 0
unfolding feeds
no_feeds [] none = refl
no_feeds (b ∷ bytes) none = go (no_feeds bytes (λ k h. none (suc k) (omega (arith, h)))) (b == 10) refl
  where
    go : feeds bytes ≡ 0 → (t : Bool) → (b == 10) ≡ t → feeds (b ∷ bytes) ≡ 0
    go rest true e = absurd (none 0 (omega arith) e)
    go rest false e = rw e rest

pub first_feed : (bytes : List ℕ) (n : ℕ) → n < length bytes → ((k : ℕ) → k < n → (get_or bytes k 0 == 10) ≡ true → ⊥) → (get_or bytes n 0 == 10) ≡ true → feeds bytes ≡ feeds (drop (n + 1) bytes) + 1
unfolding feeds
first_feed [] n h none is = absurd (omega (arith, h))
first_feed (b ∷ bytes) zero h none is = rw is refl
first_feed (b ∷ bytes) (suc n) h none is = go (first_feed bytes n (omega (arith, h)) (λ k less. none (suc k) (omega (arith, less))) is) (b == 10) refl
  where
    go : feeds bytes ≡ feeds (drop (n + 1) bytes) + 1 → (t : Bool) → (b == 10) ≡ t → feeds (b ∷ bytes) ≡ feeds (drop (suc n + 1) (b ∷ bytes)) + 1
    go rest true e = absurd (none 0 (omega arith) e)
    go rest false e = let k : suc n + 1 ≡ suc (n + 1) = omega arith in rw (e, k) rest
