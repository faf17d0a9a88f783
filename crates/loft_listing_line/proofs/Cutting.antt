-- Where a text is cut, and numbers in it.
use Rattle.std.proofs.Common.{◌≡◌, ℕ, ◌+◌, ◌-◌, ◌<◌, ◌≤◌, ◌^◌, ◌==◌, Bool, true, false, not, List, [], ◌∷◌, ◌++◌, length, take, drop, Option, Some, None, Result, Ok, Err, append_assoc, if◌then◌else◌, refl, sym, ap, subst, ◌∙◌, arith}
use Rattle.std.specs.Prelude.{MatchResult}
use Rattle.std.specs.List.{list_all, position_from}
use Rattle.std.specs.Result.{result_ok}
use Rattle.std.specs.Fmt.{decimal}
use Rattle.std.specs.Str.{IsUtf8}
use Rattle.std.specs.Str.Parse.{ParsesUnsigned}
use Rattle.std.proofs.lemmas.Fmt.{IsAscii-decimal, parse-decimal}
use Rattle.std.proofs.lemmas.Str.{IsUtf8-from_ascii}
use Rattle.std.proofs.lemmas.Bool.Decides.{nat_tests}
use Rattle.std.proofs.lemmas.Grind.{common_steps}
use Rattle.std.proofs.lemmas.List.{take_all, length-append}
use Rattle.std.proofs.Math.Seq.{take-append_seam, take-append-add, drop-append-add}
use Rattle.loft_lex.proofs.Runs.{both, left_of, right_of}
use Rattle.loft_listing_line.specs.Cuts.{is_other, IsWithout, IsCutAt}
use Rattle.loft_listing_line.specs.RowsFit.{IsSmall}

-- ---- cuts

step_past : (byte k b : ℕ) (rest : List ℕ) (t : Bool) (found : Option ℕ) → (b == byte) ≡ t → not t ≡ true
    → position_from (λ c. c == byte) (k + 1) rest ≡ found → position_from (λ c. c == byte) k (b ∷ rest) ≡ found
step_past byte k b rest true found is other later = absurd cc
step_past byte k b rest false found is other later = grind (arith, common_steps)

-- the first of the bytes stands after those before it
position_found : (byte k : ℕ) (before after : List ℕ) → IsWithout byte before
    → position_from (λ c. c == byte) k (before ++ byte ∷ after) ≡ Some (k + length before)
position_found byte k [] after without = grind (arith, common_steps, nat_tests)
position_found byte k (b ∷ bs) after without =
    let later = position_found byte (k + 1) bs after (right_of (is_other byte b) (list_all (is_other byte) bs) without) in
    let n : k + 1 + length bs ≡ k + length (b ∷ bs) = omega arith in
    step_past byte k b (bs ++ byte ∷ after) (b == byte) (Some (k + length (b ∷ bs))) refl
    (left_of (is_other byte b) (list_all (is_other byte) bs) without) (later ∙ ap Some n)

found_at : (byte : ℕ) (text before after : List ℕ) → IsCutAt byte text before after → position_from (λ c. c == byte) 0 text ≡ Some (length before)
found_at byte text before after cut =
    let n : 0 + length before ≡ length before = omega arith in
    ap (λ t. position_from (λ c. c == byte) 0 t) cut.whole ∙ position_found byte 0 before after cut.first ∙ ap Some n

-- a text that is cut has the byte
pub never_without : (byte : ℕ) (text before after : List ℕ) → IsCutAt byte text before after → position_from (λ c. c == byte) 0 text ≡ None → ⊥
never_without byte text before after cut none = let found = found_at byte text before after cut in cc

-- the two parts of a text
pub cut_parts : (byte index : ℕ) (text before after : List ℕ) → IsCutAt byte text before after → position_from (λ c. c == byte) 0 text ≡ Some index
    → (take index text ≡ before) × (take (length text - (index + 1)) (drop (index + 1) text) ≡ after)
cut_parts byte index text before after cut is =
    let found = found_at byte text before after cut in
    let at : index ≡ length before = cc in
    let first : take index text ≡ before =
    ap (λ t. take index t) cut.whole ∙ ap (λ k. take k (before ++ byte ∷ after)) at ∙ take-append_seam before (byte ∷ after) in
    let rest : drop (index + 1) text ≡ after =
    ap (λ t. drop (index + 1) t) cut.whole ∙ ap (λ k. drop (k + 1) (before ++ byte ∷ after)) at ∙ drop-append-add before (byte ∷ after) 1 in
    let long : length text ≡ length before + length (byte ∷ after) = ap length cut.whole ∙ length-append before (byte ∷ after) in
    let enough : length after ≤ length text - (index + 1) = omega (arith, long, at) in
    (first, ap (λ t. take (length text - (index + 1)) t) rest ∙ take_all (length text - (index + 1)) after enough)

-- ---- numbers

pub small_fits : (n : ℕ) → IsSmall n → n < 2 ^ 64
small_fits n small = omega (arith, small)

-- the digits of a number are text
decimal_utf8 : (n : ℕ) → IsSmall n → IsUtf8 (decimal n)
decimal_utf8 n small = IsUtf8-from_ascii (decimal n) (IsAscii-decimal n (small_fits n small))

-- digits are never refused as text
pub is_text : {S E : Type 0} (A : S → Type 0) (V : E → Type 0) (n : ℕ) (d : List ℕ) (r : Result S E) → IsSmall n → d ≡ decimal n
    → MatchResult r A (λ e. (¬ (IsUtf8 d)) × V e) → result_ok r ≡ None → ⊥
is_text A V n d (Ok s) small same cases none = cc
is_text A V n d (Err e) small same cases none = cases.0 (subst IsUtf8 (sym same) (decimal_utf8 n small))

-- the text has the bytes that were given
pub same_text : {S E : Type 0} (bytes_of : S → List ℕ) (V : E → Type 0) (d : List ℕ) (r : Result S E) (s : S)
    → MatchResult r (λ t. (bytes_of t ≡ d) × IsUtf8 d) V → result_ok r ≡ Some s → bytes_of s ≡ d
same_text bytes_of V d (Ok t) s cases is = let e : t ≡ s = cc in subst (λ u. bytes_of u ≡ d) e cases.0
same_text bytes_of V d (Err e) s cases is = absurd cc

-- they are read as the number
pub number_read : {E : Type 0} (n : ℕ) (bytes : List ℕ) (r : Result ℕ E) (found : Option ℕ) → IsSmall n → bytes ≡ decimal n → ParsesUnsigned 64 10 bytes r
    → found ≡ result_ok r → found ≡ Some n
number_read n bytes r found small same parses is =
    is ∙ ap result_ok (parse-decimal 64 n bytes r (small_fits n small) (small_fits n small) same parses)

-- ---- lines

-- a text with the byte is cut at the first of them
pub position_cut : (byte k i : ℕ) (xs : List ℕ) → position_from (λ c. c == byte) k xs ≡ Some i → (before : List ℕ) × (after : List ℕ) × IsCutAt byte xs before after
position_cut byte k i [] is = absurd cc
position_cut byte k i (x ∷ xs) is = go (x == byte) refl is (position_cut byte (k + 1) i xs)
  where
    go : (t : Bool) → (x == byte) ≡ t → (if t then Some k else position_from (λ c. c == byte) (k + 1) xs) ≡ Some i
        → (position_from (λ c. c == byte) (k + 1) xs ≡ Some i → (before : List ℕ) × (after : List ℕ) × IsCutAt byte xs before after)
        → (before : List ℕ) × (after : List ℕ) × IsCutAt byte (x ∷ xs) before after
    go true here found later = let same : x ≡ byte = grind (arith, nat_tests) in ([], xs, record { whole = ap (λ c. c ∷ xs) same; first = refl })
    go false here found later =
        let (before, after, cut) = later found in
        (x ∷ before, after, record { whole = ap (λ t. x ∷ t) cut.whole; first = both (is_other byte x) (list_all (is_other byte) before) (ap not here) cut.first })

-- a line with its line feed, and what stands after it
pub line_parts : (index : ℕ) (text before after : List ℕ) → IsCutAt 10 text before after → position_from (λ c. c == 10) 0 text ≡ Some index
    → (take (index + 1) text ≡ before ++ 10 ∷ []) × (take (length text - (index + 1)) (drop (index + 1) text) ≡ after)
line_parts index text before after cut is =
    let found = found_at 10 text before after cut in
    let at : index ≡ length before = cc in
    let line : take (index + 1) text ≡ before ++ 10 ∷ [] =
    ap (λ t. take (index + 1) t) cut.whole ∙ ap (λ k. take (k + 1) (before ++ 10 ∷ after)) at ∙ take-append-add before (10 ∷ after) 1 in
    (line, (cut_parts 10 index text before after cut is).1)

-- a text that begins with a line is cut after it
pub line_cut : (text line rest front : List ℕ) → text ≡ line ++ rest → line ≡ front ++ 10 ∷ [] → IsWithout 10 front → IsCutAt 10 text front rest
line_cut text line rest front whole ends plain = record { whole = whole ∙ ap (λ t. t ++ rest) ends ∙ append_assoc front (10 ∷ []) rest; first = plain }

pub line_whole : (text before after line rest : List ℕ) → IsCutAt 10 text before after → line ≡ before ++ 10 ∷ [] → rest ≡ after → text ≡ line ++ rest
line_whole text before after line rest cut first follows =
    cut.whole ∙ sym (append_assoc before (10 ∷ []) after) ∙ ap (λ t. t ++ after) (sym first) ∙ ap (λ t. line ++ t) (sym follows)
