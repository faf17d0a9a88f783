-- The rewritten text is cut into what the rewritten tokens say.
use Rattle.std.proofs.Common.{◌≡◌, ℕ, zero, suc, ◌+◌, true, false, List, [], ◌∷◌, ◌++◌, length, length-append, map, slice_range, Option, Some, None, Ok, Err, inl, inr, refl, sym, ap, subst, append_assoc, arith}
use Rattle.std.specs.List.{list_all}
use Rattle.loft_tree.specs.Fits.{Each}
use Rattle.loft_lex.specs.Bytes.{is_blank, is_comment_byte, begins}
use Rattle.loft_lex.specs.declared.token.Token.{Token}
use Rattle.loft_lex.specs.declared.token.TokenKind.{TokenKind}
use Rattle.std.specs.Prelude.{◌⊎◌}
use Rattle.std.proofs.lemmas.Bool.{false≢true}
use Rattle.loft_lex.specs.declared.token.TokenKind.TheVariants as kind
use Rattle.loft_lex.proofs.Spelled.{word_like_name, sign_like_sign}
use Rattle.loft_lex.specs.Fits.{IsOfKind, between_quotes}
use Rattle.loft_lex.specs.Symbol.{What, what_of}
use Rattle.loft_lex.specs.Tokens.{Found, token_moved, moved, with_token}
use Rattle.loft_lex.specs.Cut.{Cut, IsWhole, nothing, blank, comment, token as one_token, long_name, large_number, number_and_letter, long_text, text_to_end, text_to_line_feed, bad_byte_inside, bad_byte}
use Rattle.loft_lock_forms.specs.Rewriting.{LockForm, more_of, form_at, form_text, form_says, with_form, says, all_say, written, rewritten, forms, IsShort, Says}
use Rattle.loft_lock_forms.specs.Marks.{form_mark, marks, text_marks}
use Rattle.loft_lock_forms.specs.Marks.{Mark}
use Rattle.loft_lock_rewriting.proofs.Cutting.{drop_moved, slice_moved, slice_front, slice_whole, says_moved, all_moved, comment_moved}
use Rattle.loft_lock_rewriting.proofs.Uses.{form_uses, uses}
use Rattle.loft_lock_rewriting.proofs.Putting.{SaysAt, recast, put_token, put_blank, put_comment}
use Rattle.loft_lock_rewriting.proofs.Starts.{SameStart, nothing as both_end, byte, whole_still, stops_still}
use Rattle.loft_lock_rewriting.proofs.FormText.{IsName, form_cut, form_length}
use Rattle.loft_lock_rewriting.proofs.FormLemmas.{NameFits, of_kind_fits, NamesIn, names_in, form_fits, form_starts}

-- ---- what is written after other bytes

same_form : {A : Type 0} (o p : Option LockForm) (x y : A) (f g : LockForm → A) → o ≡ p → x ≡ y → ((k : LockForm) → f k ≡ g k) → with_form o x f ≡ with_form p y g
same_form o None x y f g e first others = rw e first
same_form o (Some k) x y f g e first others = rw e (others k)

beyond : (front : List ℕ) (o p : Option LockForm) (x y : List ℕ) (f g : LockForm → List ℕ) → o ≡ p → x ≡ front ++ y → ((k : LockForm) → f k ≡ front ++ g k) → with_form o x f ≡ front ++ with_form p y g
beyond front o None x y f g e first others = rw e first
beyond front o (Some k) x y f g e first others = rw e (others k)

form_moved : (x rest : List ℕ) (t : Token) (ts : List Token) → form_at (says (x ++ rest) (token_moved (length x) t)) (all_say (x ++ rest) (map (token_moved (length x)) ts)) ≡ form_at (says rest t) (all_say rest ts)
form_moved x rest t ts = let e = says_moved x rest t in let f = all_moved x rest ts in rw (e, f) refl

written_moved : (x rest : List ℕ) (at skip : ℕ) (ts : List Token) → written (x ++ rest) (length x + at) skip (map (token_moved (length x)) ts) ≡ written rest at skip ts
written_moved x rest at zero [] = drop_moved x rest at
written_moved x rest at (suc skip) [] = refl
written_moved x rest at zero (t ∷ ts) = same_form _ _ _ _ _ _ (form_moved x rest t ts)
    (let e = slice_moved x rest at t.to in let f = written_moved x rest t.to 0 ts in rw (e, f) refl)
    (λ k. let e = slice_moved x rest at t.from in let f = written_moved x rest t.to (more_of k) ts in rw (e, f) refl)
written_moved x rest at (suc skip) (t ∷ ts) = written_moved x rest t.to skip ts

written_beyond : (x rest : List ℕ) (ts : List Token) → written (x ++ rest) 0 0 (map (token_moved (length x)) ts) ≡ x ++ written rest 0 0 ts
written_beyond x rest [] = refl
written_beyond x rest (t ∷ ts) = beyond x _ _ _ _ _ _ (form_moved x rest t ts)
    (let e = slice_front x rest t.to in let f = written_moved x rest t.to 0 ts in rw (e, f) (append_assoc x (slice_range rest 0 t.to) _))
    (λ k. let e = slice_front x rest t.from in let f = written_moved x rest t.to (more_of k) ts in rw (e, f) (append_assoc x (slice_range rest 0 t.from) _))

written_skips : (x rest : List ℕ) (skip : ℕ) (ts : List Token) → written (x ++ rest) 0 (suc skip) (map (token_moved (length x)) ts) ≡ written rest 0 (suc skip) ts
written_skips x rest skip [] = refl
written_skips x rest skip (t ∷ ts) = written_moved x rest t.to skip ts

-- right after them
written_after : (x rest : List ℕ) (skip : ℕ) (ts : List Token) → written (x ++ rest) (length x) skip (map (token_moved (length x)) ts) ≡ written rest 0 skip ts
written_after x rest skip ts = let e : length x ≡ length x + 0 = omega arith in subst (λ (n : ℕ). written (x ++ rest) n skip (map (token_moved (length x)) ts) ≡ written rest 0 skip ts) (sym e) (written_moved x rest 0 skip ts)

-- ---- the marks of what is written after other bytes

marks_moved : (x rest : List ℕ) (put at skip : ℕ) (ts : List Token) → marks (x ++ rest) put (length x + at) skip (map (token_moved (length x)) ts) ≡ marks rest put at skip ts
marks_moved x rest put at skip [] = refl
marks_moved x rest put at zero (t ∷ ts) = same_form _ _ _ _ _ _ (form_moved x rest t ts)
    (let e = slice_moved x rest at t.to in rw e (marks_moved x rest (put + length (slice_range rest at t.to)) t.to 0 ts))
    (λ k. let e = slice_moved x rest at t.from in let n = put + length (slice_range rest at t.from) in
    rw e (ap (form_mark k n) (marks_moved x rest (n + length (form_text k [])) t.to (more_of k) ts)))
marks_moved x rest put at (suc skip) (t ∷ ts) = marks_moved x rest put t.to skip ts

marks_beyond : (x rest : List ℕ) (put : ℕ) (ts : List Token) → marks (x ++ rest) put 0 0 (map (token_moved (length x)) ts) ≡ marks rest (put + length x) 0 0 ts
marks_beyond x rest put [] = refl
marks_beyond x rest put (t ∷ ts) = same_form _ _ _ _ _ _ (form_moved x rest t ts)
    (let e = slice_front x rest t.to in let n : put + length (x ++ slice_range rest 0 t.to) ≡ put + length x + length (slice_range rest 0 t.to) = omega (arith, length-append x (slice_range rest 0 t.to)) in
    rw (e, n) (marks_moved x rest (put + length x + length (slice_range rest 0 t.to)) t.to 0 ts))
    (λ k. let e = slice_front x rest t.from in let n : put + length (x ++ slice_range rest 0 t.from) ≡ put + length x + length (slice_range rest 0 t.from) = omega (arith, length-append x (slice_range rest 0 t.from)) in
    rw (e, n) (ap (form_mark k (put + length x + length (slice_range rest 0 t.from))) (marks_moved x rest (put + length x + length (slice_range rest 0 t.from) + length (form_text k [])) t.to (more_of k) ts)))

marks_skip : (x rest : List ℕ) (put skip : ℕ) (ts : List Token) → marks (x ++ rest) put 0 (suc skip) (map (token_moved (length x)) ts) ≡ marks rest put 0 (suc skip) ts
marks_skip x rest put skip [] = refl
marks_skip x rest put skip (t ∷ ts) = marks_moved x rest put t.to skip ts

marks_after : (x rest : List ℕ) (put skip : ℕ) (ts : List Token) → marks (x ++ rest) put (length x) skip (map (token_moved (length x)) ts) ≡ marks rest put 0 skip ts
marks_after x rest put skip ts = let e : length x ≡ length x + 0 = omega arith in subst (λ (n : ℕ). marks (x ++ rest) put n skip (map (token_moved (length x)) ts) ≡ marks rest put 0 skip ts) (sym e) (marks_moved x rest put 0 skip ts)

-- ---- the whole text

-- it's said with its marks, and where no form is under way it starts as before
record Made (skip : ℕ) (text : List ℕ) (ts : List Token) : Type 0 where
  said : (put whole : ℕ) → put + length (written text 0 skip ts) ≡ whole → SaysAt whole (written text 0 skip ts) (uses skip (all_say text ts)) (marks text put 0 skip ts) (rewritten skip (all_say text ts))
  start : skip ≡ 0 → SameStart text (written text 0 skip ts)

abbrev IsMade : ℕ → List ℕ → Found → Type 0
IsMade skip text (Ok ts) = Each IsShort (forms skip (all_say text ts)) → Made skip text ts
IsMade skip text (Err e) = Unit {0}

not_nothing : (k : TokenKind) → IsOfKind k [] → ⊥
not_nothing kind.Name fits = false≢true fits
not_nothing kind.Word fits = false≢true (word_like_name [] fits)
not_nothing (kind.Number value) fits = false≢true fits.first
not_nothing kind.Text fits = let no : [] ≡ 34 ∷ (between_quotes [] ++ 34 ∷ []) = fits.quotes in cc
not_nothing kind.Sign fits = false≢true (sign_like_sign [] fits)

not_zero : (n : ℕ) → suc n ≡ 0 → ⊥
not_zero n e = cc

-- the bytes before are kept, or they are skipped
kept_length : (put whole : ℕ) (bytes text rest : List ℕ) → text ≡ bytes ++ rest → put + length text ≡ whole → put + length bytes + length rest ≡ whole
kept_length put whole bytes text rest e there = let same = ap (λ (l : List ℕ). length l) e in omega (arith, same, there, length-append bytes rest)

same_length : (put whole : ℕ) (text other : List ℕ) → text ≡ other → put + length text ≡ whole → put + length other ≡ whole
same_length put whole text other e there = let same = ap (λ (l : List ℕ). length l) e in omega (arith, same, there)

short_as : (skip : ℕ) (ws xs : List What) → ws ≡ xs → Each IsShort (forms skip ws) → Each IsShort (forms skip xs)
short_as skip ws xs e short = subst (λ (l : List What). Each IsShort (forms skip l)) e short

made_blank : (skip b : ℕ) (rest : List ℕ) (found : Found) → is_blank b ≡ true → IsMade skip rest found → IsMade skip (b ∷ rest) (moved 1 found)
made_blank skip b rest (Err e) is h = tt
made_blank zero b rest (Ok ts) is h = λ short.
    let same = all_moved (b ∷ []) rest ts in
    let m = h (short_as 0 _ _ same short) in
    let text = written_beyond (b ∷ []) rest ts in
    record {
      said = λ put whole there. recast text (ap (uses 0) same) (marks_beyond (b ∷ []) rest put ts) (ap (rewritten 0) same)
          (put_blank b (written rest 0 0 ts) _ is (m.said (put + 1) whole (kept_length put whole (b ∷ []) _ (written rest 0 0 ts) text there)));
      start = λ _. subst (SameStart (b ∷ rest)) (sym text) (byte b rest _);
    }
made_blank (suc skip) b rest (Ok ts) is h = λ short.
    let same = all_moved (b ∷ []) rest ts in
    let m = h (short_as (suc skip) _ _ same short) in
    let text = written_skips (b ∷ []) rest skip ts in
    record {
      said = λ put whole there. recast text (ap (uses (suc skip)) same) (marks_skip (b ∷ []) rest put skip ts) (ap (rewritten (suc skip)) same)
          (m.said put whole (same_length put whole _ (written rest 0 (suc skip) ts) text there));
      start = λ e. absurd (not_zero skip e);
    }

made_comment : (skip : ℕ) (line rest : List ℕ) (found : Found) → list_all is_comment_byte line ≡ true → begins is_comment_byte rest ≡ false → IsMade skip rest found → IsMade skip (47 ∷ 47 ∷ (line ++ rest)) (moved (2 + length line) found)
made_comment skip line rest (Err e) all stop h = tt
made_comment zero line rest (Ok ts) all stop h = λ short.
    let x = 47 ∷ 47 ∷ line in
    let n : 2 + length line ≡ length x = omega arith in
    let same = comment_moved line rest ts in
    let m = h (short_as 0 _ _ same short) in
    let text : written (x ++ rest) 0 0 (map (token_moved (2 + length line)) ts) ≡ x ++ written rest 0 0 ts = subst (λ (k : ℕ). written (x ++ rest) 0 0 (map (token_moved k) ts) ≡ x ++ written rest 0 0 ts) (sym n) (written_beyond x rest ts) in
    let marked : (put : ℕ) → marks (x ++ rest) put 0 0 (map (token_moved (2 + length line)) ts) ≡ marks rest (put + length x) 0 0 ts = λ put. subst (λ (k : ℕ). marks (x ++ rest) put 0 0 (map (token_moved k) ts) ≡ marks rest (put + length x) 0 0 ts) (sym n) (marks_beyond x rest put ts) in
    record {
      said = λ put whole there. recast text (ap (uses 0) same) (marked put) (ap (rewritten 0) same)
          (put_comment line (written rest 0 0 ts) _ all (stops_still rest _ (m.start refl) stop) (m.said (put + length x) whole (kept_length put whole x _ (written rest 0 0 ts) text there)));
      start = λ _. subst (SameStart (x ++ rest)) (sym text) (byte 47 (47 ∷ (line ++ rest)) _);
    }
made_comment (suc skip) line rest (Ok ts) all stop h = λ short.
    let x = 47 ∷ 47 ∷ line in
    let n : 2 + length line ≡ length x = omega arith in
    let same = comment_moved line rest ts in
    let m = h (short_as (suc skip) _ _ same short) in
    let text : written (x ++ rest) 0 (suc skip) (map (token_moved (2 + length line)) ts) ≡ written rest 0 (suc skip) ts = subst (λ (k : ℕ). written (x ++ rest) 0 (suc skip) (map (token_moved k) ts) ≡ written rest 0 (suc skip) ts) (sym n) (written_skips x rest skip ts) in
    let marked : (put : ℕ) → marks (x ++ rest) put 0 (suc skip) (map (token_moved (2 + length line)) ts) ≡ marks rest put 0 (suc skip) ts = λ put. subst (λ (k : ℕ). marks (x ++ rest) put 0 (suc skip) (map (token_moved k) ts) ≡ marks rest put 0 (suc skip) ts) (sym n) (marks_skip x rest put skip ts) in
    record {
      said = λ put whole there. recast text (ap (uses (suc skip)) same) (marked put) (ap (rewritten (suc skip)) same)
          (m.said put whole (same_length put whole _ (written rest 0 (suc skip) ts) text there));
      start = λ e. absurd (not_zero skip e);
    }

-- a token, before what is known of the rest
module _ (k : TokenKind) (bytes rest : List ℕ) (ts : List Token) (of_kind : IsOfKind k bytes) (ends : IsWhole k bytes rest) (names : Each NameFits (all_say rest ts))
    (h : (skip : ℕ) → Each IsShort (forms skip (all_say rest ts)) → Made skip rest ts) where
  abbrev front_token : Token
  front_token = record { kind = k; from = 0; to = length bytes }

  abbrev rest_says : List What
  rest_says = all_say rest ts

  -- by the form that it begins
  abbrev text_by : Option LockForm → List ℕ
  text_by o = with_form o (bytes ++ written rest 0 0 ts) (λ f. form_text f (written rest 0 (more_of f) ts))

  abbrev marks_by : Option LockForm → ℕ → List Mark
  marks_by o put = with_form o (marks rest (put + length bytes) 0 0 ts) (λ f. form_mark f put (marks rest (put + length (form_text f [])) 0 (more_of f) ts))

  abbrev Kept : Option LockForm → Type 0
  Kept o = ((put whole : ℕ) → put + length (text_by o) ≡ whole
      → SaysAt whole (text_by o) (with_form o (None ∷ uses 0 rest_says) (λ f. form_uses f (uses (more_of f) rest_says))) (marks_by o put) (with_form o (what_of k bytes ∷ rewritten 0 rest_says) (λ f. form_says f (rewritten (more_of f) rest_says))))
      × SameStart (bytes ++ rest) (text_by o)

  same_bytes : (xs : List ℕ) → SameStart (xs ++ rest) (xs ++ written rest 0 0 ts) ⊎ (xs ≡ [])
  same_bytes [] = inr refl
  same_bytes (b ∷ bs) = inl (byte b _ _)

  by_form : (o : Option LockForm) → form_at (what_of k bytes) rest_says ≡ o → Each IsShort (with_form o (forms 0 rest_says) (λ f. f ∷ forms (more_of f) rest_says)) → Kept o
  by_form None e short =
      let m = h 0 short in
      (λ put whole there. put_token k bytes (written rest 0 0 ts) _ of_kind (whole_still k bytes rest _ (m.start refl) ends) (m.said (put + length bytes) whole (kept_length put whole bytes _ (written rest 0 0 ts) refl there)), starts_so (same_bytes bytes))
    where
      starts_so : SameStart (bytes ++ rest) (bytes ++ written rest 0 0 ts) ⊎ (bytes ≡ []) → SameStart (bytes ++ rest) (bytes ++ written rest 0 0 ts)
      starts_so (inl s) = s
      starts_so (inr d) = absurd (not_nothing k (subst (IsOfKind k) d of_kind))
  by_form (Some f) e short =
      let m = h (more_of f) short.1 in
      let rest_text = written rest 0 (more_of f) ts in (
        λ put whole there.
            let n : put + length (form_text f []) + length rest_text ≡ whole = omega (arith, there, form_length f rest_text) in
            form_cut f put rest_text _ there (form_fits IsName (what_of k bytes) rest_says f e (of_kind_fits k bytes of_kind) names) short.0 (m.said (put + length (form_text f [])) whole n),
        form_starts k bytes rest _ rest_says f of_kind e,
      )

  abbrev all_bytes : List ℕ
  all_bytes = bytes ++ rest

  abbrev later : List Token
  later = map (token_moved (length bytes)) ts

  one_says : says all_bytes front_token ≡ what_of k bytes
  one_says = ap (what_of k) (slice_whole bytes rest)

  says_all : all_say all_bytes (front_token ∷ later) ≡ what_of k bytes ∷ rest_says
  says_all = let one = one_says in let others = all_moved bytes rest ts in cc

  form_here : form_at (says all_bytes front_token) (all_say all_bytes later) ≡ form_at (what_of k bytes) rest_says
  form_here = let one = one_says in let others = all_moved bytes rest ts in rw (one, others) refl

  written_so : written all_bytes 0 0 (front_token ∷ later) ≡ text_by (form_at (what_of k bytes) rest_says)
  written_so =
      let whole_token = slice_whole bytes rest in
      let after = written_after bytes rest 0 ts in
      let kept : slice_range all_bytes 0 (length bytes) ++ written all_bytes (length bytes) 0 later ≡ bytes ++ written rest 0 0 ts = rw (whole_token, after) refl in
      same_form _ _ _ _ _ _ form_here kept (λ f. ap (form_text f) (written_after bytes rest (more_of f) ts))

  marks_so : (put : ℕ) → marks all_bytes put 0 0 (front_token ∷ later) ≡ marks_by (form_at (what_of k bytes) rest_says) put
  marks_so put =
      let whole_token = slice_whole bytes rest in
      let kept : marks all_bytes (put + length (slice_range all_bytes 0 (length bytes))) (length bytes) 0 later ≡ marks rest (put + length bytes) 0 0 ts = rw whole_token (marks_after bytes rest (put + length bytes) 0 ts) in
      same_form _ _ _ _ _ _ form_here kept
      (λ f. let n : put + 0 ≡ put = omega arith in rw n (ap (form_mark f put) (marks_after bytes rest (put + length (form_text f [])) (more_of f) ts)))

  made_first : (skip : ℕ) → Each IsShort (forms skip (all_say all_bytes (front_token ∷ later))) → Made skip all_bytes (front_token ∷ later)
  made_first zero short =
      let kept = by_form (form_at (what_of k bytes) rest_says) refl (short_as 0 _ _ says_all short) in
      record {
        said = λ put whole there. recast written_so (ap (uses 0) says_all) (marks_so put) (ap (rewritten 0) says_all) (kept.0 put whole (same_length put whole _ _ written_so there));
        start = λ _. subst (SameStart all_bytes) (sym written_so) kept.1;
      }
  made_first (suc skip) short =
      let m = h skip (short_as (suc skip) _ _ says_all short) in
      let after = written_after bytes rest skip ts in
      record {
        said = λ put whole there. recast after (ap (uses (suc skip)) says_all) (marks_after bytes rest put skip ts) (ap (rewritten (suc skip)) says_all) (m.said put whole (same_length put whole _ _ after there));
        start = λ e. absurd (not_zero skip e);
      }

made_token : (k : TokenKind) (bytes rest : List ℕ) (found : Found) → IsOfKind k bytes → IsWhole k bytes rest → NamesIn rest found → ((skip : ℕ) → IsMade skip rest found) → (skip : ℕ)
    → IsMade skip (bytes ++ rest) (with_token (record { kind = k; from = 0; to = length bytes }) (moved (length bytes) found))
made_token k bytes rest (Ok ts) of_kind ends names h skip = made_first k bytes rest ts of_kind ends names h skip
made_token k bytes rest (Err e) of_kind ends names h skip = tt

made_nothing : (skip : ℕ) → IsMade skip [] (Ok [])
made_nothing zero = λ short. record { said = λ put whole there. record { tokens = []; cut = nothing; all = refl; told = λ p e. refl }; start = λ _. both_end }
made_nothing (suc skip) = λ short. record { said = λ put whole there. record { tokens = []; cut = nothing; all = refl; told = λ p e. refl }; start = λ _. both_end }

made : {text : List ℕ} {found : Found} → Cut text found → (skip : ℕ) → IsMade skip text found
made nothing skip = made_nothing skip
made (blank b rest found is c) skip = made_blank skip b rest found is (made c skip)
made (comment line rest found all stop c) skip = made_comment skip line rest found all stop (made c skip)
made (one_token k bytes rest found of_kind whole c) skip = made_token k bytes rest found of_kind whole (names_in c) (made c) skip
made (long_name bytes rest letter all many) skip = tt
made (large_number digits rest first all stop large) skip = tt
made (number_and_letter digits rest first all letter) skip = tt
made (long_text inside rest all many) skip = tt
made (text_to_end inside text) skip = tt
made (text_to_line_feed inside rest text) skip = tt
made (bad_byte_inside inside b rest text bad) skip = tt
made (bad_byte b rest other no_sign whole) skip = tt

-- what is written is cut into the rewritten tokens, which have these marks
pub rewritten_at : (text : List ℕ) (ts : List Token) → Cut text (Ok ts) → Each IsShort (forms 0 (all_say text ts)) → SaysAt (length (written text 0 0 ts)) (written text 0 0 ts) (uses 0 (all_say text ts)) (text_marks text ts) (rewritten 0 (all_say text ts))
rewritten_at text ts c short = (made c 0 short).said 0 (length (written text 0 0 ts)) (omega arith)

pub rewritten_says : (text : List ℕ) (ts : List Token) → Cut text (Ok ts) → Each IsShort (forms 0 (all_say text ts)) → Says (written text 0 0 ts) (rewritten 0 (all_say text ts))
rewritten_says text ts c short = let s = rewritten_at text ts c short in record { tokens = s.tokens; cut = s.cut; all = s.all }
