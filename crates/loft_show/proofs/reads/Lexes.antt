-- The tokens of lines whose pieces are kept apart.
use Rattle.std.proofs.Common.{◌≡◌, ℕ, zero, suc, ◌+◌, ◌-◌, ◌<◌, true, List, [], ◌∷◌, ◌++◌, length, map, drop, Ok, refl, sym, ap, subst, ◌∙◌, append_assoc, arith, inl, inr, ◌⊎◌}
use Rattle.std.specs.Prelude.{slice_range, replicate}
use Rattle.std.proofs.lemmas.List.{take_at, map-append}
use Rattle.loft_lex.specs.declared.token.Token.{Token}
use Rattle.loft_lex.specs.declared.token.TokenKind.{TokenKind}
use Rattle.loft_lex.specs.declared.sign.Sign.TheVariants as s
use Rattle.loft_lex.specs.Bytes.{is_blank}
use Rattle.loft_lex.specs.Fits.{IsOfKind}
use Rattle.loft_lex.specs.Cut.{Cut, IsWhole, nothing, blank, token as one_token}
use Rattle.loft_lex.specs.Symbol.{Symbol, What, Mark, what_of, symbols}
use Rattle.loft_lex.specs.Tokens.{token_moved}
use Rattle.loft_tree.specs.Fits.{Each}
use Rattle.loft_show.specs.Canon.{Piece, Line, spelled, pieces_text, lines_text}
use Rattle.loft_show.proofs.reads.Spelling.{line_pieces}
use Rattle.loft_show.proofs.reads.Written.{WhatFits, kind_of, written, read_back, NoName, is_mark, is_soft, goes_no_further, blank_quiet, blank_no_name, soft_quiet, mark_no_name}

-- what the tokens of a text say
abbrev pub whats : List ℕ → List Token → List What
whats text ts = map (λ (x : Symbol). x.what) (symbols text ts)

-- the tokens of the text say this
abbrev pub Says : List ℕ → List What → Type 0
Says text ws = (ts : List Token) × Cut text (Ok ts) × (whats text ts ≡ ws)

-- ---- bytes put before a text

drop_after : (front rest : List ℕ) (n : ℕ) → drop (length front + n) (front ++ rest) ≡ drop n rest
drop_after [] rest n = let e : 0 + n ≡ n = omega arith in ap (λ k. drop k rest) e
drop_after (b ∷ front) rest n = let e : suc (length front) + n ≡ suc (length front + n) = omega arith in rw e (drop_after front rest n)

slice_after : (front rest : List ℕ) (from to : ℕ) → slice_range (front ++ rest) (length front + from) (length front + to) ≡ slice_range rest from to
slice_after front rest from to =
    let e : length front + to - (length front + from) ≡ to - from = omega arith in
    rw (e, drop_after front rest from) refl

whats_moved : (front rest : List ℕ) (ts : List Token) → whats (front ++ rest) (map (token_moved (length front)) ts) ≡ whats rest ts
whats_moved front rest [] = refl
whats_moved front rest (t ∷ ts) = λ i. what_of t.kind (slice_after front rest t.from t.to i) ∷ whats_moved front rest ts i

says_nothing : Says [] []
says_nothing = ([], nothing, refl)

says_blank : (b : ℕ) (rest : List ℕ) (ws : List What) → is_blank b ≡ true → Says rest ws → Says (b ∷ rest) ws
says_blank b rest ws h (ts, cut, same) = (map (token_moved 1) ts, blank b rest (Ok ts) h cut, whats_moved (b ∷ []) rest ts ∙ same)

says_token : (kind : TokenKind) (bytes rest : List ℕ) (w : What) (ws : List What) → IsOfKind kind bytes → IsWhole kind bytes rest → what_of kind bytes ≡ w → Says rest ws → Says (bytes ++ rest) (w ∷ ws)
says_token kind bytes rest w ws fits whole is (ts, cut, same) =
    let first : what_of kind (slice_range (bytes ++ rest) 0 (length bytes)) ≡ w = (let n : length bytes - 0 ≡ length bytes = omega arith in rw (n, take_at bytes rest (length bytes) refl) is) in
    let others : whats (bytes ++ rest) (map (token_moved (length bytes)) ts) ≡ ws = whats_moved bytes rest ts ∙ same in (
      record { kind = kind; from = 0; to = length bytes } ∷ map (token_moved (length bytes)) ts,
      one_token kind bytes rest (Ok ts) fits whole cut,
      (λ i. first i ∷ others i),
    )

-- ---- pieces

abbrev pub Blank : List ℕ → Type 0
Blank [] = Unit {0}
Blank (b ∷ bs) = (is_blank b ≡ true) × Blank bs

-- Blanks keep two pieces apart, or what they are: a sign that goes on nothing stands on one side.
abbrev pub Next : What → Piece → Type 0
Next prev p = (0 < length p.gap) ⊎ ((is_soft p.what ≡ true) × ((is_mark prev ≡ true) ⊎ (is_mark p.what ≡ true)))

-- the pieces are those of the language, and are kept apart from one another and from what stands before
abbrev pub Apart : What → List Piece → Type 0
Apart prev [] = Unit {0}
Apart prev (p ∷ ps) = Blank p.gap × WhatFits p.what × Next prev p × Apart p.what ps

says_blanks : (gap rest : List ℕ) (ws : List What) → Blank gap → Says rest ws → Says (gap ++ rest) ws
says_blanks [] rest ws h says = says
says_blanks (b ∷ gap) rest ws h says = says_blank b (gap ++ rest) ws h.0 (says_blanks gap rest ws h.1 says)

-- a token goes no further than a blank, or the next piece
ends_at_blank : (w : What) (b : ℕ) (rest : List ℕ) → WhatFits w → is_blank b ≡ true → IsWhole (kind_of w) (spelled w) (b ∷ rest)
ends_at_blank w b rest fits h = goes_no_further w (b ∷ rest) fits (blank_quiet b rest h) (inr (blank_no_name b h))

no_name_after : (w : What) (rest : List ℕ) → is_mark w ≡ true → NoName (spelled w ++ rest)
no_name_after (Mark v) rest h = mark_no_name v rest
no_name_after _ rest h = absurd cc

ends_at_next : (w v : What) (gap rest : List ℕ) → WhatFits w → Blank gap → WhatFits v → Next w (record { gap = gap; what = v }) → IsWhole (kind_of w) (spelled w) (gap ++ (spelled v ++ rest))
ends_at_next w v (b ∷ gap) rest fits blanks fit next = ends_at_blank w b (gap ++ (spelled v ++ rest)) fits blanks.0
ends_at_next w v [] rest fits blanks fit (inl h) = absurd (omega arith)
ends_at_next w v [] rest fits blanks fit (inr (soft, inl m)) = goes_no_further w (spelled v ++ rest) fits (soft_quiet v rest fit soft) (inl m)
ends_at_next w v [] rest fits blanks fit (inr (soft, inr m)) = goes_no_further w (spelled v ++ rest) fits (soft_quiet v rest fit soft) (inr (no_name_after v rest m))

regroup : (gap bytes more rest : List ℕ) → (gap ++ (bytes ++ more)) ++ rest ≡ gap ++ (bytes ++ (more ++ rest))
regroup gap bytes more rest = simp append_assoc

ends_at_pieces : (w : What) (ps : List Piece) (rest : List ℕ) → WhatFits w → Apart w ps → IsWhole (kind_of w) (spelled w) (pieces_text ps ++ 10 ∷ rest)
ends_at_pieces w [] rest fits apart = ends_at_blank w 10 rest fits refl
ends_at_pieces w (p ∷ ps) rest fits apart =
    subst (IsWhole (kind_of w) (spelled w)) (sym (regroup p.gap (spelled p.what) (pieces_text ps) (10 ∷ rest)))
    (ends_at_next w p.what p.gap (pieces_text ps ++ 10 ∷ rest) fits apart.0 apart.1 apart.2)

-- the text of pieces and a line feed says what the pieces are
says_pieces : (prev : What) (ps : List Piece) (rest : List ℕ) (ws : List What) → Apart prev ps → Says rest ws → Says (pieces_text ps ++ 10 ∷ rest) (map (λ (p : Piece). p.what) ps ++ ws)
says_pieces prev [] rest ws apart says = says_blank 10 rest ws refl says
says_pieces prev (p ∷ ps) rest ws apart says =
    subst (λ t. Says t (p.what ∷ (map (λ (q : Piece). q.what) ps ++ ws))) (sym (regroup p.gap (spelled p.what) (pieces_text ps) (10 ∷ rest)))
    (says_blanks p.gap (spelled p.what ++ (pieces_text ps ++ 10 ∷ rest)) _ apart.0
    (says_token (kind_of p.what) (spelled p.what) (pieces_text ps ++ 10 ∷ rest) p.what _ (written p.what apart.1) (ends_at_pieces p.what ps rest apart.1 apart.3) (read_back p.what apart.1)
    (says_pieces p.what ps rest ws apart.3 says)))

-- ---- lines

-- the pieces of a line are those of the language, and are kept apart
pub record LineFits (l : Line) : Type 0 where
  pub apart : Apart (Mark s.Semicolon) l.pieces

indent_blank : (n : ℕ) → Blank (replicate n 32)
indent_blank zero = tt
indent_blank (suc n) = (refl, indent_blank n)

-- what the text of lines says is what their pieces are
pub says_lines : (ls : List Line) → Each LineFits ls → Says (lines_text ls) (map (λ (p : Piece). p.what) (line_pieces ls))
says_lines [] fits = says_nothing
says_lines (l ∷ ls) fits =
    subst (Says (lines_text (l ∷ ls))) (sym (map-append (λ (p : Piece). p.what) l.pieces (line_pieces ls)))
    (says_blanks (replicate l.indent 32) (pieces_text l.pieces ++ 10 ∷ lines_text ls) _ (indent_blank l.indent) (says_pieces (Mark s.Semicolon) l.pieces (lines_text ls) _ fits.0.apart (says_lines ls fits.1)))
