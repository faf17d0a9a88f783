-- A text that is cut, and what stands in place of forms in it: a token more at its front.
use Rattle.std.proofs.Common.{◌≡◌, ℕ, ◌+◌, ◌-◌, ◌≤◌, true, false, List, [], ◌∷◌, ◌++◌, length, length-append, map, pos, Option, Some, None, Ok, refl, sym, ap, subst, ◌∙◌, arith}
use Rattle.std.specs.List.{list_all}
use Rattle.loft_lex.specs.Bytes.{is_blank, is_name_byte, is_digit, is_comment_byte, begins}
use Rattle.loft_lex.specs.Word as words
use Rattle.loft_lex.specs.declared.word.Word.{Word}
use Rattle.loft_lex.specs.Sign as signs
use Rattle.loft_lex.specs.declared.sign.Sign.{Sign}
use Rattle.loft_lex.specs.declared.token.Token.{Token}
use Rattle.loft_lex.specs.declared.token.TokenKind.{TokenKind}
use Rattle.loft_lex.specs.declared.token.TokenKind.TheVariants as kind
use Rattle.loft_lex.specs.Fits.{is_name, IsOfKind}
use Rattle.loft_lex.specs.Symbol.{What, Named, Keyword, Numeral, Mark as Sign_of, keyword, mark, what_of}
use Rattle.loft_lex.specs.Tokens.{token_moved}
use Rattle.loft_lex.specs.Cut.{Cut, IsWhole, lengthens}
use Rattle.loft_lex.specs.Cut as cut
use Rattle.loft_lex.proofs.Words.{word_of-spelling}
use Rattle.loft_lex.proofs.Signs.{sign_of-spelling}
use Rattle.loft_lex.proofs.Runs.{both}
use Rattle.loft_lock_forms.specs.Marks.{Use, Mark}
use Rattle.loft_lock_forms.specs.Rewriting.{says, all_say}
use Rattle.loft_lock_rewriting.proofs.Cutting.{slice_whole, all_moved, comment_moved}

-- ---- what tokens stand for

-- the mark of a token at this offset, before others
abbrev pub mark_of : Option Use → ℕ → List Mark → List Mark
mark_of None at ms = ms
mark_of (Some u) at ms = record { at = at; used = u } ∷ ms

-- the marks of tokens that stand for these, where `put` bytes come before their text
abbrev pub marks_at : ℕ → List Token → List (Option Use) → List Mark
marks_at put [] us = []
marks_at put (t ∷ ts) [] = []
marks_at put (t ∷ ts) (u ∷ us) = mark_of u (put + t.from) (marks_at put ts us)

marks_moved : (put n : ℕ) (ts : List Token) (us : List (Option Use)) → marks_at put (map (token_moved n) ts) us ≡ marks_at (put + n) ts us
marks_moved put n [] us = refl
marks_moved put n (t ∷ ts) [] = refl
marks_moved put n (t ∷ ts) (u ∷ us) =
    let a : put + (n + t.from) ≡ put + n + t.from = omega arith in
    let b = marks_moved put n ts us in
    rw (a, b) refl

-- The text is the end of one of so many bytes; it's cut into tokens that say this and stand for these, which have these marks.
pub record SaysAt (whole : ℕ) (text : List ℕ) (us : List (Option Use)) (ms : List Mark) (ws : List What) : Type 0 where
  pub tokens : List Token
  pub cut : Cut text (Ok tokens)
  pub all : all_say text tokens ≡ ws
  pub told : (put : ℕ) → put + length text ≡ whole → marks_at put tokens us ≡ ms

pub recast : {whole : ℕ} {text other : List ℕ} {us vs : List (Option Use)} {ms ns : List Mark} {ws xs : List What} → text ≡ other → us ≡ vs → ms ≡ ns → ws ≡ xs → SaysAt whole other vs ns xs → SaysAt whole text us ms ws
recast {whole} {text} {other} {us} {vs} {ms} {ns} {ws} {xs} a b c d s =
    subst (λ t. SaysAt whole t us ms ws) (sym a) (subst (λ t. SaysAt whole other t ms ws) (sym b) (subst (λ t. SaysAt whole other vs t ws) (sym c) (subst (λ t. SaysAt whole other vs ns t) (sym d) s)))

-- ---- one more at the front

-- after a token
told_after : (whole put : ℕ) (bytes rest : List ℕ) (us : List (Option Use)) (ms : List Mark) (ws : List What) (c : SaysAt whole rest us ms ws) → put + length (bytes ++ rest) ≡ whole → marks_at put (map (token_moved (length bytes)) c.tokens) us ≡ ms
told_after whole put bytes rest us ms ws c e =
    let there : put + length bytes + length rest ≡ whole = omega (arith, e, length-append bytes rest) in
    marks_moved put (length bytes) c.tokens us ∙ c.told (put + length bytes) there

first_says : (k : TokenKind) (bytes rest : List ℕ) (ts : List Token) (ws : List What) → all_say rest ts ≡ ws
    → all_say (bytes ++ rest) (record { kind = k; from = 0; to = length bytes } ∷ map (token_moved (length bytes)) ts) ≡ what_of k bytes ∷ ws
first_says k bytes rest ts ws e =
    let t : Token = record { kind = k; from = 0; to = length bytes } in
    let first : says (bytes ++ rest) t ≡ what_of k bytes = ap (what_of k) (slice_whole bytes rest) in
    let others : all_say (bytes ++ rest) (map (token_moved (length bytes)) ts) ≡ ws = all_moved bytes rest ts ∙ e in
    cc

pub put_token : {whole : ℕ} {us : List (Option Use)} {ms : List Mark} (k : TokenKind) (bytes rest : List ℕ) (ws : List What) → IsOfKind k bytes → IsWhole k bytes rest → SaysAt whole rest us ms ws
    → SaysAt whole (bytes ++ rest) (None ∷ us) ms (what_of k bytes ∷ ws)
put_token {whole} {us} {ms} k bytes rest ws of_kind ends c = record {
  tokens = record { kind = k; from = 0; to = length bytes } ∷ map (token_moved (length bytes)) c.tokens;
  cut = cut.token k bytes rest (Ok c.tokens) of_kind ends c.cut;
  all = first_says k bytes rest c.tokens ws c.all;
  told = λ put e. told_after whole put bytes rest us ms ws c e;
}

-- a token that stands for a use of a lock, at this offset of the whole
pub put_used : {whole : ℕ} {us : List (Option Use)} {ms : List Mark} (at : ℕ) (u : Use) (k : TokenKind) (bytes rest : List ℕ) (ws : List What) → at + length (bytes ++ rest) ≡ whole → IsOfKind k bytes → IsWhole k bytes rest
    → SaysAt whole rest us ms ws → SaysAt whole (bytes ++ rest) (Some u ∷ us) (record { at = at; used = u } ∷ ms) (what_of k bytes ∷ ws)
put_used {whole} {us} {ms} at u k bytes rest ws there of_kind ends c = record {
  tokens = record { kind = k; from = 0; to = length bytes } ∷ map (token_moved (length bytes)) c.tokens;
  cut = cut.token k bytes rest (Ok c.tokens) of_kind ends c.cut;
  all = first_says k bytes rest c.tokens ws c.all;
  told = λ put e.
      let here : put + 0 ≡ at = omega (arith, e, there) in
      let others = told_after whole put bytes rest us ms ws c e in
      rw (here, others) refl;
}

pub put_blank : {whole : ℕ} {us : List (Option Use)} {ms : List Mark} (b : ℕ) (rest : List ℕ) (ws : List What) → is_blank b ≡ true → SaysAt whole rest us ms ws → SaysAt whole (b ∷ rest) us ms ws
put_blank {whole} {us} {ms} b rest ws blank c = record {
  tokens = map (token_moved 1) c.tokens;
  cut = cut.blank b rest (Ok c.tokens) blank c.cut;
  all = all_moved (b ∷ []) rest c.tokens ∙ c.all;
  told = λ put e. told_after whole put (b ∷ []) rest us ms ws c e;
}

pub put_comment : {whole : ℕ} {us : List (Option Use)} {ms : List Mark} (line rest : List ℕ) (ws : List What) → list_all is_comment_byte line ≡ true → begins is_comment_byte rest ≡ false → SaysAt whole rest us ms ws
    → SaysAt whole (47 ∷ 47 ∷ (line ++ rest)) us ms ws
put_comment {whole} {us} {ms} line rest ws all stop c = record {
  tokens = map (token_moved (2 + length line)) c.tokens;
  cut = cut.comment line rest (Ok c.tokens) all stop c.cut;
  all = comment_moved line rest c.tokens ∙ c.all;
  told = λ put e.
      let n : 2 + length line ≡ length (47 ∷ 47 ∷ line) = omega arith in
      subst (λ (k : ℕ). marks_at put (map (token_moved k) c.tokens) us ≡ ms) (sym n) (told_after whole put (47 ∷ 47 ∷ line) rest us ms ws c e);
}

pub put_word : {whole : ℕ} {us : List (Option Use)} {ms : List Mark} (v : Word) (rest : List ℕ) (ws : List What) → begins is_name_byte rest ≡ false → SaysAt whole rest us ms ws → SaysAt whole (words.spelling v ++ rest) (None ∷ us) ms (Keyword v ∷ ws)
put_word {whole} {us} {ms} v rest ws ends c =
    let is : words.is_word (words.spelling v) ≡ true = rw (word_of-spelling v) refl in
    let says : what_of kind.Word (words.spelling v) ≡ Keyword v = ap keyword (word_of-spelling v) in
    subst (λ (x : What). SaysAt whole (words.spelling v ++ rest) (None ∷ us) ms (x ∷ ws)) says (put_token kind.Word (words.spelling v) rest ws is ends c)

pub put_sign : {whole : ℕ} {us : List (Option Use)} {ms : List Mark} (v : Sign) (rest : List ℕ) (ws : List What) → begins (lengthens (signs.spelling v)) rest ≡ false → SaysAt whole rest us ms ws → SaysAt whole (signs.spelling v ++ rest) (None ∷ us) ms (Sign_of v ∷ ws)
put_sign {whole} {us} {ms} v rest ws ends c =
    let is : signs.is_sign (signs.spelling v) ≡ true = rw (sign_of-spelling v) refl in
    let says : what_of kind.Sign (signs.spelling v) ≡ Sign_of v = ap mark (sign_of-spelling v) in
    subst (λ (x : What). SaysAt whole (signs.spelling v ++ rest) (None ∷ us) ms (x ∷ ws)) says (put_token kind.Sign (signs.spelling v) rest ws is ends c)

pub put_name : {whole : ℕ} {us : List (Option Use)} {ms : List Mark} (bytes rest : List ℕ) (ws : List What) → is_name bytes ≡ true → begins is_name_byte rest ≡ false → SaysAt whole rest us ms ws → SaysAt whole (bytes ++ rest) (None ∷ us) ms (Named bytes ∷ ws)
put_name bytes rest ws is ends c = put_token kind.Name bytes rest ws is ends c

pub put_digit : {whole : ℕ} {us : List (Option Use)} {ms : List Mark} (d : ℕ) (rest : List ℕ) (ws : List What) → is_digit d ≡ true → d ≤ 57 → begins is_name_byte rest ≡ false → SaysAt whole rest us ms ws → SaysAt whole (d ∷ rest) (None ∷ us) ms (Numeral (pos (d - 48)) ∷ ws)
put_digit d rest ws is small ends c = put_token (kind.Number (pos (d - 48))) (d ∷ []) rest ws (record { first = is; digits = both _ _ is refl; spelled = ap pos (omega arith); small = omega arith }) ends c
