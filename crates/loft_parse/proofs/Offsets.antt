-- Where the tokens of a text begin: each after the ones before it.
use Rattle.std.proofs.Common.{◌≡◌, ℕ, zero, suc, ◌+◌, ◌-◌, ◌<◌, ◌≤◌, List, [], ◌∷◌, ◌++◌, length, drop, All, Ok, sym, ap, ◌∙◌, arith}
use Rattle.std.proofs.lemmas.List.{length-map, length-append}
use Rattle.std.proofs.lemmas.List.Elements.{All-tail}
use Rattle.loft_lex.specs.declared.token.Token.{Token}
use Rattle.loft_lex.specs.Fits.{Fits}
use Rattle.loft_lex.specs.Symbol.{Symbol, symbol_of, symbols}
use Rattle.loft_lex.specs.Tokens.{tokens, Rising}
use Rattle.loft_lex.proofs.Spans.{all_fit, all_rise}
use Rattle.loft_parse.specs.Faults.{first_place, place}

-- tokens that stand between two offsets, one after the other
abbrev pub Between : ℕ → ℕ → List Token → Type 0
Between end at [] = at ≤ end
Between end at (t ∷ ts) = (at ≤ t.from) × (t.from < t.to) × Between end t.to ts

between : (text : List ℕ) (at : ℕ) (ts : List Token) → All (Fits text) ts → at ≤ length text → Rising at ts → Between (length text) at ts
between text at [] fit short rising = short
between text at (t ∷ ts) fit short rising =
    let first = fit 0 t (omega arith) in
    (rising.0, rising.1, between text t.to ts (All-tail (Fits text) t ts fit) first.within rising.2)

-- The tokens of a text stand in it one after the other.
pub tokens_between : (text : List ℕ) (ts : List Token) → tokens text ≡ Ok ts → Between (length text) 0 ts
tokens_between text ts found = between text 0 ts (all_fit text ts found) (omega arith) (all_rise text ts found)

not_before : (end at : ℕ) (ts : List Token) → Between end at ts → (j : ℕ) → at ≤ first_place end (drop j ts)
not_before end at [] h zero = h
not_before end at [] h (suc j) = h
not_before end at (t ∷ ts) h zero = h.0
not_before end at (t ∷ ts) h (suc j) = omega (arith, h.0, h.1, not_before end t.to ts h.2 j)

-- A later token begins at a larger offset.
pub rises : (end at : ℕ) (ts : List Token) → Between end at ts → (i j : ℕ) → i < j → j ≤ length ts → first_place end (drop i ts) < first_place end (drop j ts)
rises end at [] h i j less short = absurd (omega arith)
rises end at (t ∷ ts) h i zero less short = absurd (omega arith)
rises end at (t ∷ ts) h zero (suc j) less short = omega (arith, h.1, not_before end t.to ts h.2 j)
rises end at (t ∷ ts) h (suc i) (suc j) less short = rises end t.to ts h.2 i j (omega arith) (omega arith)

-- The fewer tokens are left, the larger is the offset.
pub place_rises : (end at : ℕ) (ts : List Token) → Between end at ts → (k j : ℕ) → k < j → j ≤ length ts → place end ts j < place end ts k
place_rises end at ts h k j less short = rises end at ts h (length ts - j) (length ts - k) (omega arith) (omega arith)

-- ---- symbols

head_at : (end : ℕ) (text : List ℕ) (ts : List Token) (s : Symbol) (ss : List Symbol) → symbols text ts ≡ s ∷ ss → first_place end ts ≡ s.at
head_at end text [] s ss h = absurd cc
head_at end text (t ∷ ts) s ss h = let same : symbol_of text t ≡ s = cc in ap (λ (x : Symbol). x.at) same

tail_is : (text : List ℕ) (t : Token) (ts : List Token) (s : Symbol) (ss : List Symbol) → symbols text (t ∷ ts) ≡ s ∷ ss → symbols text ts ≡ ss
tail_is text t ts s ss h = cc

-- The symbol after so many others is at the offset of its token.
pub symbol_at : (end : ℕ) (text : List ℕ) (ts : List Token) (before : List Symbol) (last : Symbol) (rest : List Symbol) → symbols text ts ≡ before ++ last ∷ rest → first_place end (drop (length before) ts) ≡ last.at
symbol_at end text ts [] last rest h = head_at end text ts last rest h
symbol_at end text [] (s ∷ before) last rest h = absurd cc
symbol_at end text (t ∷ ts) (s ∷ before) last rest h = symbol_at end text ts before last rest (tail_is text t ts s (before ++ last ∷ rest) h)

-- Two texts have the same offsets where they have the same symbols.
pub same_offset : (end end' : ℕ) (text other : List ℕ) (ts us : List Token) (before : List Symbol) (last : Symbol) (rest rest' : List Symbol)
    → symbols text ts ≡ before ++ last ∷ rest → symbols other us ≡ before ++ last ∷ rest' → (i : ℕ) → i ≤ length before → first_place end' (drop i us) ≡ first_place end (drop i ts)
same_offset end end' text other ts us [] last rest rest' h k zero short = head_at end' other us last rest' k ∙ sym (head_at end text ts last rest h)
same_offset end end' text other ts us [] last rest rest' h k (suc i) short = absurd (omega arith)
same_offset end end' text other ts us (s ∷ before) last rest rest' h k zero short =
    head_at end' other us s (before ++ last ∷ rest') k ∙ sym (head_at end text ts s (before ++ last ∷ rest) h)
same_offset end end' text other [] us (s ∷ before) last rest rest' h k (suc i) short = absurd cc
same_offset end end' text other (t ∷ ts) [] (s ∷ before) last rest rest' h k (suc i) short = absurd cc
same_offset end end' text other (t ∷ ts) (u ∷ us) (s ∷ before) last rest rest' h k (suc i) short =
    same_offset end end' text other ts us before last rest rest' (tail_is text t ts s (before ++ last ∷ rest) h) (tail_is other u us s (before ++ last ∷ rest') k) i (omega arith)

-- So many tokens there are as symbols.
pub token_count : (text : List ℕ) (ts : List Token) (before : List Symbol) (last : Symbol) (rest : List Symbol) → symbols text ts ≡ before ++ last ∷ rest → length ts ≡ suc (length before + length rest)
token_count text ts before last rest h =
    let many : length (symbols text ts) ≡ length ts = length-map ts (symbol_of text) in
    let split = ap length h in
    omega (arith, length-append before (last ∷ rest))
