-- Reading tokens one after the other.
use Rattle.std.proofs.Common.{◌≡◌, ℕ, zero, suc, ◌+◌, ◌<◌, ◌≤◌, List, [], ◌∷◌, ◌++◌, length, drop, map, Ok, Err, refl, sym, ap, ◌∙◌, append_assoc, add-one, length-drop, arith}
use Rattle.std.proofs.lemmas.List.{append-nil, drop-drop, nil_from_length}
use Rattle.loft_lex.specs.declared.token.TokenKind.{TokenKind}
use Rattle.loft_lex.specs.declared.token.Token.{Token}
use Rattle.loft_lex.specs.declared.token.LexError.{LexError}
use Rattle.loft_lex.specs.declared.token.LexError.TheVariants.{BadByte, OpenText, LongName, LongText, BadNumber, NoMemory}
use Rattle.loft_lex.specs.Front.{Front, front, front_of, Gap, Piece, Fault}
use Rattle.loft_lex.specs.Tokens.{Found, token_moved, fault_moved, moved, with_token, then_found, tokens_past, tokens}

-- the token whose span is this
abbrev pub token : TokenKind → ℕ → ℕ → Token
token kind from to = record { kind = kind; from = from; to = to }

spans : (kind : TokenKind) (from from' to to' : ℕ) → from ≡ from' → to ≡ to' → token kind from to ≡ token kind from' to'
spans kind from from' to to' e f = ap (λ n. token kind n to) e ∙ ap (token kind from') f

token_nowhere : (t : Token) → token_moved 0 t ≡ t
token_nowhere t = spans t.kind (0 + t.from) t.from (0 + t.to) t.to (omega arith) (omega arith)

token_twice : (m n : ℕ) (t : Token) → token_moved m (token_moved n t) ≡ token_moved (m + n) t
token_twice m n t = spans t.kind (m + (n + t.from)) (m + n + t.from) (m + (n + t.to)) (m + n + t.to) (omega arith) (omega arith)

fault_twice : (m n : ℕ) (e : LexError) → fault_moved m (fault_moved n e) ≡ fault_moved (m + n) e
fault_twice m n (BadByte at) = ap BadByte (omega arith)
fault_twice m n (OpenText at) = ap OpenText (omega arith)
fault_twice m n (LongName at) = ap LongName (omega arith)
fault_twice m n (LongText at) = ap LongText (omega arith)
fault_twice m n (BadNumber at) = ap BadNumber (omega arith)
fault_twice m n NoMemory = refl

fault_nowhere : (e : LexError) → fault_moved 0 e ≡ e
fault_nowhere (BadByte at) = ap BadByte (omega arith)
fault_nowhere (OpenText at) = ap OpenText (omega arith)
fault_nowhere (LongName at) = ap LongName (omega arith)
fault_nowhere (LongText at) = ap LongText (omega arith)
fault_nowhere (BadNumber at) = ap BadNumber (omega arith)
fault_nowhere NoMemory = refl

tokens_nowhere : (ts : List Token) → map (token_moved 0) ts ≡ ts
tokens_nowhere [] = refl
tokens_nowhere (t ∷ ts) = let e = token_nowhere t in let f = tokens_nowhere ts in cc

tokens_twice : (m n : ℕ) (ts : List Token) → map (token_moved m) (map (token_moved n) ts) ≡ map (token_moved (m + n)) ts
tokens_twice m n [] = refl
tokens_twice m n (t ∷ ts) = let e = token_twice m n t in let f = tokens_twice m n ts in cc

pub nowhere : (found : Found) → moved 0 found ≡ found
nowhere (Ok ts) = ap (λ (us : List Token). Ok us) (tokens_nowhere ts)
nowhere (Err e) = ap (λ (f : LexError). Err f) (fault_nowhere e)

pub twice : (m n : ℕ) (found : Found) → moved m (moved n found) ≡ moved (m + n) found
twice m n (Ok ts) = ap (λ (us : List Token). Ok us) (tokens_twice m n ts)
twice m n (Err e) = ap (λ (f : LexError). Err f) (fault_twice m n e)

-- the tokens past the first bytes are those of the text without these bytes
pub past : (n : ℕ) (bs : List ℕ) → tokens_past n bs ≡ moved n (tokens (drop n bs))
unfolding tokens_past
past zero bs = sym (nowhere (tokens_past zero bs))
past (suc n) [] = refl
past (suc n) (b ∷ bs) =
    let e : 1 + n ≡ suc n = omega arith in
    ap (moved 1) (past n bs) ∙ twice 1 n (tokens (drop n bs)) ∙ ap (λ k. moved k (tokens (drop n bs))) e

same_steps : (f : Front) (g h : ℕ → Found) → ((k : ℕ) → g k ≡ h k) → then_found f g ≡ then_found f h
same_steps (Gap more) g h e = e more
same_steps (Piece kind more) g h e = ap (with_token (token kind 0 (more + 1))) (e more)
same_steps (Fault fault) g h e = refl

-- what a text has is what stands at its front, and what the text after that has
pub cons_step : (b : ℕ) (bs : List ℕ) → tokens (b ∷ bs) ≡ then_found (front b bs) (λ more. moved (more + 1) (tokens (drop more bs)))
unfolding tokens_past
cons_step b bs = same_steps (front b bs) _ _ (λ k.
    let e : 1 + k ≡ k + 1 = omega arith in
    ap (moved 1) (past k bs) ∙ twice 1 k (tokens (drop k bs)) ∙ ap (λ n. moved n (tokens (drop k bs))) e)

pub first_step : (bs : List ℕ) → 0 < length bs → tokens bs ≡ then_found (front_of bs) (λ more. moved (more + 1) (tokens (drop (more + 1) bs)))
first_step [] h = absurd (omega arith)
first_step (b ∷ bs) h = cons_step b bs ∙ same_steps (front b bs) _ _ (λ k.
    let d : drop k bs ≡ drop (k + 1) (b ∷ bs) = rw add-one refl in
    ap (λ xs. moved (k + 1) (tokens xs)) d)

-- what was found before, and what is found after it
abbrev pub with_front : List Token → Found → Found
with_front ts (Ok us) = Ok (ts ++ us)
with_front ts (Err e) = Err e

with_push : (ts : List Token) (t : Token) (found : Found) → with_front ts (with_token t found) ≡ with_front (ts ++ t ∷ []) found
with_push ts t (Ok us) = ap (λ (vs : List Token). Ok vs) (simp append_assoc)
with_push ts t (Err e) = refl

moved_token : (n : ℕ) (t : Token) (found : Found) → moved n (with_token t found) ≡ with_token (token_moved n t) (moved n found)
moved_token n t (Ok us) = refl
moved_token n t (Err e) = refl

-- what the tokens so far and the text from an offset on give together
abbrev pub so_far : List Token → ℕ → List ℕ → Found
so_far ts at text = with_front ts (moved at (tokens (drop at text)))

-- the step of the loop at a gap, at a token, at a fault and at the end
module _ (ts : List Token) (text : List ℕ) (at : ℕ) (total : Found) (inside : at < length text) (before : so_far ts at text ≡ total) where
  step : with_front ts (moved at (then_found (front_of (drop at text)) (λ more. moved (more + 1) (tokens (drop (at + (more + 1)) text))))) ≡ total
  step = let long : 0 < length (drop at text) = omega (arith, length-drop at text) in
      ap (λ found. with_front ts (moved at found)) (same_steps (front_of (drop at text)) _ _ (λ k. ap (λ xs. moved (k + 1) (tokens xs)) (sym (drop-drop _ _ text))) ∙ sym (first_step (drop at text) long)) ∙ before

  pub at_gap : (more next : ℕ) → Gap more ≡ front_of (drop at text) → next ≡ at + (more + 1) → so_far ts next text ≡ total
  at_gap more next e n = rw n (ap (with_front ts) (sym (twice at (more + 1) (tokens (drop (at + (more + 1)) text)))) ∙ (rw (← e) at step))

  pub at_piece : (kind : TokenKind) (more next : ℕ) → Piece kind more ≡ front_of (drop at text) → next ≡ at + (more + 1) → so_far (ts ++ token kind at next ∷ []) next text ≡ total
  at_piece kind more next e n =
      let rest = tokens (drop (at + (more + 1)) text) in
      let place : token_moved at (token kind 0 (more + 1)) ≡ token kind at (at + (more + 1)) = ap (λ from. token kind from (at + (more + 1))) (omega arith) in
      rw n (sym (with_push ts (token kind at (at + (more + 1))) (moved (at + (more + 1)) rest))
      ∙ ap (λ t. with_front ts (with_token t (moved (at + (more + 1)) rest))) (sym place)
      ∙ ap (λ found. with_front ts (with_token (token_moved at (token kind 0 (more + 1))) found)) (sym (twice at (more + 1) rest))
      ∙ ap (with_front ts) (sym (moved_token at (token kind 0 (more + 1)) (moved (more + 1) rest)))
      ∙ (rw (← e) at step))

  pub at_fault : (fault : LexError) → Fault fault ≡ front_of (drop at text) → total ≡ Err (fault_moved at fault)
  at_fault fault e = sym (rw (← e) at step)

pub at_end : (ts : List Token) (text : List ℕ) (at : ℕ) (total : Found) → length text ≤ at → so_far ts at text ≡ total → total ≡ Ok ts
unfolding tokens_past
at_end ts text at total past before =
    let nothing : drop at text ≡ [] = nil_from_length (drop at text) (omega (arith, length-drop at text)) in
    sym before ∙ rw nothing (ap (λ (us : List Token). Ok us) (append-nil ts))

pub at_start : (text : List ℕ) → so_far [] 0 text ≡ tokens text
at_start text = at_nothing (tokens text)
  where
    at_nothing : (found : Found) → with_front [] (moved 0 found) ≡ found
    at_nothing (Ok ts) = nowhere (Ok ts)
    at_nothing (Err e) = nowhere (Err e)
