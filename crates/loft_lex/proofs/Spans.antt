-- The tokens of a text fit, and their spans rise.
use Rattle.std.proofs.Common.{◌≡◌, ℕ, zero, suc, ◌+◌, ◌-◌, ◌≤◌, List, [], ◌∷◌, take, map, slice_range, All, Ok, Err, refl, sym, subst, arith}
use Rattle.std.proofs.lemmas.List.Elements.{All-cons, All-map}
use Rattle.loft_lex.specs.declared.token.Token.{Token}
use Rattle.loft_lex.specs.declared.token.LexError.{LexError}
use Rattle.loft_lex.specs.declared.token.LexError.TheVariants.{BadByte, OpenText, LongName, LongText, BadNumber, NoMemory}
use Rattle.loft_lex.specs.Front.{Front, front, Gap, Piece, Fault}
use Rattle.loft_lex.specs.Fits.{Fits, IsOfKind}
use Rattle.loft_lex.specs.Tokens.{Found, token_moved, moved, with_token, then_found, tokens_past, tokens, Rising, IsFirstFault}
use Rattle.loft_lex.proofs.Steps.{token}
use Rattle.loft_lex.proofs.Pieces.{FrontFits, front_fits}

pub first_fault : (text : List ℕ) (e : LexError) → tokens text ≡ Err e → IsFirstFault text e
first_fault text (BadByte at) h = h
first_fault text (OpenText at) h = h
first_fault text (LongName at) h = h
first_fault text (LongText at) h = h
first_fault text (BadNumber at) h = h
first_fault text NoMemory h = tt

-- the tokens found past the first n bytes fit, and their spans rise from there
abbrev TokensFit : ℕ → List ℕ → Found → Type 0
TokensFit n text (Ok ts) = All (Fits text) ts × Rising n ts
TokensFit n text (Err e) = Unit {0}

slice_after : (b : ℕ) (bs : List ℕ) (from to : ℕ) → slice_range (b ∷ bs) (1 + from) (1 + to) ≡ slice_range bs from to
slice_after b bs from to =
    let e : 1 + to - (1 + from) ≡ to - from = omega arith in
    let d : 1 + from ≡ suc from = omega arith in
    rw (e, d) refl

fits_moved : (b : ℕ) (bs : List ℕ) (t : Token) → Fits bs t → Fits (b ∷ bs) (token_moved 1 t)
fits_moved b bs t h = record {
  some = omega (arith, h.some);
  within = omega (arith, h.within);
  kind = subst (IsOfKind t.kind) (sym (slice_after b bs t.from t.to)) h.kind;
}

rising_moved : (at : ℕ) (ts : List Token) → Rising at ts → Rising (1 + at) (map (token_moved 1) ts)
rising_moved at [] h = tt
rising_moved at (t ∷ ts) h = (omega (arith, h.0), omega (arith, h.1), rising_moved t.to ts h.2)

found_moved : (n b : ℕ) (bs : List ℕ) (found : Found) → TokensFit n bs found → TokensFit (1 + n) (b ∷ bs) (moved 1 found)
found_moved n b bs (Ok ts) h = (All-map (Fits (b ∷ bs)) (token_moved 1) ts (λ k d inside. fits_moved b bs _ (h.0 k d inside)), rising_moved n ts h.1)
found_moved n b bs (Err e) h = tt

rises_from_less : (m n : ℕ) (ts : List Token) → m ≤ n → Rising n ts → Rising m ts
rises_from_less m n [] less h = tt
rises_from_less m n (t ∷ ts) less h = (omega (arith, h.0), h.1, h.2)

found_from_less : (m n : ℕ) (text : List ℕ) (found : Found) → m ≤ n → TokensFit n text found → TokensFit m text found
found_from_less m n text (Ok ts) less h = (h.0, rises_from_less m n ts less h.1)
found_from_less m n text (Err e) less h = tt

with_fits : (text : List ℕ) (t : Token) (found : Found) → Fits text t → TokensFit t.to text found → TokensFit 0 text (with_token t found)
with_fits text t (Ok ts) fit h = (All-cons (Fits text) t ts fit h.0, (omega arith, fit.some, h.1))
with_fits text t (Err e) fit h = tt

then_fits : (b : ℕ) (bs : List ℕ) (f : Front) (rest : ℕ → Found) → FrontFits b bs f → ((more : ℕ) → TokensFit (1 + more) (b ∷ bs) (rest more)) → TokensFit 0 (b ∷ bs) (then_found f rest)
then_fits b bs (Gap more) rest fit h = found_from_less 0 (1 + more) (b ∷ bs) (rest more) (omega arith) (h more)
then_fits b bs (Piece kind more) rest fit h =
    let bytes : slice_range (b ∷ bs) 0 (more + 1) ≡ b ∷ take more bs = (let e : more + 1 - 0 ≡ suc more = omega arith in rw e refl) in
    with_fits (b ∷ bs) (token kind 0 (more + 1)) (rest more)
    (record { some = omega arith; within = omega (arith, fit.0); kind = subst (IsOfKind kind) (sym bytes) fit.1 })
    (found_from_less (more + 1) (1 + more) (b ∷ bs) (rest more) (omega arith) (h more))
then_fits b bs (Fault e) rest fit h = tt

past_fits : (n : ℕ) (bs : List ℕ) → TokensFit n bs (tokens_past n bs)
unfolding tokens_past
past_fits zero [] = (λ k d h. absurd (omega arith), tt)
past_fits (suc n) [] = (λ k d h. absurd (omega arith), tt)
past_fits (suc n) (b ∷ bs) = found_from_less (suc n) (1 + n) (b ∷ bs) _ (omega arith) (found_moved n b bs _ (past_fits n bs))
past_fits zero (b ∷ bs) = then_fits b bs (front b bs) (λ more. moved 1 (tokens_past more bs)) (front_fits b bs) (λ more. found_moved more b bs _ (past_fits more bs))

found_fits : (text : List ℕ) (ts : List Token) → tokens text ≡ Ok ts → TokensFit 0 text (Ok ts)
found_fits text ts found = subst (TokensFit 0 text) found (past_fits 0 text)

pub all_fit : (text : List ℕ) (ts : List Token) → tokens text ≡ Ok ts → All (Fits text) ts
all_fit text ts found = (found_fits text ts found).0

pub all_rise : (text : List ℕ) (ts : List Token) → tokens text ≡ Ok ts → Rising 0 ts
all_rise text ts found = (found_fits text ts found).1
