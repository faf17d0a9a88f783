-- The tokens of a text, or its first lexical fault in reading order (docs/LANGUAGE.md, "What is found").
use Rattle.std.specs.Prelude.{◌≡◌, ℕ, zero, suc, ◌+◌, ◌≤◌, ◌<◌, List, [], ◌∷◌, map, Result, Ok, Err}
use Rattle.loft_lex.specs.declared.token.Token.{Token}
use Rattle.loft_lex.specs.declared.token.LexError.{LexError}
use Rattle.loft_lex.specs.declared.token.LexError.TheVariants.{BadByte, OpenText, LongName, LongText, BadNumber, NoMemory}
use Rattle.loft_lex.specs.Front.{Front, front, Gap, Piece, Fault}

-- the tokens of a text, or its first fault
abbrev pub Found : Type 0
Found = Result (List Token) LexError

-- the token with so many bytes put before the text
abbrev pub token_moved : ℕ → Token → Token
token_moved n t = record { kind = t.kind; from = n + t.from; to = n + t.to }

-- the fault with so many bytes put before the text
abbrev pub fault_moved : ℕ → LexError → LexError
fault_moved n (BadByte at) = BadByte (n + at)
fault_moved n (OpenText at) = OpenText (n + at)
fault_moved n (LongName at) = LongName (n + at)
fault_moved n (LongText at) = LongText (n + at)
fault_moved n (BadNumber at) = BadNumber (n + at)
fault_moved n NoMemory = NoMemory

-- what was found, with so many bytes put before the text
abbrev pub moved : ℕ → Found → Found
moved n (Ok ts) = Ok (map (token_moved n) ts)
moved n (Err e) = Err (fault_moved n e)

-- a token first, unless a fault comes after it
abbrev pub with_token : Token → Found → Found
with_token t (Ok ts) = Ok (t ∷ ts)
with_token t (Err e) = Err e

-- what stands at the front, and what is found after it
abbrev pub then_found : Front → (ℕ → Found) → Found
then_found (Gap more) rest = rest more
then_found (Piece kind more) rest = with_token (record { kind = kind; from = 0; to = more + 1 }) (rest more)
then_found (Fault e) rest = Err e

-- What is found past the first n bytes of a text, which belong to what stands before; offsets count from its first byte.
unfoldable pub tokens_past : ℕ → List ℕ → Found
tokens_past n [] = Ok []
tokens_past (suc n) (b ∷ bs) = moved 1 (tokens_past n bs)
tokens_past zero (b ∷ bs) = then_found (front b bs) (λ more. moved 1 (tokens_past more bs))

-- what is found in a text
abbrev pub tokens : List ℕ → Found
tokens text = tokens_past 0 text

-- the error is the text's first fault, unless memory ran out
abbrev pub IsFirstFault : List ℕ → LexError → Type 0
IsFirstFault text (BadByte at) = tokens text ≡ Err (BadByte at)
IsFirstFault text (OpenText at) = tokens text ≡ Err (OpenText at)
IsFirstFault text (LongName at) = tokens text ≡ Err (LongName at)
IsFirstFault text (LongText at) = tokens text ≡ Err (LongText at)
IsFirstFault text (BadNumber at) = tokens text ≡ Err (BadNumber at)
IsFirstFault text NoMemory = Unit {0}

-- spans aren't empty, and each begins at or after the end of the one before
abbrev pub Rising : ℕ → List Token → Type 0
Rising at [] = Unit {0}
Rising at (t ∷ ts) = (at ≤ t.from) × (t.from < t.to) × Rising t.to ts
