-- Texts that begin with the same symbols (docs/LANGUAGE.md, "The fault of a text").
use Rattle.std.specs.Prelude.{◌≡◌, ℕ, ◌≤◌, List, [], ◌∷◌, ◌++◌, Ok}
use Rattle.loft_lex.specs.declared.token.Token.{Token}
use Rattle.loft_lex.specs.Symbol.{Symbol, symbols}
use Rattle.loft_lex.specs.Cut.{Cut}
use Rattle.loft_parse.specs.declared.error.ParseError.{ParseError}
use Rattle.loft_parse.specs.declared.error.ParseError.TheVariants.{Lex, Expected, TooDeep, TooMany, TooLong, NoMemory}

-- the text is cut into tokens, whose symbols begin with these
abbrev pub BeginsWith : List ℕ → List Symbol → Type 0
BeginsWith text first = (ts : List Token) × (rest : List Symbol) × Cut text (Ok ts) × (symbols text ts ≡ first ++ rest)

-- both texts begin with the same symbols, up to and with one that stands at this offset or after it
abbrev pub AgreeUpTo : ℕ → List ℕ → List ℕ → Type 0
AgreeUpTo offset text other =
    (before : List Symbol) × (last : Symbol) × (offset ≤ last.at) × BeginsWith text (before ++ last ∷ []) × BeginsWith other (before ++ last ∷ [])

-- the grammar's fault stands at this offset
abbrev pub StandsAt : ParseError → ℕ → Type 0
StandsAt (Lex e) offset = ⊥
StandsAt (Expected at) offset = at ≡ offset
StandsAt (TooDeep at) offset = at ≡ offset
StandsAt (TooMany at limit) offset = at ≡ offset
StandsAt TooLong offset = ⊥
StandsAt NoMemory offset = ⊥
