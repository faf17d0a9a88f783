-- The symbols of a whole text.
use Rattle.std.specs.Prelude.{◌≡◌, ℕ, List, map, Ok}
use Rattle.loft_lex.specs.declared.symbol.Symbol.{Symbol as SymbolInMemory}
use Rattle.loft_lex.specs.declared.token.Token.{Token}
use Rattle.loft_lex.specs.Seen.{symbol_seen}
use Rattle.loft_lex.specs.Symbol.{Symbol, symbols}
use Rattle.loft_lex.specs.Tokens.{tokens}

-- what the code's symbols are, without where their bytes lie in memory
abbrev pub symbols_seen : List SymbolInMemory → List Symbol
symbols_seen ss = map symbol_seen ss

-- the text has no lexical fault, and these are the symbols of its tokens
abbrev pub SymbolsOf : List ℕ → List Symbol → Type 0
SymbolsOf text ss = (ts : List Token) × (tokens text ≡ Ok ts) × (ss ≡ symbols text ts)
