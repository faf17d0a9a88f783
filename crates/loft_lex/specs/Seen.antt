-- What the code's symbols are, without where their bytes lie in memory.
use Rattle.loft_lex.specs.Symbol.{Symbol, What, Named, Keyword, Numeral, Quoted, Mark}
use Rattle.loft_lex.specs.declared.symbol.What.{What as WhatInMemory}
use Rattle.loft_lex.specs.declared.symbol.What.TheVariants as what
use Rattle.loft_lex.specs.declared.symbol.Symbol.{Symbol as SymbolInMemory}

-- what a token is
abbrev pub what_seen : WhatInMemory → What
what_seen (what.Name bytes) = Named bytes.now
what_seen (what.Word word) = Keyword word
what_seen (what.Number value) = Numeral value
what_seen (what.Text bytes) = Quoted bytes.now
what_seen (what.Sign sign) = Mark sign

-- a token as the grammar sees it
abbrev pub symbol_seen : SymbolInMemory → Symbol
symbol_seen s = record { at = s.at; what = what_seen s.what }
