use Rattle.std.proofs.Common.{◌≡◌, map, take}
use Rattle.loft_lex.specs.Seen.{symbol_seen}
use Rattle.loft_lex.specs.Symbol.{symbol_of}
use Rattle.loft_lex.proofs.symbol.symbols.Given as goal

-- the symbols of the tokens so far
abbrev pub invariant-loop-token : goal.invariant-loop-token
invariant-loop-token l = map symbol_seen l.found.items ≡ map (symbol_of l.text) (take l.token-index l.tokens)
