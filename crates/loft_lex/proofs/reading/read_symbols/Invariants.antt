use Rattle.std.proofs.Common.{◌≡◌, ◌-◌, ◌≤◌, List, length}
use Rattle.loft_lex.specs.declared.token.Token.{Token}
use Rattle.loft_lex.specs.TextSymbols.{symbols_seen}
use Rattle.loft_lex.specs.Symbol.{symbols}
use Rattle.loft_lex.specs.Tokens.{tokens}
use Rattle.loft_lex.proofs.Steps.{so_far}
use Rattle.loft_lex.proofs.reading.read_symbols.Given as goal

-- the symbols so far are those of the tokens so far
abbrev pub invariant-loop-at : goal.invariant-loop-at
invariant-loop-at l = (l.at ≤ length l.text) × ((ts : List Token) × (so_far ts l.at l.text ≡ tokens l.text) × (symbols_seen l.found.items ≡ symbols l.text ts))

abbrev pub decreases-loop-at : goal.decreases-loop-at
decreases-loop-at l = length l.text - l.at
