-- The symbols of the tokens so far.
use Rattle.std.proofs.Common.{◌≡◌, ℕ, ◌+◌, ◌-◌, List, [], ◌∷◌, ◌++◌, take, drop, slice_range, refl, sym, ◌∙◌, arith}
use Rattle.std.proofs.lemmas.List.{map-append}
use Rattle.loft_lex.specs.declared.token.TokenKind.{TokenKind}
use Rattle.loft_lex.specs.declared.token.Token.{Token}
use Rattle.loft_lex.specs.declared.symbol.Symbol.{Symbol as SymbolInMemory}
use Rattle.loft_lex.specs.declared.symbol.What.{What as WhatInMemory}
use Rattle.loft_lex.specs.Symbol.{symbol_of, symbols, what_of}
use Rattle.loft_lex.specs.Seen.{symbol_seen, what_seen}
use Rattle.loft_lex.specs.TextSymbols.{symbols_seen}
use Rattle.loft_lex.proofs.Steps.{token}

-- the bytes of a token
pub token_bytes : (text : List ℕ) (at more : ℕ) → slice_range text at (at + (more + 1)) ≡ take (more + 1) (drop at text)
token_bytes text at more =
    let many : at + (more + 1) - at ≡ more + 1 = omega arith in
    rw many refl

-- one symbol more
pub one_more : (text : List ℕ) (found : List SymbolInMemory) (ts : List Token) (what : WhatInMemory) (kind : TokenKind) (at more : ℕ)
    → symbols_seen found ≡ symbols text ts
    → what_of kind (take (more + 1) (drop at text)) ≡ what_seen what
    → symbols_seen (found ++ record { what = what; at = at } ∷ []) ≡ symbols text (ts ++ token kind at (at + (more + 1)) ∷ [])
one_more text found ts what kind at more so_far says =
    let last : symbol_seen (record { what = what; at = at }) ≡ symbol_of text (token kind at (at + (more + 1))) =
    rw (token_bytes text at more, says) refl in
    map-append symbol_seen found _ ∙ (rw (so_far, last) refl ∙ sym (map-append (symbol_of text) ts _))
