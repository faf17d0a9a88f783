-- A symbol has the offset of its token.
use Rattle.std.proofs.Common.{◌≡◌, ℕ, ◌-◌, List, [], ◌∷◌, length, drop, Result, Ok, Err, refl, sym, ap, ◌∙◌}
use Rattle.std.proofs.lemmas.List.{length-map, drop-map}
use Rattle.loft_lex.specs.declared.token.Token.{Token}
use Rattle.loft_lex.specs.Symbol.{Symbol, symbol_of, symbols}
use Rattle.loft_lex.specs.TextSymbols.{SymbolsOf}
use Rattle.loft_tree.specs.Source.{Source}
use Rattle.loft_form.specs.declared.fault.Fault.{Fault}
use Rattle.loft_form.specs.declared.fault.Fault.TheVariants as fault
use Rattle.loft_form.specs.Reading.{read, all_of}
use Rattle.loft_parse.specs.declared.error.ParseError.{ParseError}
use Rattle.loft_parse.specs.declared.error.ParseError.TheVariants.{Expected, TooDeep, TooMany}
use Rattle.loft_grammar.specs.Statements.{rules}
use Rattle.loft_grammar.specs.Items.{program}
use Rattle.loft_grammar.specs.Limits.{limits, nesting, beginning}
use Rattle.loft_parse.specs.Faults.{first_place, place, located}
use Rattle.loft_parse.specs.Parsing.{locate, whole_text, parsed}
use Rattle.loft_parse.specs.SymbolPlaces.{first_offset, offset_of, fault_at, with_offset, spelled}

first_is : (end : ℕ) (text : List ℕ) (ts : List Token) → first_offset end (symbols text ts) ≡ first_place end ts
first_is end text [] = refl
first_is end text (t ∷ ts) = refl

place_is : (end : ℕ) (text : List ℕ) (ts : List Token) (left : ℕ) → offset_of end (symbols text ts) left ≡ place end ts left
place_is end text ts left =
    let many : length (symbols text ts) ≡ length ts = length-map ts (symbol_of text) in
    let rest : drop (length ts - left) (symbols text ts) ≡ symbols text (drop (length ts - left) ts) = drop-map (symbol_of text) (length ts - left) ts in
    rw (many, rest) (first_is end text (drop (length ts - left) ts))

located_is : (end : ℕ) (text : List ℕ) (ts : List Token) (f : Fault) → fault_at end (symbols text ts) f ≡ located end ts f
located_is end text ts (fault.Expected left) = ap Expected (place_is end text ts left)
located_is end text ts (fault.TooDeep left) = ap TooDeep (place_is end text ts left)
located_is end text ts (fault.TooMany left limit) = ap (λ at. TooMany at limit) (place_is end text ts left)

locate_is : (end : ℕ) (text : List ℕ) (ts : List Token) (r : Result Source Fault) → with_offset end (symbols text ts) r ≡ locate end ts r
locate_is end text ts (Ok p) = refl
locate_is end text ts (Err e) = ap (λ (f : ParseError). Err f) (located_is end text ts e)

-- what the symbols of a text spell is what the text is
pub spelled_is : (text : List ℕ) (ss : List Symbol) → SymbolsOf text ss → spelled (length text) ss ≡ parsed text
spelled_is text ss of =
    let ts = of.0 in
    rw of.2 (locate_is (length text) text ts (all_of (read rules limits nesting program (symbols text ts) beginning)))
    ∙ sym (ap (whole_text text) of.1)
