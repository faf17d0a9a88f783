-- What is parsed is the fault of a text, both ways.
use Rattle.std.proofs.Common.{◌≡◌, ℕ, List, length, Result, Ok, Err, refl, sym, ap, ◌∙◌, inl, inr}
use Rattle.loft_lex.specs.declared.token.Token.{Token}
use Rattle.loft_lex.specs.declared.token.LexError.{LexError}
use Rattle.loft_lex.specs.Symbol.{symbols}
use Rattle.loft_lex.specs.Tokens.{tokens}
use Rattle.loft_lex.proofs.Readings.{found_is_cut}
use Rattle.loft_tree.specs.Source.{Source}
use Rattle.loft_form.specs.declared.fault.Fault.{Fault}
use Rattle.loft_form.specs.Reading.{read, all_of}
use Rattle.loft_form.proofs.FirstFault as first
use Rattle.loft_parse.specs.declared.error.ParseError.{ParseError}
use Rattle.loft_parse.specs.declared.error.ParseError.TheVariants.{Lex}
use Rattle.loft_grammar.specs.Statements.{rules}
use Rattle.loft_grammar.specs.Items.{program}
use Rattle.loft_grammar.specs.Limits.{limits, nesting, beginning}
use Rattle.loft_parse.specs.Faults.{located, SourceFault}
use Rattle.loft_parse.specs.Parsing.{locate, whole_text, parsed}
use Rattle.loft_productions.proofs.Checked.{checked}

-- the fault of a text of these tokens
located_fault : (text : List ℕ) (ts : List Token) → tokens text ≡ Ok ts → (r : Result Source Fault)
    → all_of (read rules limits nesting program (symbols text ts) beginning) ≡ r → (e : ParseError) → locate (length text) ts r ≡ Err e → SourceFault text e
located_fault text ts h (Ok p) k e l = absurd cc
located_fault text ts h (Err f) k e l =
    let same : e ≡ located (length text) ts f = cc in
    inr (ts, f, (found_is_cut text (Ok ts)).0 h, first.fault checked limits nesting (symbols text ts) beginning f k, same)

fault_of : (text : List ℕ) (r : Result (List Token) LexError) → tokens text ≡ r → (e : ParseError) → whole_text text r ≡ Err e → SourceFault text e
fault_of text (Ok ts) h e k = located_fault text ts h _ refl e k
fault_of text (Err f) h e k = inl (f, (found_is_cut text (Err f)).0 h, (let same : e ≡ Lex f = cc in same))

-- a text that is refused has this fault
pub parsed_fault : (text : List ℕ) (e : ParseError) → parsed text ≡ Err e → SourceFault text e
parsed_fault text e h = fault_of text (tokens text) refl e h

-- a text with a fault is refused so
pub fault_parsed : (text : List ℕ) (e : ParseError) → SourceFault text e → parsed text ≡ Err e
fault_parsed text e (inl (f, cut, same)) = ap (whole_text text) ((found_is_cut text (Err f)).1 cut) ∙ ap (λ (t : ParseError). Err t) (sym same)
fault_parsed text e (inr (ts, f, cut, is, same)) =
    ap (whole_text text) ((found_is_cut text (Ok ts)).1 cut) ∙ (ap (locate (length text) ts) (first.only_fault checked limits nesting (symbols text ts) beginning f is) ∙ ap (λ (t : ParseError). Err t) (sym same))
