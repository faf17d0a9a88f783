-- What is parsed is what the text is, both ways.
use Rattle.std.proofs.Common.{◌≡◌, ◌≢◌, ℕ, ◌<◌, List, [], ◌∷◌, length, Result, Ok, Err, refl, sym, ap, subst, ◌∙◌, arith}
use Rattle.std.specs.Prelude.{IfOk, IfErr}
use Rattle.std.proofs.lemmas.List.{append-nil, nil_from_length}
use Rattle.loft_lex.specs.declared.token.Token.{Token}
use Rattle.loft_lex.specs.declared.token.LexError.{LexError}
use Rattle.loft_lex.specs.declared.token.LexError.TheVariants as lexical
use Rattle.loft_lex.specs.Symbol.{Symbol, symbols}
use Rattle.loft_lex.specs.Tokens.{tokens, IsFirstFault}
use Rattle.loft_lex.proofs.Readings.{found_is_cut}
use Rattle.loft_tree.specs.Source.{Source}
use Rattle.loft_tree.specs.Fits.{SourceFits}
use Rattle.loft_tree.specs.View.{source_of}
use Rattle.loft_tree.specs.declared.program.Item.{Item}
use Rattle.loft_form.specs.declared.fault.Fault.{Fault}
use Rattle.loft_form.specs.declared.fault.Fault.TheVariants as fault
use Rattle.loft_form.specs.Spells.{Spells, SpellsRule}
use Rattle.loft_form.specs.Form.{State}
use Rattle.loft_form.specs.Reading.{Place, Read, done, read, with_rest, all_of}
use Rattle.loft_form.proofs.Sound.{Found, read_found}
use Rattle.loft_form.proofs.Complete.{spelled_read}
use Rattle.loft_parse.specs.declared.error.ParseError.{ParseError}
use Rattle.loft_parse.specs.declared.error.ParseError.TheVariants.{Lex, Expected, TooDeep, TooMany, TooLong, NoMemory}
use Rattle.loft_grammar.specs.Language.{Language}
use Rattle.loft_grammar.specs.Statements.{rules}
use Rattle.loft_grammar.specs.Items.{program}
use Rattle.loft_grammar.specs.Limits.{limits, nesting, beginning}
use Rattle.loft_parse.specs.Faults.{located, IsFault}
use Rattle.loft_grammar.specs.Texts.{SpellsProgram, Reads}
use Rattle.loft_parse.specs.Parsing.{locate, whole_text, parsed, Answers}
use Rattle.loft_productions.proofs.fits.SpelledFits.{spelled_fits}
use Rattle.loft_parse.proofs.SourceFaults.{parsed_fault}
use Rattle.loft_productions.proofs.Checked.{known, fair, program_clear}

-- what is read with no symbol left is spelled by all of them
pub whole_spells : (ss : List Symbol) (p : Source) (d : State Language) → read rules limits nesting program ss beginning ≡ done p [] d → SpellsProgram ss p
whole_spells ss p d h =
    let f = subst (Found (Spells limits nesting (SpellsRule rules limits nesting) program) ss beginning) h (read_found rules limits nesting program ss beginning) in
    let all : f.0 ≡ ss = sym (f.1 ∙ append-nil f.0) in
    (d, subst (λ t. Spells limits nesting (SpellsRule rules limits nesting) program t beginning p d) all f.2)

-- what all of the symbols are
spelled_is : (ss : List Symbol) (r : Read Language Source) → read rules limits nesting program ss beginning ≡ r → (p : Source) → all_of r ≡ Ok p → SpellsProgram ss p
spelled_is ss (Err e) h p k = absurd cc
spelled_is ss (Ok (q, place)) h p k = go place.rest refl k
  where
    go : (rest : List Symbol) → place.rest ≡ rest → with_rest q rest ≡ Ok p → SpellsProgram ss p
    go [] e l =
        let same : q ≡ p = cc in
        let all_read : read rules limits nesting program ss beginning ≡ done q [] place.state = h ∙ ap (λ (rest : List Symbol). done q rest place.state) e in
        subst (SpellsProgram ss) same (whole_spells ss q place.state all_read)
    go (s ∷ rest) e l = absurd cc

located_ok : (end : ℕ) (ts : List Token) (r : Result Source Fault) (p : Source) → locate end ts r ≡ Ok p → r ≡ Ok p
located_ok end ts (Ok q) p h = let e : q ≡ p = cc in ap (λ (q : Source). Ok q) e
located_ok end ts (Err e) p h = absurd cc

text_is : (text : List ℕ) (r : Result (List Token) LexError) → tokens text ≡ r → (p : Source) → whole_text text r ≡ Ok p → Reads text p
text_is text (Err e) h p k = absurd cc
text_is text (Ok ts) h p k =
    (ts, (found_is_cut text (Ok ts)).0 h, spelled_is (symbols text ts) (read rules limits nesting program (symbols text ts) beginning) refl p (located_ok (length text) ts _ p k))

-- what is parsed is the program of the text
pub parsed_reads : (text : List ℕ) (p : Source) → parsed text ≡ Ok p → Reads text p
parsed_reads text p h = text_is text (tokens text) refl p h

-- the program of the text is parsed
pub reads_parsed : (text : List ℕ) (p : Source) → Reads text p → parsed text ≡ Ok p
reads_parsed text p (ts, cut, (d, s)) =
    let e = (found_is_cut text (Ok ts)).1 cut in
    let whole : read rules limits nesting program (symbols text ts) beginning ≡ done p [] d =
    ap (λ (t : List Symbol). read rules limits nesting program t beginning) (sym (append-nil (symbols text ts))) ∙ spelled_read rules known fair limits nesting program program_clear (symbols text ts) [] beginning p d s tt in
    ap (whole_text text) e ∙ ap (λ r. locate (length text) ts (all_of r)) whole

-- a program that is read whole keeps the limits
pub whole_fits : (text : List ℕ) (ts : List Token) → tokens text ≡ Ok ts → (p : Source) (place : Place Language) → read rules limits nesting program (symbols text ts) beginning ≡ Ok (p, place) → length place.rest < 1 → SourceFits p
whole_fits text ts found p place h none =
    let empty : place.rest ≡ [] = nil_from_length place.rest (omega arith) in
    spelled_fits text ts found p (whole_spells (symbols text ts) p place.state (h ∙ ap (λ (rest : List Symbol). done p rest place.state) empty))

-- a fault of the grammar is neither a lexical one nor a text's length
abbrev OfGrammar : ParseError → Type 0
OfGrammar (Lex e) = ⊥
OfGrammar (Expected at) = Unit {0}
OfGrammar (TooDeep at) = Unit {0}
OfGrammar (TooMany at limit) = Unit {0}
OfGrammar TooLong = ⊥
OfGrammar NoMemory = ⊥

of_grammar : (end : ℕ) (ts : List Token) (r : Result Source Fault) (e : ParseError) → locate end ts r ≡ Err e → OfGrammar e
of_grammar end ts (Ok p) e h = absurd cc
of_grammar end ts (Err (fault.Expected left)) e h = let k : located end ts (fault.Expected left) ≡ e = cc in subst OfGrammar k tt
of_grammar end ts (Err (fault.TooDeep left)) e h = let k : located end ts (fault.TooDeep left) ≡ e = cc in subst OfGrammar k tt
of_grammar end ts (Err (fault.TooMany left limit)) e h = let k : located end ts (fault.TooMany left limit) ≡ e = cc in subst OfGrammar k tt

fits_is : (text : List ℕ) (found : Result (List Token) LexError) → whole_text text found ≡ Err TooLong → ⊥
fits_is text (Err d) k = absurd cc
fits_is text (Ok ts) k = of_grammar (length text) ts _ TooLong k

-- ---- for the contract of `parse`

pub answers_ok : (text : List ℕ) (r : Result (List Item) ParseError) → Answers r (parsed text) → IfOk r (λ p. Reads text (source_of p))
answers_ok text (Ok p) h = parsed_reads text (source_of p) h
answers_ok text (Err e) h = tt

pub answers_fault : (text : List ℕ) (r : Result (List Item) ParseError) → Answers r (parsed text) → IfErr r (IsFault text)
answers_fault text (Ok p) h = tt
answers_fault text (Err (Lex e)) h = parsed_fault text (Lex e) h
answers_fault text (Err (Expected at)) h = parsed_fault text (Expected at) h
answers_fault text (Err (TooDeep at)) h = parsed_fault text (TooDeep at) h
answers_fault text (Err (TooMany at limit)) h = parsed_fault text (TooMany at limit) h
answers_fault text (Err TooLong) h = tt
answers_fault text (Err NoMemory) h = tt

-- a text that isn't too long isn't refused for that
pub answers_short : (text : List ℕ) (r : Result (List Item) ParseError) → Answers r (parsed text) → r ≡ Err TooLong → ⊥
answers_short text r h e = fits_is text (tokens text) (subst (λ q. Answers q (parsed text)) e h)

-- the lexer's error is the text's first fault, unless memory ran out
pub first_fault : (text : List ℕ) (e : LexError) → IsFirstFault text e → e ≢ lexical.NoMemory → tokens text ≡ Err e
first_fault text (lexical.BadByte at) h n = h
first_fault text (lexical.OpenText at) h n = h
first_fault text (lexical.LongName at) h n = h
first_fault text (lexical.LongText at) h n = h
first_fault text (lexical.BadNumber at) h n = h
first_fault text lexical.NoMemory h n = absurd (n refl)
