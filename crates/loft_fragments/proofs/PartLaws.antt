-- What is read of a text by a form is what the text spells, both ways.
use Rattle.std.proofs.Common.{◌≡◌, ℕ, List, [], ◌∷◌, map, Option, Some, None, Result, Ok, Err, ◌⊎◌, inl, inr, refl, sym, ap, subst, ◌∙◌}
use Rattle.std.specs.Prelude.{IfOk, IfSome}
use Rattle.std.specs.Option.{option_map}
use Rattle.loft_base.specs.declared.errors.NoMemory.{NoMemory}
use Rattle.loft_lex.specs.declared.symbol.Symbol.{Symbol as SymbolInMemory}
use Rattle.loft_lex.specs.declared.token.LexError.{LexError}
use Rattle.loft_lex.specs.declared.token.Token.{Token}
use Rattle.loft_lex.specs.Cut.{Cut}
use Rattle.loft_lex.specs.Seen.{symbol_seen}
use Rattle.loft_lex.specs.Symbol.{Symbol, symbols}
use Rattle.loft_lex.specs.TextSymbols.{SymbolsOf}
use Rattle.loft_lex.specs.Tokens.{tokens}
use Rattle.loft_lex.proofs.Readings.{found_is_cut}
use Rattle.loft_form.specs.declared.fault.Fault.{Fault}
use Rattle.loft_form.specs.declared.stop.Stop.{Stop}
use Rattle.loft_form.specs.declared.stop.Stop.TheVariants as stop
use Rattle.loft_form.specs.Form.{Limits}
use Rattle.loft_form.specs.Faults.{SpellsWhole}
use Rattle.loft_form.specs.Reading.{Read, read, with_rest, all_of, Gives}
use Rattle.loft_form.proofs.Checked.{Checked}
use Rattle.loft_form.proofs.Whole.{whole_found, spelled_whole}
use Rattle.loft_grammar.specs.declared.cursor.Cursor.{Cursor}
use Rattle.loft_grammar.specs.declared.reader.Reader.{Reader}
use Rattle.loft_grammar.specs.Language.{Language}
use Rattle.loft_grammar.specs.Symbols.{Form}
use Rattle.loft_grammar.specs.Statements.{rules}
use Rattle.loft_grammar.specs.Limits.{nesting, beginning}
use Rattle.loft_grammar.specs.Texts.{SpellsPart}
use Rattle.loft_fragments.specs.Parts.{IsCut, unless_more, ComesOf, outcome}
use Rattle.loft_grammar.specs.Readers.{Takes}
use Rattle.loft_grammar.specs.View.{symbols_at, state_at, place_of, reads, viewed}
use Rattle.loft_productions.proofs.Checked.{known}
use Rattle.loft_productions.proofs.fits.Counting.{none_within}
use Rattle.loft_productions.proofs.fits.Parts as fits
use Rattle.loft_productions.proofs.fits.Symbols.{symbols_fit}

-- what was read, unless there was a fault
abbrev pub good : {A : Type 0} → Result A Fault → Option A
good (Ok x) = Some x
good (Err e) = None

good_is : {A : Type 0} (r : Result A Fault) (x : A) → good r ≡ Some x → r ≡ Ok x
good_is (Ok y) x h = let e : y ≡ x = cc in ap (λ z. Ok z) e
good_is (Err e) x h = absurd cc

good_of : {A X : Type 0} (view : X → A) (x : X) (ss : List SymbolInMemory) → option_map view (unless_more x ss) ≡ good (with_rest (view x) (map symbol_seen ss))
good_of view x [] = refl
good_of view x (s ∷ ss) = refl

found_as : {A X : Type 0} (view : X → A) (result : Result (Option X) NoMemory) (expected : Option X) (value : Option A) → option_map view expected ≡ value → IfOk result (λ found. found ≡ expected) → IfOk result (λ found. option_map view found ≡ value)
found_as view (Ok found) expected value e h = ap (option_map view) h ∙ e
found_as view (Err e') expected value e h = tt

-- what comes of reading is what all of the symbols are
comes_is : {A X : Type 0} (view : X → A) (lim : Limits Language) (f : Form A) (ss : List Symbol) (r : Result (X × Cursor) Stop) (result : Result (Option X) NoMemory)
    → Gives (viewed view) r (read rules lim nesting f ss beginning) → ComesOf r result → IfOk result (λ found. option_map view found ≡ good (all_of (read rules lim nesting f ss beginning)))
comes_is view lim f ss (Ok x) result gives comes =
    found_as view result (unless_more x.0 x.1.symbols.now) _ (good_of view x.0 x.1.symbols.now ∙ ap (λ q. good (all_of q)) (sym gives)) comes
comes_is view lim f ss (Err (stop.Fault e)) result gives comes = found_as view result None _ (ap (λ q. good (all_of q)) (sym gives)) comes
comes_is view lim f ss (Err stop.NoMemory) (Ok found) gives comes = absurd cc
comes_is view lim f ss (Err stop.NoMemory) (Err e) gives comes = tt

-- what a reader has taken
pub taken : {A X : Type 0} (view : X → A) (first at : Reader) (x : X) (found : Read Language A) → first.stopped ≡ None → Takes first at (view x) found → Gives (viewed view) (outcome at.stopped x at.cursor) found
taken view first at x found going takes = each at.stopped takes.0 takes.1
  where
    fault_is : (f : Fault) {P : Type 0} → (first.stopped ≡ Some (stop.Fault f)) ⊎ ((first.stopped ≡ None) × P) → P
    fault_is f (inl e) = absurd (let g : None ≡ Some (stop.Fault f) = sym going ∙ e in cc)
    fault_is f (inr p) = p.1

    each : (o : Option Stop) → (o ≡ None → (first.stopped ≡ None) × (found ≡ Ok (view x, place_of at.cursor)))
        → ((f : Fault) → o ≡ Some (stop.Fault f) → (first.stopped ≡ Some (stop.Fault f)) ⊎ ((first.stopped ≡ None) × (found ≡ Err f)))
        → Gives (viewed view) (outcome o x at.cursor) found
    each None p q = (p refl).1
    each (Some stop.NoMemory) p q = tt
    each (Some (stop.Fault f)) p q = fault_is f (q f refl)

-- at the cursor before all of the symbols
pub started : {A X : Type 0} (view : X → A) (lim : Limits Language) (n : ℕ) (f : Form A) (at : Cursor) (ss : List Symbol) (r : Result (X × Cursor) Stop)
    → symbols_at at ≡ ss → state_at at ≡ beginning → Gives (viewed view) r (reads lim n f at) → Gives (viewed view) r (read rules lim n f ss beginning)
started view lim n f at ss r e k gives =
    subst (λ s. Gives (viewed view) r (read rules lim n f ss s)) k (subst (λ t. Gives (viewed view) r (read rules lim n f t (state_at at))) e gives)

same_symbols : (text : List ℕ) (ss : List Symbol) → SymbolsOf text ss → (ts : List Token) → Cut text (Ok ts) → ss ≡ symbols text ts
same_symbols text ss of ts cut =
    let both = sym of.1 ∙ (found_is_cut text (Ok ts)).1 cut in
    let same : of.0 ≡ ts = cc in
    of.2 ∙ ap (symbols text) same

module _ {A : Type 0} {f : Form A} (checked : Checked rules known f) (lim : Limits Language) (text : List ℕ) (ss : List Symbol) (of : SymbolsOf text ss) where
  spells_good : (x : A) → SpellsPart lim f text x → good (all_of (read rules lim nesting f ss beginning)) ≡ Some x
  spells_good x (ts, cut, whole) =
      let all : SpellsWhole rules lim nesting f ss beginning x = subst (λ us. SpellsWhole rules lim nesting f us beginning x) (sym (same_symbols text ss of ts cut)) whole in
      ap good (spelled_whole checked lim nesting ss beginning x all)

  good_spells : (x : A) → good (all_of (read rules lim nesting f ss beginning)) ≡ Some x → SpellsPart lim f text x
  good_spells x h =
      let whole : SpellsWhole rules lim nesting f ss beginning x = whole_found checked lim nesting ss beginning x (good_is _ x h) in
      (of.0, (found_is_cut text (Ok of.0)).0 of.1, subst (λ us. SpellsWhole rules lim nesting f us beginning x) of.2 whole)

  module _ {X : Type 0} (view : X → A) where
    -- what is found is spelled
    some_spelled : (found : Option X) → option_map view found ≡ good (all_of (read rules lim nesting f ss beginning)) → IfSome found (λ x. SpellsPart lim f text (view x))
    some_spelled None h = tt
    some_spelled (Some x) h = good_spells (view x) (sym h)

    module _ (r : Result (X × Cursor) Stop) (result : Result (Option X) NoMemory) (gives : Gives (viewed view) r (read rules lim nesting f ss beginning)) (comes : ComesOf r result) where
      pub part_read : IfOk result (λ found. IfSome found (λ x. SpellsPart lim f text (view x)))
      part_read = each result (comes_is view lim f ss r result gives comes)
        where
          each : (result : Result (Option X) NoMemory) → IfOk result (λ found. option_map view found ≡ good (all_of (read rules lim nesting f ss beginning))) → IfOk result (λ found. IfSome found (λ x. SpellsPart lim f text (view x)))
          each (Ok found) h = some_spelled found h
          each (Err e) h = tt

      pub part_only : (x : A) → SpellsPart lim f text x → IfOk result (λ found. option_map view found ≡ Some x)
      part_only x spells = each result (comes_is view lim f ss r result gives comes)
        where
          each : (result : Result (Option X) NoMemory) → IfOk result (λ found. option_map view found ≡ good (all_of (read rules lim nesting f ss beginning))) → IfOk result (λ found. option_map view found ≡ Some x)
          each (Ok found) h = h ∙ spells_good x spells
          each (Err e) h = tt

-- What is so of all that is spelled, is so of what was read.
pub part_fits : {A X : Type 0} (view : X → A) (lim : Limits Language) (f : Form A) (P : A → Type 0) (text : List ℕ) → fits.Gives lim nesting f P
    → (result : Result (Option X) NoMemory) → IfOk result (λ found. IfSome found (λ x. SpellsPart lim f text (view x))) → IfOk result (λ found. IfSome found (λ x. P (view x)))
part_fits view lim f P text gives (Ok (Some x)) (ts, cut, (d, spells)) =
    gives.of (symbols text ts) beginning (view x) d (symbols_fit text ts ((found_is_cut text (Ok ts)).1 cut)) (none_within lim) spells
part_fits view lim f P text gives (Ok None) h = tt
part_fits view lim f P text gives (Err e) h = tt

-- a text with a lexical fault isn't cut
pub fault_uncut : (text : List ℕ) (e : LexError) → tokens text ≡ Err e → IsCut text None
fault_uncut text e h = λ short ts cut. let both = sym ((found_is_cut text (Ok ts)).1 cut) ∙ h in cc
