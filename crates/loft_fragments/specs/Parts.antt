-- Reading a part of a source that is a text by itself.
use Rattle.std.specs.Prelude.{◌≡◌, ℕ, ◌≤◌, List, [], ◌∷◌, length, Option, Some, None, Result, Ok, Err, IfOk, IsErr}
use Rattle.std.specs.Global.{Vec}
use Rattle.loft_base.specs.declared.errors.NoMemory.{NoMemory}
use Rattle.loft_lex.specs.declared.symbol.Symbol.{Symbol as SymbolInMemory}
use Rattle.loft_lex.specs.declared.TheConstants.{MAX_OFFSET}
use Rattle.loft_lex.specs.declared.token.Token.{Token}
use Rattle.loft_lex.specs.Cut.{Cut}
use Rattle.loft_lex.specs.Symbol.{symbols}
use Rattle.loft_lex.specs.TextSymbols.{symbols_seen, SymbolsOf}
use Rattle.loft_form.specs.declared.stop.Stop.{Stop}
use Rattle.loft_form.specs.declared.stop.Stop.TheVariants as stop
use Rattle.loft_grammar.specs.declared.cursor.Cursor.{Cursor}

-- the symbols that were found in a text; there are none where it has a lexical fault or is too long
abbrev pub IsCut : List ℕ → Option (Vec SymbolInMemory) → Type 0
IsCut text None = length text ≤ MAX_OFFSET → (ts : List Token) → Cut text (Ok ts) → ⊥
IsCut text (Some found) = SymbolsOf text (symbols_seen found.items)

-- what was read, if no symbol is left
abbrev pub unless_more : {X : Type 0} → X → List SymbolInMemory → Option X
unless_more x [] = Some x
unless_more x (s ∷ ss) = None

-- what comes of reading a part: the part if it is all that there is, nothing if there is a fault
abbrev pub ComesOf : {X : Type 0} → Result (X × Cursor) Stop → Result (Option X) NoMemory → Type 0
ComesOf (Ok x) result = IfOk result (λ found. found ≡ unless_more x.0 x.1.symbols.now)
ComesOf (Err (stop.Fault f)) result = IfOk result (λ found. found ≡ None)
ComesOf (Err stop.NoMemory) result = IsErr result

-- what reading a part gave: where the reader stands, or why it stopped
abbrev pub outcome : {X : Type 0} → Option Stop → X → Cursor → Result (X × Cursor) Stop
outcome None x at = Ok (x, at)
outcome (Some e) x at = Err e
