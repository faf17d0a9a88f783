-- The fault of a text (docs/LANGUAGE.md, "The fault of a text").
use Rattle.std.specs.Prelude.{◌≡◌, ℕ, ◌-◌, ◌⊎◌, List, [], ◌∷◌, length, drop, Ok, Err}
use Rattle.loft_lex.specs.declared.token.Token.{Token}
use Rattle.loft_lex.specs.declared.token.LexError.{LexError}
use Rattle.loft_lex.specs.Symbol.{symbols}
use Rattle.loft_lex.specs.Cut.{Cut}
use Rattle.loft_form.specs.declared.fault.Fault.{Fault}
use Rattle.loft_form.specs.declared.fault.Fault.TheVariants as fault
use Rattle.loft_form.specs.Faults.{IsFaultOf}
use Rattle.loft_parse.specs.declared.error.ParseError.{ParseError}
use Rattle.loft_parse.specs.declared.error.ParseError.TheVariants.{Lex, Expected, TooDeep, TooMany, TooLong, NoMemory}
use Rattle.loft_grammar.specs.Statements.{rules}
use Rattle.loft_grammar.specs.Items.{program}
use Rattle.loft_grammar.specs.Limits.{limits, nesting, beginning}

-- the offset of the first token, or of the text's end
abbrev pub first_place : ℕ → List Token → ℕ
first_place end [] = end
first_place end (t ∷ ts) = t.from

-- the offset of the token from which on so many are left
abbrev pub place : ℕ → List Token → ℕ → ℕ
place end ts left = first_place end (drop (length ts - left) ts)

-- the fault, with its offset in the text
abbrev pub located : ℕ → List Token → Fault → ParseError
located end ts (fault.Expected left) = Expected (place end ts left)
located end ts (fault.TooDeep left) = TooDeep (place end ts left)
located end ts (fault.TooMany left limit) = TooMany (place end ts left) limit

-- The fault of a text: the first of its tokens, else the first of its grammar. For the grammar Expected stands where the
-- tokens stop by the grammar without limits; the limits are asked of the tokens before that.
abbrev pub SourceFault : List ℕ → ParseError → Type 0
SourceFault text e =
    ((f : LexError) × Cut text (Err f) × (e ≡ Lex f))
    ⊎ ((ts : List Token) × (f : Fault) × Cut text (Ok ts) × IsFaultOf rules limits nesting program (symbols text ts) beginning f × (e ≡ located (length text) ts f))

-- an error has its cause: unless memory ran out or the text is too long, it is the fault of the text
abbrev pub IsFault : List ℕ → ParseError → Type 0
IsFault text (Lex e) = SourceFault text (Lex e)
IsFault text (Expected at) = SourceFault text (Expected at)
IsFault text (TooDeep at) = SourceFault text (TooDeep at)
IsFault text (TooMany at limit) = SourceFault text (TooMany at limit)
IsFault text TooLong = Unit {0}
IsFault text NoMemory = Unit {0}
