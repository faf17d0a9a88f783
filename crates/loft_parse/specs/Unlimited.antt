-- What a text is by the grammar without limits (docs/LANGUAGE.md, "The fault of a text").
use Rattle.std.specs.Prelude.{◌≡◌, ℕ, List, length, Ok}
use Rattle.loft_lex.specs.declared.token.Token.{Token}
use Rattle.loft_lex.specs.Symbol.{symbols}
use Rattle.loft_lex.specs.Cut.{Cut}
use Rattle.loft_tree.specs.Source.{Source}
use Rattle.loft_form.specs.declared.fault.Fault.TheVariants as fault
use Rattle.loft_form.specs.Faults.{unlimited, SpellsWhole, StopsWhole}
use Rattle.loft_grammar.specs.Statements.{rules}
use Rattle.loft_grammar.specs.Items.{program}
use Rattle.loft_grammar.specs.Limits.{beginning}
use Rattle.loft_parse.specs.Faults.{place}

-- The text is that of the program, where nothing is limited: some number of nestings is enough.
abbrev pub ReadsUnlimited : List ℕ → Source → Type 0
ReadsUnlimited text p = (ts : List Token) × (n : ℕ) × Cut text (Ok ts) × SpellsWhole rules unlimited n program (symbols text ts) beginning p

-- The text stops to be that of a program at this offset, where nothing is limited.
abbrev pub StopsUnlimited : List ℕ → ℕ → Type 0
StopsUnlimited text at =
    (ts : List Token) × (n : ℕ) × (left : ℕ) × Cut text (Ok ts) × StopsWhole rules unlimited n program (symbols text ts) beginning (fault.Expected left) × (at ≡ place (length text) ts left)
