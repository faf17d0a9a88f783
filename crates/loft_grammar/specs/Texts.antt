-- Which program a text is, and which part of one (docs/LANGUAGE.md, "Which program a text is" and "Parts of a source").
use Rattle.std.specs.Prelude.{ℕ, List, Ok}
use Rattle.loft_lex.specs.declared.token.Token.{Token}
use Rattle.loft_lex.specs.Symbol.{Symbol, symbols}
use Rattle.loft_lex.specs.Cut.{Cut}
use Rattle.loft_tree.specs.Source.{Source}
use Rattle.loft_form.specs.Form.{Limits, State}
use Rattle.loft_form.specs.Spells.{Spells, SpellsRule}
use Rattle.loft_form.specs.Faults.{SpellsWhole}
use Rattle.loft_grammar.specs.Language.{Language}
use Rattle.loft_grammar.specs.Symbols.{Form}
use Rattle.loft_grammar.specs.Statements.{rules}
use Rattle.loft_grammar.specs.Items.{program}
use Rattle.loft_grammar.specs.Limits.{limits, nesting, beginning}

-- the symbols spell the program
abbrev pub SpellsProgram : List Symbol → Source → Type 0
SpellsProgram ss p = (d : State Language) × Spells limits nesting (SpellsRule rules limits nesting) program ss beginning p d

-- The text is that of the program: it is cut into tokens that spell the program.
abbrev pub Reads : List ℕ → Source → Type 0
Reads text p = (ts : List Token) × Cut text (Ok ts) × SpellsProgram (symbols text ts) p

-- The text is that of the value: it is cut into tokens, and all of them spell the value by the form, within the limits.
abbrev pub SpellsPart : {A : Type 0} → Limits Language → Form A → List ℕ → A → Type 0
SpellsPart lim f text x = (ts : List Token) × Cut text (Ok ts) × SpellsWhole rules lim nesting f (symbols text ts) beginning x
