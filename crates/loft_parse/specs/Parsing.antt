-- Reading a whole text.
use Rattle.std.specs.Prelude.{◌≡◌, ℕ, List, length, Result, Ok, Err}
use Rattle.loft_lex.specs.declared.token.Token.{Token}
use Rattle.loft_lex.specs.declared.token.LexError.{LexError}
use Rattle.loft_lex.specs.Symbol.{symbols}
use Rattle.loft_lex.specs.Tokens.{tokens}
use Rattle.loft_tree.specs.Source.{Source}
use Rattle.loft_tree.specs.View.{source_of}
use Rattle.loft_tree.specs.declared.program.Item.{Item}
use Rattle.loft_form.specs.declared.fault.Fault.{Fault}
use Rattle.loft_form.specs.Reading.{read, all_of}
use Rattle.loft_parse.specs.declared.error.ParseError.{ParseError}
use Rattle.loft_parse.specs.declared.error.ParseError.TheVariants.{Lex, Expected, TooDeep, TooMany, TooLong, NoMemory}
use Rattle.loft_grammar.specs.Statements.{rules}
use Rattle.loft_grammar.specs.Items.{program}
use Rattle.loft_grammar.specs.Limits.{limits, nesting, beginning}
use Rattle.loft_parse.specs.Faults.{located}

abbrev pub locate : ℕ → List Token → Result Source Fault → Result Source ParseError
locate end ts (Ok p) = Ok p
locate end ts (Err e) = Err (located end ts e)

abbrev pub whole_text : List ℕ → Result (List Token) LexError → Result Source ParseError
whole_text text (Ok ts) = locate (length text) ts (all_of (read rules limits nesting program (symbols text ts) beginning))
whole_text text (Err e) = Err (Lex e)

-- the program of a text, or its fault
abbrev pub parsed : List ℕ → Result Source ParseError
parsed text = whole_text text (tokens text)

-- what a call returned is this, unless memory ran out
abbrev pub Answers : Result (List Item) ParseError → Result Source ParseError → Type 0
Answers (Ok p) found = found ≡ Ok (source_of p)
Answers (Err (Lex e)) found = found ≡ Err (Lex e)
Answers (Err (Expected at)) found = found ≡ Err (Expected at)
Answers (Err (TooDeep at)) found = found ≡ Err (TooDeep at)
Answers (Err (TooMany at limit)) found = found ≡ Err (TooMany at limit)
Answers (Err TooLong) found = found ≡ Err TooLong
Answers (Err NoMemory) found = Unit {0}
