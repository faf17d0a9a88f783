-- What symbols spell, with offsets in the text: a symbol has the offset of its token.
use Rattle.std.specs.Prelude.{ℕ, ◌-◌, List, [], ◌∷◌, length, drop, Result, Ok, Err}
use Rattle.loft_lex.specs.Symbol.{Symbol}
use Rattle.loft_tree.specs.Source.{Source}
use Rattle.loft_form.specs.declared.fault.Fault.{Fault}
use Rattle.loft_form.specs.declared.fault.Fault.TheVariants as fault
use Rattle.loft_form.specs.Reading.{read, all_of}
use Rattle.loft_parse.specs.declared.error.ParseError.{ParseError}
use Rattle.loft_parse.specs.declared.error.ParseError.TheVariants.{Expected, TooDeep, TooMany}
use Rattle.loft_grammar.specs.Statements.{rules}
use Rattle.loft_grammar.specs.Items.{program}
use Rattle.loft_grammar.specs.Limits.{limits, nesting, beginning}

-- the offset of the first symbol, or of the text's end
abbrev pub first_offset : ℕ → List Symbol → ℕ
first_offset end [] = end
first_offset end (s ∷ ss) = s.at

-- the offset of the symbol from which on so many are left, or of the text's end
abbrev pub offset_of : ℕ → List Symbol → ℕ → ℕ
offset_of end ss left = first_offset end (drop (length ss - left) ss)

-- the fault, with its offset in the text
abbrev pub fault_at : ℕ → List Symbol → Fault → ParseError
fault_at end ss (fault.Expected left) = Expected (offset_of end ss left)
fault_at end ss (fault.TooDeep left) = TooDeep (offset_of end ss left)
fault_at end ss (fault.TooMany left limit) = TooMany (offset_of end ss left) limit

abbrev pub with_offset : ℕ → List Symbol → Result Source Fault → Result Source ParseError
with_offset end ss (Ok p) = Ok p
with_offset end ss (Err e) = Err (fault_at end ss e)

-- the program that the symbols spell, or their fault
abbrev pub spelled : ℕ → List Symbol → Result Source ParseError
spelled end ss = with_offset end ss (all_of (read rules limits nesting program ss beginning))
